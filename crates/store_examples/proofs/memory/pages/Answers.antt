use Rattle.std.proofs.Common.{[], sym, arith, rules}
use Rattle.std.proofs.lemmas.List.{take_all}
use Rattle.std.proofs.lemmas.List.Sums.{fold_more}
use Rattle.store_examples.specs.Memory.{with_page}
use Rattle.store_examples.proofs.memory.pages.Goals as goal

pub loop-page-preserved : goal.loop-page-preserved
loop-page-preserved c =
    rw (c.in_ok-extend_from_slice-2.ensures.items, c.filled.ensures)
    (rw (c.in_ok-extend_from_slice.ensures.items, c.to_be_bytes.ensures, c.loop-page.invariant)
    (sym (fold_more with_page [] c.args.pages.now c.loop-page.page-index (record { owner = 0; byte = 0 }) (omega arith))))

pub returns : goal.returns
returns c = search (rules, take_all)

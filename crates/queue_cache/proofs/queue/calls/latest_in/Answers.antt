use Rattle.std.proofs.Common.{◌≡◌, option_map, find, reverse, sym, ap, ◌∙◌, rules, tests}
use Rattle.std.specs.Borrow.{Bor}
use Rattle.std.specs.Option.{option_copied}
use Rattle.std.proofs.lemmas.Iterator.Adapters.{YieldsList-from_rev_slice}
use Rattle.std.proofs.lemmas.Iterator.Search.{find_from_yields_List}
use Rattle.store.specs.Steps.{Content}
use Rattle.cache.specs.declared.Entry.{Entry}
use Rattle.queue_cache.proofs.Draining.{of_block, content_of, latest_find}
use Rattle.queue_cache.proofs.queue.calls.latest_in.Goals as goal

pub returns-in_err-newest : goal.returns-in_err-newest
returns-in_err-newest c =
    let es = c.args.entries.now in
    let b = c.args.block in
    let found : option_map (λ (y : Bor Entry). y.now) c.find.result ≡ find (of_block b) (reverse es) =
    find_from_yields_List (of_block b) _ _ c.find.result c.find.ensures.ran (YieldsList-from_rev_slice es cc) (λ x t q k. search (rules, tests)) in
    ap (option_copied {T = Content}) c.from_residual.ensures ∙ ap content_of (ap (option_map (λ (y : Bor Entry). y.now)) (sym c.in_err-newest.was) ∙ found) ∙ sym (latest_find es b)

pub returns : goal.returns
returns c =
    let es = c.args.entries.now in
    let b = c.args.block in
    let found : option_map (λ (y : Bor Entry). y.now) c.find.result ≡ find (of_block b) (reverse es) =
    find_from_yields_List (of_block b) _ _ c.find.result c.find.ensures.ran (YieldsList-from_rev_slice es cc) (λ x t q k. search (rules, tests)) in
    ap content_of (ap (option_map (λ (y : Bor Entry). y.now)) (sym c.in_ok-newest.was) ∙ found) ∙ sym (latest_find es b)

use Rattle.std.proofs.Common.{◌≡◌, ◌*◌, ◌<◌, ◌≤◌, vec_len, get_or, ap, sym, ◌∙◌, arith}
use Rattle.std.proofs.lemmas.List.{get_or_read_under}
use Rattle.store.specs.Bytes.{placed, to_be32}
use Rattle.flash_card.specs.Card.{pages, nobody}
use Rattle.flash_card.proofs.GivenUp.{disown_none, disown_one}
use Rattle.flash_card.proofs.pages.Pages.disown_others.Goals as goal

pub returns-then-first-count-clause-items : goal.returns-then-first-count-clause-items
returns-then-first-count-clause-items c =
    let xs = c.args.self.now.memory.items in
    let t = c.args.tables.now in
    let first : c.index-first.result.now ≡ get_or t.shown.items c.args.block 0 =
    get_or_read_under t.shown.items c.args.block (vec_len t.shown) c.index-first.result.now 0 c.index-first.ensures c.requires.inside t.shown.ok.0 in
    let l : get_or t.shown.items c.args.block 0 < pages xs = omega arith in
    let known = c.requires.first l in
    c.disown.ensures.items
    ∙ ap (λ i. placed xs (i * 516) (to_be32 nobody)) first
    ∙ sym
    (disown_one xs c.args.block c.args.taken (get_or t.shown.items c.args.block 0) (pages xs) known.0 known.1 (omega arith) l
    (c.requires.single (sym c.is_marked.ensures ∙ c.if-is_marked.false)))

pub returns-else-first-count-clause-items : goal.returns-else-first-count-clause-items
returns-else-first-count-clause-items c =
    let xs = c.args.self.now.memory.items in
    let t = c.args.tables.now in
    let first : c.index-first.result.now ≡ get_or t.shown.items c.args.block 0 =
    get_or_read_under t.shown.items c.args.block (vec_len t.shown) c.index-first.result.now 0 c.index-first.ensures c.requires.inside t.shown.ok.0 in
    let past : pages xs ≤ get_or t.shown.items c.args.block 0 = omega arith in
    sym
    (disown_none xs c.args.block c.args.taken (pages xs)
    (λ j l m e. let w = c.requires.single (sym c.is_marked.ensures ∙ c.if-is_marked.false) j l m e in omega arith))

use Rattle.std.proofs.Common.{◌<◌, length, vec_items, arith}
use Rattle.std.proofs.lemmas.Bool.{some_since}
use Rattle.std.proofs.lemmas.Option.{MatchOption-at_some}
use Rattle.flash_card.specs.declared.Card.{Card}
use Rattle.flash_card.specs.Card.{pages}
use Rattle.flash_card.specs.Modeled.{card_model}
use Rattle.flash_card.proofs.Free.{found_ahead, found_behind, found_none}
use Rattle.flash_card.proofs.Card.free_page.Goals as goal

hand_within : (card : Card) → card.hand < pages (vec_items card.pages.memory)
hand_within card = let l = card.pages.memory.ok.0 in let w = card.within in omega arith

pub unwrap-requires : goal.unwrap-requires
unwrap-requires c =
    let s = c.args.self.now in
    let l = s.pages.memory.ok.0 in
    some_since c.first_between-in-None.result _ _ c.first_between-in-None.ensures
    (found_none (card_model s (length s.tables.shown.items) 0) s.tables.free.pages (hand_within s) s.entered.frees (omega arith) (rw c.count.ensures at c.in-None.ensures))

pub returns-in-Some-clause-page : goal.returns-in-Some-clause-page
returns-in-Some-clause-page c =
    let s = c.args.self.now in
    found_ahead (card_model s (length s.tables.shown.items) 0) s.tables.free.pages (hand_within s) s.entered.frees c.in-Some.page (rw c.count.ensures at c.in-Some.ensures)

pub returns-in-None-clause-page : goal.returns-in-None-clause-page
returns-in-None-clause-page c =
    let s = c.args.self.now in
    found_behind (card_model s (length s.tables.shown.items) 0) s.tables.free.pages (hand_within s) s.entered.frees c.unwrap.result (rw c.count.ensures at c.in-None.ensures)
    (MatchOption-at_some _ _ c.unwrap.result c.unwrap.ensures c.first_between-in-None.ensures)

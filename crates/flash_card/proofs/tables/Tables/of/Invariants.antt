use Rattle.std.proofs.Common.{◌≡◌, vec_items, vec_len}
use Rattle.flash_card.specs.Tables.{Entered, Further, Unmarked}
use Rattle.flash_card.proofs.tables.Tables.of.Given as goal

abbrev pub invariant-loop-page : goal.invariant-loop-page
invariant-loop-page l =
    (vec_len l.tables.shown ≡ l.count)
    × Entered (vec_items l.card.memory) l.page (vec_items l.tables.shown) (vec_items l.tables.stale) l.tables.free.pages
    × Further (vec_items l.card.memory) l.page (vec_items l.tables.shown) (vec_items l.tables.stale)
    × Unmarked l.page l.tables.free.pages

use Rattle.std.proofs.Common.{◌≡◌, vec_items, vec_len}
use Rattle.flash_card.specs.Tables.{GivenUp}
use Rattle.flash_card.proofs.pages.Pages.disown_each.Given as goal

abbrev pub invariant-loop-page : goal.invariant-loop-page
invariant-loop-page l =
    (vec_len l.self.memory ≡ vec_len l.initial.self.memory)
    × GivenUp (vec_items l.initial.self.memory) (vec_items l.self.memory) l.block l.taken l.page l.initial.free.pages l.free.pages

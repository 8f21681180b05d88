use Rattle.std.proofs.Common.{◌≡◌, ℕ, ◌-◌, ◌<◌, ◌≤◌, false, get_or}
use Rattle.flash_card.proofs.free_pages.FreePages.first_between.Given as goal

abbrev pub invariant-loop-page : goal.invariant-loop-page
invariant-loop-page l =
    (l.start ≤ l.page) × ((k : ℕ) → l.start ≤ k → k < l.page → k < l.end → get_or l.self.pages k false ≡ false)

abbrev pub decreases-loop-page : goal.decreases-loop-page
decreases-loop-page l = l.end - l.page

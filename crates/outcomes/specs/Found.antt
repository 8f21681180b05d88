-- What is found on a medium after a run: the blocks that were written, and the numbers of their contents.
use Rattle.std.specs.Prelude.{ℕ, zero, suc, Bool, cond, ◌&&◌, not, List, [], ◌∷◌, ◌++◌, length, ◌==◌}
use Rattle.store.specs.Steps.{Content}
use Rattle.sense.specs.Report.{Answer, number}
use Rattle.rbc_steps.specs.Calls.{Call}
use Rattle.rbc_steps.specs.Writes.{Rows, added}
use Rattle.book.specs.Numbers.{newest_equal}

-- The rows after these calls, each with its answer; power goes with the first answer 2.
abbrev pub rows_after : Rows → Bool → List Call → List Answer → Rows
rows_after rows power (c ∷ cs) (a ∷ answers) = rows_after (λ b. rows b ++ added c a power b) (power && not (number a == 2)) cs answers
rows_after rows power _ _ = rows

-- a block, what stands there, and the newest number of that among so many contents written
pub record Found : Type 0 where
  pub block : ℕ
  pub content : Content
  pub found : ℕ
  pub latest : ℕ

abbrev pub found_at : (ℕ → Content) → Rows → ℕ → List Found
found_at medium rows b =
    let row = rows b in
    cond (length row == 0) [] (record { block = b; content = medium b; found = newest_equal (medium b) row; latest = length row } ∷ [])

-- of the first n blocks, those that were written
abbrev pub found_below : (ℕ → Content) → Rows → ℕ → List Found
found_below medium rows zero = []
found_below medium rows (suc n) = found_below medium rows n ++ found_at medium rows n

-- The book: for each block a row of contents, numbered from 0, the last being the latest.
use Rattle.std.specs.Prelude.{ℕ, ◌+◌, List, [], ◌∷◌, take}
use Rattle.store.specs.Meaning.{Meaning}
use Rattle.rbc_steps.specs.Calls.{Event}
use Rattle.rbc_steps.specs.Writes.{Rows, entered, cost}

-- when the making is over, each row is the one content of the block's line
abbrev pub first_rows : Meaning → Rows
first_rows m b = (m.line b).first ∷ []

-- each call enters what it writes, if it is carried out
abbrev pub book : Rows → List Event → Rows
book rows [] = rows
book rows (e ∷ es) = book (entered rows e) es

-- the rows once k calls are over
abbrev pub rows_at : Rows → List Event → ℕ → Rows
rows_at rows es k = book rows (take k es)

-- how many contents the calls entered
abbrev pub written : List Event → ℕ
written [] = 0
written (e ∷ es) = cost e + written es

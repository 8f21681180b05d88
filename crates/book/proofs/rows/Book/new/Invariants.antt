use Rattle.std.proofs.Common.{◌≡◌, ℕ, [], length, vec_items}
use Rattle.book.specs.Rows.{row}
use Rattle.book.proofs.rows.Book.new.Given as goal

abbrev pub invariant-loop : goal.invariant-loop
invariant-loop l = (length (vec_items l.rows) ≡ l.counter) × ((b : ℕ) → row (vec_items l.rows) b ≡ [])

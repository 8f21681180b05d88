use Rattle.std.proofs.Common.{◌≡◌, ℕ, ◌<◌, [], map, length, nat_lt, vec_items}
use Rattle.session.specs.Sessions.{call_of}
use Rattle.book.specs.Rows.{row}
use Rattle.outcomes.specs.Found.{rows_after}
use Rattle.outcomes.specs.Views.{answer_of_reply}
use Rattle.outcomes.proofs.Entries.{rows_after_rest}
use Rattle.outcomes.proofs.outcome.book_of.Given as goal

abbrev pub invariant-loop-call : goal.invariant-loop-call
invariant-loop-call l =
    (length (vec_items l.book.rows) ≡ l.blocks)
    × ((b : ℕ) → b < l.blocks → rows_after_rest (row (vec_items l.book.rows)) l.power l.calls l.replies (length l.yielded) b ≡ rows_after (λ _. []) (nat_lt 0 l.grant) (map call_of l.calls) (map answer_of_reply l.replies) b)

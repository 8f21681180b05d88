use Rattle.std.proofs.Common.{vec_items}
use Rattle.rbc_steps.specs.Writes.{added_to}
use Rattle.book.specs.Rows.{Grown}
use Rattle.book.proofs.rows.Book.add_blocks.Given as goal

abbrev pub invariant-loop-i : goal.invariant-loop-i
invariant-loop-i l = Grown (vec_items l.initial.self.rows) (vec_items l.self.rows) (λ b. added_to b l.extent.address l.i l.bytes)

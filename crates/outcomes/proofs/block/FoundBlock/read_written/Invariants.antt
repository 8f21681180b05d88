use Rattle.std.proofs.Common.{◌≡◌, map, vec_items}
use Rattle.piles.specs.Bottoms.{bottom_meaning}
use Rattle.book.specs.Rows.{row}
use Rattle.outcomes.specs.Found.{found_below}
use Rattle.outcomes.specs.Views.{found_view}
use Rattle.outcomes.proofs.block.FoundBlock.read_written.Given as goal

abbrev pub invariant-loop-block : goal.invariant-loop-block
invariant-loop-block l =
    (bottom_meaning l.medium ≡ bottom_meaning l.initial.medium)
    × (map found_view (vec_items l.found) ≡ found_below (λ b. ((bottom_meaning l.initial.medium).line b).first) (row (vec_items l.book.rows)) l.block)

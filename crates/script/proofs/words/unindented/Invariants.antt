use Rattle.std.proofs.Common.{◌≡◌, length}
use Rattle.script.specs.Words.{unindented}
use Rattle.script.proofs.words.unindented.Given as goal

abbrev pub invariant-loop-rest : goal.invariant-loop-rest
invariant-loop-rest l = unindented l.rest ≡ unindented l.line

abbrev pub decreases-loop-rest : goal.decreases-loop-rest
decreases-loop-rest l = length l.rest

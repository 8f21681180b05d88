use Rattle.std.proofs.Common.{◌≡◌, take}
use Rattle.pile_runs.specs.Scripts.{most_data_in}
use Rattle.pile_runs.proofs.calls.data_in_for.Given as goal

abbrev pub invariant-loop-line : goal.invariant-loop-line
invariant-loop-line l = l.most ≡ most_data_in (take l.line-index l.lines)

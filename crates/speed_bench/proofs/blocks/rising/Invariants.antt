use Rattle.std.proofs.Common.{◌≤◌, ◌+◌}
use Rattle.speed_bench.proofs.blocks.rising.Given as goal

abbrev pub invariant-loop : goal.invariant-loop
invariant-loop l = l.start + l.step ≤ l.blocks

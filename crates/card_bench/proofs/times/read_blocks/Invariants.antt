use Rattle.std.proofs.Common.{◌≤◌}
use Rattle.card_bench.proofs.times.read_blocks.Given as goal

abbrev pub invariant-loop : goal.invariant-loop
invariant-loop g l = l.shown ≤ l.counter

use Rattle.std.proofs.Common.{◌≡◌, map, take, vec_items}
use Rattle.session.specs.Sessions.{call_of}
use Rattle.pile_runs.specs.Scripts.{calls_of}
use Rattle.pile_runs.proofs.calls.calls_of.Given as goal

abbrev pub invariant-loop-line : goal.invariant-loop-line
invariant-loop-line l = map call_of (vec_items l.calls) ≡ calls_of l.data_in (take l.line-index l.lines)

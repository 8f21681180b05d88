use Rattle.std.proofs.Common.{◌≡◌, Ok}
use Rattle.store.specs.Steps.{stepped}
use Rattle.shift_log.specs.Recording.{seconds_steps}
use Rattle.shift_log.proofs.recorder.record_shift.Given as goal

abbrev pub invariant-loop-second : goal.invariant-loop-second
invariant-loop-second g l =
    stepped (Ok tt) (g.S.Store.model l.store) ≡ seconds_steps g.S.Store.steps l.second l.shift.brake_every (g.S.Store.model l.initial.store)

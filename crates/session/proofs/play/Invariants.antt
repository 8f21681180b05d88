use Rattle.std.proofs.Common.{◌≡◌, [], map, take, vec_items}
use Rattle.rbc.specs.Modeled.{modeled}
use Rattle.session.specs.Sessions.{told_by}
use Rattle.session.proofs.Sessions.{progress, played}
use Rattle.session.proofs.play.Given as goal

abbrev pub invariant-loop-call : goal.invariant-loop-call
invariant-loop-call g l =
    progress (map told_by (vec_items l.replies)) (modeled g.S.Store.model l.module)
    ≡ played g.S.Store.steps (take l.call-index l.calls) (progress [] (modeled g.S.Store.model l.initial.module))

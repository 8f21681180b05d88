use Rattle.std.proofs.Common.{Bool, cond, [], sym, ap, ◌∙◌}
use Rattle.std.proofs.lemmas.Result.{err_from_is_err_and}
use Rattle.store.specs.Steps.{Stepped}
use Rattle.shift_log.specs.Records.{brakes_at}
use Rattle.shift_log.specs.Recording.{called, then_run, put_record, brake_calls}
use Rattle.shift_log.specs.declared.kind.Kind.TheVariants.{Encoder}
use Rattle.shift_log.proofs.Runs.{run_failed}
use Rattle.shift_log.proofs.recorder.record_second.Goals as goal

pub returns-in_err-put : goal.returns-in_err-put
returns-in_err-put g c =
    let p = err_from_is_err_and c.from_residual.result c.from_residual.ensures.1 in
    let calls = cond (brakes_at c.args.shift.brake_every c.args.second) (brake_calls c.args.second) [] in
    rw (p.1, p.2)
    (sym (run_failed g.S.Store.steps calls c.in_err-put.field-0.0 (g.S.Store.model c.put.new.store))
    ∙ ap (λ (d : Stepped (Unit {0}) g.S.Store.Model). then_run g.S.Store.steps calls d) c.in_err-put.ensures)

pub returns-then-brakes_at : goal.returns-then-brakes_at
returns-then-brakes_at g c =
    let steps = g.S.Store.steps in
    let brake = brake_calls c.args.second in
    let first = called steps (put_record Encoder c.args.second) (g.S.Store.model c.args.store.now) in
    c.record_brake.ensures.steps
    ∙ ap (λ (d : Stepped (Unit {0}) g.S.Store.Model). then_run steps brake d) c.in_ok-put.ensures
    ∙ ap (λ (b : Bool). then_run steps (cond b brake []) first) c.if-brakes_at.ensures

use Rattle.std.proofs.Common.{◌≡◌, sym, ap, ◌∙◌, subst}
use Rattle.store.specs.Steps.{Stepped, stepped, next}
use Rattle.shift_log.specs.declared.kind.Kind.TheVariants.{BrakePressure}
use Rattle.shift_log.specs.Recording.{called, run, put_record, brake_calls}
use Rattle.shift_log.specs.Recording.Call.{force}
use Rattle.shift_log.specs.Recorded.{BrakeOnMedium}
use Rattle.shift_log.proofs.Shifts.{brake_on_medium}
use Rattle.shift_log.proofs.recorder.record_brake.Goals as goal

pub returns : goal.returns
returns g c =
    let second = c.args.second in
    let s = g.S.Store.model c.args.store.now in
    let e : stepped c.force_block-2.result (g.S.Store.model c.force_block-2.new.self) ≡ run g.S.Store.steps (brake_calls second) s =
    c.force_block-2.ensures
    ∙ ap (λ (d : Stepped (Unit {0}) g.S.Store.Model). next d (λ _ u. called g.S.Store.steps (force 11) u))
    (c.in_ok-force_block.ensures
    ∙ ap (λ (d : Stepped (Unit {0}) g.S.Store.Model). next d (λ _ u. called g.S.Store.steps (force 10) u))
    (c.in_ok-put-2.ensures
    ∙ ap (λ (d : Stepped (Unit {0}) g.S.Store.Model). next d (λ _ u. called g.S.Store.steps (put_record BrakePressure second) u))
    c.in_ok-put.ensures)) in
    record {
      steps = e;
      forced =
          subst (λ (d : Stepped (Unit {0}) g.S.Store.Model). BrakeOnMedium second d.answer (g.S.Store.meaning s) (g.S.Store.meaning d.after)) (sym e)
          (brake_on_medium g.S.Store.steps g.S.Store.meaning g.S.Store.good g.met.S.Store.keeps s (g.met.S.Store.valid c.args.store.now) second);
    }

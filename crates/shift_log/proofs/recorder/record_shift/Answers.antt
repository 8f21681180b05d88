use Rattle.std.proofs.Common.{◌≡◌, Ok, Err, sym, ap, ◌∙◌, arith}
use Rattle.store.specs.Steps.{Stepped, stepped, next}
use Rattle.store.proofs.InTurn.{stops}
use Rattle.shift_log.specs.Recording.{seconds_steps, shift_steps}
use Rattle.shift_log.proofs.Shifts.{recorded_by}
use Rattle.shift_log.proofs.Seconds.{all_recorded, recorded_until}
use Rattle.shift_log.proofs.recorder.record_shift.Goals as goal

pub returns-in-Err : goal.returns-in-Err
unfolding seconds_steps
returns-in-Err g c =
    let steps = g.S.Store.steps in
    let s = g.S.Store.model c.args.store.now in
    let n = c.args.shift.seconds in
    let every = c.args.shift.brake_every in
    let e : stepped (Err c.in-Err.error) (g.S.Store.model c.record_second.new.store) ≡ shift_steps steps n every s =
    ap (λ (d : Stepped (Unit {0}) g.S.Store.Model). next d (λ _ u. steps.flush u))
    (stops _ _ c.loop-second.second n c.loop-second-test.true c.loop-second.invariant c.record_second.ensures c.in-Err.is) in
    record {
      steps = e;
      seconds = sym (recorded_until steps every s c.loop-second.second n c.loop-second-test.true c.loop-second.invariant c.record_second.ensures c.in-Err.is);
      recorded = λ h p.
          recorded_by steps g.S.Store.meaning g.S.Store.good g.met.S.Store.keeps s (g.met.S.Store.valid c.args.store.now) every h n _ _ e p;
    }

pub returns : goal.returns
returns g c =
    let steps = g.S.Store.steps in
    let s = g.S.Store.model c.args.store.now in
    let n = c.args.shift.seconds in
    let every = c.args.shift.brake_every in
    let same : c.loop-second.second ≡ n = omega arith in
    let all : stepped (Ok tt) (g.S.Store.model c.loop-second.store) ≡ seconds_steps steps n every s = rw same at c.loop-second.invariant in
    let e : stepped c.flush.result (g.S.Store.model c.flush.new.self) ≡ shift_steps steps n every s =
    c.flush.ensures ∙ ap (λ (d : Stepped (Unit {0}) g.S.Store.Model). next d (λ _ u. steps.flush u)) all in
    record {
      steps = e;
      seconds = sym (all_recorded steps every s n all);
      recorded = λ h p.
          recorded_by steps g.S.Store.meaning g.S.Store.good g.met.S.Store.keeps s (g.met.S.Store.valid c.args.store.now) every h n _ _ e p;
    }

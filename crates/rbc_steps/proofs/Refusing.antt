-- A refused command changes nothing but the attention that it tells.
use Rattle.std.proofs.Common.{◌≡◌, ℕ, Bool, true, cond, List, length, Ok, Err, Result, refl, ap}
use Rattle.std.proofs.lemmas.Bool.{both_ways, eq-eqb, ne_eqb}
use Rattle.store.specs.Steps.{Steps, Answer as Outcome}
use Rattle.sense.specs.declared.CommandError.{CommandError}
use Rattle.sense.specs.Report.{number, Refused}
use Rattle.commands.specs.Order.{Order}
use Rattle.logical_unit.specs.State.{cleared}
use Rattle.ladder.specs.Ladder.{judged}
use Rattle.ladder.proofs.Judging.{judged_yes}
use Rattle.rbc_steps.specs.Module.{Exchange, answer_of, run, replied_to, commanded}
use Rattle.rbc_steps.specs.Refusals.{Unchanged, RefusalKeeps}

module _ {M : Type 0} (s : Steps M) (h : ℕ) (cdb out : List ℕ) (x : Exchange M) where
  abbrev power : Bool
  power = s.power x.target.store

  abbrev verdict : Result Order CommandError
  verdict = judged x.target.unit h power (s.count x.target.store) cdb out (length x.data_in)

  -- a command that runs is not refused
  not_refused : (o : Outcome ℕ) → power ≡ true → Refused power (answer_of o) → ⊥
  not_refused (Ok n) on r = r.not_good refl
  not_refused (Err e) on r = both_ways power (r.not_lost refl) on

  pub refusal_keeps : RefusalKeeps s h x (commanded s h cdb out x)
  refusal_keeps = go verdict refl
    where
      go : (v : Result Order CommandError) → verdict ≡ v → Refused power (replied_to s h v x).answer → Unchanged h x (replied_to s h v x)
      go (Ok o) e r =
          absurd
          (not_refused (run s h o x).answer (judged_yes x.target.unit h power (s.count x.target.store) cdb out (length x.data_in) o e).powered r)
      go (Err a) e r =
          record {
            store = refl;
            data_in = refl;
            told = λ i. ap (λ (v : Bool). cond v (cleared h x.target.unit) x.target.unit) (eq-eqb (number (Err a)) 6 i);
            unit = λ i. ap (λ (v : Bool). cond v (cleared h x.target.unit) x.target.unit) (ne_eqb (number (Err a)) 6 i);
          }

-- What follows from the equations of COMMAND and MAKE by the law of the store.
use Rattle.std.proofs.Common.{◌≡◌, ℕ, Bool, List, length, Ok, Result, sym, ap, ◌∙◌, subst, ap₂}
use Rattle.commands.specs.Order.{Order}
use Rattle.ladder.specs.Ladder.{judged}
use Rattle.store.specs.Steps.{Steps, Answer as Outcome, Stepped, stepped}
use Rattle.store.specs.Meaning.{Meaning}
use Rattle.store.specs.Keeps.{Keeps}
use Rattle.sense.specs.declared.CommandError.{CommandError}
use Rattle.sense.specs.Report.{Answer}
use Rattle.rbc_steps.specs.Module.{ModuleModel, Exchange, exchange, Reply, replied, answer_of, run, replied_to, commanded}
use Rattle.rbc_steps.specs.Work.{work_done}
use Rattle.rbc_steps.specs.Refusals.{RefusalKeeps}
use Rattle.rbc_steps.specs.Limits.{Limits, Flushed}
use Rattle.rbc_steps.proofs.Refusing.{refusal_keeps}
use Rattle.rbc_steps.proofs.WithinLimits.{within_limits, make_flushes}

module _ {M : Type 0} {steps : Steps M} {meaning : M → Meaning} {good : M → Type 0} (K : Keeps steps meaning good) where
  -- the three clauses of COMMAND
  pub promised :
      (h : ℕ) (cdb out : List ℕ) {d d' : List ℕ} {w w' : ModuleModel M} {a : Answer} → good w.store → replied a (exchange w' d') ≡ commanded steps h cdb out (exchange w d)
      → record {
        value : replied a (exchange w' d') ≡ commanded steps h cdb out (exchange w d);
        refusals : RefusalKeeps steps h (exchange w d) (replied a (exchange w' d'));
        limits : Limits (meaning w.store) (work_done w.unit cdb out a (steps.power w.store)) a (meaning w'.store);
      }
  promised h cdb out {d} {w} g e =
      record {
        value = e;
        refusals = subst (RefusalKeeps steps h (exchange w d)) (sym e) (refusal_keeps steps h cdb out (exchange w d));
        limits =
            subst (λ (r : Reply (Exchange M)). Limits (meaning w.store) (work_done w.unit cdb out r.answer (steps.power w.store)) r.answer (meaning r.after.target.store)) (sym e)
            (within_limits steps meaning good K w g h cdb out d);
      }

  pub flushed : {m m' : M} → good m → m' ≡ (steps.flush m).after → Flushed (meaning m) (meaning m')
  flushed {m} g e = subst (λ (s : M). Flushed (meaning m) (meaning s)) (sym e) (make_flushes steps meaning good K m g)

-- a command that passes the ladder, and what it then does
pub ran :
    {M : Type 0} (steps : Steps M) (h : ℕ) (cdb out : List ℕ) (x : Exchange M) {x' : Exchange M} (power : Bool) (count : ℕ) {k : ℕ} {o : Order} {r : Outcome ℕ} {a : Answer}
    → k ≡ h → power ≡ steps.power x.target.store → count ≡ steps.count x.target.store
    → Ok o ≡ judged x.target.unit h power count cdb out (length x.data_in) → stepped r x' ≡ run steps k o x → a ≡ answer_of r
    → replied a x' ≡ commanded steps h cdb out x
ran {M} steps h cdb out x {x'} power count {k} {o} same p n d e i =
    ap (λ (b : Answer). replied b x') i
    ∙ ap (λ (v : Stepped ℕ (Exchange M)). replied (answer_of v.answer) v.after) (e ∙ ap (λ (i : ℕ). run steps i o x) same)
    ∙ ap (λ (j : Result Order CommandError). replied_to steps h j x) d
    ∙ ap₂ (λ (v : Bool) (n : ℕ). replied_to steps h (judged x.target.unit h v n cdb out (length x.data_in)) x) p n

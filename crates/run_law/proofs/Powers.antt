-- Whether power is on after a call, and after MAKE.
use Rattle.std.proofs.Common.{◌≡◌, ℕ, zero, suc, ◌<◌, ◌≤◌, Bool, true, false, cond, not, ◌&&◌, eqb, ltb, [], length, Ok, Err, sym, refl, ap, ◌∙◌, ⊎_elim, arith}
use native.Mathlib.Decide.{dec_lt}
use Rattle.std.proofs.lemmas.Bool.{and_right, eq-eqb, ne_eqb, lt-ltb, le-ltb, cases_eq}
use Rattle.store.specs.Steps.{Steps}
use Rattle.store.specs.Meaning.{Meaning, Line, sum_below}
use Rattle.store.specs.Keeps.{Keeps}
use Rattle.sense.specs.declared.CommandError.TheVariants.{PowerOff}
use Rattle.sense.specs.Report.{number}
use Rattle.logical_unit.specs.State.{unit_reset}
use Rattle.rbc_steps.specs.Module.{ModuleModel, joined, exchange, replied, commanded, made_over}
use Rattle.rbc_steps.specs.Calls.{Request, Call, Command, Reset, called}
use Rattle.rbc_steps.proofs.Turns.{turn}
use Rattle.rbc_steps.proofs.WorkOfCommands.{own, itself}
use Rattle.rbc_steps.proofs.WithinLimits.{within_limits}
use Rattle.rbc_steps.proofs.Refusing.{refusal_keeps}

-- power after a call, by the number k of its answer alone
abbrev pub told_on : Bool → ℕ → Bool
told_on power k = power && not (eqb k 2)

-- only an answer 2 ends it
told_on_still : (power : Bool) (k : ℕ) → (k ≡ 2 → ⊥) → told_on power k ≡ power
told_on_still power k d = ap (λ (v : Bool). power && not v) (ne_eqb k 2 d) ∙ go power
  where
    go : (v : Bool) → (v && true) ≡ v
    go true = refl
    go false = refl

-- it is as the grants before and after say, if an answer 1 leaves the grant as it was
told_on_by_grants :
    (before after k : ℕ) → after ≤ before → (k ≡ 2 → after ≡ 0) → ((k ≡ 1 → ⊥) → (k ≡ 2 → ⊥) → 0 < after) → (k ≡ 1 → after ≡ before)
    → ltb 0 after ≡ told_on (ltb 0 before) k
told_on_by_grants before after k falls lost on same = ⊎_elim gone kept (cases_eq k 2)
  where
    gone : k ≡ 2 → ltb 0 after ≡ told_on (ltb 0 before) k
    gone e = le-ltb 0 after (omega (arith, lost e)) ∙ sym (and_right (ltb 0 before) (not (eqb k 2)) (ap not (eq-eqb k 2 e)))

    kept : (k ≡ 2 → ⊥) → ltb 0 after ≡ told_on (ltb 0 before) k
    kept d =
        ⊎_elim (λ (e : k ≡ 1). ap (ltb 0) (same e)) (λ (f : k ≡ 1 → ⊥). lt-ltb 0 after (on f d) ∙ sym (lt-ltb 0 before (omega (arith, on f d)))) (cases_eq k 1)
        ∙ sym (told_on_still (ltb 0 before) k d)

none_held : (n : ℕ) (line : ℕ → Line) → ((b : ℕ) → (line b).later ≡ []) → sum_below n (λ b. length (line b).later) ≡ 0
none_held zero line none = refl
none_held (suc n) line none =
    let i = none_held n line none in
    let j : length (line n).later ≡ 0 = ap length (none n) in
    omega arith

module _ {M : Type 0} (steps : Steps M) (meaning : M → Meaning) (good : M → Type 0) (K : Keeps steps meaning good) where
  module _ (w : ModuleModel M) (g : good w.store) where
    pub stays_good : (c : Call) → good (called steps w c).after.target.store
    stays_good c = (turn steps meaning good K (meaning w.store).count (own steps meaning good K w) w (itself steps meaning good K w) g refl c).safe

    command_told_on : (q : Request) → steps.power (called steps w (Command q)).after.target.store ≡ told_on (steps.power w.store) (number (called steps w (Command q)).answer)
    command_told_on q =
        let r = commanded steps q.host q.cdb q.data_out (exchange w q.data_in) in
        let l = within_limits steps meaning good K w g q.host q.cdb q.data_out q.data_in in
        K.powers r.after.target.store (stays_good (Command q))
        ∙ told_on_by_grants (meaning w.store).grant (meaning r.after.target.store).grant (number r.answer) l.moved.falls l.lost l.on
        (λ e.
        ap (λ (s : M). (meaning s).grant)
        (refusal_keeps steps q.host q.cdb q.data_out (exchange w q.data_in)
        (record { not_good = λ z. absurd (omega (arith, e, z)); not_lost = λ z. absurd (omega (arith, e, z)) })).store)
        ∙ ap (λ (v : Bool). told_on v (number r.answer)) (sym (K.powers w.store g))

    reset_told_on : steps.power (called steps w Reset).after.target.store ≡ told_on (steps.power w.store) (number (called steps w Reset).answer)
    reset_told_on = go (steps.power w.store) refl
      where
        go : (v : Bool) → steps.power w.store ≡ v
            → let r = cond v (replied (Ok 0) (joined w.store (unit_reset w.unit))) (replied (Err PowerOff) w) in
            steps.power r.after.store ≡ told_on v (number r.answer)
        go true e = e
        go false e = e

    -- power goes with an answer 2, and with nothing else
    pub call_told_on : (c : Call) → steps.power (called steps w c).after.target.store ≡ told_on (steps.power w.store) (number (called steps w c).answer)
    call_told_on (Command q) = command_told_on q
    call_told_on Reset = reset_told_on

  -- MAKE over a store that holds nothing stores no block
  pub made_on : (s : M) → good s → ((b : ℕ) → ((meaning s).line b).later ≡ []) → steps.power (made_over steps s).store ≡ ltb 0 (meaning s).grant
  made_on s g none = K.powers (steps.flush s).after (K.flush_good s g) ∙ ap (ltb 0) (go (dec_lt 0 (meaning s).grant))
    where
      go : Dec (0 < (meaning s).grant) → (meaning (steps.flush s).after).grant ≡ (meaning s).grant
      go (yes on) = let v = (K.flushes s g).on on in omega (arith, v.falls, v.stores, none_held (meaning s).count (meaning s).line none)
      go (no off) = ((K.flushes s g).off (omega arith)).1.grant

-- The refusals of a call: they come first, in their order, and change nothing.
use Rattle.std.proofs.Common.{◌≡◌, ℕ, ◌<◌, ◌≤◌, Bool, ltb, length, Ok, Err, sym, refl, ap, ◌∙◌, subst, ⊎_elim, arith}
use Rattle.std.proofs.lemmas.Bool.{cond-true, cond-false, cond_both, lt-ltb, le-ltb, ltb-true, cases_lt}
use Rattle.store.specs.declared.StoreError.TheVariants.{PowerOff, NoSuchBlock}
use Rattle.store.specs.Steps.{Content, Answer, Steps, Stepped, stepped, number, next, if_power, powered, guarded, guarding}
use Rattle.store.specs.Meaning.{Meaning, Sound, Same, newest, added}
use Rattle.store.specs.Keeps.{Refuses, Moves, Keeps}

pub same_refl : (m : Meaning) → Same m m
same_refl m = record { count = refl; grant = refl; line = λ b h. refl }

-- a call that answered number n and changed nothing
abbrev pub Refused : {A M : Type 0} → (M → Meaning) → M → ℕ → Stepped A M → Type 0
Refused meaning s n q = (number q.answer ≡ n) × Same (meaning s) (meaning q.after)

module _ {A M : Type 0} (meaning : M → Meaning) (power : Bool) (s : M) (run : Stepped A M) (is-power : power ≡ ltb 0 (meaning s).grant) where
  pub powered_off : (meaning s).grant ≡ 0 → Refused meaning s 1 (powered power s run)
  powered_off g =
      let e : powered power s run ≡ stepped (Err PowerOff) s =
      ap (λ a. next (stepped a s) (λ _ _. run)) (cond-false power (Ok tt) (Err PowerOff) (is-power ∙ le-ltb 0 (meaning s).grant (omega arith))) in
      subst (Refused meaning s 1) (sym e) (refl, same_refl (meaning s))

  pub powered_on : 0 < (meaning s).grant → powered power s run ≡ run
  powered_on g =
      ap (λ a. next (stepped a s) (λ _ _. run)) (cond-true power (Ok tt) (Err PowerOff) (is-power ∙ lt-ltb 0 (meaning s).grant g))

  module _ (count b : ℕ) (is-count : count ≡ (meaning s).count) where
    outside : (meaning s).count ≤ b → guarded count power b s run ≡ stepped (Err NoSuchBlock) s
    outside h =
        ap (λ a. next (stepped a s) (λ _ _. run))
        (cond-false (ltb b count) (if_power power) (Err NoSuchBlock) (le-ltb b count (omega arith)))

    inside : b < (meaning s).count → guarded count power b s run ≡ powered power s run
    inside h =
        ap (λ a. next (stepped a s) (λ _ _. run))
        (cond-true (ltb b count) (if_power power) (Err NoSuchBlock) (lt-ltb b count (omega arith)))

    pub guarded_refuses :
        (runs : Answer A → Meaning → Type 0)
        → (b < (meaning s).count → 0 < (meaning s).grant → runs run.answer (meaning run.after))
        → let q : Stepped A M = guarded count power b s run in
        Refuses (meaning s) b q.answer (meaning q.after) (runs q.answer (meaning q.after))
    guarded_refuses runs h =
        let Runs : Stepped A M → Type 0 = λ q. runs q.answer (meaning q.after) in
        record {
          outside = λ o. subst (Refused meaning s 2) (sym (outside o)) (refl, same_refl (meaning s));
          off = λ i g. subst (Refused meaning s 1) (sym (inside i)) (powered_off g);
          on = λ i g. subst Runs (sym (inside i ∙ powered_on g)) (h i g);
        }

-- what holds of s and of what runs holds after the call
pub powered_keeps : {A M : Type 0} (P : M → Type 0) (power : Bool) (s : M) (run : Stepped A M) → P s → P run.after → P (powered power s run).after
powered_keeps P power s run p q =
    cond_both power (Ok tt) (Err PowerOff) (λ a. P (next (stepped a s) (λ _ _. run)).after) (λ _. q) (λ _. p)

pub guarded_keeps :
    {A M : Type 0} (P : M → Type 0) (count : ℕ) (power : Bool) (b : ℕ) (s : M) (run : Stepped A M)
    → P s → (b < count → P run.after) → P (guarded count power b s run).after
guarded_keeps P count power b s run p q =
    cond_both (ltb b count) (if_power power) (Err NoSuchBlock) (λ a. P (next (stepped a s) (λ _ _. run)).after)
    (λ l. powered_keeps P power s run p (q (ltb-true b count l)))
    (λ _. p)

-- what the runs owe, each with power on and at a block below the count
pub record Runs {M : Type 0} (runs : Steps M) (meaning : M → Meaning) (good : M → Type 0) : Type 0 where
  pub counts : (s : M) → good s → runs.count s ≡ (meaning s).count
  pub powers : (s : M) → good s → runs.power s ≡ ltb 0 (meaning s).grant
  pub sound : (s : M) → good s → Sound (meaning s)
  pub reads :
      (s : M) (b : ℕ) → good s → b < (meaning s).count → 0 < (meaning s).grant
      → ((runs.read s b).answer ≡ Ok (newest ((meaning s).line b))) × Same (meaning s) (meaning (runs.read s b).after)
  pub puts :
      (s : M) (b : ℕ) (x : Content) → good s → length x ≡ 512 → b < (meaning s).count → 0 < (meaning s).grant
      → Moves (meaning s) (added (meaning s).line b x) 1 (λ k. ⊥) (runs.put s b x).answer (meaning (runs.put s b x).after)
  pub forces :
      (s : M) (b : ℕ) → good s → b < (meaning s).count → 0 < (meaning s).grant
      → Moves (meaning s) (meaning s).line 0 (λ k. k ≡ b) (runs.force s b).answer (meaning (runs.force s b).after)
  pub flushes :
      (s : M) → good s → 0 < (meaning s).grant
      → Moves (meaning s) (meaning s).line 0 (λ k. Unit {0}) (runs.flush s).answer (meaning (runs.flush s).after)
  pub read_good : (s : M) (b : ℕ) → good s → good (runs.read s b).after
  pub put_good : (s : M) (b : ℕ) (x : Content) → good s → length x ≡ 512 → b < (meaning s).count → good (runs.put s b x).after
  pub force_good : (s : M) (b : ℕ) → good s → good (runs.force s b).after
  pub flush_good : (s : M) → good s → good (runs.flush s).after

pub guarding_keeps : {M : Type 0} (runs : Steps M) (meaning : M → Meaning) (good : M → Type 0) → Runs runs meaning good → Keeps (guarding runs) meaning good
guarding_keeps {M} runs meaning good r =
    record {
      counts = r.counts;
      powers = r.powers;
      sound = r.sound;
      reads = λ s b ok.
          guarded_refuses meaning (runs.power s) s (runs.read s b) (r.powers s ok) (runs.count s) b (r.counts s ok)
          (λ a m'. (a ≡ Ok (newest ((meaning s).line b))) × Same (meaning s) m')
          (r.reads s b ok);
      puts = λ s b x ok z.
          guarded_refuses meaning (runs.power s) s (runs.put s b x) (r.powers s ok) (runs.count s) b (r.counts s ok)
          (λ a m'. Moves (meaning s) (added (meaning s).line b x) 1 (λ k. ⊥) a m')
          (r.puts s b x ok z);
      forces = λ s b ok.
          guarded_refuses meaning (runs.power s) s (runs.force s b) (r.powers s ok) (runs.count s) b (r.counts s ok)
          (λ a m'. Moves (meaning s) (meaning s).line 0 (λ k. k ≡ b) a m')
          (r.forces s b ok);
      flushes = λ s ok.
          let Flushed : Stepped (Unit {0}) M → Type 0 = λ q. Moves (meaning s) (meaning s).line 0 (λ k. Unit {0}) q.answer (meaning q.after) in
          record {
            off = powered_off meaning (runs.power s) s (runs.flush s) (r.powers s ok);
            on = λ g. subst Flushed (sym (powered_on meaning (runs.power s) s (runs.flush s) (r.powers s ok) g)) (r.flushes s ok g);
          };
      read_good = λ s b ok. guarded_keeps good (runs.count s) (runs.power s) b s (runs.read s b) ok (λ _. r.read_good s b ok);
      put_good = λ s b x ok z.
          guarded_keeps good (runs.count s) (runs.power s) b s (runs.put s b x) ok
          (λ h. let e = r.counts s ok in r.put_good s b x ok z (omega arith));
      force_good = λ s b ok. guarded_keeps good (runs.count s) (runs.power s) b s (runs.force s b) ok (λ _. r.force_good s b ok);
      flush_good = λ s ok. powered_keeps good (runs.power s) s (runs.flush s) ok (r.flush_good s ok);
    }

-- no call changes the count
module _ {M : Type 0} (steps : Steps M) (meaning : M → Meaning) (good : M → Type 0) (K : Keeps steps meaning good) where
  refuses_count :
      {A : Type 0} (m m' : Meaning) (b : ℕ) (a : Answer A) (runs : Type 0) → Refuses m b a m' runs → (runs → m'.count ≡ m.count) → m'.count ≡ m.count
  refuses_count m m' b a runs r h =
      ⊎_elim
      (λ (i : b < m.count). ⊎_elim (λ (g : 0 < m.grant). h (r.on i g)) (λ (g : m.grant ≤ 0). (r.off i (omega arith)).1.count) (cases_lt 0 m.grant))
      (λ (o : m.count ≤ b). (r.outside o).1.count)
      (cases_lt b m.count)

  pub read_count : (s : M) (b : ℕ) → good s → (meaning (steps.read s b).after).count ≡ (meaning s).count
  read_count s b ok =
      let m' = meaning (steps.read s b).after in
      refuses_count (meaning s) m' b (steps.read s b).answer (((steps.read s b).answer ≡ Ok (newest ((meaning s).line b))) × Same (meaning s) m') (K.reads s b ok) (λ r. r.1.count)

  pub put_count : (s : M) (b : ℕ) (x : Content) → good s → length x ≡ 512 → (meaning (steps.put s b x).after).count ≡ (meaning s).count
  put_count s b x ok z =
      let m' = meaning (steps.put s b x).after in
      refuses_count (meaning s) m' b (steps.put s b x).answer (Moves (meaning s) (added (meaning s).line b x) 1 (λ k. ⊥) (steps.put s b x).answer m') (K.puts s b x ok z) (λ r. r.count)

  pub force_count : (s : M) (b : ℕ) → good s → (meaning (steps.force s b).after).count ≡ (meaning s).count
  force_count s b ok =
      let m' = meaning (steps.force s b).after in
      refuses_count (meaning s) m' b (steps.force s b).answer (Moves (meaning s) (meaning s).line 0 (λ k. k ≡ b) (steps.force s b).answer m') (K.forces s b ok) (λ r. r.count)

  pub flush_count : (s : M) → good s → (meaning (steps.flush s).after).count ≡ (meaning s).count
  flush_count s ok =
      ⊎_elim
      (λ (g : 0 < (meaning s).grant). ((K.flushes s ok).on g).count)
      (λ (g : (meaning s).grant ≤ 0). ((K.flushes s ok).off (omega arith)).1.count)
      (cases_lt 0 (meaning s).grant)

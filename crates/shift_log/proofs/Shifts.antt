-- What a shift leaves on a store that keeps the law.
use Rattle.std.proofs.Common.{◌≡◌, ℕ, zero, suc, ◌+◌, ◌<◌, ◌≤◌, List, [], ◌∷◌, ◌++◌, length, Ok, Err, refl, ap, ◌∙◌, subst, inl, inr, sym, ⊎_elim, append_assoc, append-nil, arith}
use Rattle.store.specs.declared.StoreError.TheVariants.{PowerOff}
use Rattle.std.proofs.lemmas.Bool.{cond_both, cases_lt}
use Rattle.store.specs.Steps.{Content, Answer, Steps, Stepped, stepped, number}
use Rattle.store.specs.Meaning.{Meaning, Line, followed, Thins, Survives}
use Rattle.store.specs.Keeps.{Keeps, Moves}
use Rattle.store.proofs.Answers.{lost_answer}
use Rattle.store.proofs.Lines.{thins_followed, survives_followed}
use Rattle.store.proofs.Moving.{moves_both, next_keeps, stays}
use Rattle.store.proofs.Guards.{same_refl}
use Rattle.shift_log.specs.declared.kind.Kind.TheVariants.{Encoder, BrakeCommand, BrakePressure}
use Rattle.shift_log.specs.declared.record.Record.{Record}
use Rattle.shift_log.specs.Records.{brakes_at, encoded}
use Rattle.shift_log.specs.Recording.{Call, then_run, run, put_to, puts, put_record, brake_calls, second_calls, seconds_steps, shift_steps, shift_put_to, shift_puts}
use Rattle.shift_log.specs.Recording.Call.{force}
use Rattle.shift_log.specs.Recorded.{BrakeOnMedium, Outcomes}
use Rattle.shift_log.proofs.Runs.{moves_as, cleaned, Fitting, run_failed, run_good, run_moves, line_clean}

length_encoded : (r : Record) → length (encoded r) ≡ 512
length_encoded r = refl

brake_fits : (count second : ℕ) → 12 ≤ count → Fitting count (brake_calls second)
brake_fits count second h =
    (omega arith, length_encoded (record { kind = BrakeCommand; second = second }), (omega arith, length_encoded (record { kind = BrakePressure; second = second }), (omega arith, (omega arith, tt))))

second_fits : (count every second : ℕ) → 12 ≤ count → Fitting count (second_calls every second)
second_fits count every second h =
    (omega arith, length_encoded (record { kind = Encoder; second = second }), cond_both (brakes_at every second) (brake_calls second) [] (Fitting count) (λ _. brake_fits count second h) (λ _. tt))

followed_more : (l : Line) (xs ys : List Content) → followed (followed l xs) ys ≡ followed l (xs ++ ys)
followed_more l xs ys = ap (λ (zs : List Content). record { first = l.first; later = zs }) (append_assoc l.later xs ys)

module _ {M : Type 0} (steps : Steps M) (meaning : M → Meaning) (good : M → Type 0) (K : Keeps steps meaning good) (s : M) (ok : good s) where
  -- without power the first put is refused
  brake_off : (second : ℕ) → (meaning s).grant ≡ 0 → 12 ≤ (meaning s).count → number (run steps (brake_calls second) s).answer ≡ 1
  brake_off second z h =
      let x = encoded (record { kind = BrakeCommand; second = second }) in
      let c = steps.put s 10 x in
      let e : c.answer ≡ Err PowerOff = lost_answer c.answer ((K.puts s 10 x ok refl).off (omega arith) z).0 in
      let rest : List Call = put_record BrakePressure second ∷ force 10 ∷ force 11 ∷ [] in
      ap (λ (a : Answer (Unit {0})). number (then_run steps rest (stepped a c.after)).answer) e
      ∙ ap (λ (d : Stepped (Unit {0}) M). number d.answer) (run_failed steps rest PowerOff c.after)

  -- a good brake action is on the medium
  pub brake_on_medium : (second : ℕ) → let c = run steps (brake_calls second) s in BrakeOnMedium second c.answer (meaning s) (meaning c.after)
  brake_on_medium second h r = ⊎_elim on off (cases_lt 0 (meaning s).grant)
    where
      c : Stepped (Unit {0}) M
      c = run steps (brake_calls second) s

      m' : Meaning
      m' = meaning c.after

      On : Type 0
      On =
          (m'.line 10 ≡ record { first = encoded (record { kind = BrakeCommand; second = second }); later = [] })
          × (m'.line 11 ≡ record { first = encoded (record { kind = BrakePressure; second = second }); later = [] })

      on : 0 < (meaning s).grant → On
      on g =
          let p = run_moves steps meaning good K (brake_calls second) s (brake_fits (meaning s).count second h) ok g in
          let still : 0 < m'.grant =
          ⊎_elim
          (λ (l : 0 < m'.grant). l)
          (λ (z : m'.grant ≤ 0). absurd (let e = p.lost (omega arith) in omega arith))
          (cases_lt 0 m'.grant) in (
            line_clean ((meaning s).line 10) (m'.line 10) (put_to (brake_calls second) 10) (p.thins still 10 (omega arith)) (p.cleans still 10 (omega arith) (inl (inr refl))),
            line_clean ((meaning s).line 11) (m'.line 11) (put_to (brake_calls second) 11) (p.thins still 11 (omega arith)) (p.cleans still 11 (omega arith) (inr refl)),
          )

      off : (meaning s).grant ≤ 0 → On
      off z = absurd (let e = brake_off second (omega arith) h in omega arith)

  module _ (every : ℕ) (enough : 12 ≤ (meaning s).count) where
    seconds_good : (n : ℕ) → good (seconds_steps steps n every s).after
    unfolding seconds_steps
    seconds_good zero = ok
    seconds_good (suc n) =
        let c = seconds_steps steps n every s in
        let cs = second_calls every n in
        next_keeps good c (λ _ u. run steps cs u) (seconds_good n)
        (λ _. run_good steps meaning good K cs (stepped (Ok tt) c.after) 12 (second_fits 12 every n (omega arith)) (seconds_good n))

    seconds_moves :
        0 < (meaning s).grant → (n : ℕ)
        → let c = seconds_steps steps n every s in
        Moves (meaning s) (λ k. followed ((meaning s).line k) (shift_put_to n every k)) (shift_puts n every) (λ k. ⊥) c.answer (meaning c.after)
    unfolding seconds_steps shift_put_to shift_puts
    seconds_moves g zero =
        let m = meaning s in
        moves_as m m m.line (λ k. followed (m.line k) []) 0 0 (λ k. ⊥) (λ k. ⊥) (Ok tt)
        (λ k. ap (λ (ys : List Content). record { first = (m.line k).first; later = ys }) (append-nil (m.line k).later)) refl
        (λ k _ _ w. absurd w) (stays m m (same_refl m) g)
    seconds_moves g (suc n) =
        let m = meaning s in
        let c = seconds_steps steps n every s in
        let cs = second_calls every n in
        let m₁ = meaning c.after in
        let before : ℕ → List Content = λ k. shift_put_to n every k in
        let p = seconds_moves g n in
        moves_both meaning m (λ k. followed (m.line k) (before k)) (λ k. followed (m₁.line k) (put_to cs k)) (λ k. followed (m.line k) (before k ++ put_to cs k)) (shift_puts n every) (puts cs) (λ k. ⊥) (λ k. ⊥) c (λ _ u. run steps cs u) p
        (λ k t.
        subst (λ l. Thins l (followed (m₁.line k) (put_to cs k))) (followed_more (m.line k) (before k) (put_to cs k))
        (thins_followed (followed (m.line k) (before k)) (m₁.line k) (put_to cs k) t))
        (λ k l w.
        subst (λ l'. Survives l' l) (followed_more (m.line k) (before k) (put_to cs k))
        (survives_followed (followed (m.line k) (before k)) l (put_to cs k) w))
        (λ g'.
        moves_as m₁ (meaning (run steps cs c.after).after) (λ k. followed (m₁.line k) (put_to cs k)) (λ k. followed (m₁.line k) (put_to cs k)) (puts cs) (puts cs)
        (cleaned cs (λ k. ⊥)) (λ k. ⊥) (run steps cs c.after).answer (λ k. refl) refl (λ k _ _ w. absurd w)
        (run_moves steps meaning good K cs c.after (second_fits m₁.count every n (let e = p.count in omega arith)) (seconds_good n) g'))

    pub shift_recorded : (n : ℕ) → 0 < (meaning s).grant → let c = shift_steps steps n every s in Outcomes n every c.answer (meaning s) (meaning c.after)
    shift_recorded n g =
        let m = meaning s in
        let c = seconds_steps steps n every s in
        let m₁ = meaning c.after in
        let line : ℕ → Line = λ k. followed (m.line k) (shift_put_to n every k) in
        let d = shift_steps steps n every s in
        let m' = meaning d.after in
        let p : Moves m line (shift_puts n every + 0) (λ k. Unit {0}) d.answer m' =
        moves_both meaning m line m₁.line line (shift_puts n every) 0 (λ k. ⊥) (λ k. Unit {0}) c (λ _ u. steps.flush u) (seconds_moves g n)
        (λ k t. t) (λ k l w. w)
        (λ g'. (K.flushes c.after (seconds_good n)).on g') in
        record {
          good = p.good;
          latest = λ g' b h. line_clean (m.line b) (m'.line b) (shift_put_to n every b) (p.thins g' b h) (p.cleans g' b h tt);
          lost = p.lost;
          one_of = λ z b h. (p.survives z b h).among;
          stores = let h = p.stores in omega arith;
        }

    -- so of the answer and the store of any code that makes these calls
    pub recorded_by :
        (n : ℕ) (r : Answer (Unit {0})) (s' : M)
        → stepped r s' ≡ shift_steps steps n every s → 0 < (meaning s).grant → Outcomes n every r (meaning s) (meaning s')
    recorded_by n r s' e g =
        subst (λ (d : Stepped (Unit {0}) M). Outcomes n every d.answer (meaning s) (meaning d.after)) (sym e) (shift_recorded n g)

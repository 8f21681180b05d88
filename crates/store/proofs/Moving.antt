-- One call after another: how their moves add up.
use Rattle.std.proofs.Common.{◌≡◌, ℕ, ◌+◌, ◌<◌, ◌≤◌, [], length, Ok, Err, sym, refl, ◌∙◌, subst, ⊎_elim, zero-add, arith}
use Rattle.std.proofs.lemmas.Bool.{cases_lt}
use Rattle.store.specs.Steps.{Answer, Stepped, stepped, next}
use Rattle.store.specs.Meaning.{Meaning, Line, Thins, Survives, held, Same}
use Rattle.store.specs.Keeps.{Moves}
use Rattle.store.proofs.Lines.{thins_same, thins_trans, survives_thinned}
use Rattle.store.proofs.Sums.{sum_same}
use Rattle.store.proofs.Answers.{good_answer, lost_answer}

pub held_same : (m m' : Meaning) → Same m m' → held m' ≡ held m
held_same m m' s =
    rw s.count (sum_same m.count (λ b. length (m'.line b).later) (λ b. length (m.line b).later) (λ k h. rw (s.line k h)))

-- a call that left the meaning as it was, with power on
pub rests :
    (m m' : Meaning) (clean : ℕ → Type 0) → Same m m' → 0 < m.grant → ((k : ℕ) → k < m.count → clean k → (m'.line k).later ≡ [])
    → Moves m m.line 0 clean (Ok tt) m'
rests m m' clean s on bare =
    record {
      count = s.count;
      falls = let e = s.grant in omega arith;
      stores = let e = s.grant in let h = held_same m m' s in omega arith;
      good = λ g. refl;
      thins = λ g k h. thins_same (m.line k) (m'.line k) (s.line k h);
      cleans = λ g. bare;
      lost = λ g. absurd (off g);
      survives = λ g k h. absurd (off g);
    }
  where
    off : m'.grant ≡ 0 → ⊥
    off g = let e = s.grant in omega arith

pub stays : (m m' : Meaning) → Same m m' → 0 < m.grant → Moves m m.line 0 (λ k. ⊥) (Ok tt) m'
stays m m' s on = rests m m' (λ k. ⊥) s on (λ k h w. absurd w)

-- a call that went well, and then a call on the lines that it left
pub moves_then :
    (m m₁ m₂ : Meaning) (line₁ line₂ line : ℕ → Line) (puts₁ puts : ℕ) (clean₁ clean : ℕ → Type 0) (r : Answer (Unit {0}))
    → Moves m line₁ puts₁ clean₁ (Ok tt) m₁
    → 0 < m₁.grant
    → ((k : ℕ) → k < m.count → Thins (line₁ k) (m₁.line k) → Thins (line k) (line₂ k))
    → Moves m₁ line₂ puts clean r m₂
    → Moves m line (puts₁ + puts) clean r m₂
moves_then m m₁ m₂ line₁ line₂ line puts₁ puts clean₁ clean r p on fits q =
    record {
      count = q.count ∙ p.count;
      falls = omega arith;
      stores = let a = p.stores in let b = q.stores in let c = p.falls in let d = q.falls in omega arith;
      good = q.good;
      thins = λ g k h. thins_trans (line k) (line₂ k) (m₂.line k) (fits k h (p.thins on k h)) (q.thins g k (below k h));
      cleans = λ g k h. q.cleans g k (below k h);
      lost = q.lost;
      survives = λ g k h. survives_thinned (line k) (line₂ k) (m₂.line k) (fits k h (p.thins on k h)) (q.survives g k (below k h));
    }
  where
    below : (k : ℕ) → k < m.count → k < m₁.count
    below k h = rw p.count h

-- the same where the first call may also have lost the power
pub moves_both :
    {M : Type 0} (meaning : M → Meaning) (m : Meaning) (line₁ line₂ line : ℕ → Line) (puts₁ puts : ℕ) (clean₁ clean : ℕ → Type 0)
    (c : Stepped (Unit {0}) M) (go : Unit {0} → M → Stepped (Unit {0}) M)
    → Moves m line₁ puts₁ clean₁ c.answer (meaning c.after)
    → ((k : ℕ) → Thins (line₁ k) ((meaning c.after).line k) → Thins (line k) (line₂ k))
    → ((k : ℕ) (l : Line) → Survives (line₁ k) l → Survives (line k) l)
    → (0 < (meaning c.after).grant → Moves (meaning c.after) line₂ puts clean (go tt c.after).answer (meaning (go tt c.after).after))
    → Moves m line (puts₁ + puts) clean (next c go).answer (meaning (next c go).after)
moves_both meaning m line₁ line₂ line puts₁ puts clean₁ clean c go p fits wider goes = ⊎_elim on off (cases_lt 0 (meaning c.after).grant)
  where
    Goal : Answer (Unit {0}) → Type 0
    Goal a =
        let q = next (stepped a c.after) go in
        Moves m line (puts₁ + puts) clean q.answer (meaning q.after)

    on : 0 < (meaning c.after).grant → Goal c.answer
    on g =
        subst Goal (sym (good_answer c.answer (p.good g)))
        (moves_then m (meaning c.after) (meaning (go tt c.after).after) line₁ line₂ line puts₁ puts clean₁ clean (go tt c.after).answer
        (rw (good_answer c.answer (p.good g)) at p) g (λ k h. fits k) (goes g))

    off : (meaning c.after).grant ≤ 0 → Goal c.answer
    off z =
        let g : (meaning c.after).grant ≡ 0 = omega arith in
        subst Goal (sym (lost_answer c.answer (p.lost g)))
        (record {
          count = p.count;
          falls = p.falls;
          stores = let h = p.stores in omega arith;
          good = λ l. absurd (omega arith);
          thins = λ l. absurd (omega arith);
          cleans = λ l. absurd (omega arith);
          lost = λ _. refl;
          survives = λ _ k h. wider k ((meaning c.after).line k) (p.survives g k h);
        })

-- the same where the first call puts nothing
pub moves_next :
    {M : Type 0} (meaning : M → Meaning) (m : Meaning) (line line₂ : ℕ → Line) (puts : ℕ) (clean : ℕ → Type 0)
    (c : Stepped (Unit {0}) M) (go : Unit {0} → M → Stepped (Unit {0}) M)
    → Moves m m.line 0 (λ k. ⊥) c.answer (meaning c.after)
    → ((k : ℕ) → Thins (m.line k) ((meaning c.after).line k) → Thins (line k) (line₂ k))
    → ((k : ℕ) (l : Line) → Survives (m.line k) l → Survives (line k) l)
    → (0 < (meaning c.after).grant → Moves (meaning c.after) line₂ puts clean (go tt c.after).answer (meaning (go tt c.after).after))
    → Moves m line puts clean (next c go).answer (meaning (next c go).after)
moves_next meaning m line line₂ puts clean c go p fits wider goes =
    subst (λ n. Moves m line n clean (next c go).answer (meaning (next c go).after)) (zero-add puts)
    (moves_both meaning m m.line line₂ line 0 puts (λ k. ⊥) clean c go p fits wider goes)

-- what holds after the first call, and then after the second, holds after both
pub next_keeps :
    {M : Type 0} (P : M → Type 0) (c : Stepped (Unit {0}) M) (go : Unit {0} → M → Stepped (Unit {0}) M)
    → P c.after → ((u : Unit {0}) → P (go u c.after).after) → P (next c go).after
next_keeps P c go p q = elim c.answer as (λ a. P (next (stepped a c.after) go).after) [ Ok u ↦ q u | Err e ↦ p ]

-- two calls that both went well: what the second leaves is what both leave
pub next_ok :
    {M : Type 0} (P : M → Type 0) (c : Stepped (Unit {0}) M) (go : Unit {0} → M → Stepped (Unit {0}) M)
    → (c.answer ≡ Ok tt → (go tt c.after).answer ≡ Ok tt → P (go tt c.after).after) → (next c go).answer ≡ Ok tt → P (next c go).after
next_ok {M} P c go h = ends c.answer refl
  where
    ends : (a : Answer (Unit {0})) → c.answer ≡ a → (next (stepped a c.after) go).answer ≡ Ok tt → P (next (stepped a c.after) go).after
    ends (Ok u) e ok = h e ok
    ends (Err x) e ok = absurd (let z : ◌≡◌ {A = ℕ} 0 1 = cc in omega arith)

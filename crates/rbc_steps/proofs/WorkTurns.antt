-- The turns of a WRITE, of a VERIFY and of a flush: which each is, and how it moves the store.
use Rattle.std.proofs.Common.{◌≡◌, ℕ, suc, ◌+◌, ◌<◌, ◌≤◌, ◌⊎◌, Bool, true, false, cond, ◌&&◌, eqb, ltb, leb, List, [], ◌∷◌, ◌++◌, length, Ok, Err, sym, refl, ap, ◌∙◌, subst, inl, inr, ⊎_elim, arith}
use mathlib.Core.Path.{fun_ext}
use native.Mathlib.Decide.{dec_lt}
use Rattle.std.proofs.lemmas.List.{append-nil}
use Rattle.std.proofs.lemmas.Bool.{and_parts, and_from, ltb-true, leb-true, lt-ltb, le-leb, ne_eqb, false_from_ne_true, cond-false}
use Rattle.store.specs.Steps.{Content, Answer, Steps, Stepped, stepped, next}
use Rattle.store.specs.Meaning.{Meaning, Line, followed, extended, added}
use Rattle.store.specs.Keeps.{Keeps, Moves}
use Rattle.store.proofs.Guards.{same_refl}
use Rattle.store.proofs.Moving.{rests, moves_both, next_keeps}
use Rattle.transfer.specs.Transfer.{put_forced, verify_block}
use Rattle.rbc_steps.specs.Writes.{piece, added_to}
use Rattle.rbc_steps.specs.Work.{one_flush, one_of_blocks, writing, verifying}
use Rattle.rbc_steps.proofs.Growth.{grown_step}
use Rattle.rbc_steps.proofs.Works.{followed_none, IsTurn}

append_if : (v : Bool) (xs ys : List Content) → cond v (xs ++ ys) xs ≡ xs ++ cond v ys []
append_if true xs ys = refl
append_if false xs ys = sym (append-nil xs)

extend_if : (v : Bool) (l : Line) (x : Content) → cond v (extended l x) l ≡ followed l (cond v (x ∷ []) [])
extend_if true l x = refl
extend_if false l x = sym (followed_none l)

-- block b is one of the first n, which the value v marks
abbrev marked : Bool → ℕ → ℕ → ℕ → Bool
marked v a n b = v && one_of_blocks b a n

module _ (v : Bool) (a k b : ℕ) where
  marks : marked v a k b ≡ true → (v ≡ true) × ((a ≤ b) × (b < a + k))
  marks e =
      let p = and_parts v (leb a b && ltb b (a + k)) e in
      let q = and_parts (leb a b) (ltb b (a + k)) p.1 in
      (p.0, (leb-true a b q.0, ltb-true b (a + k) q.1))

  marked_one : marked v a (suc k) b ≡ true → (marked v a k b ≡ true) ⊎ ((v ≡ true) × (b ≡ a + k))
  marked_one e = go (marks_more e) (dec_lt b (a + k))
    where
      marks_more : marked v a (suc k) b ≡ true → (v ≡ true) × ((a ≤ b) × (b < a + suc k))
      marks_more e =
          let p = and_parts v (leb a b && ltb b (a + suc k)) e in
          let q = and_parts (leb a b) (ltb b (a + suc k)) p.1 in
          (p.0, (leb-true a b q.0, ltb-true b (a + suc k) q.1))

      go : (v ≡ true) × ((a ≤ b) × (b < a + suc k)) → Dec (b < a + k) → (marked v a k b ≡ true) ⊎ ((v ≡ true) × (b ≡ a + k))
      go p (yes h) = inl (and_from v (leb a b && ltb b (a + k)) p.0 (and_from (leb a b) (ltb b (a + k)) (le-leb a b p.1.0) (lt-ltb b (a + k) h)))
      go p (no h) = inr (p.0, omega (arith, p.1.1))

-- at the start no block is marked
pub marked_none : (v : Bool) (a b : ℕ) → marked v a 0 b ≡ false
marked_none v a b = false_from_ne_true (marked v a 0 b) (λ e. let p = marks v a 0 b e in omega (arith, p.1.0, p.1.1))

abbrev pub put_at : ℕ → Content → ℕ → List Content
put_at c x b = cond (eqb b c) (x ∷ []) []

pub write_turn : (v : Bool) (a n k : ℕ) (bytes : List ℕ) → IsTurn (writing v a n bytes) k (put_at (a + k) (piece bytes k)) 1 (λ b. (v ≡ true) × (b ≡ a + k))
write_turn v a n k bytes =
    record {
      puts = omega arith;
      written = λ b. sym (grown_step (λ _. []) a k bytes b) ∙ append_if (eqb b (a + k)) (added_to b a k bytes) (piece bytes k ∷ []);
      clean = λ b. marked_one v a k b;
      kept = λ b e. let p = marks v a k b e in cond-false (eqb b (a + k)) (piece bytes k ∷ []) [] (ne_eqb b (a + k) (λ i. omega (arith, p.1.1)));
    }

pub verify_turn : (a n k : ℕ) → IsTurn (verifying a n) k (λ b. []) 0 (λ b. b ≡ a + k)
verify_turn a n k =
    record {
      puts = omega arith;
      written = λ b. refl;
      clean = λ b e. ⊎_elim (λ i. inl i) (λ i. inr i.1) (marked_one true a k b e);
      kept = λ b e. refl;
    }

pub flush_turn : IsTurn one_flush 0 (λ b. []) 0 (λ b. Unit {0})
flush_turn = record { puts = refl; written = λ b. refl; clean = λ b e. inr tt; kept = λ b e. refl }

module _ {M : Type 0} (steps : Steps M) (meaning : M → Meaning) (good : M → Type 0) (K : Keeps steps meaning good) where
  forces_if :
      (s : M) (v : Bool) (c : ℕ) → good s → c < (meaning s).count → 0 < (meaning s).grant
      → let r = cond v (steps.force s c) (stepped (Ok tt) s) in
      good r.after × Moves (meaning s) (meaning s).line 0 (λ b. (v ≡ true) × (b ≡ c)) r.answer (meaning r.after)
  forces_if s true c g h l =
      let v = (K.forces s c g).on h l in
      (K.force_good s c g, record { count = v.count; falls = v.falls; stores = v.stores; good = v.good; thins = v.thins; cleans = λ i b j e. v.cleans i b j e.1; lost = v.lost; survives = v.survives })
  forces_if s false c g h l =
      (g, rests (meaning s) (meaning s) (λ b. (false ≡ true) × (b ≡ c)) (same_refl (meaning s)) l (λ b i e. let z : ◌≡◌ {A = ℕ} 0 1 = cc in absurd (omega arith)))

  line_put : (m : Meaning) (c : ℕ) (x : Content) → added m.line c x ≡ (λ b. followed (m.line b) (put_at c x b))
  line_put m c x = fun_ext (λ b. extend_if (eqb b c) (m.line b) x)

  pub write_moves :
      (s : M) (v : Bool) (c : ℕ) (x : Content) → good s → c < (meaning s).count → 0 < (meaning s).grant → length x ≡ 512
      → let r = put_forced steps v c x s in
      good r.after × Moves (meaning s) (λ b. followed ((meaning s).line b) (put_at c x b)) 1 (λ b. (v ≡ true) × (b ≡ c)) r.answer (meaning r.after)
  write_moves s v c x g h l e =
      let p = steps.put s c x in
      let q = (K.puts s c x g e).on h l in
      let lines = added (meaning s).line c x in
      let g' = K.put_good s c x g e in (
        next_keeps good p (λ _ s'. cond v (steps.force s' c) (stepped (Ok tt) s')) g' (λ _. force_good p.after v g'),
        subst (λ (line : ℕ → Line). Moves (meaning s) line 1 (λ b. (v ≡ true) × (b ≡ c)) (put_forced steps v c x s).answer (meaning (put_forced steps v c x s).after)) (line_put (meaning s) c x)
            (moves_both meaning (meaning s) lines (meaning p.after).line lines 1 0 (λ k. ⊥) (λ b. (v ≡ true) × (b ≡ c)) p (λ _ s'. cond v (steps.force s' c) (stepped (Ok tt) s')) q
            (λ b t. t) (λ b l t. t) (λ i. (forces_if p.after v c g' (omega (arith, q.count)) i).1)),
      )
    where
      force_good : (s' : M) (v : Bool) → good s' → good (cond v (steps.force s' c) (stepped (Ok tt) s')).after
      force_good s' true g = K.force_good s' c g
      force_good s' false g = g

  -- after a read that went well the lines are as they were
  read_rests :
      (s : M) (c : ℕ) → good s → c < (meaning s).count → 0 < (meaning s).grant → ((meaning s).line c).later ≡ []
      → let r = next (steps.read s c) (λ _ s'. stepped {A = Unit {0}} (Ok tt) s') in
      Moves (meaning s) (meaning s).line 0 (λ b. b ≡ c) r.answer (meaning r.after)
  read_rests s c g h l e =
      let v = (K.reads s c g).on h l in
      subst (λ (o : Answer Content). let r = next (stepped o (steps.read s c).after) (λ _ s'. stepped {A = Unit {0}} (Ok tt) s') in Moves (meaning s) (meaning s).line 0 (λ b. b ≡ c) r.answer (meaning r.after)) (sym v.0)
      (rests (meaning s) (meaning (steps.read s c).after) (λ b. b ≡ c) v.1 l (λ b i j. ap (λ (x : Line). x.later) (v.1.line b i) ∙ ap (λ (k : ℕ). ((meaning s).line k).later) j ∙ e))

  pub verify_moves :
      (s : M) (c : ℕ) → good s → c < (meaning s).count → 0 < (meaning s).grant
      → let r = verify_block steps c s in
      good r.after × Moves (meaning s) (meaning s).line 0 (λ b. b ≡ c) r.answer (meaning r.after)
  verify_moves s c g h l =
      let p = steps.force s c in
      let q = (K.forces s c g).on h l in
      let g' = K.force_good s c g in
      let go : Unit {0} → M → Stepped (Unit {0}) M = λ _ s'. next (steps.read s' c) (λ _ s''. stepped (Ok tt) s'') in (
        next_keeps good p go g' (λ _. read_good p.after (steps.read p.after c).answer (K.read_good p.after c g')),
        moves_both meaning (meaning s) (meaning s).line (meaning p.after).line (meaning s).line 0 0 (λ b. b ≡ c) (λ b. b ≡ c) p go q
            (λ b t. t) (λ b l t. t) (λ i. read_rests p.after c g' (omega (arith, q.count)) i (q.cleans i c h refl)),
      )
    where
      read_good : (s' : M) (o : Answer Content) → good (steps.read s' c).after → good (next (stepped o (steps.read s' c).after) (λ _ s''. stepped {A = Unit {0}} (Ok tt) s'')).after
      read_good s' (Ok x) g = g
      read_good s' (Err e) g = g

-- What a list of calls does to a store that keeps the law.
use Rattle.std.proofs.Common.{◌≡◌, ℕ, ◌+◌, ◌<◌, true, false, cond, eqb, ◌⊎◌, List, [], ◌∷◌, length, Ok, Err, sym, refl, ap, ◌∙◌, subst, ap₂, ⊎_elim, append_assoc, append-nil, add-zero, add_assoc, arith}
use Rattle.store.specs.declared.StoreError.{StoreError}
use Rattle.std.proofs.lemmas.Bool.{ne_eqb}
use Rattle.store.specs.Steps.{Content, Answer, Steps, Stepped, stepped, next}
use Rattle.store.specs.Meaning.{Meaning, Line, followed, extended, added, last_of, newest, Thins, Thinned}
use Rattle.store.specs.Keeps.{Keeps, Moves}
use Rattle.store.proofs.Lines.{added_thins, added_survives, last_append, thinned_length}
use Rattle.store.proofs.Moving.{moves_both, next_keeps, stays}
use Rattle.store.proofs.Guards.{same_refl}
use Rattle.shift_log.specs.Recording.{Call, then_run, run, put_to, puts}
use Rattle.shift_log.specs.Recording.Call.{put, force}

-- the same call, with lines that are the same, and with other blocks known to be clean
pub moves_as :
    (m m' : Meaning) (line line' : ℕ → Line) (n n' : ℕ) (clean clean' : ℕ → Type 0) (r : Answer (Unit {0}))
    → ((k : ℕ) → line' k ≡ line k) → n' ≡ n → ((k : ℕ) → k < m.count → 0 < m'.grant → clean' k → (m'.line k).later ≡ [])
    → Moves m line n clean r m' → Moves m line' n' clean' r m'
moves_as m m' line line' n n' clean clean' r same e cleans p =
    record {
      count = p.count;
      falls = p.falls;
      stores = let h = p.stores in omega arith;
      good = p.good;
      thins = λ g k h. rw (same k) (p.thins g k h);
      cleans = λ g k h. cleans k h g;
      lost = p.lost;
      survives = λ g k h. rw (same k) (p.survives g k h);
    }

thinned_one : (x y : Content) (ys : List Content) → Thinned (x ∷ []) (y ∷ ys) → ys ≡ []
thinned_one x y [] p = refl
thinned_one x y (z ∷ zs) p = absurd (let h = thinned_length p in omega arith)

-- a line of one content stays such a line
thins_one : (l l' : Line) → l.later ≡ [] → Thins l l' → l'.later ≡ []
thins_one l l' e p =
    thinned_one l.first l'.first l'.later
    (subst (λ (xs : List Content). Thinned (l.first ∷ xs) (l'.first ∷ l'.later)) e p.thinned)

-- after a failure nothing is called
pub run_failed :
    {M : Type 0} (steps : Steps M) (cs : List Call) (x : StoreError) (s : M) → then_run steps cs (stepped (Err x) s) ≡ stepped (Err x) s
run_failed steps [] x s = refl
run_failed steps (c ∷ cs) x s = run_failed steps cs x s

-- the lines once the calls' contents are added
lines : List Call → (ℕ → Line) → ℕ → Line
lines [] line = line
lines (put b x ∷ cs) line = lines cs (added line b x)
lines (force b ∷ cs) line = lines cs line

added_to : (line : ℕ → Line) (b : ℕ) (x : Content) (xs : List Content) (k : ℕ) → followed (added line b x k) xs ≡ followed (line k) (cond (eqb k b) (x ∷ xs) xs)
added_to line b x xs k =
    elim (eqb k b) as (λ t. followed (cond t (extended (line k) x) (line k)) xs ≡ followed (line k) (cond t (x ∷ xs) xs)) [
      | true ↦ ap (λ (ys : List Content). record { first = (line k).first; later = ys }) (append_assoc (line k).later (x ∷ []) xs)
      | false ↦ refl
    ]

lines_followed : (cs : List Call) (line : ℕ → Line) (k : ℕ) → lines cs line k ≡ followed (line k) (put_to cs k)
unfolding lines
lines_followed [] line k = ap (λ (ys : List Content). record { first = (line k).first; later = ys }) (sym (append-nil (line k).later))
lines_followed (put b x ∷ cs) line k = lines_followed cs (added line b x) k ∙ added_to line b x (put_to cs k) k
lines_followed (force b ∷ cs) line k = lines_followed cs line k

-- the blocks with nothing held above them: those forced since they were last put
abbrev pub cleaned : List Call → (ℕ → Type 0) → ℕ → Type 0
cleaned [] clean = clean
cleaned (put b x ∷ cs) clean = cleaned cs (λ k. clean k × (k ≡ b → ⊥))
cleaned (force b ∷ cs) clean = cleaned cs (λ k. clean k ⊎ (k ≡ b))

-- each call is on a block below the count, with contents of a block's size
abbrev pub Fitting : ℕ → List Call → Type 0
Fitting count [] = Unit {0}
Fitting count (put b x ∷ cs) = (b < count) × (length x ≡ 512) × Fitting count cs
Fitting count (force b ∷ cs) = (b < count) × Fitting count cs

module _ {M : Type 0} (steps : Steps M) (meaning : M → Meaning) (good : M → Type 0) (K : Keeps steps meaning good) where
  pub run_good : (cs : List Call) (done : Stepped (Unit {0}) M) (count : ℕ) → Fitting count cs → good done.after → good (then_run steps cs done).after
  run_good [] done count fit ok = ok
  run_good (put b x ∷ cs) done count fit ok =
      run_good cs (next done (λ _ s. steps.put s b x)) count fit.2
      (next_keeps good done (λ _ s. steps.put s b x) ok (λ _. K.put_good done.after b x ok fit.1))
  run_good (force b ∷ cs) done count fit ok =
      run_good cs (next done (λ _ s. steps.force s b)) count fit.1
      (next_keeps good done (λ _ s. steps.force s b) ok (λ _. K.force_good done.after b ok))

  -- one put more
  put_more :
      (m : Meaning) (line : ℕ → Line) (n : ℕ) (clean : ℕ → Type 0) (done : Stepped (Unit {0}) M) (b : ℕ) (x : Content)
      → b < m.count → length x ≡ 512 → good done.after → Moves m line n clean done.answer (meaning done.after)
      → let c = next done (λ _ s. steps.put s b x) in
      Moves m (added line b x) (n + 1) (λ k. clean k × (k ≡ b → ⊥)) c.answer (meaning c.after)
  put_more m line n clean done b x h z ok p =
      moves_both meaning m line (added m₁.line b x) (added line b x) n 1 clean still done (λ _ s. steps.put s b x) p
      (λ k. added_thins line m₁.line b x k)
      (λ k l. added_survives line b x k l)
      (λ g.
      let e = p.count in
      let q = (K.puts done.after b x ok z).on (omega arith) g in
      moves_as m₁ (meaning (steps.put done.after b x).after) (added m₁.line b x) (added m₁.line b x) 1 1 (λ k. ⊥) still (steps.put done.after b x).answer
      (λ k. refl) refl
      (λ k l g' w.
      thins_one (m₁.line k) ((meaning (steps.put done.after b x).after).line k) (p.cleans g k (omega arith) w.0)
      (subst (λ t. Thins (cond t (extended (m₁.line k) x) (m₁.line k)) ((meaning (steps.put done.after b x).after).line k)) (ne_eqb k b w.1) (q.thins g' k l)))
      q)
    where
      m₁ : Meaning
      m₁ = meaning done.after

      still : ℕ → Type 0
      still k = clean k × (k ≡ b → ⊥)

  -- one force more
  force_more :
      (m : Meaning) (line : ℕ → Line) (n : ℕ) (clean : ℕ → Type 0) (done : Stepped (Unit {0}) M) (b : ℕ)
      → b < m.count → good done.after → Moves m line n clean done.answer (meaning done.after)
      → let c = next done (λ _ s. steps.force s b) in
      Moves m line n (λ k. clean k ⊎ (k ≡ b)) c.answer (meaning c.after)
  force_more m line n clean done b h ok p =
      subst (λ n. Moves m line n now (next done (λ _ s. steps.force s b)).answer (meaning (next done (λ _ s. steps.force s b)).after)) (add-zero n)
      (moves_both meaning m line m₁.line line n 0 clean now done (λ _ s. steps.force s b) p
      (λ k t. t)
      (λ k l s. s)
      (λ g.
      let e = p.count in
      let q = (K.forces done.after b ok).on (omega arith) g in
      moves_as m₁ (meaning (steps.force done.after b).after) m₁.line m₁.line 0 0 (λ k. k ≡ b) now (steps.force done.after b).answer
      (λ k. refl) refl
      (λ k l g'.
      ⊎_elim
      (λ (w : clean k).
      thins_one (m₁.line k) ((meaning (steps.force done.after b).after).line k) (p.cleans g k (omega arith) w) (q.thins g' k l))
      (λ (w : k ≡ b). q.cleans g' k l w))
      q))
    where
      m₁ : Meaning
      m₁ = meaning done.after

      now : ℕ → Type 0
      now k = clean k ⊎ (k ≡ b)

  many_moves :
      (cs : List Call) (m : Meaning) (line : ℕ → Line) (n : ℕ) (clean : ℕ → Type 0) (done : Stepped (Unit {0}) M)
      → Fitting m.count cs → good done.after → Moves m line n clean done.answer (meaning done.after)
      → Moves m (lines cs line) (n + puts cs) (cleaned cs clean) (then_run steps cs done).answer (meaning (then_run steps cs done).after)
  unfolding lines
  many_moves [] m line n clean done fit ok p =
      subst (λ n. Moves m line n clean done.answer (meaning done.after)) (sym (add-zero n)) p
  many_moves (put b x ∷ cs) m line n clean done fit ok p =
      let c = next done (λ _ s. steps.put s b x) in
      subst (λ n. Moves m (lines cs (added line b x)) n (cleaned cs (λ k. clean k × (k ≡ b → ⊥))) (then_run steps cs c).answer (meaning (then_run steps cs c).after))
      (add_assoc n 1 (puts cs))
      (many_moves cs m (added line b x) (n + 1) (λ k. clean k × (k ≡ b → ⊥)) c fit.2
      (next_keeps good done (λ _ s. steps.put s b x) ok (λ _. K.put_good done.after b x ok fit.1))
      (put_more m line n clean done b x fit.0 fit.1 ok p))
  many_moves (force b ∷ cs) m line n clean done fit ok p =
      many_moves cs m line n (λ k. clean k ⊎ (k ≡ b)) (next done (λ _ s. steps.force s b)) fit.1
      (next_keeps good done (λ _ s. steps.force s b) ok (λ _. K.force_good done.after b ok))
      (force_more m line n clean done b fit.0 ok p)

  -- the calls from a store with power on
  pub run_moves :
      (cs : List Call) (s : M) → Fitting (meaning s).count cs → good s → 0 < (meaning s).grant
      → Moves (meaning s) (λ k. followed ((meaning s).line k) (put_to cs k)) (puts cs) (cleaned cs (λ k. ⊥)) (run steps cs s).answer (meaning (run steps cs s).after)
  run_moves cs s fit ok g =
      let m = meaning s in
      let p = many_moves cs m m.line 0 (λ k. ⊥) (stepped (Ok tt) s) fit ok (stays m m (same_refl m) g) in
      moves_as m (meaning (run steps cs s).after) (lines cs m.line) (λ k. followed (m.line k) (put_to cs k)) (0 + puts cs) (puts cs) (cleaned cs (λ k. ⊥)) (cleaned cs (λ k. ⊥)) (run steps cs s).answer
      (λ k. sym (lines_followed cs m.line k)) (omega arith) (λ k h g' w. p.cleans g' k h w) p

-- a clean line is the last content alone
pub line_clean : (l l' : Line) (xs : List Content) → Thins (followed l xs) l' → l'.later ≡ [] → l' ≡ record { first = last_of (newest l) xs; later = [] }
line_clean l l' xs t e =
    ap₂ (λ (x : Content) (ys : List Content). record { first = x; later = ys })
    (sym (ap (last_of l'.first) e) ∙ t.shown ∙ last_append l.first l.later xs)
    e

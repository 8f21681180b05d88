-- A call on the store below, seen through the contents that a cache holds over it.
use Rattle.std.proofs.Common.{◌≡◌, ℕ, ◌+◌, ◌<◌, ◌≤◌, true, false, cond, eqb, ltb, List, [], ◌∷◌, ◌++◌, length, Some, None, Ok, Option, sym, refl, ap, ◌∙◌, subst, ap₂, ⊎_elim, append_assoc, append-nil, arith, length-append}
use Rattle.std.proofs.lemmas.Bool.{cond-true, cond-false, cond_both, lt-ltb, le-ltb, eq-eqb, ne_eqb, cases_lt, cases_eq}
use Rattle.store.specs.Steps.{Content, Answer, Steps, Stepped, number}
use Rattle.store.specs.Meaning.{Meaning, Line, followed, extended, contents, last_of, newest, sum_below, held, Thins, Same, Sized, Sound, added, Thinned}
use Rattle.store.specs.Meaning.Thinned.{keep, strike}
use Rattle.store.specs.Keeps.{Keeps, Moves}
use Rattle.store.proofs.Sums.{sum_plus, sum_mono, sum_same, sum_one, one_at}
use Rattle.store.proofs.Lines.{thinned_refl, thinned_front, thinned_back, thinned_length, last_append, sized_append, thins_refl, thins_same, thins_trans, thins_followed, survives_thinned, survives_followed}
use Rattle.store.proofs.Answers.{good_answer, lost_answer, outside_answer}
use Rattle.store.proofs.Moving.{stays}
use Rattle.store.proofs.Guards.{same_refl, put_count}
use Rattle.cache.specs.declared.Entry.{Entry}
use Rattle.cache.specs.Entries.{over}
use Rattle.cache.specs.WriteBack.{unless_lost, write_back}

pub over_on : (m : Meaning) (extra : ℕ → List Content) → 0 < m.grant → (k : ℕ) → (over m extra).line k ≡ followed (m.line k) (extra k)
over_on m extra g k = cond-true (ltb 0 m.grant) (followed (m.line k) (extra k)) (m.line k) (lt-ltb 0 m.grant g)

pub over_off : (m : Meaning) (extra : ℕ → List Content) → m.grant ≡ 0 → (k : ℕ) → (over m extra).line k ≡ m.line k
over_off m extra g k =
    cond-false (ltb 0 m.grant) (followed (m.line k) (extra k)) (m.line k) (le-ltb 0 m.grant (omega arith))

abbrev pub weight : Meaning → (ℕ → List Content) → ℕ
weight m extra = sum_below m.count (λ k. length (extra k))

pub held_on : (m : Meaning) (extra : ℕ → List Content) → 0 < m.grant → held (over m extra) ≡ held m + weight m extra
held_on m extra g =
    sum_same m.count (λ k. length ((over m extra).line k).later) (λ k. length (m.line k).later + length (extra k))
    (λ k h. rw (over_on m extra g k) (length-append (m.line k).later (extra k)))
    ∙ sum_plus m.count (λ k. length (m.line k).later) (λ k. length (extra k))

held_off : (m : Meaning) (extra : ℕ → List Content) → m.grant ≡ 0 → held (over m extra) ≡ held m
held_off m extra g =
    sum_same m.count (λ k. length ((over m extra).line k).later) (λ k. length (m.line k).later)
    (λ k h. ap (λ (l : Line). length l.later) (over_off m extra g k))

-- A call below, which was put `puts` contents, is a call above, which was put `more`, if its lines and what is held after it make up the lines above.
pub lift :
    (m m' : Meaning) (line line⁺ : ℕ → Line) (puts more : ℕ) (clean clean⁺ : ℕ → Type 0) (r : Answer (Unit {0})) (extra extra' : ℕ → List Content)
    → Moves m line puts clean r m'
    → 0 < m.grant
    → ((k : ℕ) → k < m.count → Thins (line⁺ k) (followed (line k) (extra' k)))
    → weight m extra' + puts ≤ weight m extra + more
    → ((k : ℕ) → k < m.count → clean⁺ k → clean k × (extra' k ≡ []))
    → Moves (over m extra) line⁺ more clean⁺ r (over m' extra')
lift m m' line line⁺ puts more clean clean⁺ r extra extra' p g fits pays bare =
    record {
      count = p.count;
      falls = p.falls;
      stores =
          ⊎_elim
          (λ (g' : 0 < m'.grant).
          let a = held_on m extra g in
          let b = held_on m' extra' g' in
          let c : weight m' extra' ≡ weight m extra' = rw p.count in
          let d = p.stores in
          omega arith)
          (λ (z : m'.grant ≤ 0).
          let a = held_on m extra g in
          let b = held_off m' extra' (omega arith) in
          let d = p.stores in
          omega arith)
          (cases_lt 0 m'.grant);
      good = p.good;
      thins = λ g' k h.
          rw (over_on m' extra' g' k)
          (thins_trans (line⁺ k) (followed (line k) (extra' k)) (followed (m'.line k) (extra' k)) (fits k h)
          (thins_followed (line k) (m'.line k) (extra' k) (p.thins g' k h)));
      cleans = λ g' k h w. rw (over_on m' extra' g' k, p.cleans g' k h (bare k h w).0) (bare k h w).1;
      lost = p.lost;
      survives = λ z k h.
          rw (over_off m' extra' z k)
          (survives_thinned (line⁺ k) (followed (line k) (extra' k)) (m'.line k) (fits k h)
          (survives_followed (line k) (m'.line k) (extra' k) (p.survives z k h)));
    }

-- the contents held before an entry (b, x) left them
abbrev pub Left : (ℕ → List Content) → ℕ → Content → (ℕ → List Content) → Type 0
Left extra b x extra' = (k : ℕ) → extra k ≡ cond (eqb k b) (x ∷ extra' k) (extra' k)

abbrev pub Leaves : (ℕ → List Content) → Option Entry → (ℕ → List Content) → Type 0
Leaves extra None extra' = (k : ℕ) → extra k ≡ extra' k
Leaves extra (Some e) extra' = Left extra e.block e.content extra'

abbrev pub SizedEntry : Option Entry → Type 0
SizedEntry None = Unit {0}
SizedEntry (Some e) = length e.content ≡ 512

-- the contents held once x has come for b, where `kept` stayed
abbrev pub Joined : (ℕ → List Content) → ℕ → Content → (ℕ → List Content) → Type 0
Joined kept b x extra = (k : ℕ) → extra k ≡ kept k ++ cond (eqb k b) (x ∷ []) []

left_elsewhere : (extra extra' : ℕ → List Content) (b : ℕ) (x : Content) → Left extra b x extra' → (k : ℕ) → (k ≡ b → ⊥) → extra k ≡ extra' k
left_elsewhere extra extra' b x left k ne = left k ∙ cond-false (eqb k b) (x ∷ extra' k) (extra' k) (ne_eqb k b ne)

left_length : (extra extra' : ℕ → List Content) (b : ℕ) (x : Content) → Left extra b x extra' → (k : ℕ) → length (extra k) ≡ one_at b k + length (extra' k)
left_length extra extra' b x left k =
    ap length (left k)
    ∙ elim (eqb k b) as (λ t. length (cond t (x ∷ extra' k) (extra' k)) ≡ cond t 1 0 + length (extra' k)) [ true ↦ omega arith | false ↦ omega arith ]

left_line :
    (m : Meaning) (extra extra' : ℕ → List Content) (b : ℕ) (x : Content)
    → Left extra b x extra' → 0 < m.grant → (k : ℕ) → followed (added m.line b x k) (extra' k) ≡ (over m extra).line k
left_line m extra extra' b x left g k =
    elim (eqb k b) as (λ t. followed (cond t (extended (m.line k) x) (m.line k)) (extra' k) ≡ followed (m.line k) (cond t (x ∷ extra' k) (extra' k))) [
      | true ↦ ap (λ (xs : List Content). record { first = (m.line k).first; later = xs }) (append_assoc (m.line k).later (x ∷ []) (extra' k))
      | false ↦ refl
    ]
    ∙ ap (followed (m.line k)) (sym (left k))
    ∙ sym (over_on m extra g k)

goes_on :
    (m m' : Meaning) (line : ℕ → Line) (puts : ℕ) (clean : ℕ → Type 0) (r : Answer (Unit {0}))
    → Moves m line puts clean r m' → Moves m line puts clean (unless_lost r) m'
goes_on m m' line puts clean r p =
    record {
      count = p.count;
      falls = p.falls;
      stores = p.stores;
      good = λ g. ap (λ a. number (unless_lost a)) (good_answer r (p.good g));
      thins = p.thins;
      cleans = p.cleans;
      lost = λ g. ap (λ a. number (unless_lost a)) (lost_answer r (p.lost g));
      survives = p.survives;
    }

thins_struck :
    (l : Line) (xs ys : List Content) (x : Content) → Thinned xs ys → Thins (extended (followed l xs) x) (extended (followed l ys) x)
thins_struck l xs ys x p =
    record {
      thinned = thinned_front (x ∷ []) (keep (thinned_back l.later p));
      shown = last_append l.first (l.later ++ ys) (x ∷ []) ∙ sym (last_append l.first (l.later ++ xs) (x ∷ []));
    }

-- some contents of b struck out, those of the others as they were
pub record Struck (extra : ℕ → List Content) (b : ℕ) (kept : ℕ → List Content) : Type 0 where
  pub thinned : (k : ℕ) → Thinned (extra k) (kept k)
  pub elsewhere : (k : ℕ) → (k ≡ b → ⊥) → kept k ≡ extra k

pub struck_none : (extra : ℕ → List Content) (b : ℕ) → Struck extra b extra
struck_none extra b = record { thinned = λ k. thinned_refl (extra k); elsewhere = λ k _. refl }

pub struck_left : (extra extra' : ℕ → List Content) (b : ℕ) (x : Content) → Left extra b x extra' → Struck extra b extra'
struck_left extra extra' b x left =
    record {
      thinned = λ k.
          rw (left k)
          (elim (eqb k b) as (λ t. Thinned (cond t (x ∷ extra' k) (extra' k)) (extra' k))
          [ true ↦ strike (thinned_refl (extra' k)) | false ↦ thinned_refl (extra' k) ]);
      elsewhere = λ k ne. sym (left_elsewhere extra extra' b x left k ne);
    }

-- x comes into the cache for block b
pub join_moves :
    (m : Meaning) (extra kept extra' : ℕ → List Content) (b : ℕ) (x : Content)
    → 0 < m.grant → b < m.count → Struck extra b kept → Joined kept b x extra'
    → Moves (over m extra) (added (over m extra).line b x) 1 (λ k. ⊥) (Ok tt) (over m extra')
join_moves m extra kept extra' b x g h struck joined =
    lift m m m.line (added (over m extra).line b x) 0 1 (λ k. ⊥) (λ k. ⊥) (Ok tt) extra extra' (stays m m (same_refl m) g) g
    (λ k _. rw (over_on m extra g k, joined k) (fits k))
    (let w : weight m extra' ≤ 1 + weight m extra =
    let a = sum_mono m.count (λ k. length (extra' k)) (λ k. one_at b k + length (extra k)) (λ k _. longer k) in
    let c = sum_plus m.count (one_at b) (λ k. length (extra k)) in
    let d = sum_one m.count b h in
    omega arith in
    omega arith)
    (λ k _ w. absurd w)
  where
    longer : (k : ℕ) → length (extra' k) ≤ one_at b k + length (extra k)
    longer k =
        rw (joined k, length-append)
        (let t = thinned_length (struck.thinned k) in
        elim (eqb k b) as (λ t. length (kept k) + length (cond t (x ∷ []) []) ≤ cond t 1 0 + length (extra k))
        [ true ↦ omega arith | false ↦ omega arith ])

    fits : (k : ℕ) → Thins (cond (eqb k b) (extended (followed (m.line k) (extra k)) x) (followed (m.line k) (extra k))) (followed (m.line k) (kept k ++ cond (eqb k b) (x ∷ []) []))
    fits k =
        ⊎_elim
        (λ (e : k ≡ b).
        rw (eq-eqb k b e)
        (subst (λ (xs : List Content). Thins (extended (followed (m.line k) (extra k)) x) (record { first = (m.line k).first; later = xs }))
        (append_assoc (m.line k).later (kept k) (x ∷ []))
        (thins_struck (m.line k) (extra k) (kept k) x (struck.thinned k))))
        (λ (ne : k ≡ b → ⊥).
        rw (ne_eqb k b ne, append-nil (kept k), struck.elsewhere k ne) (thins_refl (followed (m.line k) (extra k))))
        (cases_eq k b)

pub newest_followed : (l : Line) (xs : List Content) → newest (followed l xs) ≡ last_of (newest l) xs
newest_followed l xs = last_append l.first l.later xs

pub same_over : (m m' : Meaning) (extra : ℕ → List Content) → Same m m' → Same (over m extra) (over m' extra)
same_over m m' extra s =
    record {
      count = s.count;
      grant = s.grant;
      line = λ k h. ap₂ (λ (g : ℕ) (l : Line). cond (ltb 0 g) (followed l (extra k)) l) s.grant (s.line k h);
    }

pub sound_over : (m : Meaning) (extra : ℕ → List Content) → Sound m → ((k : ℕ) → Sized (extra k)) → Sound (over m extra)
sound_over m extra s sized =
    record {
      some = s.some;
      few = s.few;
      bounded = s.bounded;
      sized = λ k h.
          cond_both (ltb 0 m.grant) (followed (m.line k) (extra k)) (m.line k) (λ (l : Line). Sized (contents l))
          (λ _. sized_append (contents (m.line k)) (extra k) (s.sized k h) (sized k))
          (λ _. s.sized k h);
      off = λ g k h. rw (over_off m extra g k) (s.off g k h);
    }

module _ {B : Type 0} (steps : Steps B) (meaning : B → Meaning) (good : B → Type 0) (K : Keeps steps meaning good) where
  -- an entry that is put down leaves the cache for the store below
  pub put_moves :
      (s : B) (b : ℕ) (x : Content) (extra extra' : ℕ → List Content)
      → good s → length x ≡ 512 → 0 < (meaning s).grant → Left extra b x extra'
      → let p = steps.put s b x in
      Moves (over (meaning s) extra) (over (meaning s) extra).line 0 (λ k. ⊥) (unless_lost p.answer) (over (meaning p.after) extra')
  put_moves s b x extra extra' ok sized g left = ⊎_elim inside outside (cases_lt b m.count)
    where
      m : Meaning
      m = meaning s

      p : Stepped (Unit {0}) B
      p = steps.put s b x

      inside : b < m.count → Moves (over m extra) (over m extra).line 0 (λ k. ⊥) (unless_lost p.answer) (over (meaning p.after) extra')
      inside h =
          lift m (meaning p.after) (added m.line b x) (over m extra).line 1 0 (λ k. ⊥) (λ k. ⊥) (unless_lost p.answer) extra extra'
          (goes_on m (meaning p.after) (added m.line b x) 1 (λ k. ⊥) p.answer ((K.puts s b x ok sized).on h g))
          g
          (λ k _. thins_same ((over m extra).line k) (followed (added m.line b x k) (extra' k)) (left_line m extra extra' b x left g k))
          (let w : weight m extra ≡ 1 + weight m extra' =
          sum_same m.count (λ k. length (extra k)) (λ k. one_at b k + length (extra' k)) (λ k _. left_length extra extra' b x left k)
          ∙ sum_plus m.count (one_at b) (λ k. length (extra' k))
          ∙ ap (λ n. n + weight m extra') (sum_one m.count b h) in
          omega arith)
          (λ k _ w. absurd w)

      outside : m.count ≤ b → Moves (over m extra) (over m extra).line 0 (λ k. ⊥) (unless_lost p.answer) (over (meaning p.after) extra')
      outside h =
          let q = (K.puts s b x ok sized).outside h in
          subst (λ (a : Answer (Unit {0})). Moves (over m extra) (over m extra).line 0 (λ k. ⊥) a (over (meaning p.after) extra')) (sym (ap unless_lost (outside_answer p.answer q.0)))
          (lift m (meaning p.after) m.line (over m extra).line 0 0 (λ k. ⊥) (λ k. ⊥) (Ok tt) extra extra'
          (stays m (meaning p.after) q.1 g)
          g
          (λ k l.
          thins_same ((over m extra).line k) (followed (m.line k) (extra' k))
          (ap (followed (m.line k)) (sym (left_elsewhere extra extra' b x left k (omega arith))) ∙ sym (over_on m extra g k)))
          (let w : weight m extra ≡ weight m extra' =
          sum_same m.count (λ k. length (extra k)) (λ k. length (extra' k))
          (λ k l. ap length (left_elsewhere extra extra' b x left k (omega arith))) in
          omega arith)
          (λ k _ w. absurd w))

  -- an empty place has nothing to put down
  pub back_moves :
      (s : B) (slot : Option Entry) (extra extra' : ℕ → List Content)
      → good s → 0 < (meaning s).grant
      → SizedEntry slot → Leaves extra slot extra'
      → let p = write_back steps s slot in
      Moves (over (meaning s) extra) (over (meaning s) extra).line 0 (λ k. ⊥) p.answer (over (meaning p.after) extra')
  back_moves s None extra extra' ok g sized same =
      stays (over (meaning s) extra) (over (meaning s) extra')
      (record { count = refl; grant = refl; line = λ k _. ap (λ (xs : List Content). cond (ltb 0 (meaning s).grant) (followed ((meaning s).line k) xs) ((meaning s).line k)) (sym (same k)) })
      g
  back_moves s (Some e) extra extra' ok g sized left = put_moves s e.block e.content extra extra' ok sized g left

  pub back_good : (s : B) (slot : Option Entry) → good s → SizedEntry slot → good (write_back steps s slot).after
  back_good s None ok h = ok
  back_good s (Some e) ok h = K.put_good s e.block e.content ok h

  pub back_count : (s : B) (slot : Option Entry) → good s → SizedEntry slot → (meaning (write_back steps s slot).after).count ≡ (meaning s).count
  back_count s None ok z = refl
  back_count s (Some e) ok z = put_count steps meaning good K s e.block e.content ok z

  -- what is not held is read below
  pub read_moves :
      (s : B) (b : ℕ) (extra : ℕ → List Content) → good s → b < (meaning s).count → 0 < (meaning s).grant → extra b ≡ []
      → let r = steps.read s b in
      (r.answer ≡ Ok (newest ((over (meaning s) extra).line b))) × Same (over (meaning s) extra) (over (meaning r.after) extra)
  read_moves s b extra ok h g e =
      let r = (K.reads s b ok).on h g in (
        r.0 ∙ ap Ok (sym (ap newest (over_on (meaning s) extra g b) ∙ newest_followed ((meaning s).line b) (extra b) ∙ ap (last_of (newest ((meaning s).line b))) e)),
        same_over (meaning s) (meaning (steps.read s b).after) extra r.1,
      )

  pub force_moves :
      (s : B) (b : ℕ) (extra : ℕ → List Content) → good s → b < (meaning s).count → 0 < (meaning s).grant → extra b ≡ []
      → let r = steps.force s b in
      Moves (over (meaning s) extra) (over (meaning s) extra).line 0 (λ k. k ≡ b) r.answer (over (meaning r.after) extra)
  force_moves s b extra ok h g e =
      let m = meaning s in
      let r = steps.force s b in
      lift m (meaning r.after) m.line (over m extra).line 0 0 (λ k. k ≡ b) (λ k. k ≡ b) r.answer extra extra
      ((K.forces s b ok).on h g) g
      (λ k _. thins_same ((over m extra).line k) (followed (m.line k) (extra k)) (sym (over_on m extra g k)))
      (omega arith)
      (λ k _ w. (w, ap extra w ∙ e))

  pub flush_moves :
      (s : B) (extra : ℕ → List Content) → good s → 0 < (meaning s).grant → ((k : ℕ) → extra k ≡ [])
      → let r = steps.flush s in
      Moves (over (meaning s) extra) (over (meaning s) extra).line 0 (λ k. Unit {0}) r.answer (over (meaning r.after) extra)
  flush_moves s extra ok g e =
      let m = meaning s in
      let r = steps.flush s in
      lift m (meaning r.after) m.line (over m extra).line 0 0 (λ k. Unit {0}) (λ k. Unit {0}) r.answer extra extra
      ((K.flushes s ok).on g) g
      (λ k _. thins_same ((over m extra).line k) (followed (m.line k) (extra k)) (sym (over_on m extra g k)))
      (omega arith)
      (λ k _ w. (w, e k))

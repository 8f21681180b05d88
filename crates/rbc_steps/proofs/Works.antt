-- Work on a store, turn by turn: how the moves of its calls add up.
use Rattle.std.proofs.Common.{◌≡◌, ℕ, suc, ◌+◌, ◌-◌, ◌<◌, ◌≤◌, ◌⊎◌, true, false, List, [], ◌∷◌, ◌++◌, length, Ok, Err, sym, refl, ap, ap₂, ◌∙◌, subst, inl, inr, arith}
use native.Mathlib.Decide.{dec_lt}
use Rattle.std.proofs.lemmas.List.{append-nil, append_assoc}
use Rattle.store.specs.declared.StoreError.{StoreError}
use Rattle.store.specs.Steps.{Content, Answer, Stepped, stepped, next}
use Rattle.store.specs.Meaning.{Meaning, Line, contents, newest, last_of, followed, held, Among, Thins, Same}
use Rattle.store.specs.Keeps.{Moves}
use Rattle.store.proofs.Answers.{good_answer, lost_answer}
use Rattle.store.proofs.Lines.{thinned_length, thins_same, thins_trans, thins_followed, survives_thinned}
use Rattle.store.proofs.Moving.{held_same}
use Rattle.rbc_steps.specs.Work.{Work}
use Rattle.rbc_steps.specs.Limits.{Moved}

with_later : Content → List Content → Line
with_later x xs = record { first = x; later = xs }

-- a line with nothing after it, and with more after that
pub followed_none : (l : Line) → followed l [] ≡ l
unfolding with_later
followed_none l = ap (with_later l.first) (append-nil l.later)

followed_more : (l : Line) (xs ys : List Content) → followed (followed l xs) ys ≡ followed l (xs ++ ys)
unfolding with_later
followed_more l xs ys = ap (with_later l.first) (append_assoc l.later xs ys)

no_length : (xs : List Content) → length xs ≤ 0 → xs ≡ []
no_length [] h = refl
no_length (x ∷ xs) h = absurd (omega arith)

-- what is left of one content is that content
thins_alone : {x : Content} (l l' : Line) → contents l ≡ x ∷ [] → Thins l l' → l'.later ≡ []
thins_alone l l' e t = no_length l'.later (omega (arith, thinned_length t.thinned, ap length e))

among_alone : {x y : Content} (l : Line) → contents l ≡ x ∷ [] → Among y (contents l) → y ≡ x
among_alone {x} {y} l e a = go (subst (Among y) e a)
  where
    go : Among y (x ∷ []) → y ≡ x
    go (inl e) = e
    go (inr a) = absurd a

alone : {x : Content} (l : Line) → l.later ≡ [] → l.first ≡ x → contents l ≡ x ∷ []
alone l e e' = ap₂ (λ (y : Content) (ys : List Content). y ∷ ys) e' e

alone_newest : {x : Content} (l : Line) → l.later ≡ [] → newest l ≡ x → contents l ≡ x ∷ []
alone_newest l e e' = alone l e (sym (ap (last_of l.first) e) ∙ e')

-- the first k turns
abbrev pub upto : ℕ → Work → Work
upto k w = record { turns = k; puts = w.puts; written = w.written; clean = w.clean }

-- a turn after k others: what it writes, how many blocks it puts, and which it cleans
pub record IsTurn (w : Work) (k : ℕ) (extra : ℕ → List Content) (p : ℕ) (cleaned : ℕ → Type 0) : Type 0 where
  pub puts : w.puts (suc k) ≡ w.puts k + p
  pub written : (b : ℕ) → w.written (suc k) b ≡ w.written k b ++ extra b
  pub clean : (b : ℕ) → w.clean (suc k) b ≡ true → (w.clean k b ≡ true) ⊎ cleaned b
  pub kept : (b : ℕ) → w.clean k b ≡ true → extra b ≡ []

module _ {m m₁ m' : Meaning} {w : Work} {k : ℕ} {extra : ℕ → List Content} {p : ℕ} {cleaned : ℕ → Type 0} {r : Answer (Unit {0})}
    (t : IsTurn w k extra p cleaned) (d : Moved m (upto k w) m₁) (lit : 0 < m₁.grant) (v : Moves m₁ (λ b. followed (m₁.line b) (extra b)) p cleaned r m') where
  abbrev line : ℕ → Line
  line b = followed (m₁.line b) (extra b)

  abbrev aim : ℕ → Line
  aim b = followed (m.line b) (w.written (suc k) b)

  all_ended : d.ended ≡ k
  all_ended = d.all lit

  all_begun : d.begun ≡ k
  all_begun = omega (arith, d.all lit, d.order.0, d.order.1.1)

  below : (b : ℕ) → b < m.count → b < m₁.count
  below b h = omega (arith, d.count)

  whole : (b : ℕ) → b < m.count → Thins (aim b) (line b)
  whole b h =
      subst (λ (xs : List Content). Thins (followed (m.line b) xs) (line b)) (sym (t.written b))
      (subst (λ (l : Line). Thins l (line b)) (followed_more (m.line b) (w.written k b) (extra b))
      (thins_followed (followed (m.line b) (w.written k b)) (m₁.line b) (extra b)
      (subst (λ (j : ℕ). Thins (followed (m.line b) (w.written j b)) (m₁.line b)) all_begun (d.thins lit b h))))

  -- a block that was clean before this turn
  module _ (b : ℕ) (h : b < m.count) (c : w.clean k b ≡ true) where
    as_before : line b ≡ m₁.line b
    as_before = ap (followed (m₁.line b)) (t.kept b c) ∙ followed_none (m₁.line b)

    single : contents (line b) ≡ newest (aim b) ∷ []
    single =
        ap contents as_before ∙ d.cleans b h (subst (λ (j : ℕ). w.clean j b ≡ true) (sym all_ended) c)
        ∙ ap (λ (xs : List Content). newest (followed (m.line b) xs) ∷ [])
        (ap (λ (j : ℕ). w.written j b) all_begun ∙ sym (append-nil (w.written k b)) ∙ ap (λ (xs : List Content). w.written k b ++ xs) (sym (t.kept b c)) ∙ sym (t.written b))

  went_on : 0 < m'.grant → Moved m (upto (suc k) w) m'
  went_on g =
      record {
        begun = suc k;
        ended = suc k;
        order = (omega arith, (omega arith, omega arith));
        all = λ _. refl;
        still = λ e. absurd (omega arith);
        count = v.count ∙ d.count;
        falls = omega (arith, v.falls, d.falls);
        stores = omega (arith, v.falls, d.falls, v.stores, stored, t.puts);
        thins = λ _ b h. thinned b h;
        survives = λ z. absurd (omega arith);
        cleans = λ b h c. alone_newest (m'.line b) (bare b h (t.clean b c)) (thinned b h).shown;
      }
    where
      stored : (m.grant - m₁.grant) + held m₁ ≤ held m + w.puts k
      stored = subst (λ (j : ℕ). (m.grant - m₁.grant) + held m₁ ≤ held m + w.puts j) all_begun d.stores

      thinned : (b : ℕ) → b < m.count → Thins (aim b) (m'.line b)
      thinned b h = thins_trans (aim b) (line b) (m'.line b) (whole b h) (v.thins g b (below b h))

      bare : (b : ℕ) → b < m.count → (w.clean k b ≡ true) ⊎ cleaned b → (m'.line b).later ≡ []
      bare b h (inl c) = thins_alone (line b) (m'.line b) (single b h c) (v.thins g b (below b h))
      bare b h (inr c) = v.cleans g b (below b h) c

  went_off : m'.grant ≡ 0 → Moved m (upto (suc k) w) m'
  went_off z =
      record {
        begun = suc k;
        ended = k;
        order = (omega arith, (omega arith, omega arith));
        all = λ g. absurd (omega arith);
        still = λ e. absurd (omega arith);
        count = v.count ∙ d.count;
        falls = omega (arith, v.falls, d.falls);
        stores = omega (arith, v.falls, d.falls, v.stores, stored, t.puts);
        thins = λ g. absurd (omega arith);
        survives = λ _ b h. survives_thinned (aim b) (line b) (m'.line b) (whole b h) (v.survives z b (below b h));
        cleans =
            λ b h c.
            let s = v.survives z b (below b h) in
            alone (m'.line b) s.single (among_alone (line b) (single b h c) s.among);
      }
    where
      stored : (m.grant - m₁.grant) + held m₁ ≤ held m + w.puts k
      stored = subst (λ (j : ℕ). (m.grant - m₁.grant) + held m₁ ≤ held m + w.puts j) all_begun d.stores

  pub one_more : Dec (0 < m'.grant) → Moved m (upto (suc k) w) m'
  one_more (yes g) = went_on g
  one_more (no g) = went_off (omega arith)

-- without power no further turn begins
stopped : {m m' : Meaning} {k : ℕ} (w : Work) → m'.grant ≡ 0 → Moved m (upto k w) m' → Moved m (upto (suc k) w) m'
stopped w z d =
    record {
      begun = d.begun;
      ended = d.ended;
      order = (d.order.0, (d.order.1.0, omega (arith, d.order.1.1)));
      all = λ g. absurd (omega arith);
      still = d.still;
      count = d.count;
      falls = d.falls;
      stores = d.stores;
      thins = d.thins;
      survives = d.survives;
      cleans = d.cleans;
    }

-- nothing was done: there is nothing to do, or no power
pub moved_none : {m m' : Meaning} (w : Work) → (0 < m'.grant → w.turns ≡ 0) → ((b : ℕ) → w.written 0 b ≡ []) → ((b : ℕ) → w.clean 0 b ≡ false)
    → ((b : ℕ) → m'.grant ≡ 0 → b < m'.count → (m'.line b).later ≡ []) → Same m m' → Moved m w m'
moved_none {m} {m'} w none unwritten unclean off s =
    record {
      begun = 0;
      ended = 0;
      order = (omega arith, (omega arith, omega arith));
      all = λ on. sym (none on);
      still = λ _. s;
      count = s.count;
      falls = omega (arith, s.grant);
      stores = omega (arith, s.grant, held_same m m' s);
      thins = λ _ b h. thins_same (followed (m.line b) (w.written 0 b)) (m'.line b) (as_it_was b h);
      survives = λ z b h. record { single = off b z (omega (arith, s.count)); among = inl (ap (λ (l : Line). l.first) (as_it_was b h)) };
      cleans = λ b h c. absurd (let e = unclean b in let z : ◌≡◌ {A = ℕ} 0 1 = cc in omega arith);
    }
  where
    as_it_was : (b : ℕ) → b < m.count → m'.line b ≡ followed (m.line b) (w.written 0 b)
    as_it_was b h = s.line b h ∙ sym (followed_none (m.line b)) ∙ ap (followed (m.line b)) (sym (unwritten b))

module _ {M : Type 0} (meaning : M → Meaning) (good : M → Type 0) where
  -- k turns, and how they ended
  pub record Reached (w : Work) (k : ℕ) (m : Meaning) (r : Stepped (Unit {0}) M) : Type 0 where
    pub safe : good r.after
    pub moved : Moved m (upto k w) (meaning r.after)
    pub on : (u : Unit {0}) → r.answer ≡ Ok u → 0 < (meaning r.after).grant
    pub lost : (e : StoreError) → r.answer ≡ Err e → (meaning r.after).grant ≡ 0

  module _ {w : Work} {k : ℕ} {extra : ℕ → List Content} {p : ℕ} {cleaned : ℕ → Type 0} (t : IsTurn w k extra p cleaned) where
    -- turn k of the work, from s
    abbrev pub Turns : M → Stepped (Unit {0}) M → Type 0
    Turns s r = good r.after × Moves (meaning s) (λ b. followed ((meaning s).line b) (extra b)) p cleaned r.answer (meaning r.after)

    pub reached : {m : Meaning} (s : M) (r : Stepped (Unit {0}) M) → Moved m (upto k w) (meaning s) → 0 < (meaning s).grant → Turns s r → Reached w (suc k) m r
    reached s r d lit v =
        record {
          safe = v.0;
          moved = one_more t d lit v.1 (dec_lt 0 (meaning r.after).grant);
          on = λ u e. still_on u e (dec_lt 0 (meaning r.after).grant);
          lost = λ e i. gone e i (dec_lt 0 (meaning r.after).grant);
        }
      where
        still_on : (u : Unit {0}) → r.answer ≡ Ok u → Dec (0 < (meaning r.after).grant) → 0 < (meaning r.after).grant
        still_on u e (yes h) = h
        still_on u e (no h) = let c = lost_answer r.answer (v.1.lost (omega arith)) in let z : ◌≡◌ {A = ℕ} 0 1 = cc in absurd (omega arith)

        gone : (e : StoreError) → r.answer ≡ Err e → Dec (0 < (meaning r.after).grant) → (meaning r.after).grant ≡ 0
        gone e i (yes h) = let c = good_answer r.answer (v.1.good h) in let z : ◌≡◌ {A = ℕ} 0 1 = cc in absurd (omega arith)
        gone e i (no h) = omega arith

    -- turn k, unless an earlier one failed
    pub reaches : {m : Meaning} (r : Stepped (Unit {0}) M) (f : M → Stepped (Unit {0}) M) → Reached w k m r
        → (good r.after → 0 < (meaning r.after).grant → (meaning r.after).count ≡ m.count → Turns r.after (f r.after)) → Reached w (suc k) m (next r (λ _ s. f s))
    reaches {m} r f d goes = go r.answer d
      where
        go : (o : Answer (Unit {0})) → Reached w k m (stepped o r.after) → Reached w (suc k) m (next (stepped o r.after) (λ _ s. f s))
        go (Ok u) d = reached r.after (f r.after) d.moved (d.on u refl) (goes d.safe (d.on u refl) d.moved.count)
        go (Err e) d =
            record {
              safe = d.safe;
              moved = stopped w (d.lost e refl) d.moved;
              on = λ u i. let z : ◌≡◌ {A = ℕ} 0 1 = cc in absurd (omega arith);
              lost = λ _ _. d.lost e refl;
            }

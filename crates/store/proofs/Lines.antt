-- Lines of contents: thinning, and what survives a cut.
use Rattle.std.proofs.Common.{◌≡◌, ℕ, ◌+◌, ◌<◌, ◌≤◌, true, false, cond, eqb, List, [], ◌∷◌, ◌++◌, length, sym, refl, ap, ◌∙◌, inl, inr, arith, length-append}
use Rattle.store.specs.Steps.{Content}
use Rattle.store.specs.Meaning.{Meaning, Line, sum_below, held, contents, last_of, followed, extended, added, Thinned, Thins, Survives, Among, Sized}
use Rattle.store.proofs.Sums.{sum_plus, sum_same, sum_one, one_at}
use Rattle.store.specs.Meaning.Thinned.{none, keep, strike}

pub thinned_refl : (xs : List Content) → Thinned xs xs
thinned_refl [] = none
thinned_refl (x ∷ xs) = keep (thinned_refl xs)

pub thinned_trans : {xs ys zs : List Content} → Thinned xs ys → Thinned ys zs → Thinned xs zs
thinned_trans none q = q
thinned_trans (keep p) (keep q) = keep (thinned_trans p q)
thinned_trans (keep p) (strike q) = strike (thinned_trans p q)
thinned_trans (strike p) q = strike (thinned_trans p q)

pub thinned_front : {xs ys : List Content} (zs : List Content) → Thinned xs ys → Thinned (xs ++ zs) (ys ++ zs)
thinned_front zs none = thinned_refl zs
thinned_front zs (keep p) = keep (thinned_front zs p)
thinned_front zs (strike p) = strike (thinned_front zs p)

pub thinned_back : {xs ys : List Content} (zs : List Content) → Thinned xs ys → Thinned (zs ++ xs) (zs ++ ys)
thinned_back [] p = p
thinned_back (z ∷ zs) p = keep (thinned_back zs p)

-- all struck out
pub thinned_none : (xs : List Content) → Thinned xs []
thinned_none [] = none
thinned_none (x ∷ xs) = strike (thinned_none xs)

pub thinned_length : {xs ys : List Content} → Thinned xs ys → length ys ≤ length xs
thinned_length none = omega arith
thinned_length (keep p) = let h = thinned_length p in omega arith
thinned_length (strike p) = let h = thinned_length p in omega arith

pub last_append : (x : Content) (xs ys : List Content) → last_of x (xs ++ ys) ≡ last_of (last_of x xs) ys
last_append x [] ys = refl
last_append x (y ∷ xs) ys = last_append y xs ys

pub thins_refl : (l : Line) → Thins l l
thins_refl l = record { thinned = thinned_refl (contents l); shown = refl }

pub thins_same : (l l' : Line) → l' ≡ l → Thins l l'
thins_same l l' e = rw e (thins_refl l)

pub thins_trans : (l l' l'' : Line) → Thins l l' → Thins l' l'' → Thins l l''
thins_trans l l' l'' p q = record { thinned = thinned_trans p.thinned q.thinned; shown = q.shown ∙ p.shown }

pub thins_followed : (l l' : Line) (xs : List Content) → Thins l l' → Thins (followed l xs) (followed l' xs)
thins_followed l l' xs p =
    record {
      thinned = thinned_front xs p.thinned;
      shown =
          last_append l'.first l'.later xs
          ∙ ap (λ x. last_of x xs) p.shown
          ∙ sym (last_append l.first l.later xs);
    }

pub among_thinned : (x : Content) {xs ys : List Content} → Thinned xs ys → Among x ys → Among x xs
among_thinned x none a = a
among_thinned x (keep p) (inl e) = inl e
among_thinned x (keep p) (inr a) = inr (among_thinned x p a)
among_thinned x (strike p) a = inr (among_thinned x p a)

pub among_append : (x : Content) (xs ys : List Content) → Among x xs → Among x (xs ++ ys)
among_append x [] ys a = absurd a
among_append x (y ∷ xs) ys (inl e) = inl e
among_append x (y ∷ xs) ys (inr a) = inr (among_append x xs ys a)

pub survives_thinned : (l l' l'' : Line) → Thins l l' → Survives l' l'' → Survives l l''
survives_thinned l l' l'' p q = record { single = q.single; among = among_thinned l''.first p.thinned q.among }

pub survives_followed : (l l' : Line) (xs : List Content) → Survives l l' → Survives (followed l xs) l'
survives_followed l l' xs q =
    record { single = q.single; among = among_append l'.first (contents l) xs q.among }

pub sized_append : (xs ys : List Content) → Sized xs → Sized ys → Sized (xs ++ ys)
sized_append [] ys p q = q
sized_append (x ∷ xs) ys p q = (p.0, sized_append xs ys p.1 q)

pub added_thins : (line line' : ℕ → Line) (b : ℕ) (x : Content) (k : ℕ) → Thins (line k) (line' k) → Thins (added line b x k) (added line' b x k)
added_thins line line' b x k s =
    elim (eqb k b) as (λ t. Thins (cond t (extended (line k) x) (line k)) (cond t (extended (line' k) x) (line' k)))
    [ true ↦ thins_followed (line k) (line' k) (x ∷ []) s | false ↦ s ]

pub added_survives : (line : ℕ → Line) (b : ℕ) (x : Content) (k : ℕ) (l : Line) → Survives (line k) l → Survives (added line b x k) l
added_survives line b x k l s =
    elim (eqb k b) as (λ t. Survives (cond t (extended (line k) x) (line k)) l)
    [ true ↦ survives_followed (line k) l (x ∷ []) s | false ↦ s ]

-- a content put at block b is one more that is held
pub held_added : (m : Meaning) (b : ℕ) (x : Content) → b < m.count → sum_below m.count (λ k. length (added m.line b x k).later) ≡ held m + 1
held_added m b x h =
    sum_same m.count (λ k. length (added m.line b x k).later) (λ k. length (m.line k).later + one_at b k)
    (λ k _.
    elim (eqb k b) as (λ t. length (cond t (extended (m.line k) x) (m.line k)).later ≡ length (m.line k).later + cond t 1 0)
    [ true ↦ length-append (m.line k).later (x ∷ []) | false ↦ omega arith ])
    ∙ sum_plus m.count (λ k. length (m.line k).later) (one_at b)
    ∙ ap (λ n. held m + n) (sum_one m.count b h)

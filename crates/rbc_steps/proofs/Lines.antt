-- A line as a choice from its row: which contents of the row are left, by the number of the first.
use Rattle.std.proofs.Common.{◌≡◌, ℕ, zero, suc, ◌≤◌, List, [], ◌∷◌, ◌++◌, length, Some, sym, refl, ap, ◌∙◌, subst, inl, inr, suc-le-suc, zero-le, arith}
use Rattle.std.specs.List.{slice_get}
use Rattle.store.specs.Steps.{Content}
use Rattle.store.specs.Meaning.{Thinned, keep, strike, Among, last_of}
use Rattle.rbc_steps.specs.Writes.{latest}

-- ys is xs with some contents struck out, but not the last; the first that is left has number n
pub data Picked : ℕ → List Content → List Content → Type 0 where
  only : {x : Content} → Picked zero (x ∷ []) (x ∷ [])
  kept : {n : ℕ} {x : Content} {xs ys : List Content} → Picked n xs ys → Picked zero (x ∷ xs) (x ∷ ys)
  struck : {n : ℕ} {x : Content} {xs ys : List Content} → Picked n xs ys → Picked (suc n) (x ∷ xs) ys

pub picked_some : {n : ℕ} {xs : List Content} → Picked n xs [] → ⊥
picked_some (struck p) = picked_some p

picked_first : {n : ℕ} {xs ys : List Content} → Picked n xs ys → (y : Content) (rest : List Content) → ys ≡ y ∷ rest → slice_get xs n ≡ Some y
picked_first (only {x}) y rest e = let h : x ≡ y = cc in ap Some h
picked_first (kept {x} p) y rest e = let h : x ≡ y = cc in ap Some h
picked_first (struck p) y rest e = picked_first p y rest e

pub picked_stands : {n : ℕ} {xs ys : List Content} {y : Content} → Picked n xs (y ∷ ys) → slice_get xs n ≡ Some y
picked_stands {ys} {y} p = picked_first p y ys refl

latest_row : {n : ℕ} {xs ys : List Content} (x : Content) → Picked n xs ys → latest (x ∷ xs) ≡ latest xs
latest_row x only = refl
latest_row x (kept p) = refl
latest_row x (struck p) = refl

latest_line : {n : ℕ} {xs ys : List Content} (x : Content) → Picked n xs ys → latest (x ∷ ys) ≡ latest ys
latest_line x only = refl
latest_line x (kept p) = refl
latest_line x (struck p) = latest_line x p

pub picked_latest : {n : ℕ} {xs ys : List Content} → Picked n xs ys → latest xs ≡ latest ys
picked_latest only = refl
picked_latest (kept {x} p) = latest_row x p ∙ picked_latest p ∙ sym (latest_line x p)
picked_latest (struck {x} p) = latest_row x p ∙ picked_latest p

pub picked_more : {n : ℕ} {xs ys : List Content} (x : Content) → Picked n xs ys → Picked n (xs ++ (x ∷ [])) (ys ++ (x ∷ []))
picked_more x only = kept only
picked_more x (kept p) = kept (picked_more x p)
picked_more x (struck p) = struck (picked_more x p)

pub picked_alone : {n : ℕ} {xs : List Content} {y : Content} → Picked n xs (y ∷ []) → suc n ≡ length xs
picked_alone only = refl
picked_alone (kept p) = absurd (picked_some p)
picked_alone (struck p) = ap suc (picked_alone p)

-- a choice from a choice
pub picked_again : {n k : ℕ} {xs ys zs : List Content} → Picked n xs ys → Picked k ys zs → (i : ℕ) × (n ≤ i) × Picked i xs zs
picked_again {k} only q = (k, zero-le, q)
picked_again (kept p) only = absurd (picked_some p)
picked_again (kept p) (kept q) = let r = picked_again p q in (0, zero-le, kept r.2)
picked_again (kept p) (struck q) = let r = picked_again p q in (suc r.0, zero-le, struck r.2)
picked_again (struck p) q = let r = picked_again p q in (suc r.0, suc-le-suc r.1, struck r.2)

picked_last : (x : Content) (xs : List Content) → (n : ℕ) × Picked n (x ∷ xs) (last_of x xs ∷ [])
picked_last x [] = (0, only)
picked_last x (y ∷ ys) = let r = picked_last y ys in (suc r.0, struck r.1)

latest_thinned : {xs ys : List Content} {y : Content} (x : Content) → Thinned xs (y ∷ ys) → latest (x ∷ xs) ≡ latest xs
latest_thinned x (keep t) = refl
latest_thinned x (strike t) = refl

-- a thinned line that shows the same is a choice that has the last
pub picked_of : {xs ys : List Content} {y : Content} → Thinned xs (y ∷ ys) → latest (y ∷ ys) ≡ latest xs → (n : ℕ) × Picked n xs (y ∷ ys)
picked_of (keep {x} {xs} {ys = []} t) e = let r = picked_last x xs in (r.0, subst (λ (z : Content). Picked r.0 (x ∷ xs) (z ∷ [])) (sym e) r.1)
picked_of (keep {x} {xs} {ys = z ∷ zs} t) e = let r = picked_of t (e ∙ latest_thinned x t) in (0, kept r.1)
picked_of (strike {x} t) e = let r = picked_of t (e ∙ latest_thinned x t) in (suc r.0, struck r.1)

-- whichever content is left, its number is no lower
pub picked_among : {n : ℕ} {xs ys : List Content} {z : Content} → Picked n xs ys → Among z ys → (i : ℕ) × (n ≤ i) × (slice_get xs i ≡ Some z)
picked_among only (inl e) = (0, zero-le, ap Some (sym e))
picked_among only (inr a) = absurd a
picked_among (kept p) (inl e) = (0, zero-le, ap Some (sym e))
picked_among (kept p) (inr a) = let r = picked_among p a in (suc r.0, zero-le, r.2)
picked_among (struck p) a = let r = picked_among p a in (suc r.0, suc-le-suc r.1, r.2)

pub nth_more : {x : Content} (xs ys : List Content) (n : ℕ) → slice_get xs n ≡ Some x → slice_get (xs ++ ys) n ≡ Some x
nth_more [] ys n e = let z : ◌≡◌ {A = ℕ} 0 1 = cc in absurd (omega arith)
nth_more (x ∷ xs) ys zero e = e
nth_more (x ∷ xs) ys (suc n) e = nth_more xs ys n e

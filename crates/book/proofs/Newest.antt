-- The newest number of a content: as a row grows, and what it is.
use Rattle.std.proofs.Common.{◌≡◌, ℕ, zero, suc, ◌+◌, ◌-◌, ◌<◌, ◌≤◌, Bool, true, false, cond, List, [], ◌∷◌, ◌++◌, length, get_or, take, Some, refl, sym, ap, ◌∙◌, arith, zero-le}
use Rattle.std.specs.List.{slice_get}
use Rattle.std.specs.Str.{bytes_eq}
use Rattle.std.proofs.lemmas.List.{take_more, length-take}
use Rattle.std.proofs.lemmas.Bool.Decides.{not_from_Decides}
use Rattle.std.proofs.lemmas.Option.{none-some, same_Some}
use Rattle.std.proofs.lemmas.Slice.Eq.{bytes_eq-Decides}
use Rattle.store.specs.Steps.{Content}
use Rattle.book.specs.Numbers.{in_front, newest_equal, Newest}

newest_pushed : (x y : Content) (ys : List Content) → newest_equal x (ys ++ (y ∷ [])) ≡ cond (bytes_eq y x) (suc (length ys)) (newest_equal x ys)
unfolding newest_equal
newest_pushed x y [] = refl
newest_pushed x y (z ∷ zs) = ap (in_front (bytes_eq z x)) (newest_pushed x y zs) ∙ go (bytes_eq y x)
  where
    go : (same : Bool) → in_front (bytes_eq z x) (cond same (suc (length zs)) (newest_equal x zs)) ≡ cond same (suc (suc (length zs))) (in_front (bytes_eq z x) (newest_equal x zs))
    go true = refl
    go false = refl

-- the first i contents, and then one more
pub newest_more :
    (x : Content) (row : List Content) (i : ℕ) → i < length row
    → newest_equal x (take (i + 1) row) ≡ cond (bytes_eq (get_or row i []) x) (i + 1) (newest_equal x (take i row))
newest_more x row i h =
    let taken : suc (length (take i row)) ≡ i + 1 = omega (arith, length-take {A = Content}) in
    ap (newest_equal x) (take_more row i [] h)
    ∙ newest_pushed x (get_or row i []) (take i row)
    ∙ ap (λ (n : ℕ). cond (bytes_eq (get_or row i []) x) n (newest_equal x (take i row))) taken

-- nothing that is x from number n on, with one content more in front
still_later : {x : Content} (y : Content) (ys : List Content) (n : ℕ) → ((k : ℕ) → n ≤ k → slice_get ys k ≡ Some x → ⊥) → (k : ℕ) → suc n ≤ k → slice_get (y ∷ ys) k ≡ Some x → ⊥
still_later y ys n later zero h e = absurd (omega arith)
still_later y ys n later (suc k) h e = later k (omega arith) e

newest_front : (x y : Content) (ys : List Content) (n : ℕ) (same : Bool) → bytes_eq y x ≡ same → Newest x ys n → Newest x (y ∷ ys) (in_front same n)
newest_front x y ys (suc n) same e r =
    let number : suc (suc n) - 1 ≡ suc n = omega arith in
    let before : suc n - 1 ≡ n = omega arith in
    record {
      within = omega (arith, r.within);
      equal = λ h. ap (slice_get (y ∷ ys)) number ∙ ap (slice_get ys) (sym before) ∙ r.equal (omega arith);
      later = still_later y ys (suc n) r.later;
    }
newest_front x y ys zero true e r =
    record {
      within = omega arith;
      equal = λ h. ap Some ((bytes_eq-Decides y x).0 e);
      later = still_later y ys 0 r.later;
    }
newest_front x y ys zero false e r =
    record {
      within = zero-le;
      equal = λ h. absurd (omega arith);
      later = none_is_x;
    }
  where
    none_is_x : (k : ℕ) → zero ≤ k → slice_get (y ∷ ys) k ≡ Some x → ⊥
    none_is_x zero h i = not_from_Decides (bytes_eq y x) (bytes_eq-Decides y x) e (same_Some y x i)
    none_is_x (suc k) h i = r.later k zero-le i

pub newest_is : (x : Content) (row : List Content) → Newest x row (newest_equal x row)
unfolding newest_equal
newest_is x [] = record { within = zero-le; equal = λ h. absurd (omega arith); later = λ k h e. none-some x e }
newest_is x (y ∷ ys) = newest_front x y ys (newest_equal x ys) (bytes_eq y x) refl (newest_is x ys)

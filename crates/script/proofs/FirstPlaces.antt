-- The first place that passes a test.
use Rattle.std.proofs.Common.{◌≡◌, ℕ, ◌+◌, ◌-◌, ◌<◌, ◌≤◌, Bool, true, false, cond, ltb, not, List, [], ◌∷◌, length, take, drop, Some, None, refl, ap, ◌∙◌, arith, ⊎_elim}
use Rattle.std.specs.Prelude.{unwrap_or}
use Rattle.std.specs.List.{position, position_or_len, slice_split}
use Rattle.std.proofs.lemmas.List.Sums.{prefix_len-le-length, fails_before_first}
use Rattle.std.proofs.lemmas.List.Splits.{slice_split_first, slice_split_none}
use Rattle.std.proofs.lemmas.List.Elements.{All-from_get_or}
use Rattle.std.proofs.lemmas.List.{take_rest}
use Rattle.std.proofs.lemmas.Bool.{cond-true, cond-false, lt-ltb, le-ltb, ltb-true, ltb-false, cases_lt}

pub place_le : (p : ℕ → Bool) (xs : List ℕ) → position_or_len p xs ≤ length xs
place_le p xs = prefix_len-le-length (λ x. not (p x)) xs

pub place_or_end : (p : ℕ → Bool) (xs : List ℕ) → unwrap_or (position p xs) (length xs) ≡ position_or_len p xs
place_or_end p xs =
    let n = position_or_len p xs in
    ⊎_elim
    (λ l. ap (λ o. unwrap_or o (length xs)) (cond-true (ltb n (length xs)) (Some n) None (lt-ltb n (length xs) l)))
    (λ l. ap (λ o. unwrap_or o (length xs)) (cond-false (ltb n (length xs)) (Some n) None (le-ltb n (length xs) l)) ∙ (let h = place_le p xs in omega arith))
    (cases_lt n (length xs))

pub place_some : (p : ℕ → Bool) (xs : List ℕ) (i : ℕ) → Some i ≡ position p xs → (position_or_len p xs ≡ i) × (i < length xs)
place_some p xs i e = go (ltb n (length xs)) refl e
  where
    n : ℕ
    n = position_or_len p xs

    go : (t : Bool) → ltb n (length xs) ≡ t → Some i ≡ cond t (Some n) None → (n ≡ i) × (i < length xs)
    go true l e = let same : n ≡ i = cc in (same, rw (← same) (ltb-true n (length xs) l))
    go false l e = absurd (let z : ◌≡◌ {A = ℕ} 0 1 = cc in omega arith)

pub place_none : (p : ℕ → Bool) (xs : List ℕ) → None ≡ position p xs → length xs ≤ position_or_len p xs
place_none p xs e = go (ltb n (length xs)) refl e
  where
    n : ℕ
    n = position_or_len p xs

    go : (t : Bool) → ltb n (length xs) ≡ t → None ≡ cond t (Some n) None → length xs ≤ n
    go true l e = absurd (let z : ◌≡◌ {A = ℕ} 0 1 = cc in omega arith)
    go false l e = ltb-false n (length xs) l

-- the parts of a list that is cut at the first place, or at none
pub parts_some : (p : ℕ → Bool) (xs : List ℕ) (i : ℕ) → Some i ≡ position p xs → slice_split p xs ≡ take i xs ∷ slice_split p (take (length xs - (i + 1)) (drop (i + 1) xs))
parts_some p xs i e =
    let h = place_some p xs i e in
    let same = h.0 in
    rw (take_rest xs (i + 1), ← same) (slice_split_first p xs 0 (rw same (h.1)))

pub parts_none : (p : ℕ → Bool) (xs : List ℕ) → None ≡ position p xs → slice_split p xs ≡ xs ∷ []
parts_none p xs e =
    let h = place_none p xs e in
    slice_split_none p xs (All-from_get_or (λ x. p x ≡ false) xs 0 (λ k l. fails_before_first p xs k 0 (omega arith)))

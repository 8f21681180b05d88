-- The blocks found on a medium.
use Rattle.std.proofs.Common.{◌≡◌, ℕ, zero, suc, ◌+◌, ◌<◌, Bool, false, List, ◌++◌, cond, [], ◌∷◌, length, sym, ap, ap₂, ◌∙◌, refl, arith, add-one}
use Rattle.std.specs.Prelude.{◌==◌}
use Rattle.store.specs.Steps.{Content}
use Rattle.book.specs.Numbers.{newest_equal}
use Rattle.rbc_steps.specs.Writes.{Rows}
use Rattle.outcomes.specs.Found.{Found, found_at, found_below}

-- of the first n blocks, only their rows matter
pub found_alike : (medium : ℕ → Content) (rows rows' : Rows) (n : ℕ) → ((b : ℕ) → b < n → rows b ≡ rows' b) → found_below medium rows n ≡ found_below medium rows' n
found_alike medium rows rows' zero same = refl
found_alike medium rows rows' (suc n) same =
    ap₂ (λ (xs ys : List Found). xs ++ ys) (found_alike medium rows rows' n (λ b h. same b (omega arith)))
    (ap (λ (row : List Content). found_at medium (λ b. row) n) (same n (omega arith)))

abbrev entry : ℕ → Content → ℕ → ℕ → Found
entry n x f k = record { block = n; content = x; found = f; latest = k }

-- one block more, with a row
pub found_next :
    (medium : ℕ → Content) (rows : Rows) (n : ℕ) (x : Content) (row : List Content) (f k : ℕ) (found : List Found)
    → x ≡ medium n → row ≡ rows n → (length row == 0) ≡ false → f ≡ newest_equal x row → k ≡ length row
    → found ≡ found_below medium rows n → found ++ (record { block = n; content = x; found = f; latest = k } ∷ []) ≡ found_below medium rows (n + 1)
found_next medium rows n x row f k found e r some p q before =
    ap₂ (λ (xs : List Found) (y : Found). xs ++ (y ∷ [])) before
    (ap₂ (entry n x) p q ∙ ap₂ (λ (y : Content) (ys : List Content). entry n y (newest_equal y ys) (length ys)) e r)
    ∙ ap
    (λ (none : Bool). found_below medium rows n ++ cond none [] (entry n (medium n) (newest_equal (medium n) (rows n)) (length (rows n)) ∷ []))
    (sym (ap (λ (ys : List Content). length ys == 0) (sym r) ∙ some))
    ∙ ap (found_below medium rows) (sym (add-one n))

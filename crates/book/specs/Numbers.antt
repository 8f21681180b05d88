-- Numbers: the newest number of a content in a row.
use Rattle.std.specs.Prelude.{◌≡◌, ℕ, zero, suc, ◌-◌, ◌<◌, ◌≤◌, Bool, cond, List, [], ◌∷◌, length, Some}
use Rattle.std.specs.List.{slice_get}
use Rattle.std.specs.Str.{bytes_eq}
use Rattle.store.specs.Steps.{Content}

-- The newest number of a row, once a content is put in front of it: one more if there is one, else 1 if it is the same.
abbrev pub in_front : Bool → ℕ → ℕ
in_front same zero = cond same 1 0
in_front same (suc n) = suc (suc n)

-- the newest number whose content equals x, 0 if none does
unfoldable pub newest_equal : Content → List Content → ℕ
newest_equal x [] = 0
newest_equal x (y ∷ ys) = in_front (bytes_eq y x) (newest_equal x ys)

-- n is the newest number of x in the row: x has this number, and nothing later is x; with 0 nothing in the row is
pub record Newest (x : Content) (row : List Content) (n : ℕ) : Type 0 where
  pub within : n ≤ length row
  pub equal : 0 < n → slice_get row (n - 1) ≡ Some x
  pub later : (k : ℕ) → n ≤ k → slice_get row k ≡ Some x → ⊥

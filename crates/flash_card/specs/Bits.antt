-- Words of 64 bits as a row of marks.
use Rattle.std.specs.Prelude.{◌≡◌, ℕ, ◌*◌, ◌/◌, ◌%◌, ◌≤◌, Bool, false, List, length, map, ◌==◌, slice_index_or}
use Rattle.std.specs.Int.{bit_at}
use Rattle.std.specs.List.{range_with_len}

-- bit i is set, counted from the lowest of the first word
abbrev pub is_set : List ℕ → ℕ → Bool
is_set words i = bit_at (slice_index_or words (i / 64) 0) (i % 64) == 1

-- the first n bits
unfoldable pub row : ℕ → List ℕ → List Bool
row n words = map (is_set words) (range_with_len 0 n)

-- The words have room for n bits, and no bit from bit n on is set.
pub record Holds (n : ℕ) (words : List ℕ) : Type 0 where
  pub room : n ≤ length words * 64
  pub unset : (i : ℕ) → n ≤ i → is_set words i ≡ false

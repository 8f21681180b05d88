-- Parts of a list of bytes, and numbers of four bytes, the highest first.
use Rattle.std.specs.Prelude.{ℕ, ◌+◌, ◌*◌, ◌/◌, ◌%◌, List, [], ◌∷◌, ◌++◌, length, take, drop, slice_index}

-- n bytes from place `at`
abbrev pub part : List ℕ → ℕ → ℕ → List ℕ
part bytes at n = take n (drop at bytes)

-- the bytes once xs stand at place `at`
abbrev pub placed : List ℕ → ℕ → List ℕ → List ℕ
placed bytes at xs = take at bytes ++ (xs ++ drop (at + length xs) bytes)

abbrev pub from_be32 : List ℕ → ℕ
from_be32 xs = slice_index xs 0 * 16777216 + slice_index xs 1 * 65536 + slice_index xs 2 * 256 + slice_index xs 3

abbrev pub to_be32 : ℕ → List ℕ
to_be32 n = (n / 16777216 % 256) ∷ (n / 65536 % 256) ∷ (n / 256 % 256) ∷ (n % 256) ∷ []

-- Fields in a host's bytes. Numbers of several bytes have the highest byte first.
use Rattle.std.specs.Prelude.{ℕ, ◌+◌, ◌*◌, Bool, not, List, [], ◌∷◌, ◌==◌, bit_and, slice_index}
use Rattle.store.specs.Bytes.{from_be32}

abbrev pub byte : List ℕ → ℕ → ℕ
byte xs i = slice_index xs i

-- is the bit of this weight set?
abbrev pub bit : ℕ → ℕ → Bool
bit weight b = not (bit_and b weight == 0)

abbrev pub be16 : List ℕ → ℕ → ℕ
be16 xs i = byte xs i * 256 + byte xs (i + 1)

abbrev pub be32 : List ℕ → ℕ → ℕ
be32 xs i = from_be32 (byte xs i ∷ byte xs (i + 1) ∷ byte xs (i + 2) ∷ byte xs (i + 3) ∷ [])

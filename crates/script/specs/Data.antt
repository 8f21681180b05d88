-- The data of a word: parts joined by `+`, each in hex digits or a repeated byte.
use Rattle.std.specs.Prelude.{ℕ, ◌==◌, if◌then◌else◌, nat_le, List, [], ◌∷◌, ◌++◌, length, replicate, Option, Some, None}
use Rattle.script.specs.Parts.{parts}
use Rattle.script.specs.Digits.{◌>>=◌, number_between, hex_byte, hex_bytes}

-- 65535 blocks of 512 bytes
abbrev pub most_bytes : ℕ
most_bytes = 33553920

-- a byte in two hex digits, so many times
abbrev pub repeated : ℕ → ℕ → List ℕ → Option (List ℕ)
repeated a b count = do
  byte ← hex_byte a b
  n ← number_between 0 most_bytes count
  Some (replicate n byte)

-- a repeated byte has an `x` (120) behind its two digits
abbrev pub part : List ℕ → Option (List ℕ)
part [] = None
part (a ∷ []) = None
part (a ∷ b ∷ []) = hex_bytes (a ∷ b ∷ [])
part (a ∷ b ∷ c ∷ cs) = if c == 120 then repeated a b cs else hex_bytes (a ∷ b ∷ c ∷ cs)

abbrev pub joined : List (List ℕ) → Option (List ℕ)
joined [] = Some []
joined (p ∷ ps) = do
  bytes ← part p
  others ← joined ps
  Some (bytes ++ others)

abbrev pub at_most : ℕ → List ℕ → Option (List ℕ)
at_most n bytes = if nat_le (length bytes) n then Some bytes else None

-- `+` is 43
abbrev pub data_bytes : List ℕ → Option (List ℕ)
data_bytes word = joined (parts 43 word) >>= at_most most_bytes

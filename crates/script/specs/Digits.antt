-- Digits, and the numbers and bytes that they write.
use Rattle.std.specs.Prelude.{ℕ, ◌+◌, ◌*◌, ◌&&◌, nat_lt, nat_le, if◌then◌else◌, List, [], ◌∷◌, Option, Some, None, option_and_then}
use Rattle.std.specs.Char.{digit_value}

infixl 10 ◌>>=◌
abbrev pub ◌>>=◌ : {A B : Type 0} → Option A → (A → Option B) → Option B
o >>= f = option_and_then f o

-- the value of a digit below the radix: 10 to 15 for a to f, of either case
abbrev pub digit : ℕ → ℕ → Option ℕ
digit radix c = if nat_lt (digit_value c) radix then Some (digit_value c) else None

-- the number that decimal digits write behind those of n
abbrev pub number_after : ℕ → List ℕ → Option ℕ
number_after n [] = Some n
number_after n (c ∷ cs) = do
  d ← digit 10 c
  number_after (10 * n + d) cs

-- one digit or more, and nothing else
abbrev pub decimal : List ℕ → Option ℕ
decimal [] = None
decimal (c ∷ cs) = number_after 0 (c ∷ cs)

abbrev pub between : ℕ → ℕ → ℕ → Option ℕ
between least most n = if nat_le least n && nat_le n most then Some n else None

-- a decimal number from least to most
abbrev pub number_between : ℕ → ℕ → List ℕ → Option ℕ
number_between least most word = decimal word >>= between least most

-- two digits, the high one first
abbrev pub hex_byte : ℕ → ℕ → Option ℕ
hex_byte a b = do
  high ← digit 16 a
  low ← digit 16 b
  Some (16 * high + low)

-- two digits for each byte
abbrev pub hex_bytes : List ℕ → Option (List ℕ)
hex_bytes [] = Some []
hex_bytes (a ∷ []) = None
hex_bytes (a ∷ b ∷ digits) = do
  byte ← hex_byte a b
  bytes ← hex_bytes digits
  Some (byte ∷ bytes)

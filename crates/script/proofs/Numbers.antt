-- Digits read from the left: a number that has passed the bound stays past it, and a pair of hex digits is one byte more.
use Rattle.std.proofs.Common.{◌≡◌, ℕ, suc, ◌+◌, ◌-◌, ◌*◌, ◌<◌, ◌≤◌, List, [], ◌∷◌, ◌++◌, length, get_or, take, drop, Option, Some, None, refl, ap, sym, ◌∙◌, arith, append_assoc}
use Rattle.std.proofs.lemmas.List.{take_all}
use Rattle.std.specs.Option.{option_map}
use Rattle.script.specs.Digits.{◌>>=◌, digit, number_after, decimal, between, number_between, hex_byte, hex_bytes}

between_past : (n : ℕ) → 4294967295 < n → between 0 4294967295 n ≡ None
between_past n past = grind arith

between_in : (n : ℕ) → n ≤ 4294967295 → between 0 4294967295 n ≡ Some n
between_in n within = grind arith

over : (n : ℕ) (ds : List ℕ) → 4294967295 < n → (number_after n ds >>= between 0 4294967295) ≡ None
over n [] past = between_past n past
over n (c ∷ cs) past =
    elim (digit 10 c) as (λ o. ((o >>= λ d. number_after (10 * n + d) cs) >>= between 0 4294967295) ≡ None)
    [ Some d ↦ over (10 * n + d) cs (omega arith) | None ↦ refl ]

-- one more digit takes the number past the bound
pub stops :
    (n d : ℕ) (rest word : List ℕ) → number_after n rest ≡ decimal word → 1 ≤ length rest
    → digit 10 (get_or rest 0 0) ≡ Some d → 4294967295 < 10 * n + d → None ≡ number_between 0 4294967295 word
stops n d [] word so_far some is past = absurd (omega arith)
stops n d (c ∷ cs) word so_far some is past =
    rw (← so_far) (rw is (sym (over (10 * n + d) cs past)))

-- the whole word is read
pub ends :
    (n : ℕ) (rest word : List ℕ) → number_after n rest ≡ decimal word → length rest < 1 → n < 4294967296 → Some n ≡ number_between 0 4294967295 word
ends n [] word so_far none below = rw (← so_far) (sym (between_in n (omega arith)))
ends n (c ∷ cs) word so_far none below = absurd (omega arith)

-- a byte before the others
before_others : (front : List ℕ) (byte : ℕ) (others : Option (List ℕ)) → option_map (λ bytes. (front ++ byte ∷ []) ++ bytes) others ≡ option_map (λ bytes. front ++ bytes) (others >>= λ bytes. Some (byte ∷ bytes))
before_others front byte None = refl
before_others front byte (Some bytes) = ap Some (append_assoc front (byte ∷ []) bytes)

-- a pair of hex digits is one byte more
pub pair :
    (front digits whole : List ℕ) (byte : ℕ) → option_map (λ bytes. front ++ bytes) (hex_bytes digits) ≡ hex_bytes whole → 2 ≤ length digits
    → hex_byte (get_or digits 0 0) (get_or digits 1 0) ≡ Some byte
    → option_map (λ bytes. (front ++ byte ∷ []) ++ bytes) (hex_bytes (take (length digits - 2) (drop 2 digits))) ≡ hex_bytes whole
pair front [] whole byte so_far some is = absurd (omega arith)
pair front (a ∷ []) whole byte so_far some is = absurd (omega arith)
pair front (a ∷ b ∷ digits) whole byte so_far some is =
    let all : take (suc (suc (length digits)) - 2) digits ≡ digits = take_all (suc (suc (length digits)) - 2) digits (omega arith) in
    rw all (before_others front byte (hex_bytes digits) ∙ rw is at so_far)

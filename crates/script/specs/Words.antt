-- The words of a line, set apart by spaces and tabs.
use Rattle.std.specs.Prelude.{ℕ, ◌==◌, ◌||◌, Bool, if◌then◌else◌, List, [], ◌∷◌, Option, Some, None, drop}
use Rattle.std.specs.List.{before_first, position_or_len}

abbrev pub is_blank : ℕ → Bool
is_blank b = b == 32 || b == 9

-- without the blanks in front
abbrev pub unindented : List ℕ → List ℕ
unindented [] = []
unindented (b ∷ bs) = if is_blank b then unindented bs else b ∷ bs

-- the bytes up to the first blank, and what stands from there on
abbrev pub cut : List ℕ → Option (List ℕ × List ℕ)
cut [] = None
cut (b ∷ bs) = Some (before_first is_blank (b ∷ bs), drop (position_or_len is_blank (b ∷ bs)) (b ∷ bs))

-- the first word, and what follows it
abbrev pub next_word : List ℕ → Option (List ℕ × List ℕ)
next_word line = cut (unindented line)

-- Words: what the words after the program's name ask for.
use Rattle.std.specs.Prelude.{◌≡◌, ℕ, ◌≤◌, List, [], ◌∷◌, length, drop, Option, None, Some, Result, Ok}
use Rattle.std.specs.Str.Parse.{ParsesUnsigned}
use Rattle.std.specs.String.{string_bytes}
use Rattle.std.specs.declared.alloc.Global.{Global}
use Rattle.std.specs.declared.string.String.{String}
use Rattle.logday_options.specs.declared.Options.{Options}

-- the first of the words, if there is one
abbrev pub first : List (String Global) → Option (String Global)
first [] = None
first (w ∷ ws) = Some w

-- the number that a word says, or the default if there is no word
abbrev pub Says : {E : Type 0} → ℕ → Option (String Global) → Result ℕ E → Type 0
Says default None r = r ≡ Ok default
Says default (Some w) r = ParsesUnsigned 32 10 (string_bytes w) r

-- the bytes of --help
abbrev pub help : List ℕ
help = 45 ∷ 45 ∷ 104 ∷ 101 ∷ 108 ∷ 112 ∷ []

abbrev pub HelpAsked : List (String Global) → Type 0
HelpAsked [] = ⊥
HelpAsked (w ∷ ws) = string_bytes w ≡ help

-- At most three numbers, in order: how long the shift lasts, in which seconds the brake acts, and the grant.
pub record ShiftAsked (words : List (String Global)) (o : Options) : Type 0 where
  pub few : length words ≤ 3
  pub seconds : Says {E = Unit {0}} 24 (first words) (Ok o.shift.seconds)
  pub brake_every : Says {E = Unit {0}} 8 (first (drop 1 words)) (Ok o.shift.brake_every)
  pub stores : Says {E = Unit {0}} 12 (first (drop 2 words)) (Ok o.stores)
  pub day : o.shift.seconds ≤ 86400

-- none: help is asked for
abbrev pub Asked : List (String Global) → Option Options → Type 0
Asked words None = HelpAsked words
Asked words (Some o) = ShiftAsked words o

-- What the options give, word by word.
use Rattle.std.specs.Prelude.{ℕ, ◌≤◌, IfSome, List, [], ◌∷◌, Option, Some, None, Result, Ok, Err}
use Rattle.script.specs.Digits.{number_between}
use Rattle.recorder_options.specs.Faults as faults
use Rattle.recorder_options.specs.Faults.{Fault, ◌>>=◌, meant}
use Rattle.recorder_options.specs.Names.{option_named}
use Rattle.recorder_options.specs.declared.kinds.Mode.{Mode}
use Rattle.recorder_options.specs.declared.kinds.Mode.TheVariants as modes
use Rattle.recorder_options.specs.declared.kinds.Setting.{Setting}
use Rattle.recorder_options.specs.declared.kinds.Setting.TheVariants.{Blocks, Pages, Grant}
use Rattle.recorder_options.specs.declared.kinds.Name.{Name}
use Rattle.recorder_options.specs.declared.kinds.Name.TheVariants as names
use Rattle.recorder_options.specs.declared.error.Expected.TheVariants as expected
use Rattle.recorder_options.specs.declared.given.Given.{Given}

abbrev pub nothing_given : Given
nothing_given = record { blocks = None; pages = None; grant = None; mode = modes.Play; awaited = None }

-- the blocks are in range
abbrev pub InRange : Given → Type 0
InRange g = IfSome g.blocks (λ n. (1 ≤ n) × (n ≤ 16777216))

abbrev pub number : Given → Setting → Option ℕ
number g Blocks = g.blocks
number g Pages = g.pages
number g Grant = g.grant

abbrev pub awaiting : Given → Setting → Option ℕ → Result Given Fault
awaiting g setting None = Ok (record g { awaited = Some setting })
awaiting g setting (Some n) = Err (faults.twice (names.Number setting))

abbrev pub map_after : Mode → Result Mode Fault
map_after modes.Play = Ok modes.Map
map_after modes.Map = Err (faults.twice names.Map)
map_after modes.Serve = Err faults.map_with_serve

abbrev pub serve_after : Mode → Result Mode Fault
serve_after modes.Play = Ok modes.Serve
serve_after modes.Map = Err faults.map_with_serve
serve_after modes.Serve = Err (faults.twice names.Serve)

-- a name after what was given before
abbrev pub named : Given → Name → Result Given Fault
named g (names.Number setting) = awaiting g setting (number g setting)
named g names.Map = do
  mode ← map_after g.mode
  Ok (record g { mode = mode })
named g names.Serve = do
  mode ← serve_after g.mode
  Ok (record g { mode = mode })

abbrev pub value_of : Setting → List ℕ → Option ℕ
value_of Blocks word = number_between 1 16777216 word
value_of Pages word = number_between 2 4294967295 word
value_of Grant word = number_between 0 4294967295 word

abbrev pub with_number : Given → Setting → ℕ → Given
with_number g Blocks n = record g { blocks = Some n; awaited = None }
with_number g Pages n = record g { pages = Some n; awaited = None }
with_number g Grant n = record g { grant = Some n; awaited = None }

-- the value of a setting
abbrev pub valued : Given → Setting → List ℕ → Result Given Fault
valued g setting word = do
  n ← meant (expected.Value setting) word (value_of setting word)
  Ok (with_number g setting n)

abbrev pub read_after : Option Setting → Given → List ℕ → Result Given Fault
read_after (Some setting) g word = valued g setting word
read_after None g word = do
  name ← meant expected.Option word (option_named word)
  named g name

unfoldable pub read : Given → List ℕ → Result Given Fault
read g word = read_after g.awaited g word

abbrev pub ended_after : Option Setting → Given → Result Given Fault
ended_after (Some setting) g = Err (faults.ended (expected.Value setting))
ended_after None g = Ok g

abbrev pub ended : Given → Result Given Fault
ended g = ended_after g.awaited g

abbrev pub given : Given → List (List ℕ) → Result Given Fault
given g [] = ended g
given g (word ∷ words) = do
  h ← read g word
  given h words

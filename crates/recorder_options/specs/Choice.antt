-- What the words of a command line ask for.
use Rattle.std.specs.Prelude.{ℕ, ◌+◌, Bool, List, [], ◌∷◌, nat_le, codes, if◌then◌else◌, Option, Some, None, unwrap_or, Result, Ok, Err}
use Rattle.std.specs.Str.{bytes_eq}
use Rattle.std.specs.List.{list_any}
use Rattle.recorder_options.specs.Faults as faults
use Rattle.recorder_options.specs.Faults.{Fault, ◌>>=◌}
use Rattle.recorder_options.specs.Order.{Stack, order_of}
use Rattle.recorder_options.specs.Given.{given, nothing_given}
use Rattle.recorder_options.specs.declared.kinds.Medium.{Medium}
use Rattle.recorder_options.specs.declared.kinds.Medium.TheVariants.{Flat, Card}
use Rattle.recorder_options.specs.declared.kinds.Mode.{Mode}
use Rattle.recorder_options.specs.declared.error.Expected.TheVariants as expected
use Rattle.recorder_options.specs.declared.given.Given.{Given}
use Rattle.recorder_options.specs.declared.options.Options.{Options}
use Rattle.recorder_options.specs.declared.options.Asked.{Asked}
use Rattle.recorder_options.specs.declared.options.Asked.TheVariants as asks

pub record Choice : Type 0 where
  pub pile : Stack
  pub blocks : ℕ
  pub pages : ℕ
  pub grant : ℕ
  pub mode : Mode

-- a run, or help
pub data Wish : Type 0 where
  help : Wish
  run : Choice → Wish

abbrev pub choice : Options → Choice
choice o = record { pile = record { medium = o.medium; caches = o.caches.items }; blocks = o.blocks; pages = o.pages; grant = o.grant; mode = o.mode }

abbrev pub asked : Asked → Wish
asked asks.Help = help
asked (asks.Run o) = run (choice o)

-- at least one page more than blocks, two more where nothing is said; and nothing is said of a flat medium's
abbrev pub pages_of : Medium → ℕ → Option ℕ → Result ℕ Fault
pages_of Flat blocks (Some pages) = Err faults.pages_with_flat
pages_of Card blocks (Some pages) = if nat_le pages blocks then Err (faults.few_pages pages (blocks + 1)) else Ok pages
pages_of medium blocks None = Ok (blocks + 2)

abbrev pub choice_of : Stack → Given → Result Choice Fault
choice_of pile g =
    let blocks = unwrap_or g.blocks 10 in
    pages_of pile.medium blocks g.pages
    >>= λ pages. Ok (record { pile = pile; blocks = blocks; pages = pages; grant = unwrap_or g.grant 1000000; mode = g.mode })

abbrev pub is_help : List ℕ → Bool
is_help word = bytes_eq word (codes "--help")

abbrev pub run_of : List (List ℕ) → Result Wish Fault
run_of [] = Err (faults.ended expected.Order)
run_of (order ∷ options) = do
  pile ← order_of order
  g ← given nothing_given options
  c ← choice_of pile g
  Ok (run c)

-- help wherever its word stands
abbrev pub asked_by : List (List ℕ) → Result Wish Fault
asked_by words = if list_any is_help words then Ok help else run_of words

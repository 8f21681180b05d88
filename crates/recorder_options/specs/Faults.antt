-- What is wrong with the words of a command line.
use Rattle.std.specs.Prelude.{◌≡◌, ℕ, List, Option, Some, None, Result, Ok, Err}
use Rattle.std.specs.Str.Lossy.{utf8_lossy}
use Rattle.std.specs.String.{string_bytes}
use Rattle.recorder_options.specs.declared.kinds.Name.{Name}
use Rattle.recorder_options.specs.declared.error.Expected.{Expected}
use Rattle.recorder_options.specs.declared.error.OptionsError.{OptionsError}
use Rattle.recorder_options.specs.declared.error.OptionsError.TheVariants as errors

pub data Fault : Type 0 where
  -- the word in the place of what was expected
  found : Expected → List ℕ → Fault
  -- the words ended there
  ended : Expected → Fault
  too_many_caches : Fault
  twice : Name → Fault
  map_with_serve : Fault
  pages_with_flat : Fault
  -- the pages, and how many there are to be at least
  few_pages : ℕ → ℕ → Fault

infixl 10 ◌>>=◌
abbrev pub ◌>>=◌ : {A B : Type 0} → Result A Fault → (A → Result B Fault) → Result B Fault
(Ok x) >>= f = f x
(Err e) >>= f = Err e

-- what a word stands for
abbrev pub meant : {A : Type 0} → Expected → List ℕ → Option A → Result A Fault
meant e word None = Err (found e (utf8_lossy word))
meant e word (Some a) = Ok a

-- what was returned, seen by view, is what is read; or it is its fault, or want of memory
abbrev pub Fails : {Y : Type 0} → OptionsError → Result Y Fault → Type 0
Fails (errors.Found e s) read = read ≡ Err (found e (string_bytes s))
Fails (errors.Ended e) read = read ≡ Err (ended e)
Fails errors.TooManyCaches read = read ≡ Err too_many_caches
Fails (errors.Twice name) read = read ≡ Err (twice name)
Fails errors.MapWithServe read = read ≡ Err map_with_serve
Fails errors.PagesWithFlat read = read ≡ Err pages_with_flat
Fails (errors.FewPages pages least) read = read ≡ Err (few_pages pages least)
Fails (errors.Memory a) read = Unit {0}

abbrev pub Gives : {X Y : Type 0} → (X → Y) → Result X OptionsError → Result Y Fault → Type 0
Gives view (Ok x) read = read ≡ Ok (view x)
Gives view (Err e) read = Fails e read

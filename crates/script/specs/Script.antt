-- What the lines of a script ask for, or the first malformed line with its fault.
use Rattle.std.specs.Prelude.{◌≡◌, ℕ, ◌+◌, List, [], ◌∷◌, map, Result, Ok, Err}
use Rattle.std.specs.String.{string_bytes}
use Rattle.script.specs.Parts.{parts}
use Rattle.script.specs.Lines.{Fault, found, ended, Asked, asked, line_at}
use Rattle.script.specs.declared.error.LineError.{LineError}
use Rattle.script.specs.declared.error.LineError.TheVariants as errors
use Rattle.script.specs.declared.script_text.ScriptError.{ScriptError}
use Rattle.script.specs.declared.line.Line.{Line}

pub record Malformed : Type 0 where
  pub line : ℕ
  pub fault : Fault

-- what line n asks for, before what the lines after it ask for
abbrev pub before : ℕ → Result Asked Fault → Result (List Asked) Malformed → Result (List Asked) Malformed
before n (Err f) others = Err (record { line = n; fault = f })
before n (Ok a) (Err m) = Err m
before n (Ok a) (Ok others) = Ok (a ∷ others)

-- what the lines from number n on ask for
abbrev pub lines_from : ℕ → List (List ℕ) → Result (List Asked) Malformed
lines_from n [] = Ok []
lines_from n (line ∷ lines) = before n (line_at line) (lines_from (n + 1) lines)

-- lines end with a line feed (10), and are numbered from 1
abbrev pub script : List ℕ → Result (List Asked) Malformed
script text = lines_from 1 (parts 10 text)

-- what was returned is what is read; or it is the first malformed line, or want of memory
abbrev pub FailsAt : ℕ → LineError → Result (List Asked) Malformed → Type 0
FailsAt n (errors.Found e s) read = read ≡ Err (record { line = n; fault = found e (string_bytes s) })
FailsAt n (errors.Ended e) read = read ≡ Err (record { line = n; fault = ended e })
FailsAt n (errors.Memory a) read = Unit {0}

abbrev pub Tells : Result (List Line) ScriptError → Result (List Asked) Malformed → Type 0
Tells (Ok lines) read = read ≡ Ok (map asked lines)
Tells (Err e) read = FailsAt e.line e.error read

-- What a line of a script asks for, or its first fault.
use Rattle.std.specs.Prelude.{◌≡◌, ℕ, Bool, false, List, [], ◌∷◌, ◌==◌, if◌then◌else◌, codes, Option, Some, None, Result, Ok, Err}
use Rattle.std.specs.Str.{bytes_eq}
use Rattle.std.specs.Str.Lossy.{utf8_lossy}
use Rattle.std.specs.String.{string_bytes}
use Rattle.script.specs.Words.{next_word}
use Rattle.script.specs.Digits.{number_between, hex_bytes}
use Rattle.script.specs.Data.{most_bytes, data_bytes}
use Rattle.script.specs.declared.error.Expected.{Expected}
use Rattle.script.specs.declared.error.Expected.TheVariants.{Call, Host, Cdb, DataOut, DataIn, More, End}
use Rattle.script.specs.declared.error.LineError.{LineError}
use Rattle.script.specs.declared.error.LineError.TheVariants as errors
use Rattle.script.specs.declared.line.CommandLine.{CommandLine}
use Rattle.script.specs.declared.line.Line.{Line}
use Rattle.script.specs.declared.line.Line.TheVariants as lines
use Rattle.script.specs.declared.line.Verb.{Verb}
use Rattle.script.specs.declared.line.Verb.TheVariants as verbs

pub data Fault : Type 0 where
  -- the word in the place of what was expected
  found : Expected → List ℕ → Fault
  -- the line ended there
  ended : Expected → Fault

-- a COMMAND
pub record Command : Type 0 where
  pub host : ℕ
  pub cdb : List ℕ
  pub data_out : List ℕ
  pub data_in : ℕ

pub data Asked : Type 0 where
  nothing : Asked
  a_reset : Asked
  a_command : Command → Asked

infixl 10 ◌>>=◌
abbrev pub ◌>>=◌ : {A B : Type 0} → Result A Fault → (A → Result B Fault) → Result B Fault
(Ok x) >>= f = f x
(Err e) >>= f = Err e

abbrev pub required : Expected → Option (List ℕ × List ℕ) → Result (List ℕ × List ℕ) Fault
required e None = Err (ended e)
required e (Some w) = Ok w

-- the next word, and what follows it
abbrev pub word_at : Expected → List ℕ → Result (List ℕ × List ℕ) Fault
word_at e line = required e (next_word line)

-- what a word stands for
abbrev pub meant : {A : Type 0} → Expected → List ℕ → Option A → Result A Fault
meant e word None = Err (found e (utf8_lossy word))
meant e word (Some a) = Ok a

-- what the next word stands for, and what follows it
unfoldable pub field : {A : Type 0} → Expected → (List ℕ → Option A) → List ℕ → Result (A × List ℕ) Fault
field e read line = do
  word ← word_at e line
  a ← meant e word.0 (read word.0)
  Ok (a, word.1)

abbrev pub behind : {A : Type 0} → List ℕ → (List ℕ → Result (A × List ℕ) Fault) → A → List ℕ → Option (List ℕ × List ℕ) → Result (A × List ℕ) Fault
behind name read default line None = Ok (default, line)
behind name read default line (Some w) = if bytes_eq w.0 name then read w.1 else Ok (default, line)

-- what follows the name, or the default where another word is next or none
unfoldable pub option : {A : Type 0} → List ℕ → (List ℕ → Result (A × List ℕ) Fault) → A → List ℕ → Result (A × List ℕ) Fault
option name read default line = behind name read default line (next_word line)

abbrev pub none_left : Expected → Option (List ℕ × List ℕ) → Result (Unit {0}) Fault
none_left e None = Ok tt
none_left e (Some w) = Err (found e (utf8_lossy w.0))

unfoldable pub end_at : Expected → List ℕ → Result (Unit {0}) Fault
end_at e line = none_left e (next_word line)

-- `-` stands for no bytes
abbrev pub cdb_bytes : List ℕ → Option (List ℕ)
cdb_bytes word = if bytes_eq word (codes "-") then Some [] else hex_bytes word

abbrev pub host_at : List ℕ → Result (ℕ × List ℕ) Fault
host_at = field Host (number_between 0 4294967295)

abbrev pub cdb_at : List ℕ → Result (List ℕ × List ℕ) Fault
cdb_at = field Cdb cdb_bytes

abbrev pub data_out_at : List ℕ → Result (List ℕ × List ℕ) Fault
data_out_at = option (codes "out") (field DataOut data_bytes) []

abbrev pub data_in_at : List ℕ → Result (ℕ × List ℕ) Fault
data_in_at = option (codes "in") (field DataIn (number_between 0 most_bytes)) 65536

unfoldable pub command_at : List ℕ → Result Command Fault
command_at line = do
  host ← host_at line
  cdb ← cdb_at host.1
  out ← data_out_at cdb.1
  room ← data_in_at out.1
  end ← end_at More room.1
  Ok (record { host = host.0; cdb = cdb.0; data_out = out.0; data_in = room.0 })

abbrev pub verb_of : List ℕ → Option Verb
verb_of word = if bytes_eq word (codes "reset") then Some verbs.Reset else if bytes_eq word (codes "command") then Some verbs.Command else None

abbrev pub call_at : Verb → List ℕ → Result Asked Fault
call_at verbs.Reset line = do
  end ← end_at End line
  Ok a_reset
call_at verbs.Command line = do
  command ← command_at line
  Ok (a_command command)

abbrev pub first_call : Option (List ℕ × List ℕ) → Result Asked Fault
first_call None = Ok nothing
first_call (Some w) = do
  v ← meant Call w.0 (verb_of w.0)
  call_at v w.1

-- `#` (35) in front: the line is skipped
abbrev pub is_comment : List ℕ → Bool
is_comment [] = false
is_comment (b ∷ bs) = b == 35

unfoldable pub line_at : List ℕ → Result Asked Fault
line_at line = if is_comment line then Ok nothing else first_call (next_word line)

-- what a line of the program says
abbrev pub command : CommandLine → Command
command c = record { host = c.host; cdb = c.cdb.items; data_out = c.data_out.items; data_in = c.data_in }

abbrev pub asked : Line → Asked
asked lines.Skipped = nothing
asked lines.Reset = a_reset
asked (lines.Command c) = a_command (command c)

-- what was returned, seen by view, is what is read; or it is its fault, or want of memory
abbrev pub Fails : {Y : Type 0} → LineError → Result Y Fault → Type 0
Fails (errors.Found e s) read = read ≡ Err (found e (string_bytes s))
Fails (errors.Ended e) read = read ≡ Err (ended e)
Fails (errors.Memory a) read = Unit {0}

abbrev pub Gives : {X Y : Type 0} → (X → Y) → Result X LineError → Result Y Fault → Type 0
Gives view (Ok x) read = read ≡ Ok (view x)
Gives view (Err e) read = Fails e read

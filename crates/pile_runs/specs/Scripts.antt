-- The calls that the lines of a script ask for.
use Rattle.std.specs.Prelude.{ℕ, max, List, [], ◌∷◌, ◌++◌, take, fold, vec_items}
use Rattle.script.specs.declared.line.Line.{Line}
use Rattle.script.specs.declared.line.Line.TheVariants as lines
use Rattle.rbc_steps.specs.Calls.{Call, Command, Reset}

-- the call of a line, if it is not skipped; a command finds so much of data-in as its line says
abbrev pub call_of_line : List ℕ → Line → List Call
call_of_line data_in lines.Skipped = []
call_of_line data_in lines.Reset = Reset ∷ []
call_of_line data_in (lines.Command c) = Command (record { host = c.host; cdb = vec_items c.cdb; data_out = vec_items c.data_out; data_in = take c.data_in data_in }) ∷ []

abbrev pub calls_of : List ℕ → List Line → List Call
calls_of data_in script = fold (λ calls line. calls ++ call_of_line data_in line) [] script

-- so many bytes of data-in are asked for
abbrev pub data_in_of : Line → ℕ
data_in_of lines.Skipped = 0
data_in_of lines.Reset = 0
data_in_of (lines.Command c) = c.data_in

abbrev pub most_data_in : List Line → ℕ
most_data_in script = fold (λ most line. max most (data_in_of line)) 0 script

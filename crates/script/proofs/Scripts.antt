-- The lines of a script, one after another.
use Rattle.std.proofs.Common.{List, ◌++◌, Ok, Err}
use Rattle.std.specs.Prelude.{Result}
use Rattle.script.specs.Lines.{Asked}
use Rattle.script.specs.Script.{Malformed}

-- what the lines in front ask for, before the others
abbrev pub with_front : List Asked → Result (List Asked) Malformed → Result (List Asked) Malformed
with_front front (Ok xs) = Ok (front ++ xs)
with_front front (Err m) = Err m

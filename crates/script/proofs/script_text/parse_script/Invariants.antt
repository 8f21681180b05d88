use Rattle.std.proofs.Common.{◌≡◌, ◌+◌, length}
use Rattle.std.specs.Prelude.{map}
use Rattle.std.specs.Option.{option_copied}
use Rattle.script.specs.Lines.{asked}
use Rattle.script.specs.Parts.{parts_left}
use Rattle.script.specs.Script.{script, lines_from}
use Rattle.script.proofs.Scripts.{with_front}
use Rattle.script.proofs.script_text.parse_script.Given as goal

abbrev pub invariant-loop-rest : goal.invariant-loop-rest
invariant-loop-rest l = with_front (map asked l.lines.items) (lines_from (length l.lines.items + 1) (parts_left 10 (option_copied l.rest))) ≡ script l.text

abbrev pub decreases-loop-rest : goal.decreases-loop-rest
decreases-loop-rest l = length (parts_left 10 (option_copied l.rest))

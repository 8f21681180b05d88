use Rattle.std.proofs.Common.{◌≡◌, ◌≤◌, ◌++◌, length}
use Rattle.std.specs.Option.{option_map, option_copied}
use Rattle.script.specs.Data.{joined}
use Rattle.script.specs.Parts.{parts, parts_left}
use Rattle.script.proofs.data.data_bytes.Given as goal

abbrev pub invariant-loop-rest : goal.invariant-loop-rest
invariant-loop-rest l = record {
  same : option_map (λ bytes. l.data.items ++ bytes) (joined (parts_left 43 (option_copied l.rest))) ≡ joined (parts 43 l.word);
  fits : length l.data.items ≤ 33553920;
}

abbrev pub decreases-loop-rest : goal.decreases-loop-rest
decreases-loop-rest l = length (parts_left 43 (option_copied l.rest))

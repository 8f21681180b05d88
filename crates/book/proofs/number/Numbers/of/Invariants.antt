use Rattle.std.proofs.Common.{◌≡◌, map, take}
use Rattle.book.specs.Numbers.{newest_equal}
use Rattle.book.proofs.number.Numbers.of.Given as goal

abbrev pub invariant-loop-i : goal.invariant-loop-i
invariant-loop-i l = l.newest ≡ newest_equal l.found (take l.i (map (λ x. x.now) l.row))

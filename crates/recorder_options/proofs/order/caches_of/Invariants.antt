use Rattle.std.proofs.Common.{◌≡◌, length}
use Rattle.std.specs.Option.{option_copied}
use Rattle.script.specs.Parts.{parts_left}
use Rattle.recorder_options.specs.Order.{caches_of}
use Rattle.recorder_options.proofs.Lists.{with_front}
use Rattle.recorder_options.proofs.order.caches_of.Given as goal

abbrev pub invariant-loop-rest : goal.invariant-loop-rest
invariant-loop-rest l = with_front l.caches.items (caches_of (parts_left 43 (option_copied l.rest))) ≡ caches_of (parts_left 43 (option_copied l.initial.rest))

abbrev pub decreases-loop-rest : goal.decreases-loop-rest
decreases-loop-rest l = length (parts_left 43 (option_copied l.rest))

use Rattle.std.proofs.Common.{◌≡◌, ◌+◌, [], get_or, Ok}
use Rattle.store.specs.Steps.{stepped}
use Rattle.store.specs.Sequence.{in_turn}
use Rattle.transfer.specs.Transfer.{put_forced}
use Rattle.transfer.proofs.write_blocks.Given as goal

abbrev pub invariant-loop-i : goal.invariant-loop-i
invariant-loop-i g l =
    stepped (Ok tt) (g.S.Store.model l.store)
    ≡ in_turn l.i (λ i. put_forced g.S.Store.steps l.force (l.address + i) (get_or l.blocks i [])) (g.S.Store.model l.initial.store)

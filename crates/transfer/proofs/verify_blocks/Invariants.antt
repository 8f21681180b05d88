use Rattle.std.proofs.Common.{◌≡◌, ◌-◌, Ok}
use Rattle.store.specs.Steps.{stepped}
use Rattle.transfer.specs.Transfer.{verify_blocks}
use Rattle.transfer.proofs.verify_blocks.Given as goal

abbrev pub invariant-loop-block : goal.invariant-loop-block
invariant-loop-block g l =
    stepped (Ok tt) (g.S.Store.model l.store)
    ≡ verify_blocks g.S.Store.steps l.fn.extent.address (l.block - l.fn.extent.address) (g.S.Store.model l.initial.store)

use Rattle.std.proofs.Common.{◌≡◌, Ok}
use Rattle.store.specs.Steps.{stepped}
use Rattle.transfer.specs.Transfer.{buffered, read_blocks}
use Rattle.transfer.proofs.read_blocks.Given as goal

abbrev pub invariant-loop-i : goal.invariant-loop-i
invariant-loop-i g l =
    stepped (Ok tt) (buffered (g.S.Store.model l.store) l.data_in)
    ≡ read_blocks g.S.Store.steps l.fn.extent.address l.i (buffered (g.S.Store.model l.initial.store) l.initial.data_in)

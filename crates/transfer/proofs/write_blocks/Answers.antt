use Rattle.std.proofs.Common.{length, arith, rules}
use Rattle.store.proofs.InTurn.{stops}
use Rattle.transfer.proofs.write_blocks.Goals as goal

pub returns-in_err-put_forced : goal.returns-in_err-put_forced
returns-in_err-put_forced g c =
    let h = stops _ _ c.loop-i.i (length c.args.blocks.now) (omega arith) c.loop-i.invariant c.put_forced.ensures c.in_err-put_forced.was in search rules

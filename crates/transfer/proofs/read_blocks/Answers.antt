use Rattle.std.proofs.Common.{arith, rules}
use Rattle.transfer.specs.Transfer.{fetched}
use Rattle.store.proofs.InTurn.{stops}
use Rattle.transfer.proofs.read_blocks.Goals as goal

pub returns-in_err-fetch : goal.returns-in_err-fetch
returns-in_err-fetch g c =
    let h = stops (fetched g.S.Store.steps c.args.extent.address) _ c.loop-i.i c.args.extent.length (omega arith) c.loop-i.invariant c.fetch.ensures c.in_err-fetch.was in search rules

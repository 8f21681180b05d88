use Rattle.std.proofs.Common.{arith, rules}
use Rattle.store.proofs.InTurn.{stops}
use Rattle.table_cache.specs.Table.{evict_first}
use Rattle.table_cache.proofs.table.calls.TableBufferBuffer.evict_all.Goals as goal

pub returns-in_err-evict_slot : goal.returns-in_err-evict_slot
unfolding evict_first
returns-in_err-evict_slot g c =
    let h = stops _ _ c.loop-i.i 8 (omega arith) c.loop-i.invariant c.evict_slot.ensures c.in_err-evict_slot.was in search rules

use Rattle.std.proofs.Common.{◌≡◌, Ok}
use Rattle.store.specs.Steps.{stepped}
use Rattle.cache.specs.Kinds.{holding}
use Rattle.table_cache.specs.Table.{evict_first}
use Rattle.table_cache.specs.Modeled.{table_held}
use Rattle.table_cache.proofs.table.calls.TableBufferBuffer.evict_all.Given as goal

abbrev pub invariant-loop-i : goal.invariant-loop-i
invariant-loop-i g l =
    stepped (Ok tt) (holding (table_held l.self) (g.S.Store.model l.below))
    ≡ evict_first g.S.Store.steps l.i (holding (table_held l.initial.self) (g.S.Store.model l.initial.below))

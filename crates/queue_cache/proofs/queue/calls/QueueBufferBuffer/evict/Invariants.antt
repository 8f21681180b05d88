use Rattle.std.proofs.Common.{◌≡◌, deque_len}
use Rattle.cache.specs.Kinds.{holding}
use Rattle.queue_cache.specs.Modeled.{queue_held}
use Rattle.queue_cache.specs.Queue.{holds, drained}
use Rattle.queue_cache.proofs.queue.calls.QueueBufferBuffer.evict.Given as goal

abbrev pub invariant-loop-self : goal.invariant-loop-self
invariant-loop-self g l =
    drained g.S.Store.steps (holds l.block) (holding (queue_held l.initial.self) (g.S.Store.model l.initial.below))
    ≡ drained g.S.Store.steps (holds l.block) (holding (queue_held l.self) (g.S.Store.model l.below))

abbrev pub decreases-loop-self : goal.decreases-loop-self
decreases-loop-self g l = deque_len l.self.entries

use Rattle.std.proofs.Common.{◌≡◌, false, rules, sym, ◌∙◌}
use Rattle.queue_cache.specs.Queue.{any}
use Rattle.queue_cache.proofs.Draining.{drain_done}
use Rattle.queue_cache.proofs.queue.calls.QueueBufferBuffer.evict_all.Goals as goal

pub returns : goal.returns
returns g c =
    let es = c.loop-self.self.entries.items in
    let w : any es ≡ false = search rules in
    sym (c.loop-self.invariant ∙ drain_done g.S.Store.steps any es (g.S.Store.model c.loop-self.below) w)

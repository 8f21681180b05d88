-- The queue's model, and that of a queue cache, from its parts and the model of the store below.
use Rattle.std.specs.Prelude.{List}
use Rattle.std.specs.VecDeque.{deque_items}
use Rattle.cache.specs.declared.Entry.{Entry}
use Rattle.cache.specs.declared.write_cache.Cache.{Cache}
use Rattle.cache.specs.Modeled.{cache_model}
use Rattle.queue_cache.specs.declared.queue.QueueBuffer.{QueueBuffer}
use Rattle.queue_cache.specs.Queue.{QueueModel}

abbrev pub queue_held : QueueBuffer → List Entry
queue_held q = deque_items q.entries

abbrev pub queue_model : {S B : Type 0} → (S → B) → Cache S QueueBuffer → QueueModel B
queue_model model s = cache_model queue_held model s

use Rattle.std.proofs.Common.{is_some, ap, ◌∙◌}
use Rattle.queue_cache.proofs.Draining.{some_copied}
use Rattle.queue_cache.proofs.queue.QueueBuffer.holds.Goals as goal

pub returns : goal.returns
returns c = c.is_some.ensures ∙ some_copied c.latest.result ∙ ap is_some c.latest.ensures

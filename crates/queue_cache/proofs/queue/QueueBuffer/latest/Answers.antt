use Rattle.std.proofs.Common.{None, Option, sym, ap, ◌∙◌}
use Rattle.std.specs.Option.{option_or}
use Rattle.store.specs.Steps.{Content}
use Rattle.queue_cache.specs.Modeled.{queue_held}
use Rattle.queue_cache.specs.Queue.{latest}
use Rattle.queue_cache.proofs.Draining.{latest_parted}
use Rattle.queue_cache.proofs.queue.QueueBuffer.latest.Goals as goal

pub returns-in-Some : goal.returns-in-Some
returns-in-Some c =
    let b = c.args.block in
    let older = c.as_slices.result.0.now in
    let newer = c.as_slices.result.1.now in
    ap (λ (found : Option Content). option_or found (latest None older b)) c.in-Some.ensures
    ∙ sym (latest_parted (queue_held c.args.self.now) older newer b c.as_slices.ensures.items)

pub returns-in-None : goal.returns-in-None
returns-in-None c =
    let b = c.args.block in
    let older = c.as_slices.result.0.now in
    let newer = c.as_slices.result.1.now in
    c.latest_in-in-None.ensures
    ∙ ap (λ (found : Option Content). option_or found (latest None older b)) c.in-None.ensures
    ∙ sym (latest_parted (queue_held c.args.self.now) older newer b c.as_slices.ensures.items)

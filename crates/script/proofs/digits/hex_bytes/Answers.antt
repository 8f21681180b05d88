use Rattle.std.proofs.Common.{sym}
use Rattle.script.proofs.Numbers.{pair}
use Rattle.script.proofs.digits.hex_bytes.Goals as goal

pub loop-rest-preserved : goal.loop-rest-preserved
loop-rest-preserved c =
    rw c.in_ok-push.ensures.items
    (pair c.loop-rest.bytes.items c.loop-rest.rest.now c.args.digits.now c.in-Some.byte c.loop-rest.invariant c.in-len2-up.len_at_least (sym c.in-Some.ensures))

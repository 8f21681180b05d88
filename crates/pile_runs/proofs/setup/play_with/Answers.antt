use Rattle.std.proofs.Common.{sym}
use Rattle.pile_runs.proofs.setup.play_with.Goals as goal

pub returns-clause-run : goal.returns-clause-run
returns-clause-run c =
    (c.in_ok-medium.medium, rw (sym c.medium_kind.ensures) c.in_ok-medium.ensures.new, rw (sym c.deref.ensures.value) c.in_ok-play_over.ensures.run)

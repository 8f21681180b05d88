use Rattle.worked_examples.proofs.AfterCommands.{after_commands}
use Rattle.worked_examples.proofs.limits_say_what_stands.Goals as goal

pub returns : goal.returns
returns c = after_commands

use Rattle.std.proofs.Common.{eqb}
use Rattle.script.proofs.FirstPlaces.{parts_some, parts_none}
use Rattle.script.proofs.parts.first_part.Goals as goal

pub returns-in-Some : goal.returns-in-Some
returns-in-Some c = parts_some (λ b. eqb b c.args.separator) c.args.bytes.now c.in-Some.place c.in-Some.ensures

pub returns-in-None : goal.returns-in-None
returns-in-None c = parts_none (λ b. eqb b c.args.separator) c.args.bytes.now c.in-None.ensures

use Rattle.std.proofs.Common.{length, ap, ◌∙◌}
use Rattle.std.specs.Prelude.{unwrap_or}
use Rattle.script.specs.Words.{is_blank}
use Rattle.script.proofs.FirstPlaces.{place_le, place_or_end}
use Rattle.script.proofs.words.word_end.Goals as goal

pub returns-clause-value : goal.returns-clause-value
returns-clause-value c = c.unwrap_or.ensures ∙ ap (λ o. unwrap_or o (length c.args.line.now)) c.first_blank.ensures ∙ place_or_end is_blank c.args.line.now

pub returns-clause-bound : goal.returns-clause-bound
returns-clause-bound c = rw (returns-clause-value c) (place_le is_blank c.args.line.now)

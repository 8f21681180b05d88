use mathlib.Core.Path.{◌≡◌, sym, subst}
use borrow.Author.Rules.{rules}
use Rattle.rbc_steps.specs.Module.{made_over}
use Rattle.run_law.specs.Law.{RunsSafely}
use Rattle.run_law.proofs.Histories.{runs_safely}
use Rattle.rbc.specs.Modeled.{modeled}
use Rattle.rbc_steps.proofs.Promises.{flushed}
use Rattle.rbc.proofs.target.Module.make.Goals as goal

pub returns : goal.returns
returns g c =
    let s = g.S.Store in
    let keeps = g.met.S.Store.keeps in
    let valid = g.met.S.Store.valid c.args.store in
    let made : modeled s.model (record { device = record { store = c.flush_pile.new.store; unit = c.new-unit.result } }) ≡ made_over s.steps (s.model c.args.store) = search rules in
    record {
      value = made;
      flushed = flushed keeps valid c.flush_pile.ensures;
      law = subst (RunsSafely s.steps s.meaning) (sym made) (runs_safely s.steps s.meaning s.good keeps (s.model c.args.store) valid);
    }

use borrow.Author.Rules.{rules}
use Rattle.rbc_steps.specs.Module.{exchange}
use Rattle.rbc.specs.Modeled.{modeled}
use Rattle.rbc_steps.proofs.Promises.{promised, ran}
use Rattle.rbc.proofs.target.Module.command.Goals as goal

pub returns-in-Ok : goal.returns-in-Ok
returns-in-Ok g c = promised g.met.S.Store.keeps c.args.host c.args.cdb.now c.args.data_out.now (g.met.S.Store.valid c.args.self.now.device.store)
    (ran g.S.Store.steps c.args.host c.args.cdb.now c.args.data_out.now (exchange (modeled g.S.Store.model c.args.self.now) c.args.data_in.now)
    c.power-power.result c.count-count.result c.in-Ok.ensures.runs.0 c.power-power.ensures c.count-count.ensures c.in-Ok.ensures.value c.run.ensures c.answer_of.ensures)

pub returns-in-UnitAttention : goal.returns-in-UnitAttention
returns-in-UnitAttention g c = promised g.met.S.Store.keeps c.args.host c.args.cdb.now c.args.data_out.now (g.met.S.Store.valid c.args.self.now.device.store) (search rules)

pub returns-in_default : goal.returns-in_default
returns-in_default g c = promised g.met.S.Store.keeps c.args.host c.args.cdb.now c.args.data_out.now (g.met.S.Store.valid c.args.self.now.device.store) (search rules)

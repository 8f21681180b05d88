use Rattle.std.proofs.Common.{◌≡◌, Err, ap, ◌∙◌, rules}
use Rattle.std.proofs.lemmas.Result.{err_from_is_err_and}
use Rattle.ladder.specs.Ladder.{passed}
use Rattle.ladder.proofs.Judging.{no_command, not_admitted, not_accepted, runs_on}
use Rattle.ladder.proofs.judge.Goals as goal

pub returns-in_err-command-clause-value : goal.returns-in_err-command-clause-value
returns-in_err-command-clause-value c =
    let p = err_from_is_err_and c.from_residual-in_err-command.result c.from_residual-in_err-command.ensures.1 in
    let host = c.in_ok-host.host in
    let same : host.number ≡ c.args.host = search rules in
    ap passed (p.1 ∙ ap Err p.2) ∙ rw same at (no_command c.args.unit.now host.number c.args.power c.args.count c.args.cdb.now c.args.data_out.now c.args.room host.known c.if-not-power.false c.in_err-command.ensures)

pub returns-in_err-admit-clause-value : goal.returns-in_err-admit-clause-value
returns-in_err-admit-clause-value c =
    let p = err_from_is_err_and c.from_residual-in_err-admit.result c.from_residual-in_err-admit.ensures.1 in
    let host = c.in_ok-host.host in
    let same : host.number ≡ c.args.host = search rules in
    ap passed (p.1 ∙ ap Err p.2) ∙ rw same at (not_admitted c.args.unit.now host.number c.args.power c.args.count c.args.cdb.now c.args.data_out.now c.args.room host.known c.if-not-power.false c.in_ok-command.ensures c.in_err-admit.ensures)

pub returns-in_err-accept-clause-value : goal.returns-in_err-accept-clause-value
returns-in_err-accept-clause-value c =
    let p = err_from_is_err_and c.from_residual-in_err-accept.result c.from_residual-in_err-accept.ensures.1 in
    let host = c.in_ok-host.host in
    let same : host.number ≡ c.args.host = search rules in
    ap passed (p.1 ∙ ap Err p.2) ∙ rw same at (not_accepted c.args.unit.now host.number c.args.power c.args.count c.args.cdb.now c.args.data_out.now c.args.room host.known c.if-not-power.false c.in_ok-command.ensures c.in_ok-admit.ensures c.in_err-accept.ensures.value)

pub returns-clause-value : goal.returns-clause-value
returns-clause-value c =
    let host = c.in_ok-host.host in
    let same : host.number ≡ c.args.host = search rules in
    rw same at (runs_on c.args.unit.now host.number c.args.power c.args.count c.args.cdb.now c.args.data_out.now c.args.room host.known c.if-not-power.false c.in_ok-command.ensures c.in_ok-admit.ensures c.in_ok-accept.ensures.value)

use Rattle.std.proofs.Common.{arith, sym, ◌∙◌}
use Rattle.script.proofs.Numbers.{stops, ends}
use Rattle.script.proofs.digits.number.Goals as goal

pub returns-in_err-checked_mul : goal.returns-in_err-checked_mul
returns-in_err-checked_mul c =
    c.from_residual-in_err-checked_mul.ensures
    ∙ stops c.loop-rest.value c.in_ok-digit.digit c.loop-rest.rest.now c.args.word.now c.loop-rest.invariant.same c.in-len1-up.len_at_least
    (sym c.in_ok-digit.ensures) (omega (arith, c.in_err-checked_mul.ensures))

pub returns-in_err-value : goal.returns-in_err-value
returns-in_err-value c =
    c.from_residual-in_err-value.ensures
    ∙ stops c.loop-rest.value c.in_ok-digit.digit c.loop-rest.rest.now c.args.word.now c.loop-rest.invariant.same c.in-len1-up.len_at_least
    (sym c.in_ok-digit.ensures) (omega (arith, c.in_err-value.ensures, c.in_ok-checked_mul.ensures.1))

pub returns : goal.returns
returns c = ends c.loop-rest.value c.loop-rest.rest.now c.args.word.now c.loop-rest.invariant.same c.in_default.len_below c.loop-rest.invariant.fits

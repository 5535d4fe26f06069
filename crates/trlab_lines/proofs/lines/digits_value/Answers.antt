use Rattle.std.proofs.Common.{arith}
use Rattle.trlab_lines.proofs.Digits.{value_step}
use Rattle.trlab_lines.proofs.lines.digits_value.Goals as goal

pub overflow_mul-value : goal.overflow_mul-value
overflow_mul-value c =
    let step = value_step c.args.digits.now c.loop-digit.digit-index c.requires.digits c.requires.at_most_max_digits c.loop-digit-test.true in
    omega (arith, c.loop-digit.invariant, step.0, step.1)

pub overflow_sub-digit : goal.overflow_sub-digit
overflow_sub-digit c =
    let step = value_step c.args.digits.now c.loop-digit.digit-index c.requires.digits c.requires.at_most_max_digits c.loop-digit-test.true in
    step.2

pub overflow_add-value : goal.overflow_add-value
overflow_add-value c =
    let step = value_step c.args.digits.now c.loop-digit.digit-index c.requires.digits c.requires.at_most_max_digits c.loop-digit-test.true in
    omega (arith, c.loop-digit.invariant, c.from.ensures, step.0, step.1)

pub loop-digit-preserved : goal.loop-digit-preserved
loop-digit-preserved c =
    let step = value_step c.args.digits.now c.loop-digit.digit-index c.requires.digits c.requires.at_most_max_digits c.loop-digit-test.true in
    rw (c.loop-digit.invariant, c.from.ensures) step.0

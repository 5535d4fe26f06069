use Rattle.std.proofs.Common.{◌≤◌}
use Rattle.trlab_asm.{specs.Operands.{register, register_and_number}, proofs.Shapes.{both_said, rest_known}}
use Rattle.trlab_asm.proofs.operands.two_registers_number.Goals as goal

pub returns-in-Some-clause-value : goal.returns-in-Some-clause-value
returns-in-Some-clause-value c =
    both_said register (register_and_number c.args.low) c.args.text.now c.in-Some.first.now c.in-Some.rest.now c.register.result c.register_and_number.result c.both.result
    c.in-Some.ensures c.register.ensures c.register_and_number.ensures.value c.both.ensures

pub returns-in-Some-clause-low : goal.returns-in-Some-clause-low
returns-in-Some-clause-low c = rest_known (λ x. c.args.low ≤ x.1) c.register.result c.register_and_number.result c.both.result c.both.ensures c.register_and_number.ensures.low

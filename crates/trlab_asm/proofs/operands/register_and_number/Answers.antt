use Rattle.std.proofs.Common.{◌≤◌}
use Rattle.trlab_bounds.specs.declared.programs.TheConstants.{MAX_NUMBER}
use Rattle.trlab_asm.{specs.Operands.{register, number}, proofs.Shapes.{both_said, rest_known}}
use Rattle.trlab_asm.proofs.operands.register_and_number.Goals as goal

pub returns-in-Some-clause-value : goal.returns-in-Some-clause-value
returns-in-Some-clause-value c =
    both_said register (number c.args.low MAX_NUMBER) c.args.text.now c.in-Some.first.now c.in-Some.rest.now c.register.result c.number.result c.both.result
    c.in-Some.ensures c.register.ensures c.number.ensures.value c.both.ensures

pub returns-in-Some-clause-low : goal.returns-in-Some-clause-low
returns-in-Some-clause-low c = rest_known (λ n. c.args.low ≤ n) c.register.result c.number.result c.both.result c.both.ensures c.number.ensures.low

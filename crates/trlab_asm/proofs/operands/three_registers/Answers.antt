use Rattle.trlab_asm.{specs.Operands.{register, two_registers}, proofs.Shapes.both_said}
use Rattle.trlab_asm.proofs.operands.three_registers.Goals as goal

pub returns-in-Some : goal.returns-in-Some
returns-in-Some c =
    both_said register two_registers c.args.text.now c.in-Some.first.now c.in-Some.rest.now c.register.result c.two_registers.result c.both.result
    c.in-Some.ensures c.register.ensures c.two_registers.ensures c.both.ensures

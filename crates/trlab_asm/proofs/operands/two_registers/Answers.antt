use Rattle.trlab_asm.{specs.Operands.register, proofs.Shapes.both_said}
use Rattle.trlab_asm.proofs.operands.two_registers.Goals as goal

pub returns-in-Some : goal.returns-in-Some
returns-in-Some c =
    both_said register register c.args.text.now c.in-Some.first.now c.in-Some.rest.now c.register.result c.register-in-Some.result c.both.result
    c.in-Some.ensures c.register.ensures c.register-in-Some.ensures c.both.ensures

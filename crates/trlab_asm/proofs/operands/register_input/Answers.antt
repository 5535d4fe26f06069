use Rattle.trlab_asm.{specs.Operands.{register, input}, proofs.Shapes.both_said}
use Rattle.trlab_asm.proofs.operands.register_input.Goals as goal

pub returns-in-Some : goal.returns-in-Some
returns-in-Some c =
    both_said register input c.args.text.now c.in-Some.first.now c.in-Some.rest.now c.register.result c.input.result c.both.result
    c.in-Some.ensures c.register.ensures c.input.ensures c.both.ensures

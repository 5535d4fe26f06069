use Rattle.trlab_asm.{specs.Operands.{register, jump_target}, proofs.Shapes.both_said}
use Rattle.trlab_asm.proofs.operands.register_target.Goals as goal

pub returns-in-Some : goal.returns-in-Some
returns-in-Some c =
    both_said register jump_target c.args.text.now c.in-Some.first.now c.in-Some.rest.now c.register.result c.jump_target.result c.both.result
    c.in-Some.ensures c.register.ensures c.jump_target.ensures c.both.ensures

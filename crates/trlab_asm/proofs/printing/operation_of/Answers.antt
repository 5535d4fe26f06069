use Rattle.std.proofs.Common.{refl}
use Rattle.trlab_asm.proofs.printing.operation_of.Goals as goal

pub returns-in-Draw-clause-value : goal.returns-in-Draw-clause-value
returns-in-Draw-clause-value c = rw (c.in-Draw.is, c.from.ensures) refl

pub returns-in-Jump-clause-value : goal.returns-in-Jump-clause-value
returns-in-Jump-clause-value c = rw (c.in-Jump.is, c.target_operand.ensures) refl

pub returns-in-JumpLess-clause-value : goal.returns-in-JumpLess-clause-value
returns-in-JumpLess-clause-value c = rw (c.in-JumpLess.is, c.target_operand-to.ensures) refl

pub returns-in-JumpAtMost-clause-value : goal.returns-in-JumpAtMost-clause-value
returns-in-JumpAtMost-clause-value c = rw (c.in-JumpAtMost.is, c.target_operand-to-in-JumpAtMost.ensures) refl

pub returns-in-JumpTrue-clause-value : goal.returns-in-JumpTrue-clause-value
returns-in-JumpTrue-clause-value c = rw (c.in-JumpTrue.is, c.target_operand-in-JumpTrue.ensures) refl

pub returns-in-JumpFalse-clause-value : goal.returns-in-JumpFalse-clause-value
returns-in-JumpFalse-clause-value c = rw (c.in-JumpFalse.is, c.target_operand-in-JumpFalse.ensures) refl

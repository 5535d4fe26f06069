use Rattle.std.proofs.{Common.arith, lemmas.Grind.common_steps}
use Rattle.trlab_code.proofs.encoding.instr_at.Goals as goal

pub returns-in-Some : goal.returns-in-Some
returns-in-Some c = grind (arith, common_steps)

pub returns-in-None : goal.returns-in-None
returns-in-None c = grind (arith, common_steps)

pub returns-in-None-2 : goal.returns-in-None-2
returns-in-None-2 c = grind (arith, common_steps)

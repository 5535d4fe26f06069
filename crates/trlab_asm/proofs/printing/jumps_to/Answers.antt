use Rattle.std.proofs.Common.{ap}
use Rattle.trlab_asm.specs.Canonical.{is_pc}
use Rattle.trlab_asm.proofs.printing.jumps_to.Goals as goal

pub returns-in-Some : goal.returns-in-Some
returns-in-Some c = ap (is_pc c.args.pc) c.in-Some.ensures

pub returns-in-None : goal.returns-in-None
returns-in-None c = ap (is_pc c.args.pc) c.in-None.ensures

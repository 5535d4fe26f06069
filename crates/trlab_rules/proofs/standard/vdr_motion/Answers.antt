use Rattle.std.proofs.Common.{List, sym, subst}
use Rattle.trlab_code.specs.declared.{program.Kind.TheVariants.Motion, instruction.Instr.Instr}
use Rattle.trlab_verify.specs.Verdict.{IsAccepted}
use Rattle.trlab_rules.{specs.{Published.vdr_speed, Standard.vdr_program}, proofs.VdrRuns.vdr_moves}
use Rattle.trlab_rules.proofs.{Accepted.vdr_accepted, GivenPrograms.{motion_given, program_of}}
use Rattle.trlab_rules.proofs.standard.vdr_motion.Goals as goal

pub accept-requires-clause-accepted : goal.accept-requires-clause-accepted
accept-requires-clause-accepted c =
    subst (λ (z : List Instr). IsAccepted Motion (program_of Motion z)) (sym c.in_ok-vdr_instrs.ensures.value) (vdr_accepted c.args.p c.args.p0)

pub returns : goal.returns
returns c =
    motion_given c.accept.result c.in_ok-vdr_instrs.field-0.items (vdr_program c.args.p c.args.p0).instrs c.in_ok-vdr_instrs.ensures.value (vdr_speed c.args.p c.args.p0) (vdr_moves c.args.p c.args.p0)
    c.accept.ensures

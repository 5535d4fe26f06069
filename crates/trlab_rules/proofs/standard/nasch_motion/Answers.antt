use Rattle.std.proofs.Common.{List, sym, subst}
use Rattle.trlab_code.specs.declared.{program.Kind.TheVariants.Motion, instruction.Instr.Instr}
use Rattle.trlab_verify.specs.Verdict.{IsAccepted}
use Rattle.trlab_rules.{specs.{Published.nasch_speed, Standard.nasch_program}, proofs.NaschRuns.nasch_moves}
use Rattle.trlab_rules.proofs.{Accepted.nasch_accepted, GivenPrograms.{motion_given, program_of}}
use Rattle.trlab_rules.proofs.standard.nasch_motion.Goals as goal

pub accept-requires-clause-accepted : goal.accept-requires-clause-accepted
accept-requires-clause-accepted c =
    subst (λ (z : List Instr). IsAccepted Motion (program_of Motion z)) (sym c.in_ok-nasch_instrs.ensures.value) (nasch_accepted c.args.p)

pub returns : goal.returns
returns c =
    motion_given c.accept.result c.in_ok-nasch_instrs.field-0.items (nasch_program c.args.p).instrs c.in_ok-nasch_instrs.ensures.value (nasch_speed c.args.p) (nasch_moves c.args.p)
    c.accept.ensures

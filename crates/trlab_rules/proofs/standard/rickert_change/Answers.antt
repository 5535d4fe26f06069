use Rattle.std.proofs.Common.{List, sym, subst}
use Rattle.trlab_code.specs.declared.{program.Kind.TheVariants.Change, instruction.Instr.Instr}
use Rattle.trlab_verify.specs.Verdict.{IsAccepted}
use Rattle.trlab_rules.specs.{Published.rickert_crosses, Standard.rickert_program}
use Rattle.trlab_rules.proofs.{RickertRuns.rickert_changes, Accepted.rickert_accepted}
use Rattle.trlab_rules.proofs.GivenPrograms.{change_given, program_of}
use Rattle.trlab_rules.proofs.standard.rickert_change.Goals as goal

pub accept-requires-clause-accepted : goal.accept-requires-clause-accepted
accept-requires-clause-accepted c =
    subst (λ (z : List Instr). IsAccepted Change (program_of Change z)) (sym c.in_ok-rickert_instrs.ensures.value) (rickert_accepted c.args.c)

pub returns : goal.returns
returns c =
    change_given c.accept.result c.in_ok-rickert_instrs.field-0.items (rickert_program c.args.c).instrs c.in_ok-rickert_instrs.ensures.value (rickert_crosses c.args.c) (rickert_changes c.args.c)
    c.accept.ensures

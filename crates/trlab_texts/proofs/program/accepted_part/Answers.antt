use Rattle.trlab_texts.proofs.{Programs.{verdict_behind, refusal_behind}, Readings.handed_on}
use Rattle.trlab_texts.proofs.program.accepted_part.Goals as goal

pub returns : goal.returns
returns g c =
    verdict_behind g.K.ProgramKind.KIND c.args.rest c.in_ok-code.after c.in_ok-code.code c.in_ok-program.program (rw c.KIND.ensures at c.in_ok-code.ensures)
    c.in_ok-program.ensures

pub returns-in_err-program : goal.returns-in_err-program
returns-in_err-program g c =
    rw (handed_on c.from_residual-in_err-program.result c.in_err-program.field-0.0 c.from_residual-in_err-program.ensures.0 c.from_residual-in_err-program.ensures.1)
    (refusal_behind g.K.ProgramKind.KIND c.args.rest c.in_ok-code.after c.in_ok-code.code c.number-first.result c.in_err-program.field-0.0 (rw c.KIND.ensures at c.in_ok-code.ensures) c.number-first.ensures
    c.in_err-program.ensures)

use Rattle.std.proofs.Common.{sym, Ok, Err}
use Rattle.trlab_texts.specs.{declared.fault.TextFault.TheVariants.At, Programs.code_line_of}
use Rattle.trlab_texts.proofs.{Readings.{line_content, line_fails}, Programs.in_one_line}
use Rattle.trlab_texts.proofs.program.program_part.Goals as goal

pub returns-in-Ok-Err : goal.returns-in-Ok-Err
returns-in-Ok-Err c =
    rw c.at.ensures
    (in_one_line c.args.kind c.args.rest c.in_ok-line.after c.in_ok-line.line.now (Err (At c.number-first.result c.in-Ok-Err.objection)) c.in_ok-line.ensures (sym c.if-is_heading.ensures)
    (line_fails (code_line_of c.args.kind) c.args.rest c.in_ok-line.after c.in_ok-line.line.now c.number-first.result c.in-Ok-Err.objection c.in_ok-line.ensures c.number-first.ensures
    (rw (c.in-Ok-Err.field-0-is, c.of.ensures) at c.in-Ok-Err.ensures)))

pub returns-in-Ok-Ok : goal.returns-in-Ok-Ok
returns-in-Ok-Ok c =
    in_one_line c.args.kind c.args.rest c.in_ok-line.after c.in_ok-line.line.now (Ok (c.in-Ok-Ok.code, c.in_ok-line.after)) c.in_ok-line.ensures (sym c.if-is_heading.ensures)
    (line_content (code_line_of c.args.kind) c.args.rest c.in_ok-line.after c.in_ok-line.line.now c.in-Ok-Ok.code c.in_ok-line.ensures
    (rw (c.in-Ok-Ok.field-0-is, c.of.ensures) at c.in-Ok-Ok.ensures))

use Rattle.trlab_lines.specs.Lines.{lines_of}
use Rattle.trlab_texts.proofs.Cuts.{end_test}
use Rattle.trlab_jobs.proofs.CodeAlone.{code_is_alone, code_before_others, no_code_alone}
use Rattle.trlab_jobs.proofs.check.lone_code.Goals as goal

pub returns-then-is_empty : goal.returns-then-is_empty
returns-then-is_empty c =
    let ended = end_test c.args.rest.now c.is_empty.result c.is_empty.ensures in
    code_is_alone c.args.line.now (lines_of c.args.rest.now) c.in-Ok-Ok.code (rw c.in-Ok-Ok.field-0-is at c.in-Ok-Ok.ensures) (ended.0 c.if-is_empty.true)

pub returns-else-is_empty : goal.returns-else-is_empty
returns-else-is_empty c =
    let ended = end_test c.args.rest.now c.is_empty.result c.is_empty.ensures in
    rw c.no_line.ensures (code_before_others c.args.line.now (lines_of c.args.rest.now) c.in-Ok-Ok.code (rw c.in-Ok-Ok.field-0-is at c.in-Ok-Ok.ensures) (λ none. let test = ended.1 none in cc))

pub returns-in-Ok-Err : goal.returns-in-Ok-Err
returns-in-Ok-Err c = rw c.at.ensures (no_code_alone c.args.line.now (lines_of c.args.rest.now) c.in-Ok-Err.objection (rw c.in-Ok-Err.field-0-is at c.in-Ok-Err.ensures))

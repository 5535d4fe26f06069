use Rattle.std.proofs.Common.{ℕ, List, subst, sym, Err}
use Rattle.trlab_lines.specs.Lines.{lines_of}
use Rattle.trlab_texts.{specs.Reading.Reports, proofs.Readings.handed_on}
use Rattle.trlab_jobs.{specs.Check.{Check, CheckLinesParseTo}, proofs.CodeAlone.{check_says, check_fails}}
use Rattle.trlab_jobs.proofs.check.read_lines.Goals as goal

pub returns : goal.returns
returns c =
    rw c.in-Some.ensures.lines (check_says c.in-Some.first.now c.read_question-question.result.1 c.read_question-question.result.0 (lines_of c.in-Some.rest.now) c.in_ok-code.code (rw c.of.ensures at c.read_question-question.ensures) c.in_ok-code.ensures)

pub returns-in_err-code : goal.returns-in_err-code
returns-in_err-code c =
    let fault = handed_on c.from_residual.result c.in_err-code.field-0.0 c.from_residual.ensures.0 c.from_residual.ensures.1 in
    let fails = check_fails c.in-Some.first.now c.read_question-question.result.1 c.read_question-question.result.0 (lines_of c.in-Some.rest.now) c.in_err-code.field-0.0 (rw c.of.ensures at c.read_question-question.ensures) c.in_err-code.ensures in
    rw fault (subst (λ (lines : List (List ℕ)). Reports {A = Check} (CheckLinesParseTo lines) (Err c.in_err-code.field-0.0)) (sym c.in-Some.ensures.lines) fails)

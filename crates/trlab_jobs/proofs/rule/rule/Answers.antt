use Rattle.std.proofs.Common.{rules, Ok, Err}
use Rattle.trlab_texts.{specs.Reading.exactly, proofs.Readings.{line_by, handed_on}}
use Rattle.trlab_jobs.{specs.Lines.rule_line, proofs.RuleSteps.{rule_line_fails, behind_rule_line}}
use Rattle.trlab_jobs.proofs.rule.rule.Goals as goal

pub returns-in_err-line-clause-reported : goal.returns-in_err-line-clause-reported
returns-in_err-line-clause-reported c =
    let fault = handed_on c.from_residual.result c.in_err-line.field-0.0 c.from_residual.ensures.0 c.from_residual.ensures.1 in
    rw fault (rule_line_fails c.args.lanes.count c.args.rest c.in_err-line.field-0.0
    (line_by _ (exactly rule_line) c.args.rest (Err c.in_err-line.field-0.0) (λ text says p. search rules) c.in_err-line.ensures))

pub returns-clause-reported : goal.returns-clause-reported
returns-clause-reported c =
    behind_rule_line c.args.lanes.count c.number-number.result c.args.rest c.in_ok-line.rest c.in_ok-line.line c.rule_from.result c.number-number.ensures
    (line_by _ (exactly rule_line) c.args.rest (Ok (c.in_ok-line.line, c.in_ok-line.rest)) (λ text says p. search rules) c.in_ok-line.ensures)
    c.rule_from.ensures.reported

use Rattle.trlab_texts.proofs.Readings.{handed_on}
use Rattle.trlab_jobs.proofs.RuleSteps.{later_line_fails, later_programs_fail, later_says}
use Rattle.trlab_jobs.proofs.rule.later_rule.Goals as goal

pub returns-in_err-from-clause-reported : goal.returns-in_err-from-clause-reported
returns-in_err-from-clause-reported c =
    let fault = handed_on c.from_residual.result c.in_err-from.field-0.0 c.from_residual.ensures.0 c.from_residual.ensures.1 in
    rw fault (later_line_fails c.args.room c.args.lanes.count c.args.steps c.args.least c.args.rest c.in_err-from.field-0.0 c.in_err-from.ensures.reported)

pub returns-in_err-rule-clause-reported : goal.returns-in_err-rule-clause-reported
returns-in_err-rule-clause-reported c =
    let fault = handed_on c.from_residual-in_err-rule.result c.in_err-rule.field-0.0 c.from_residual-in_err-rule.ensures.0 c.from_residual-in_err-rule.ensures.1 in
    rw fault (later_programs_fail c.args.room c.args.lanes.count c.args.steps c.args.least c.number-number.result c.args.rest c.in_ok-from.rest (c.in_ok-from.from, c.in_ok-from.line) c.in_err-rule.field-0.0
    c.number-number.ensures c.in_ok-from.ensures.reported c.in_err-rule.ensures.reported)

pub returns-clause-reported : goal.returns-clause-reported
returns-clause-reported c =
    later_says c.args.room c.args.lanes.count c.args.steps c.args.least c.number-number.result c.args.rest c.in_ok-from.rest c.in_ok-rule.rest (c.in_ok-from.from, c.in_ok-from.line) c.in_ok-rule.rule
    c.number-number.ensures c.in_ok-from.ensures.reported c.in_ok-rule.ensures.reported

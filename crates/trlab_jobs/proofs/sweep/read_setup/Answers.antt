use Rattle.trlab_texts.proofs.Readings.{handed_on}
use Rattle.trlab_jobs.proofs.SweepLines.{key_fails, shape_fails, rule_fails, span_fails, setup_said}
use Rattle.trlab_jobs.proofs.sweep.read_setup.Goals as goal

pub returns-in_err-key : goal.returns-in_err-key
returns-in_err-key c =
    let fault = handed_on c.from_residual.result c.in_err-key.field-0.0 c.from_residual.ensures.0 c.from_residual.ensures.1 in
    record {
      reported = rw fault (key_fails c.args.rest c.in_err-key.field-0.0 c.in_err-key.ensures);
      cells = rw fault tt;
      at_most_max_lanes = rw fault tt;
      warm = rw fault tt;
      measure = rw fault tt;
    }

pub returns-in_err-shape : goal.returns-in_err-shape
returns-in_err-shape c =
    let fault = handed_on c.from_residual-in_err-shape.result c.in_err-shape.field-0.0 c.from_residual-in_err-shape.ensures.0 c.from_residual-in_err-shape.ensures.1 in
    record {
      reported = rw fault (shape_fails c.in_ok-key.key c.args.rest c.in_ok-key.rest c.in_err-shape.field-0.0 c.in_ok-key.ensures c.in_err-shape.ensures.reported);
      cells = rw fault tt;
      at_most_max_lanes = rw fault tt;
      warm = rw fault tt;
      measure = rw fault tt;
    }

pub returns-in_err-rule : goal.returns-in_err-rule
returns-in_err-rule c =
    let fault = handed_on c.from_residual-in_err-rule.result c.in_err-rule.field-0.0 c.from_residual-in_err-rule.ensures.0 c.from_residual-in_err-rule.ensures.1 in
    record {
      reported = rw fault (rule_fails c.in_ok-key.key c.in_ok-shape.shape c.args.rest c.in_ok-key.rest c.in_ok-shape.rest c.in_err-rule.field-0.0 c.in_ok-key.ensures c.in_ok-shape.ensures.reported c.in_err-rule.ensures.reported);
      cells = rw fault tt;
      at_most_max_lanes = rw fault tt;
      warm = rw fault tt;
      measure = rw fault tt;
    }

pub returns-in_err-span : goal.returns-in_err-span
returns-in_err-span c =
    let fault = handed_on c.from_residual-in_err-span.result c.in_err-span.field-0.0 c.from_residual-in_err-span.ensures.0 c.from_residual-in_err-span.ensures.1 in
    record {
      reported = rw fault (span_fails c.in_ok-key.key c.in_ok-shape.shape c.in_ok-rule.rule c.args.rest c.in_ok-key.rest c.in_ok-shape.rest c.in_ok-rule.rest c.in_err-span.field-0.0
          c.in_ok-key.ensures c.in_ok-shape.ensures.reported c.in_ok-rule.ensures.reported c.in_err-span.ensures.reported);
      cells = rw fault tt;
      at_most_max_lanes = rw fault tt;
      warm = rw fault tt;
      measure = rw fault tt;
    }

pub returns-clause-reported : goal.returns-clause-reported
returns-clause-reported c =
    setup_said c.in_ok-key.key c.in_ok-shape.shape c.in_ok-rule.rule c.in_ok-span.span c.args.rest c.in_ok-key.rest c.in_ok-shape.rest c.in_ok-rule.rest c.in_ok-span.rest
    c.in_ok-key.ensures c.in_ok-shape.ensures.reported c.in_ok-rule.ensures.reported c.in_ok-span.ensures.reported

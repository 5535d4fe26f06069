use Rattle.trlab_texts.proofs.Readings.{handed_on}
use Rattle.trlab_jobs.proofs.SweepLines.{warm_fails, measure_fails, span_said}
use Rattle.trlab_jobs.proofs.sweep.read_span.Goals as goal

pub returns-in_err-warm-clause-reported : goal.returns-in_err-warm-clause-reported
returns-in_err-warm-clause-reported c =
    let fault = handed_on c.from_residual.result c.in_err-warm.field-0.0 c.from_residual.ensures.0 c.from_residual.ensures.1 in
    rw fault (warm_fails c.args.rest c.in_err-warm.field-0.0 c.in_err-warm.ensures.reported)

pub returns-in_err-measure-clause-reported : goal.returns-in_err-measure-clause-reported
returns-in_err-measure-clause-reported c =
    let fault = handed_on c.from_residual-in_err-measure.result c.in_err-measure.field-0.0 c.from_residual-in_err-measure.ensures.0 c.from_residual-in_err-measure.ensures.1 in
    rw fault (measure_fails c.in_ok-warm.warm c.args.rest c.in_ok-warm.rest c.in_err-measure.field-0.0 c.in_ok-warm.ensures.reported c.in_err-measure.ensures.reported)

pub returns-clause-reported : goal.returns-clause-reported
returns-clause-reported c =
    span_said c.in_ok-warm.warm c.in_ok-measure.measure c.args.rest c.in_ok-warm.rest c.in_ok-measure.rest c.in_ok-warm.ensures.reported c.in_ok-measure.ensures.reported

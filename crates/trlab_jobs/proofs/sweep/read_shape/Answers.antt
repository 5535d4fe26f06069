use Rattle.trlab_texts.proofs.Readings.{handed_on}
use Rattle.trlab_jobs.proofs.SweepLines.{limit_fails, cells_fail, lanes_fail, shape_said}
use Rattle.trlab_jobs.proofs.sweep.read_shape.Goals as goal

pub returns-in_err-limit : goal.returns-in_err-limit
returns-in_err-limit c =
    let fault = handed_on c.from_residual.result c.in_err-limit.field-0.0 c.from_residual.ensures.0 c.from_residual.ensures.1 in
    record {
      reported = rw fault (limit_fails c.args.rest c.in_err-limit.field-0.0 c.in_err-limit.ensures.reported);
      cells = rw fault tt;
      at_least_one_lane = rw fault tt;
      at_most_max_lanes = rw fault tt;
    }

pub returns-in_err-length : goal.returns-in_err-length
returns-in_err-length c =
    let fault = handed_on c.from_residual-in_err-length.result c.in_err-length.field-0.0 c.from_residual-in_err-length.ensures.0 c.from_residual-in_err-length.ensures.1 in
    record {
      reported = rw fault (cells_fail c.in_ok-limit.limit c.args.rest c.in_ok-limit.rest c.in_err-length.field-0.0 c.in_ok-limit.ensures.reported c.in_err-length.ensures.reported);
      cells = rw fault tt;
      at_least_one_lane = rw fault tt;
      at_most_max_lanes = rw fault tt;
    }

pub returns-in_err-lanes : goal.returns-in_err-lanes
returns-in_err-lanes c =
    let fault = handed_on c.from_residual-in_err-lanes.result c.in_err-lanes.field-0.0 c.from_residual-in_err-lanes.ensures.0 c.from_residual-in_err-lanes.ensures.1 in
    record {
      reported = rw fault (lanes_fail c.in_ok-limit.limit c.in_ok-length.length c.args.rest c.in_ok-limit.rest c.in_ok-length.rest c.in_err-lanes.field-0.0
          c.in_ok-limit.ensures.reported c.in_ok-length.ensures.reported c.in_err-lanes.ensures.reported);
      cells = rw fault tt;
      at_least_one_lane = rw fault tt;
      at_most_max_lanes = rw fault tt;
    }

pub returns-clause-reported : goal.returns-clause-reported
returns-clause-reported c =
    shape_said c.in_ok-limit.limit c.in_ok-length.length c.in_ok-lanes.lanes c.args.rest c.in_ok-limit.rest c.in_ok-length.rest c.in_ok-lanes.rest
    c.in_ok-limit.ensures.reported c.in_ok-length.ensures.reported c.in_ok-lanes.ensures.reported

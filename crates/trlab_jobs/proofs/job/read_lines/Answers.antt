use Rattle.std.proofs.Common.{rules, Ok, Err}
use Rattle.trlab_texts.{specs.Reading.{line, exactly}, proofs.Readings.{line_by, stops, handed_on}}
use Rattle.trlab_jobs.specs.Job.{lanes, road_line, key_line, limit_line}
use Rattle.trlab_jobs.proofs.JobLines.{after_road, after_key, after_limit, after_lanes, behind_road}
use Rattle.trlab_jobs.proofs.JobLines.{behind_key, behind_limit, behind_lanes, lines_fail, lines_end}
use Rattle.trlab_jobs.proofs.job.read_lines.Goals as goal

pub returns-in_err-rest : goal.returns-in_err-rest
returns-in_err-rest c =
    let fault = handed_on c.from_residual.result c.in_err-rest.field-0.0 c.from_residual.ensures.0 c.from_residual.ensures.1 in
    record {
      reported = rw fault (lines_fail c.args.text.now c.start.result c.in_err-rest.field-0.0 c.start.ensures
          (stops (line (exactly road_line)) (λ _. after_road) c.start.result c.in_err-rest.field-0.0 (line_by _ (exactly road_line) c.start.result (Err c.in_err-rest.field-0.0) (λ text says p. search rules) c.in_err-rest.ensures)));
      stored = rw fault tt;
    }

pub returns-in_err-key : goal.returns-in_err-key
returns-in_err-key c =
    let fault = handed_on c.from_residual-in_err-key.result c.in_err-key.field-0.0 c.from_residual-in_err-key.ensures.0 c.from_residual-in_err-key.ensures.1 in
    record {
      reported = rw fault (lines_fail c.args.text.now c.start.result c.in_err-key.field-0.0 c.start.ensures
          (behind_road c.start.result c.in_ok-rest.rest (Err c.in_err-key.field-0.0) (line_by _ (exactly road_line) c.start.result (Ok (tt, c.in_ok-rest.rest)) (λ text says p. search rules) c.in_ok-rest.ensures)
          (stops (line (exactly key_line)) after_key c.in_ok-rest.rest c.in_err-key.field-0.0 (line_by _ (exactly key_line) c.in_ok-rest.rest (Err c.in_err-key.field-0.0) (λ text says p. search rules) c.in_err-key.ensures))));
      stored = rw fault tt;
    }

pub returns-in_err-limit : goal.returns-in_err-limit
returns-in_err-limit c =
    let fault = handed_on c.from_residual-in_err-limit.result c.in_err-limit.field-0.0 c.from_residual-in_err-limit.ensures.0 c.from_residual-in_err-limit.ensures.1 in
    record {
      reported = rw fault (lines_fail c.args.text.now c.start.result c.in_err-limit.field-0.0 c.start.ensures
          (behind_road c.start.result c.in_ok-rest.rest (Err c.in_err-limit.field-0.0) (line_by _ (exactly road_line) c.start.result (Ok (tt, c.in_ok-rest.rest)) (λ text says p. search rules) c.in_ok-rest.ensures)
          (behind_key c.in_ok-key.key c.in_ok-rest.rest c.in_ok-key.rest (Err c.in_err-limit.field-0.0) (line_by _ (exactly key_line) c.in_ok-rest.rest (Ok (c.in_ok-key.key, c.in_ok-key.rest)) (λ text says p. search rules) c.in_ok-key.ensures)
          (stops (line (exactly limit_line)) (after_limit c.in_ok-key.key) c.in_ok-key.rest c.in_err-limit.field-0.0 (line_by _ (exactly limit_line) c.in_ok-key.rest (Err c.in_err-limit.field-0.0) (λ text says p. search rules) c.in_err-limit.ensures)))));
      stored = rw fault tt;
    }

pub returns-in_err-road : goal.returns-in_err-road
returns-in_err-road c =
    let fault = handed_on c.from_residual-in_err-road.result c.in_err-road.field-0.0 c.from_residual-in_err-road.ensures.0 c.from_residual-in_err-road.ensures.1 in
    record {
      reported = rw fault (lines_fail c.args.text.now c.start.result c.in_err-road.field-0.0 c.start.ensures
          (behind_road c.start.result c.in_ok-rest.rest (Err c.in_err-road.field-0.0) (line_by _ (exactly road_line) c.start.result (Ok (tt, c.in_ok-rest.rest)) (λ text says p. search rules) c.in_ok-rest.ensures)
          (behind_key c.in_ok-key.key c.in_ok-rest.rest c.in_ok-key.rest (Err c.in_err-road.field-0.0) (line_by _ (exactly key_line) c.in_ok-rest.rest (Ok (c.in_ok-key.key, c.in_ok-key.rest)) (λ text says p. search rules) c.in_ok-key.ensures)
          (behind_limit c.in_ok-key.key c.in_ok-limit.limit c.in_ok-key.rest c.in_ok-limit.rest (Err c.in_err-road.field-0.0) (line_by _ (exactly limit_line) c.in_ok-key.rest (Ok (c.in_ok-limit.limit, c.in_ok-limit.rest)) (λ text says p. search rules) c.in_ok-limit.ensures)
          (stops (lanes c.in_ok-limit.limit) (after_lanes c.in_ok-key.key) c.in_ok-limit.rest c.in_err-road.field-0.0 c.in_err-road.ensures.reported)))));
      stored = rw fault tt;
    }

pub returns-clause-reported : goal.returns-clause-reported
returns-clause-reported c =
    lines_end c.args.text.now c.start.result c.in_ok-road.rest (after_lanes c.in_ok-key.key c.in_ok-road.road) c.read_rules.result c.start.ensures c.read_rules.ensures.reported (λ out says.
    behind_road c.start.result c.in_ok-rest.rest out (line_by _ (exactly road_line) c.start.result (Ok (tt, c.in_ok-rest.rest)) (λ text says p. search rules) c.in_ok-rest.ensures)
    (behind_key c.in_ok-key.key c.in_ok-rest.rest c.in_ok-key.rest out (line_by _ (exactly key_line) c.in_ok-rest.rest (Ok (c.in_ok-key.key, c.in_ok-key.rest)) (λ text says p. search rules) c.in_ok-key.ensures)
    (behind_limit c.in_ok-key.key c.in_ok-limit.limit c.in_ok-key.rest c.in_ok-limit.rest out (line_by _ (exactly limit_line) c.in_ok-key.rest (Ok (c.in_ok-limit.limit, c.in_ok-limit.rest)) (λ text says p. search rules) c.in_ok-limit.ensures)
    (behind_lanes c.in_ok-key.key c.in_ok-limit.limit c.in_ok-road.road c.in_ok-limit.rest c.in_ok-road.rest out c.in_ok-road.ensures.reported says))))

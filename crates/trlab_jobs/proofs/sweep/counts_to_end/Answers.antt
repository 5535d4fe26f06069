use Rattle.std.proofs.{Common.{◌≡◌, [], ◌∷◌, ◌++◌, arith}, lemmas.Grind.common_steps}
use Rattle.trlab_texts.proofs.Readings.{handed_on}
use Rattle.trlab_jobs.proofs.{CountLines.{one_more, stopped, all_read}, LaterLines.some_left}
use Rattle.trlab_jobs.proofs.sweep.counts_to_end.Goals as goal

pub returns-in_err-count : goal.returns-in_err-count
returns-in_err-count c =
    let fault = handed_on c.from_residual.result c.in_err-count.field-0.0 c.from_residual.ensures.0 c.from_residual.ensures.1 in
    rw fault (stopped c.args.cells c.args.steps c.args.rest c.loop-rest.counts.items c.loop-rest.point c.loop-rest.rest c.in_err-count.field-0.0
    c.loop-rest.invariant.so_far (some_left c.loop-rest.rest c.is_end.result c.loop-rest-test.true c.is_end.ensures) c.in_err-count.ensures.reported)

pub loop-rest-preserved : goal.loop-rest-preserved
loop-rest-preserved c =
    let pushed : c.push.new.self.items ≡ c.loop-rest.counts.items ++ (c.in_ok-count.count ∷ []) = grind (arith, common_steps) in
    record {
      so_far = rw pushed (one_more c.args.cells c.args.steps c.args.rest c.loop-rest.counts.items c.loop-rest.point c.loop-rest.rest c.in_ok-count.after c.in_ok-count.count
          c.loop-rest.invariant.so_far c.in_ok-count.ensures.reported);
      few = omega (arith, c.in_ok-count.ensures.room);
    }

pub returns : goal.returns
returns c =
    all_read c.args.cells c.args.steps c.args.rest c.loop-rest.counts.items c.loop-rest.point c.loop-rest.rest c.loop-rest.invariant.so_far
    (c.is_end.ensures.0 c.loop-rest-test.false)

use Rattle.std.proofs.{Common.arith, lemmas.Grind.common_steps}
use Rattle.trlab_texts.proofs.Readings.{handed_on}
use Rattle.trlab_jobs.proofs.Shown.{lanes_show, lanes_fail}
use Rattle.trlab_jobs.proofs.lane.lanes.Goals as goal

pub returns-in_err-road-clause-reported : goal.returns-in_err-road-clause-reported
returns-in_err-road-clause-reported c =
    let fault = handed_on c.from_residual-in_err-road.result c.in_err-road.field-0.0 c.from_residual-in_err-road.ensures.0 c.from_residual-in_err-road.ensures.1 in
    rw fault (lanes_fail c.args.limit c.number-first.result _ _ _ _ _ c.in_err-road.field-0.0 c.number-first.ensures c.in_ok-picture.ensures.reported c.in_ok-second.ensures c.in_err-road.ensures.reported)

pub returns-clause-reported : goal.returns-clause-reported
returns-clause-reported c =
    lanes_show c.args.limit c.number-first.result _ _ _ _ _ c.in_ok-road.road c.number-first.ensures c.in_ok-picture.ensures.reported c.in_ok-second.ensures c.in_ok-road.ensures.reported

pub returns-in_err-picture-clause-reported : goal.returns-in_err-picture-clause-reported
returns-in_err-picture-clause-reported c = grind (arith, common_steps)

pub returns-in_err-second-clause-reported : goal.returns-in_err-second-clause-reported
returns-in_err-second-clause-reported c = grind (arith, common_steps)

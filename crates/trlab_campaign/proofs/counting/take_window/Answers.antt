use Rattle.std.proofs.Common.{◌∙◌}
use Rattle.trlab_campaign.proofs.Courses.{road_then, run_since, sums_grow, window_is}
use Rattle.trlab_campaign.proofs.counting.take_window.Goals as goal

pub point_since-requires-clause-distance : goal.point_since-requires-clause-distance
point_since-requires-clause-distance g c =
    (sums_grow c.args.run.now c.count_lanes.new.run c.args.every c.tally-before.result c.in_ok-lane0.ensures.on c.requires.counts c.tally-before.ensures.run c.step.ensures.underway).0

pub point_since-requires-clause-stopped : goal.point_since-requires-clause-stopped
point_since-requires-clause-stopped g c =
    (sums_grow c.args.run.now c.count_lanes.new.run c.args.every c.tally-before.result c.in_ok-lane0.ensures.on c.requires.counts c.tally-before.ensures.run c.step.ensures.underway).1

pub point_since-requires-clause-changes : goal.point_since-requires-clause-changes
point_since-requires-clause-changes g c =
    (sums_grow c.args.run.now c.count_lanes.new.run c.args.every c.tally-before.result c.in_ok-lane0.ensures.on c.requires.counts c.tally-before.ensures.run c.step.ensures.underway).2

pub returns-clause-counted : goal.returns-clause-counted
returns-clause-counted g c = λ roads tallies course.
    let start = c.args.run.now in
    let run = c.count_lanes.new.run in
    let on = c.in_ok-lane0.ensures.on in
    let told = c.point_since.ensures in
    window_is roads tallies start.step c.args.every c.from.result run.road c.tally-before.result run.sum c.point_since.result c.in_ok-lane0.lane0 c.in_ok-lane0.lane1
    (c.from.ensures ∙ c.step.ensures.value ∙ on.later)
    (road_then start run c.args.every c.tally-before.result on c.requires.counts c.tally-before.ensures.run c.step.ensures.underway roads course.road_at)
    (run_since start run c.args.every c.tally-before.result on c.requires.counts c.tally-before.ensures.run c.step.ensures.underway roads tallies course)
    (record { cars = told.cars; cells = told.cells; steps = told.steps; distance = told.distance; stopped = told.stopped; changes = told.changes })
    (c.in_ok-lane0.ensures.lane0 roads course.road_at) (c.in_ok-lane0.ensures.lane1 roads course.road_at)

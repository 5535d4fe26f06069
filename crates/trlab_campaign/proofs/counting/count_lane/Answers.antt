use Rattle.std.proofs.Common.{◌∙◌, ap, sym}
use Rattle.trlab_diagram.specs.declared.point.LaneCount.{LaneCount}
use Rattle.trlab_campaign.proofs.LaneCounts.{line_cars, line_speed, line_stopped, no_cars_on, no_speed_on}
use Rattle.trlab_campaign.proofs.LaneCounts.{none_stopped_on}
use Rattle.trlab_campaign.proofs.counting.count_lane.Goals as goal

pub returns-then-lanes-lane-clause-cars : goal.returns-then-lanes-lane-clause-cars
returns-then-lanes-lane-clause-cars c =
    ap (λ (count : LaneCount). count.cars) c.no_cars.ensures ∙ sym (no_cars_on c.args.road.now c.args.lane (rw (← c.lanes.ensures.value) c.if-lanes-lane.true))

pub returns-then-lanes-lane-clause-distance : goal.returns-then-lanes-lane-clause-distance
returns-then-lanes-lane-clause-distance c =
    ap (λ (count : LaneCount). count.distance) c.no_cars.ensures ∙ sym (no_speed_on c.args.road.now c.args.lane (rw (← c.lanes.ensures.value) c.if-lanes-lane.true))

pub returns-then-lanes-lane-clause-stopped : goal.returns-then-lanes-lane-clause-stopped
returns-then-lanes-lane-clause-stopped c =
    ap (λ (count : LaneCount). count.stopped) c.no_cars.ensures ∙ sym (none_stopped_on c.args.road.now c.args.lane (rw (← c.lanes.ensures.value) c.if-lanes-lane.true))

pub returns-clause-cars : goal.returns-clause-cars
returns-clause-cars c =
    ap (λ (count : LaneCount). count.cars) c.count_cars.ensures.value ∙ line_cars c.args.road.now c.args.lane c.line_of.result.now c.line_of.ensures.line

pub returns-clause-distance : goal.returns-clause-distance
returns-clause-distance c =
    ap (λ (count : LaneCount). count.distance) c.count_cars.ensures.value ∙ line_speed c.args.road.now c.args.lane c.line_of.result.now c.line_of.ensures.line

pub returns-clause-stopped : goal.returns-clause-stopped
returns-clause-stopped c =
    ap (λ (count : LaneCount). count.stopped) c.count_cars.ensures.value ∙ line_stopped c.args.road.now c.args.lane c.line_of.result.now c.line_of.ensures.line

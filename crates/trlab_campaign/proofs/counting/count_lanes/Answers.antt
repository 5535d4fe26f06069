use Rattle.std.proofs.Common.{◌≡◌, ◌∙◌, ◌+◌, arith}
use Rattle.trlab_campaign.proofs.Courses.{few_more, lane_more, road_here}
use Rattle.trlab_campaign.proofs.counting.count_lanes.Goals as goal

pub loop-done-preserved : goal.loop-done-preserved
loop-done-preserved g c =
    let start = c.args.run.now in
    let run = c.advance.new.self in
    let done = c.loop-done.done in
    let inv = c.loop-done.invariant in
    let on = c.in_ok-advance.ensures.on in
    let next = on.next_step in
    let at = inv.at in
    let seed = on.same_seed ∙ inv.seed in
    let sheet = on.same_sheet ∙ inv.sheet in
    let here : run.step ≡ start.step + 1 + done = omega (arith, next, at) in
    let a = c.lane_sum-lane0.ensures in
    let b = c.lane_sum-lane1.ensures in
    let one = c.count_lane.ensures in
    let two = c.count_lane-in-loop-done.ensures in
    record {
      seed = seed;
      sheet = sheet;
      at = omega (arith, next, at);
      lane0_few = few_more done c.loop-done.lane0 c.count_lane.result c.lane_sum-lane0.result inv.lane0_few one.bounded a.cars a.distance a.stopped;
      lane1_few = few_more done c.loop-done.lane1 c.count_lane-in-loop-done.result c.lane_sum-lane1.result inv.lane1_few two.bounded b.cars b.distance b.stopped;
      lane0_is = λ roads each. lane_more 0 roads start.step done c.road.result.now c.loop-done.lane0 c.count_lane.result c.lane_sum-lane0.result (inv.lane0_is roads each)
          (road_here start.seed run.seed start.sheet run.sheet (start.step + 1 + done) run.step roads c.road.result.now seed sheet here each c.road.ensures.run)
          one.cars one.distance one.stopped a.cars a.distance a.stopped;
      lane1_is = λ roads each. lane_more 1 roads start.step done c.road-in-loop-done.result.now c.loop-done.lane1 c.count_lane-in-loop-done.result c.lane_sum-lane1.result (inv.lane1_is roads each)
          (road_here start.seed run.seed start.sheet run.sheet (start.step + 1 + done) run.step roads c.road-in-loop-done.result.now seed sheet here each c.road-in-loop-done.ensures.run)
          two.cars two.distance two.stopped b.cars b.distance b.stopped;
    }

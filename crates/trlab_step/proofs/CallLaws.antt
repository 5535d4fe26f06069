-- Each call of a program in a step, and in a run, is safe.
use Rattle.std.proofs.Common.{length, subst}
use Rattle.trlab_road.specs.Cells.{Cells, IsLegal}
use Rattle.trlab_step.specs.{Laws.{IsLegalLike, RunsCallSafely, StepsCallSafely}, Run.{IsRuleFor, dice_at}}
use Rattle.trlab_step.proofs.{NextLaws.{lane_change_is_one, lane_change_somewhere}, SafeCalls.step_calls_safe}
use Rattle.trlab_step.proofs.RunLaws.{force_all, road_is_unique, rule_for_like, run_comes_to_road}

-- a step has only one middle road, and this road is legal
pub steps_call_safely : StepsCallSafely
steps_call_safely rule dice road middle next tally is legal step =
    let side = lane_change_somewhere rule.change dice road is.change is.two_lanes legal in
    let same = lane_change_is_one rule.change dice road side.middle middle side.changes tally.changes side.lane_change step.lane_change in
    step_calls_safe rule dice road middle (record { motion = is.motion; change = is.change }) is.two_lanes legal (subst IsLegal same.0 side.like.legal)

-- the road at a step of a run is legal, and the rule in force is one for its lanes
pub runs_call_safely : RunsCallSafely
runs_call_safely seed sheet step road middle next sum rule tally legal is comes under steps =
    let there = run_comes_to_road seed sheet step legal is in
    let same = (road_is_unique seed sheet step there.0 road there.1 sum there.2 comes).0 in
    let like = subst (λ (here : Cells). IsLegalLike seed.road here) same there.3 in
    let of_sheet = force_all (IsRuleFor (length seed.road.lanes)) sheet step rule is.rules under in
    steps_call_safely rule (dice_at seed step) road middle next tally (rule_for_like seed.road road rule like of_sheet) like.legal steps

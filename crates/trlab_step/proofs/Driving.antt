-- The roads of a run are driven by one worker.
use Rattle.std.proofs.Common.{ℕ, suc, length, subst, zero-le, arith}
use Rattle.trlab_machine.specs.declared.dice.Dice.{Dice}
use Rattle.trlab_road.specs.Cells.{Cells, IsLegal}
use Rattle.trlab_rules.specs.Rules.{Programs}
use Rattle.trlab_step.specs.{declared.tally.StepTally.StepTally, Laws.{IsDrivenStep, RunsAreDriven}}
use Rattle.trlab_step.specs.{Laws.IsLegalLike, Run.{IsRuleFor, IsSheetFor, Seed, Sheet, IsRoadAt, dice_at}}
use Rattle.trlab_step.{specs.Next.{IsCleanNext, IsNext}, proofs.NextLaws.next_road_exists}
use Rattle.trlab_step.proofs.{NextLaws.next_road_is_unique, RunLaws.{force_all, road_at_is_one}}
use Rattle.trlab_step.proofs.RunLaws.{rule_for_like, run_comes_to_road}

-- there is exactly one next road, and it is clean
next_is_clean : (rule : Programs) (dice : Dice) (road next : Cells) (tally : StepTally) → IsRuleFor (length road.lanes) rule → IsLegal road
    → IsNext rule dice road next tally → IsCleanNext rule dice road next tally
next_is_clean rule dice road next tally is legal comes =
    let found = next_road_exists rule dice road is legal in
    let same = next_road_is_unique rule dice road found.0 next found.1 tally (found.2.0, found.2.1.step) comes in
    subst (λ (count : StepTally). IsCleanNext rule dice road next count) same.1
    (subst (λ (other : Cells). IsCleanNext rule dice road other found.1) same.0 found.2)

-- the road at a step is legal, like the one at the start
like_start : (seed : Seed) (sheet : Sheet) (step : ℕ) (road : Cells) → IsLegal seed.road → IsSheetFor (length seed.road.lanes) sheet
    → IsRoadAt seed sheet step road → IsLegalLike seed.road road
like_start seed sheet step road legal is at =
    let there = run_comes_to_road seed sheet step legal is in
    subst (λ (other : Cells). IsLegalLike seed.road other) (road_at_is_one seed sheet step there.0 road (there.1, there.2) at) there.3

step_is_driven : (seed : Seed) (sheet : Sheet) (step : ℕ) (road next : Cells) → IsLegal seed.road → IsSheetFor (length seed.road.lanes) sheet
    → IsRoadAt seed sheet step road → IsRoadAt seed sheet (suc step) next → IsDrivenStep seed sheet step road next
step_is_driven seed sheet step road next legal is here at =
    let last = at.1 in
    let rule = last.2 in
    let goes = last.5 in
    let same = road_at_is_one seed sheet step last.0 road (last.1, last.4) here in
    let like = like_start seed sheet step road legal is here in
    let for_lanes = rule_for_like seed.road road rule like (force_all (IsRuleFor (length seed.road.lanes)) sheet step rule is.rules goes.under) in
    let comes = subst (λ (other : Cells). IsNext rule (dice_at seed step) other next last.3) same goes.next in
    record {
      rule = rule;
      tally = last.3;
      under = goes.under;
      suits = for_lanes;
      clean = next_is_clean rule (dice_at seed step) road next last.3 for_lanes like.legal comes;
    }

pub runs_are_driven : RunsAreDriven
runs_are_driven seed sheet steps roads legal is at = record {
  start = (at 0 zero-le).1.1;
  legal = λ step inside. like_start seed sheet step (roads step) legal is (at step inside);
  each = λ step inside. step_is_driven seed sheet step (roads step) (roads (suc step)) legal is (at step (omega arith)) (at (suc step) (omega arith));
}

use Rattle.std.proofs.Common.{◌≡◌, ◌+◌, ℕ}
use Rattle.trlab_road.specs.Cells.{Cells}
use Rattle.trlab_campaign.specs.SeriesOutput.{IsBoundedCount, AreRoads, lane_count, roads_after}
use Rattle.trlab_campaign.proofs.counting.count_lanes.Given as goal

abbrev pub invariant-loop-done : goal.invariant-loop-done
invariant-loop-done g l = record {
  seed : l.run.seed ≡ l.fn.run.seed;
  sheet : l.run.sheet ≡ l.fn.run.sheet;
  at : l.run.step ≡ l.fn.run.step + l.done;
  lane0_few : IsBoundedCount l.done l.lane0;
  lane1_few : IsBoundedCount l.done l.lane1;
  lane0_is : (roads : ℕ → Cells) → AreRoads l.fn.run.seed l.fn.run.sheet roads → l.lane0 ≡ lane_count 0 (roads_after roads l.fn.run.step l.done);
  lane1_is : (roads : ℕ → Cells) → AreRoads l.fn.run.seed l.fn.run.sheet roads → l.lane1 ≡ lane_count 1 (roads_after roads l.fn.run.step l.done);
}

use Rattle.std.proofs.Common.{◌≡◌, ◌+◌, ◌-◌, ◌<◌, ◌≤◌, ℕ, length, false, slice_index_or}
use Rattle.trlab_road.specs.Stored.{place_of}
use Rattle.trlab_road.proofs.lane_change.run_end.Given as goal

abbrev pub invariant-loop-end : goal.invariant-loop-end
invariant-loop-end l = record {
  after : l.begin < l.end;
  within : l.end ≤ length l.lane.cars.now;
  stay : (k : ℕ) → l.begin ≤ k → k < l.end → slice_index_or l.crosses (l.lane.from + k) false ≡ false;
  before : (k : ℕ) → l.begin ≤ k → k < l.end → place_of l.lane.cars.now k < l.due;
}

abbrev pub decreases-loop-end : goal.decreases-loop-end
decreases-loop-end l = length l.lane.cars.now - l.end

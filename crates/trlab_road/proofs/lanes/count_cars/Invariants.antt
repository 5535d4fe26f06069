use Rattle.std.proofs.Common.{◌≡◌, ◌≤◌, ◌*◌, length, take, sum_by}
use Rattle.trlab_road.specs.Stored.{lists_of}
use Rattle.trlab_road.proofs.lanes.count_cars.Given as goal

-- the cars of the first lists
abbrev pub invariant-loop-lane : goal.invariant-loop-lane
invariant-loop-lane l = record {
  counted : l.count ≡ sum_by length (take l.lane-index (lists_of l.lanes));
  few : l.count ≤ l.lane-index * 100000;
}

use Rattle.std.proofs.Common.{◌≡◌, take}
use Rattle.trlab_road.specs.Stored.{lists_of}
use Rattle.trlab_road.proofs.lanes.copy_lanes.Given as goal

-- the first lanes are copied
abbrev pub invariant-loop-lane : goal.invariant-loop-lane
invariant-loop-lane l = lists_of l.copies.items ≡ take l.lane-index (lists_of l.lanes)

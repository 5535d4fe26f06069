use Rattle.std.proofs.Common.{◌≡◌, ℕ, ◌<◌}
use Rattle.trlab_road.specs.Stored.{list_at}
use Rattle.trlab_road.proofs.lanes.are_same_lanes.Given as goal

abbrev pub invariant-loop-k : goal.invariant-loop-k
invariant-loop-k l = (j : ℕ) → j < l.k → list_at l.lanes j ≡ list_at l.others j

use Rattle.std.proofs.Common.{ℕ, ◌≡◌, [], length}
use Rattle.trlab_road.specs.Stored.{list_at}
use Rattle.trlab_road.proofs.lanes.empty_lanes.Given as goal

-- one lane per pass of the loop, and no car yet
abbrev pub invariant-loop : goal.invariant-loop
invariant-loop l = record {
  same_count : length l.lanes.items ≡ l.counter;
  empty : (k : ℕ) → list_at l.lanes.items k ≡ [];
}

use Rattle.std.proofs.Common.{ℕ, ◌≡◌, ◌<◌, length}
use Rattle.trlab_road.{specs.Stored.list_at, proofs.ListEven.EvenList}
use Rattle.trlab_road.proofs.spreading.even_lanes.Given as goal

-- the cars so far are on their lanes
abbrev pub invariant-loop-number : goal.invariant-loop-number
invariant-loop-number l = record {
  same_lanes : length l.next.items ≡ l.lanes;
  each_lane : (k : ℕ) → k < length l.next.items → EvenList l.lanes l.cells l.count k l.number (list_at l.next.items k);
}

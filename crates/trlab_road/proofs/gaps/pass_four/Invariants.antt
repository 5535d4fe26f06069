use Rattle.std.proofs.Common.{ℕ, ◌<◌, ◌≤◌, length}
use Rattle.trlab_road.specs.Stored.{place_of}
use Rattle.trlab_road.proofs.gaps.pass_four.Given as goal

abbrev pub invariant-loop-k : goal.invariant-loop-k
invariant-loop-k l = record {
  not_past : l.next ≤ l.k;
  before : (k : ℕ) → k < l.next → k < length l.cars → place_of l.cars k < l.place;
  from : l.next < l.k → l.place ≤ place_of l.cars l.next;
}

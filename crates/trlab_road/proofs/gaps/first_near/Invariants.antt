use Rattle.std.proofs.Common.{ℕ, ◌<◌, length}
use Rattle.trlab_road.specs.Stored.{place_of}
use Rattle.trlab_road.proofs.gaps.first_near.Given as goal

abbrev pub invariant-loop-next : goal.invariant-loop-next
invariant-loop-next l = (k : ℕ) → k < l.next → k < length l.cars → place_of l.cars k < l.place

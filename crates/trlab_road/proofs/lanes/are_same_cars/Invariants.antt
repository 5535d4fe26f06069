use Rattle.std.proofs.Common.{◌≡◌, ℕ, ◌<◌, ◌↔◌, slice_index_or}
use Rattle.trlab_road.specs.Stored.{no_car}
use Rattle.trlab_road.proofs.lanes.are_same_cars.Given as goal

abbrev pub invariant-loop-k : goal.invariant-loop-k
invariant-loop-k l =
    (l.max_difference ≡ 0) ↔ ((j : ℕ) → j < l.k → slice_index_or l.cars j no_car ≡ slice_index_or l.others j no_car)

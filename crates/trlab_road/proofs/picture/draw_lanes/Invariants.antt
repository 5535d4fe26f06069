use Rattle.std.proofs.Common.{◌≡◌, ◌<◌, ◌*◌, ◌≤◌, ◌++◌, ℕ, drop, length, map}
use Rattle.trlab_bounds.specs.declared.roads.TheConstants.{MAX_LENGTH}
use Rattle.trlab_road.specs.Stored.{IsSortedFrom, lanes_from, list_at, lanes_of_pictures}
use Rattle.trlab_road.proofs.picture.draw_lanes.Given as goal

-- the lanes so far and the lanes of the remaining pictures are all lanes
abbrev pub invariant-loop-picture : goal.invariant-loop-picture
invariant-loop-picture l = record {
  whole : lanes_from l.cells l.lanes.items ++ lanes_of_pictures l.number (drop l.picture-index (map (λ s. s.now) l.pictures)) ≡ lanes_of_pictures 0 (map (λ s. s.now) l.pictures);
  size : length l.lanes.items ≡ l.picture-index;
  rises : (m : ℕ) → m < l.picture-index → IsSortedFrom 0 l.cells (list_at l.lanes.items m);
  few : l.number ≤ MAX_LENGTH * l.picture-index;
}

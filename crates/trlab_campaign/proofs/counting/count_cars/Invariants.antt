use Rattle.std.proofs.Common.{◌≡◌, ◌*◌, ◌≤◌, nat_eq, take, count_by, sum_by}
use Rattle.trlab_bounds.specs.declared.roads.TheConstants.{MAX_LIMIT}
use Rattle.trlab_road.specs.Stored.{LaneCar}
use Rattle.trlab_campaign.proofs.counting.count_cars.Given as goal

abbrev pub invariant-loop-k : goal.invariant-loop-k
invariant-loop-k l = record {
  distance : l.distance ≡ sum_by (λ (car : LaneCar). car.speed) (take l.k l.line);
  stopped : l.stopped ≡ count_by (λ (car : LaneCar). nat_eq car.speed 0) (take l.k l.line);
  slow : l.distance ≤ MAX_LIMIT * l.k;
  few_stopped : l.stopped ≤ l.k;
}

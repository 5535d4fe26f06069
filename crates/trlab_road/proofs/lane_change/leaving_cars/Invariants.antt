use Rattle.trlab_road.proofs.ListLeaving.{Leaving}
use Rattle.trlab_road.proofs.lane_change.leaving_cars.Given as goal

abbrev pub invariant-loop-k : goal.invariant-loop-k
invariant-loop-k l = Leaving l.cells l.lane.cars.now l.crosses l.lane.from l.k l.leaving.items

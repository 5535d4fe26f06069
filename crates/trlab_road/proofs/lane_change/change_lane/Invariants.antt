use Rattle.std.proofs.Common.{◌+◌, ◌-◌, length, min, true}
use Rattle.trlab_road.{specs.Stored.{cells_of, lane_crosses_at}, proofs.ListLaneChange.{IsDue, Merged}}
use Rattle.trlab_road.proofs.lane_change.change_lane.Given as goal

-- the cells before the next car of either list are done
abbrev pub invariant-loop-own_next : goal.invariant-loop-own_next
invariant-loop-own_next l = record {
  own_due : IsDue l.cells l.own.cars.now l.i l.own_next;
  coming_due : IsDue l.cells l.coming l.j l.due;
  merged : Merged l.cells l.own.cars.now l.coming (lane_crosses_at (cells_of l.cells l.own.cars.now) l.crosses l.own.from) (λ _. true) l.next.items l.i l.j (min l.own_next l.due);
}

abbrev pub decreases-loop-own_next : goal.decreases-loop-own_next
decreases-loop-own_next l = length l.own.cars.now - l.i + (length l.coming - l.j)

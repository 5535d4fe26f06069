use Rattle.std.proofs.Common.{◌≡◌, ◌<◌, ◌≤◌, ℕ, take, sum_by}
use Rattle.trlab_road.specs.{Cells.lane_car_count, Motion.LaneMoves}
use Rattle.trlab_road.specs.Stored.{IsSortedFrom, lanes_from, cells_of, list_at, list_answer}
use Rattle.trlab_road.proofs.motion.move_lanes.Given as goal

-- the cars of the first lanes have moved, and the others have not
abbrev pub invariant-loop-l : goal.invariant-loop-l
invariant-loop-l l = record {
  counted : l.from ≡ sum_by lane_car_count (take l.l (lanes_from l.cells l.fn.lanes));
  rises : (j : ℕ) → j < l.l → IsSortedFrom 0 l.cells (list_at l.lanes j);
  moved : (j : ℕ) → j < l.l → LaneMoves (list_answer l.cells l.fn.lanes l.speeds j) (cells_of l.cells (list_at l.fn.lanes j)) (cells_of l.cells (list_at l.lanes j));
  stand : (j : ℕ) → l.l ≤ j → list_at l.lanes j ≡ list_at l.fn.lanes j;
}

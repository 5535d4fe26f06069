use Rattle.std.proofs.Common.{◌≡◌, ◌<◌, ℕ, List, Vec, Global, length, refl, sym, subst, ◌∙◌, arith}
use Rattle.std.proofs.lemmas.{List.length-map, Result.err_from_is_err_and}
use Rattle.trlab_road.specs.{Stored.{LaneCar, cells_of, lanes_from, list_at}, Cells.Lane}
use Rattle.trlab_road.{specs.Spreading.{IsEvenlySpacedLane, IsEvenlySpaced}, proofs.EvenRoads.even_legal}
use Rattle.trlab_road.proofs.{EvenRoads.even_count, ListRoads.lane_from, EvenExists.{told_fault, told_road}}
use Rattle.trlab_road.proofs.road.Road.even.Goals as goal

-- even lists make an even road
road_of : (lanes cells limit n : ℕ) (made : List (Vec LaneCar Global)) → length made ≡ lanes
    → ((l : ℕ) → l < lanes → IsEvenlySpacedLane lanes cells n l (cells_of cells (list_at made l)))
    → IsEvenlySpaced lanes cells limit n (record { limit = limit; lanes = lanes_from cells made })
road_of lanes cells limit n made size each = record {
  same_limit = refl;
  same_lanes = length-map made (λ (v : Vec LaneCar Global). cells_of cells v.items) ∙ size;
  each_lane = λ l h. subst (λ (lane : Lane). IsEvenlySpacedLane lanes cells n l lane) (sym (lane_from cells made l (omega (arith, size, h)))) (each l h);
}

pub invariant_of-result : goal.invariant_of-result
invariant_of-result c =
    let even = road_of c.args.lanes c.args.cells c.args.limit c.args.count c.in_ok-lanes.lanes.items c.in_ok-lanes.ensures.same_lanes c.in_ok-lanes.ensures.each_lane in
    record { legal = even_legal _ _ _ _ _ c.in_ok-check_even.ensures even; sorted = c.in_ok-lanes.ensures.sorted }

pub returns-clause-even : goal.returns-clause-even
returns-clause-even c = road_of c.args.lanes c.args.cells c.args.limit c.args.count c.in_ok-lanes.lanes.items c.in_ok-lanes.ensures.same_lanes c.in_ok-lanes.ensures.each_lane

pub returns-clause-counted : goal.returns-clause-counted
returns-clause-counted c =
    even_count _ _ _ _ _ c.in_ok-check_even.ensures (road_of c.args.lanes c.args.cells c.args.limit c.args.count c.in_ok-lanes.lanes.items c.in_ok-lanes.ensures.same_lanes c.in_ok-lanes.ensures.each_lane)

pub returns-clause-legal : goal.returns-clause-legal
returns-clause-legal c =
    even_legal _ _ _ _ _ c.in_ok-check_even.ensures (road_of c.args.lanes c.args.cells c.args.limit c.args.count c.in_ok-lanes.lanes.items c.in_ok-lanes.ensures.same_lanes c.in_ok-lanes.ensures.each_lane)

pub returns-in_err-check_even-clause-reported : goal.returns-in_err-check_even-clause-reported
returns-in_err-check_even-clause-reported c = let p = err_from_is_err_and c.from_residual.result c.from_residual.ensures.1 in rw (p.1, p.2) (told_fault c.args.lanes c.args.cells c.args.limit c.args.count _ c.in_err-check_even.ensures)

pub returns-clause-reported : goal.returns-clause-reported
returns-clause-reported c = told_road c.args.lanes c.args.cells c.args.limit c.args.count _ c.in_ok-check_even.ensures

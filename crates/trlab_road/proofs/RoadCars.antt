-- The cars of a road, by their order and by their lanes.
use Rattle.std.proofs.Common.{◌≡◌, ℕ, zero, suc, ◌∷◌, take, ◌<◌, ◌≤◌, ◌+◌, Some, List, [], length, get_or}
use Rattle.std.proofs.{Common.{◌∙◌, ap, arith, slice_get, sum_by}, lemmas.List.{take_more, Sums.sum_by-cons}}
use Rattle.std.proofs.lemmas.{List.Sums.sum_by_push, Option.{slice_get_within, get_or_from_slice_get}}
use Rattle.trlab_road.specs.{declared.car.Car.Car, Cells.{Lane, Cells, lane_car_count, standing}}
use Rattle.trlab_road.{specs.Motion.in_order, proofs.StandingOrder.get_or-map_in}

-- the k-th value is the function's value for the k-th car
pub in_order_kth : {X : Type 0} (f : ℕ → ℕ → X) (road : Cells) (k : ℕ) (car : Car) (e : X)
    → slice_get (standing road) k ≡ Some car → get_or (in_order f road) k e ≡ f car.lane car.place
in_order_kth {X = X} f road k car e there =
    let g : Car → X = λ c. f c.lane c.place in
    get_or-map_in g (standing road) k car e (slice_get_within (standing road) k car there)
    ∙ ap g (get_or_from_slice_get (standing road) k car car there)

-- the cars of the first lanes, and of one more
pub cars_more : (lanes : List Lane) (l : ℕ) → l < length lanes
    → sum_by lane_car_count (take (l + 1) lanes) ≡ sum_by lane_car_count (take l lanes) + lane_car_count (get_or lanes l [])
cars_more lanes l h = rw (take_more lanes l [] h) (sum_by_push lane_car_count (take l lanes) (get_or lanes l []))

pub cars_within : (lanes : List Lane) (l : ℕ) → l < length lanes
    → sum_by lane_car_count (take l lanes) + lane_car_count (get_or lanes l []) ≤ sum_by lane_car_count lanes
cars_within [] l h = absurd (omega arith)
cars_within (lane ∷ lanes) zero h = let e = sum_by-cons lane_car_count lane lanes in omega arith
cars_within (lane ∷ lanes) (suc l) h =
    let e = sum_by-cons lane_car_count lane lanes in
    let f = sum_by-cons lane_car_count lane (take l lanes) in
    let k = cars_within lanes l (omega arith) in
    omega arith

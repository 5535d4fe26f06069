-- The largest counts of one step.
use Rattle.std.proofs.Common.{◌≡◌, ℕ, suc, ◌*◌, ◌<◌, ◌≤◌, List, [], ◌∷◌, length, get_or, arith, Bool, true}
use Rattle.std.proofs.Common.{false, cond, Option, Some, None, sum_by, count_by, is_some, nat_eq}
use Rattle.std.proofs.lemmas.List.Sums.{sum_by-cons}
use Rattle.trlab_bounds.specs.declared.roads.TheConstants.{MAX_LIMIT}
use Rattle.trlab_road.specs.{declared.car.Car.Car, Cells.{Cells, Lane, cars, lane_car_count, IsLegal}}
use Rattle.trlab_road.{specs.Cells.standing, proofs.StandingOrder.{standing_cell, length-standing_from_lane}}
use Rattle.trlab_rules.specs.Rules.{Programs}
use Rattle.trlab_verify.specs.Verified.{CheckedProgram}
use Rattle.trlab_machine.specs.declared.dice.Dice.{Dice}
use Rattle.trlab_step.specs.Next.{IsNext, IsLaneChangePhase, crossing_cars}
use Rattle.trlab_step.specs.declared.tally.StepTally.{StepTally}

-- a count is at most the length
few_counted : {X : Type 0} (p : X → Bool) (xs : List X) → count_by p xs ≤ length xs
few_counted p [] = omega arith
few_counted {X} p (x ∷ xs) =
    let one = sum_by-cons (λ (y : X). cond (p y) 1 0) x xs in
    let rest = few_counted p xs in
    let here = at_most_one (p x) in
    omega arith
  where
    at_most_one : (b : Bool) → cond b 1 0 ≤ 1
    at_most_one true = omega arith
    at_most_one false = omega arith

-- a sum of numbers up to the largest limit
small_sum : {X : Type 0} (f : X → ℕ) (xs : List X) → ((k : ℕ) (d : X) → k < length xs → f (get_or xs k d) ≤ MAX_LIMIT) → sum_by f xs ≤ MAX_LIMIT * length xs
small_sum f [] small = omega arith
small_sum f (x ∷ xs) small =
    let one = sum_by-cons f x xs in
    let here = small 0 x (omega arith) in
    let rest = small_sum f xs (λ k d below. small (suc k) d (omega arith)) in
    omega arith

few_on_lanes : (limit : ℕ) (lanes : List Lane) → IsLegal (record { limit = limit; lanes = lanes }) → sum_by lane_car_count lanes ≤ 200000
few_on_lanes limit [] legal = omega arith
few_on_lanes limit (a ∷ []) legal =
    let long : length a ≤ 100000 = legal.shape.cells.few_cells in
    let few : lane_car_count a ≤ length a = few_counted is_some a in
    let one = sum_by-cons lane_car_count a [] in
    omega arith
few_on_lanes limit (a ∷ b ∷ []) legal =
    let long : length a ≤ 100000 = legal.shape.cells.few_cells in
    let same : length b ≡ length a = legal.shape.equal 1 (omega arith) in
    let few : lane_car_count a ≤ length a = few_counted is_some a in
    let also : lane_car_count b ≤ length b = few_counted is_some b in
    let one = sum_by-cons lane_car_count a (b ∷ []) in
    let two = sum_by-cons lane_car_count b [] in
    omega arith
few_on_lanes limit (a ∷ b ∷ c ∷ lanes) legal =
    let many = legal.shape.lanes.few_lanes in
    absurd (omega arith)

-- a legal road has at most 200000 cars
pub few_cars : (road : Cells) → IsLegal road → cars road ≤ 200000
few_cars road legal = few_on_lanes road.limit road.lanes legal

all_in_order : (road : Cells) → length (standing road) ≡ cars road
all_in_order road = length-standing_from_lane 0 road.lanes

-- a tally that is no larger than the largest of one step
pub record IsSmall (tally : StepTally) : Type 0 where
  pub distance : tally.distance ≤ MAX_LIMIT * 200000
  pub stopped : tally.stopped ≤ 200000
  pub changes : tally.changes ≤ 200000

few_changes : (change : Option CheckedProgram) (dice : Dice) (road middle : Cells) (changes : ℕ) → IsLegal road → IsLaneChangePhase change dice road middle changes → changes ≤ 200000
few_changes None dice road middle changes legal phase = let none = phase.1 in omega arith
few_changes (Some change) dice road middle changes legal phase =
    let counted : changes ≡ crossing_cars phase.1 road = phase.4 in
    let few = few_counted (λ (car : Car). phase.1 car.lane car.place) (standing road) in
    let all = all_in_order road in
    let most = few_cars road legal in
    omega arith

-- the tally of a step between legal roads is small
pub small_tally : (rule : Programs) (dice : Dice) (road next : Cells) (tally : StepTally) → IsLegal road → IsLegal next → IsNext rule dice road next tally → IsSmall tally
small_tally rule dice road next tally legal after is =
    let all = all_in_order next in
    let most = few_cars next after in
    let gone = is.1.distance in
    let stopped = is.1.stopped in
    let slow = small_sum (λ (car : Car). car.speed) (standing next) (λ k d below.
    let car = get_or (standing next) k d in
    let low : car.speed ≤ next.limit = after.within_limit car (standing_cell next k d (omega arith)) in
    let limit : next.limit ≤ MAX_LIMIT = after.shape.limit.low_limit in
    omega arith) in
    let few = few_counted (λ (car : Car). nat_eq car.speed 0) (standing next) in
    record {
      distance = omega arith;
      stopped = omega arith;
      changes = few_changes rule.change dice road is.0 tally.changes legal is.1.lane_change;
    }

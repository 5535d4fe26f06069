-- The counts of a lane among all cars of a road are the counts of the lane's line of cars.
use Rattle.std.proofs.Common.{◌≡◌, ◌≢◌, ℕ, zero, suc, ◌+◌, ◌<◌, ◌≤◌, ◌&&◌, Bool, true, false, cond, eqb, Some}
use Rattle.std.proofs.Common.{None, List, [], ◌∷◌, length, get_or, map, refl, sym, ◌∙◌, ap, subst, arith}
use Rattle.std.proofs.{Common.{nat_eq, eq-eqb, ne_eqb, count_by, sum_by}, lemmas.Bool.{cond-true, cond-false}}
use Rattle.std.proofs.lemmas.List.Sums.{sum_by-append, sum_by-cons}
use Rattle.trlab_road.specs.{declared.car.Car.Car, Stored.{LaneCar, IsLineOf, car_on}}
use Rattle.trlab_road.specs.Cells.{Lane, Cells, standing, standing_from, standing_from_lane}
use Rattle.trlab_campaign.specs.SeriesOutput.{cars_on, is_on, total_speed_on, stopped_on}

-- a number of each car on a lane, 0 for the others
abbrev pub on : ℕ → (Car → ℕ) → Car → ℕ
on lane f car = cond (is_on lane car) (f car) 0

-- a sum of ones is a length
pub ones : {A : Type 0} (xs : List A) → sum_by (λ (x : A). 1) xs ≡ length xs
ones [] = refl
ones {A = A} (x ∷ xs) =
    let more = sum_by-cons (λ (x : A). 1) x xs in
    let rest = ones xs in
    omega (arith, more, rest)

-- sums of equal numbers
pub same_sum : (f g : Car → ℕ) (xs : List Car) → ((car : Car) → f car ≡ g car) → sum_by f xs ≡ sum_by g xs
same_sum f g [] same = refl
same_sum f g (x ∷ xs) same =
    let a = sum_by-cons f x xs in
    let b = sum_by-cons g x xs in
    let here = same x in
    let rest = same_sum f g xs same in
    omega (arith, a, b, here, rest)

pub both_tests : (a b : Bool) (n : ℕ) → cond (a && b) n 0 ≡ cond a (cond b n 0) 0
both_tests true b n = refl
both_tests false b n = refl

-- a number that is kept or set to 0 by a test is not greater
pub at_most : (b : Bool) (n : ℕ) → cond b n 0 ≤ n
at_most true n = omega arith
at_most false n = omega arith

-- the cars of a lane are on it
all_on : (lane s : ℕ) (f : Car → ℕ) (cells : Lane) → sum_by (on lane f) (standing_from lane s cells) ≡ sum_by f (standing_from lane s cells)
all_on lane s f [] = refl
all_on lane s f (None ∷ cells) = all_on lane (suc s) f cells
all_on lane s f (Some car ∷ cells) =
    let here : Car = record { number = car.0; lane = lane; place = s; speed = car.1 } in
    let a = sum_by-cons (on lane f) here (standing_from lane (suc s) cells) in
    let b = sum_by-cons f here (standing_from lane (suc s) cells) in
    let one : on lane f here ≡ f here = cond-true (eqb lane lane) (f here) 0 (eq-eqb lane lane refl) in
    let rest = all_on lane (suc s) f cells in
    omega (arith, a, b, one, rest)

-- the cars of another lane are not
none_on : (lane other s : ℕ) (f : Car → ℕ) (cells : Lane) → other ≢ lane → sum_by (on lane f) (standing_from other s cells) ≡ 0
none_on lane other s f [] apart = refl
none_on lane other s f (None ∷ cells) apart = none_on lane other (suc s) f cells apart
none_on lane other s f (Some car ∷ cells) apart =
    let here : Car = record { number = car.0; lane = other; place = s; speed = car.1 } in
    let a = sum_by-cons (on lane f) here (standing_from other (suc s) cells) in
    let one : on lane f here ≡ 0 = cond-false (eqb other lane) (f here) 0 (ne_eqb other lane apart) in
    let rest = none_on lane other (suc s) f cells apart in
    omega (arith, a, one, rest)

none_later : (lane base : ℕ) (f : Car → ℕ) (lanes : List Lane) → lane < base → sum_by (on lane f) (standing_from_lane base lanes) ≡ 0
none_later lane base f [] low = refl
none_later lane base f (cells ∷ lanes) low =
    let a = sum_by-append (on lane f) (standing_from base 0 cells) (standing_from_lane (suc base) lanes) in
    let b = none_on lane base 0 f cells (λ e. omega (arith, low, e)) in
    let rest = none_later lane (suc base) f lanes (omega (arith, low)) in
    omega (arith, a, b, rest)

-- the counts of one lane in a list of lanes of which the first has a number
lane_alone : (lane l base : ℕ) (f : Car → ℕ) (lanes : List Lane) → lane ≡ base + l → sum_by (on lane f) (standing_from_lane base lanes) ≡ sum_by f (standing_from lane 0 (get_or lanes l []))
lane_alone lane l base f [] is = refl
lane_alone lane zero base f (cells ∷ lanes) is =
    let same : lane ≡ base = omega (arith, is) in
    let a = sum_by-append (on lane f) (standing_from base 0 cells) (standing_from_lane (suc base) lanes) in
    let here : sum_by (on lane f) (standing_from base 0 cells) ≡ sum_by f (standing_from lane 0 cells)
    = subst (λ (m : ℕ). sum_by (on lane f) (standing_from m 0 cells) ≡ sum_by f (standing_from lane 0 cells)) same (all_on lane 0 f cells) in
    let rest = none_later lane (suc base) f lanes (omega (arith, same)) in
    omega (arith, a, here, rest)
lane_alone lane (suc l) base f (cells ∷ lanes) is =
    let a = sum_by-append (on lane f) (standing_from base 0 cells) (standing_from_lane (suc base) lanes) in
    let none = none_on lane base 0 f cells (λ e. omega (arith, is, e)) in
    let rest = lane_alone lane l (suc base) f lanes (omega (arith, is)) in
    omega (arith, a, none, rest)

no_lane : (lanes : List Lane) (l : ℕ) → length lanes ≤ l → get_or lanes l [] ≡ []
no_lane [] l past = refl
no_lane (cells ∷ lanes) zero past = absurd (omega (arith, past))
no_lane (cells ∷ lanes) (suc l) past = no_lane lanes l (omega (arith, past))

-- if the road does not have this lane, nothing is counted
module _ (road : Cells) (lane : ℕ) (past : length road.lanes ≤ lane) where
  none : (f : Car → ℕ) → sum_by (on lane f) (standing road) ≡ 0
  none f = lane_alone lane lane 0 f road.lanes (omega arith) ∙ ap (λ (cells : Lane). sum_by f (standing_from lane 0 cells)) (no_lane road.lanes lane past)

  pub no_cars_on : cars_on lane road ≡ 0
  no_cars_on = none (λ (car : Car). 1)

  pub no_speed_on : total_speed_on lane road ≡ 0
  no_speed_on = none (λ (car : Car). car.speed)

  pub none_stopped_on : stopped_on lane road ≡ 0
  none_stopped_on =
      same_sum (λ (car : Car). cond (is_on lane car && nat_eq car.speed 0) 1 0) (on lane (λ (car : Car). cond (nat_eq car.speed 0) 1 0)) (standing road) (λ car. both_tests (is_on lane car) (nat_eq car.speed 0) 1)
      ∙ none (λ (car : Car). cond (nat_eq car.speed 0) 1 0)

-- a sum over the cars of a line
sum_of_line : (f : Car → ℕ) (lane : ℕ) (line : List LaneCar) → sum_by f (map (car_on lane) line) ≡ sum_by (λ (car : LaneCar). f (car_on lane car)) line
sum_of_line f lane [] = refl
sum_of_line f lane (car ∷ line) =
    let a = sum_by-cons f (car_on lane car) (map (car_on lane) line) in
    let b = sum_by-cons (λ (car : LaneCar). f (car_on lane car)) car line in
    let rest = sum_of_line f lane line in
    omega (arith, a, b, rest)

-- the counts from the line of a lane
module _ (road : Cells) (lane : ℕ) (line : List LaneCar) (is : IsLineOf road lane line) where
  of_line : (f : Car → ℕ) → sum_by (λ (car : LaneCar). f (car_on lane car)) line ≡ sum_by (on lane f) (standing road)
  of_line f = sym (lane_alone lane lane 0 f road.lanes (omega arith) ∙ ap (sum_by f) (sym is) ∙ sum_of_line f lane line)

  pub line_cars : length line ≡ cars_on lane road
  line_cars = sym (ones line) ∙ of_line (λ (car : Car). 1)

  pub line_speed : sum_by (λ (car : LaneCar). car.speed) line ≡ total_speed_on lane road
  line_speed = of_line (λ (car : Car). car.speed)

  pub line_stopped : count_by (λ (car : LaneCar). nat_eq car.speed 0) line ≡ stopped_on lane road
  line_stopped =
      of_line (λ (car : Car). cond (nat_eq car.speed 0) 1 0)
      ∙ sym (same_sum (λ (car : Car). cond (is_on lane car && nat_eq car.speed 0) 1 0) (on lane (λ (car : Car). cond (nat_eq car.speed 0) 1 0)) (standing road) (λ car. both_tests (is_on lane car) (nat_eq car.speed 0) 1))

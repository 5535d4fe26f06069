-- The cars of a run by their numbers: sums over them, how far each has gone, and, without lane changes, where each is
-- and which car is next.
use Rattle.std.proofs.Common.{◌≡◌, ◌≢◌, ℕ, zero, suc, ◌+◌, ◌<◌, ◌≤◌, List, [], ◌∷◌, length, get_or, refl, sym}
use Rattle.std.proofs.{Common.{◌∙◌, ap, inl, inr, arith, subst, sum_by, nat_le, le-leb}, lemmas.Bool.cases_lt}
use Rattle.std.proofs.lemmas.{List.Sums.sum_by-cons, Option.some_pair_parts}
use Rattle.trlab_road.specs.{declared.car.Car.Car, Cells.{Cells, IsAt, cars, at, cell, lane_of, IsLegal}}
use Rattle.trlab_road.specs.{Cells.{rank, standing}, Gaps.{ahead, gap, next_place}, Motion.{Fits, Moves}}
use Rattle.trlab_road.proofs.{Numbers.{all_present, no_one}, StandingOrder.car_of}
use Rattle.trlab_road.proofs.StandingOrder.{length-standing_from_lane, rank_below_cars, standing_cell}
use Rattle.trlab_road.proofs.{StandingOrder.standing_rank, MotionLaws.on_lane, Ring.car_in}
use Rattle.trlab_step.specs.{declared.tally.StepTally.StepTally, Laws.IsLegalLike, Next.total_speed}
use Rattle.trlab_step.specs.{Run.{ComesTo, IsRoadAt, Seed, Sheet, dice_at}, Published.car_after_motion}
use Rattle.trlab_step.proofs.{NextLaws.{like_itself, like_next}, RunLaws.road_at_is_one}
use Rattle.trlab_traffic.specs.Following.{CarsGoDistance, EachCarHasGone, GoneIsUnique, HasGone, IsNextAhead}
use Rattle.trlab_traffic.proofs.Lanes.{total, total_last, sum_range, total_add, total_none, total_same}
use Rattle.trlab_traffic.proofs.{Steps.next_legal_like, Capacities.distance_counted}
use Rattle.trlab_traffic.proofs.Gaps.{gap_after, next_taken, next_place_after}

-- Sums over the cars of a road, by their numbers.

-- a list without the car at an index
cut : ℕ → List Car → List Car
cut k [] = []
cut zero (x ∷ xs) = xs
cut (suc k) (x ∷ xs) = x ∷ cut k xs

cut_length : (k : ℕ) (xs : List Car) → k < length xs → suc (length (cut k xs)) ≡ length xs
unfolding cut
cut_length k [] low = absurd (omega (arith, low))
cut_length zero (x ∷ xs) low = refl
cut_length (suc k) (x ∷ xs) low = let rest = cut_length k xs (omega (arith, low)) in omega (arith, rest)

cut_sum : (h : Car → ℕ) (k : ℕ) (xs : List Car) (d : Car) → k < length xs → sum_by h xs ≡ h (get_or xs k d) + sum_by h (cut k xs)
unfolding cut
cut_sum h k [] d low = absurd (omega (arith, low))
cut_sum h zero (x ∷ xs) d low = sum_by-cons h x xs
cut_sum h (suc k) (x ∷ xs) d low =
    let rest = cut_sum h k xs d (omega (arith, low)) in
    let a = sum_by-cons h x xs in
    let b = sum_by-cons h x (cut k xs) in
    omega (arith, rest, a, b)

-- the other cars are still there
record Stays (xs ys : List Car) (j : ℕ) (d : Car) : Type 0 where
  index : ℕ
  low : index < length ys
  same : get_or ys index d ≡ get_or xs j d

cut_keeps : (k : ℕ) (xs : List Car) (j : ℕ) (d : Car) → k < length xs → j < length xs → j ≢ k → Stays xs (cut k xs) j d
unfolding cut
cut_keeps k [] j d low high other = absurd (omega (arith, low))
cut_keeps zero (x ∷ xs) zero d low high other = absurd (other refl)
cut_keeps zero (x ∷ xs) (suc j) d low high other = record { index = j; low = omega (arith, high); same = refl }
cut_keeps (suc k) (x ∷ xs) zero d low high other = record { index = 0; low = omega arith; same = refl }
cut_keeps (suc k) (x ∷ xs) (suc j) d low high other =
    let rest = cut_keeps k xs j d (omega (arith, low)) (omega (arith, high)) (λ e. other (omega (arith, e))) in
    let below = rest.low in
    record { index = suc rest.index; low = omega (arith, below); same = rest.same }

-- a car of a list has this number
record Has (xs : List Car) (i : ℕ) (d : Car) : Type 0 where
  index : ℕ
  low : index < length xs
  numbered : (get_or xs index d).number ≡ i

-- if n cars have the first n numbers, a sum over the cars is a sum over these numbers
by_numbers : (f : ℕ → ℕ) (n : ℕ) (xs : List Car) (d : Car) → length xs ≡ n → ((i : ℕ) → i < n → Has xs i d) → sum_by (λ (car : Car). f car.number) xs ≡ total f n
by_numbers f zero [] d size has = refl
by_numbers f zero (x ∷ xs) d size has = absurd (omega (arith, size))
by_numbers f (suc n) xs d size has =
    let h : Car → ℕ = λ car. f car.number in
    let last = has n (omega arith) in
    let k = last.index in
    let fewer = cut_length k xs last.low in
    let rest = by_numbers f n (cut k xs) d (omega (arith, fewer, size)) (λ i low.
    let here = has i (omega (arith, low)) in
    let kept = cut_keeps k xs here.index d last.low here.low (λ e. (let f = sym here.numbered ∙ ap (λ j. (get_or xs j d).number) e ∙ last.numbered in absurd (omega (arith, f, low)))) in
    record { index = kept.index; low = kept.low; numbered = ap (λ (car : Car). car.number) kept.same ∙ here.numbered }) in
    let split = cut_sum h k xs d last.low in
    let first : h (get_or xs k d) ≡ f n = ap f last.numbered in
    let end = total_last f n in
    omega (arith, rest, split, first, end)

-- a sum over the cars of a legal road is a sum over their numbers
numbers_total : (f : ℕ → ℕ) (road : Cells) → IsLegal road → sum_by (λ (car : Car). f car.number) (standing road) ≡ total f (cars road)
unfolding car_of
numbers_total f road legal =
    by_numbers f (cars road) (standing road) no_one (length-standing_from_lane 0 road.lanes) (λ i low.
    let found = all_present road legal i low in
    let car = found.0 in
    let here = found.1.0 in
    let below = rank_below_cars road car.lane car.place (car.number, car.speed) here in
    let size = length-standing_from_lane 0 road.lanes in
    record {
      index = rank road car.lane car.place;
      low = omega (arith, below, size);
      numbered = ap (λ (c : Car). c.number) (standing_rank road car.lane car.place car.number car.speed no_one here) ∙ found.1.1;
    })

-- numbers for each index below a bound
pub record Chosen (R : ℕ → ℕ → Type 0) (n : ℕ) : Type 0 where
  pub value : ℕ → ℕ
  pub is : (i : ℕ) → i < n → R i (value i)

pub choose : (R : ℕ → ℕ → Type 0) (n : ℕ) → ((i : ℕ) → i < n → (k : ℕ) × R i k) → Chosen R n
choose R n each = record { value = λ i. (one i).0; is = λ i low. (one i).1 low }
  where
    one : (i : ℕ) → (k : ℕ) × (i < n → R i k)
    one i =
        elim (cases_lt i n) [
          | inl low ↦ ((each i low).0, λ h. (each i low).1)
          | inr past ↦ (0, λ h. absurd (omega (arith, h, past)))
        ]

-- sums of values that are not larger
pub total_le : (f g : ℕ → ℕ) (n : ℕ) → ((i : ℕ) → i < n → f i ≤ g i) → total f n ≤ total g n
total_le f g zero each = omega arith
total_le f g (suc n) each =
    let first = each 0 (omega arith) in
    let rest = total_le (λ i. f (suc i)) (λ i. g (suc i)) n (λ i low. each (suc i) (omega (arith, low))) in
    omega (arith, first, rest)

-- a sum over the cars of a road by their numbers is the sum in standing order
pub sum_of_standing : (g : Car → ℕ) (f : ℕ → ℕ) (road : Cells) → IsLegal road → ((car : Car) → IsAt road car → g car ≡ f car.number) → sum_by g (standing road) ≡ total f (cars road)
sum_of_standing g f road legal same =
    same_sum (standing road) (λ k low. same (get_or (standing road) k no_one) (standing_cell road k no_one (let size = length-standing_from_lane 0 road.lanes in omega (arith, low, size))))
    ∙ numbers_total f road legal
  where
    same_sum : (xs : List Car) → ((k : ℕ) → k < length xs → g (get_or xs k no_one) ≡ f (get_or xs k no_one).number) → sum_by g xs ≡ sum_by (λ (car : Car). f car.number) xs
    same_sum [] each = refl
    same_sum (x ∷ xs) each =
        let first : g x ≡ f x.number = each 0 (omega arith) in
        let rest = same_sum xs (λ k low. each (suc k) (omega (arith, low))) in
        let a = sum_by-cons g x xs in
        let b = sum_by-cons (λ (car : Car). f car.number) x xs in
        omega (arith, first, rest, a, b)

-- How far cars have gone: each has exactly one distance, and together they have gone the distance of the run.

-- the road of a run is like that of the start
pub run_like : (seed : Seed) (sheet : Sheet) (step : ℕ) (road : Cells) (sum : StepTally) → IsLegal seed.road → ComesTo seed sheet step road sum → IsLegalLike seed.road road
run_like seed sheet zero road sum legal comes = subst (IsLegalLike seed.road) (sym comes.1) (like_itself seed.road legal)
run_like seed sheet (suc step) road sum legal comes =
    let before = run_like seed sheet step comes.0 comes.1 legal comes.4 in
    like_next seed.road comes.0 road before (next_legal_like comes.2 (dice_at seed step) comes.0 road comes.3 before.legal comes.5.next)

-- a number has one speed on a legal road
pub one_speed : (road : Cells) (car other : Car) → IsLegal road → IsAt road car → IsAt road other → car.number ≡ other.number → car.speed ≡ other.speed
one_speed road car other legal here there same =
    let place = legal.once car other here there same in
    let e : cell road car.lane car.place ≡ cell road other.lane other.place = ap (λ l. at (lane_of road l) car.place) place.0 ∙ ap (at (lane_of road other.lane)) place.1 in
    (some_pair_parts car.number other.number car.speed other.speed (sym here ∙ e ∙ there)).1

pub gone_is_one : GoneIsUnique
gone_is_one seed sheet zero number far other legal a b = a ∙ sym b
gone_is_one seed sheet (suc step) number far other legal a b =
    let before = gone_is_one seed sheet step number a.2 b.2 legal a.6 b.6 in
    let same = road_at_is_one seed sheet (suc step) b.0 a.0 b.3 a.3 in
    let like = run_like seed sheet (suc step) a.0 a.3.0 legal a.3.1 in
    let there = subst (λ (r : Cells). IsAt r b.1) same b.4 in
    let now = one_speed a.0 a.1 b.1 like.legal a.4 there (a.5 ∙ sym b.5) in
    let one = a.7 in
    let two = b.7 in
    omega (arith, before, now, one, two)

pub each_car_has_gone : EachCarHasGone
each_car_has_gone seed sheet zero road sum number legal comes low = (0, refl)
each_car_has_gone seed sheet (suc step) road sum number legal comes low =
    let before = each_car_has_gone seed sheet step comes.0 comes.1 number legal comes.4 low in
    let like = run_like seed sheet (suc step) road sum legal comes in
    let count = like.same_count in
    let found = all_present road like.legal number (omega (arith, low, count)) in
    (before.0 + found.0.speed, (road, found.0, before.0, (sum, comes), found.1.0, found.1.1, before.1, refl))

-- the distance of a car in one more step
record OneMore (seed : Seed) (sheet : Sheet) (step : ℕ) (road : Cells) (i far : ℕ) (before : ℕ) : Type 0 where
  car : Car
  here : IsAt road car
  numbered : car.number ≡ i
  gone : HasGone seed sheet step i before
  more : far ≡ before + car.speed

one_more : (seed : Seed) (sheet : Sheet) (step : ℕ) (road : Cells) (i far : ℕ) → IsRoadAt seed sheet (suc step) road → HasGone seed sheet (suc step) i far → (before : ℕ) × OneMore seed sheet step road i far before
one_more seed sheet step road i far is gone =
    let same = road_at_is_one seed sheet (suc step) gone.0 road gone.3 is in
    (gone.2, record { car = gone.1; here = subst (λ (r : Cells). IsAt r gone.1) same gone.4; numbered = gone.5; gone = gone.6; more = gone.7 })

-- the cars of a run go its distance
pub go_distance : (seed : Seed) (sheet : Sheet) (step : ℕ) (road : Cells) (sum : StepTally) (far : ℕ → ℕ) → IsLegal seed.road → seed.warm ≡ 0 → ComesTo seed sheet step road sum
    → ((i : ℕ) → i < cars seed.road → HasGone seed sheet step i (far i)) → total far (cars seed.road) ≡ sum.distance
go_distance seed sheet zero road sum far legal cold comes gone =
    total_none far (cars seed.road) gone ∙ sym (ap (λ (t : StepTally). t.distance) comes.2)
go_distance seed sheet (suc step) road sum far legal cold comes gone =
    let n = cars seed.road in
    let like = run_like seed sheet (suc step) road sum legal comes in
    let before = choose (λ i b. OneMore seed sheet step road i (far i) b) n (λ i low. one_more seed sheet step road i (far i) (sum, comes) (gone i low)) in
    let so_far = go_distance seed sheet step comes.0 comes.1 before.value legal cold comes.4 (λ i low. (before.is i low).gone) in
    let now = choose (λ i s. (car : Car) → IsAt road car → car.number ≡ i → car.speed ≡ s) n
    (λ i low. let one = before.is i low in (one.car.speed, λ car here numbered. one_speed road car one.car like.legal here one.here (numbered ∙ sym one.numbered))) in
    let count = like.same_count in
    let speeds : total_speed road ≡ total now.value (cars road) = sum_of_standing (λ (car : Car). car.speed) now.value road like.legal
    (λ car here. now.is car.number (let low = like.legal.numbered car here in omega (arith, low, count)) car here refl) in
    let speeds_here : total now.value (cars road) ≡ total now.value n = ap (total now.value) count in
    let each = total_same far (λ i. before.value i + now.value i) n
    (λ i low. let one = before.is i low in let s = now.is i low one.car one.here one.numbered in let e = one.more in omega (arith, s, e)) in
    let both = total_add before.value now.value n in
    let on = comes.5 in
    let counted = distance_counted (nat_le seed.warm step) sum comes.1 comes.3 on.counted (le-leb seed.warm step (omega (arith, cold))) in
    let tally = on.next.1.distance in
    omega (arith, so_far, speeds, speeds_here, each, both, counted, tally)

pub cars_go_distance : CarsGoDistance
cars_go_distance seed sheet step road sum far legal cold comes gone =
    sum_range far 0 (cars seed.road)
    ∙ total_same (λ i. far (0 + i)) far (cars seed.road) (λ i low. let e : 0 + i ≡ i = omega arith in ap far e)
    ∙ go_distance seed sheet step road sum far legal cold comes gone

-- The cars of a run without lane changes, by their numbers: the position, the distance and the next car of
-- each.

-- the gap of a car
abbrev pub gap_of : Cells → Car → ℕ
gap_of road car = gap (lane_of road car.lane) car.place

-- the cars of a run at a step, by their numbers, each with how far it has gone: its gap is its gap at the
-- start, plus the distance of the next car, less its own distance
pub record Course (seed : Seed) (sheet : Sheet) (next room : ℕ → ℕ) (step : ℕ) (road : Cells) (car : ℕ → Car) (far : ℕ → ℕ) : Type 0 where
  pub stands : (i : ℕ) → i < cars seed.road → IsAt road (car i)
  pub numbered : (i : ℕ) → i < cars seed.road → (car i).number ≡ i
  pub gone : (i : ℕ) → i < cars seed.road → HasGone seed sheet step i (far i)
  pub follows : (i : ℕ) → i < cars seed.road → IsNextAhead road (car i) (car (next i))
  pub balance : (i : ℕ) → i < cars seed.road → far i + gap_of road (car i) ≡ room i + far (next i)

-- one more motion
module _ (old new : Cells) (speeds : ℕ → ℕ → ℕ) (moves : Moves speeds old new) (fits : Fits speeds old) where
  abbrev pub goes : Car → ℕ
  goes car = speeds car.lane car.place

  abbrev pub moved : Car → Car
  moved car = car_after_motion old car (speeds car.lane car.place)

  pub moved_stands : (car : Car) → IsAt old car → IsAt new (moved car)
  moved_stands car here = (moves.each_lane car.lane (on_lane old car.lane car.place (car.number, car.speed) here)).arrives car.place car.number car.speed here

  moved_follows : (car next : Car) → IsAt old car → IsNextAhead old car next → IsNextAhead new (moved car) (moved next)
  moved_follows car next here follows =
      let l = car.lane in
      let on = on_lane old l car.place (car.number, car.speed) here in
      record {
        same_lane = follows.same_lane;
        ahead = ap (λ k. ahead (length (lane_of old k)) next.place (speeds k next.place)) follows.same_lane
            ∙ ap (λ p. ahead (length (lane_of old l)) p (speeds l p)) follows.ahead
            ∙ sym (next_place_after (speeds l) (lane_of old l) (lane_of new l) (moves.each_lane l on) (fits.each_lane l on) car.place car.number car.speed here);
      }

  pub moved_gap : (car next : Car) → IsAt old car → IsNextAhead old car next → gap_of new (moved car) + goes car ≡ gap_of old car + goes next
  moved_gap car next here follows =
      let l = car.lane in
      let on = on_lane old l car.place (car.number, car.speed) here in
      let after = gap_after (speeds l) (lane_of old l) (lane_of new l) (moves.each_lane l on) (fits.each_lane l on) car.place car.number car.speed here in
      let within = (fits.each_lane l on).gaps car.place car.number car.speed here in
      let others : goes next ≡ speeds l (next_place (lane_of old l) car.place) = ap (λ k. speeds k next.place) follows.same_lane ∙ ap (speeds l) follows.ahead in
      omega (arith, after, within, others)

  pub within_gap : (car : Car) → IsAt old car → goes car ≤ gap_of old car
  within_gap car here = (fits.each_lane car.lane (on_lane old car.lane car.place (car.number, car.speed) here)).gaps car.place car.number car.speed here

  module _ (seed : Seed) (sheet : Sheet) (next room : ℕ → ℕ) (step : ℕ) (car : ℕ → Car) (far : ℕ → ℕ) (course : Course seed sheet next room step old car far)
      (low_next : (i : ℕ) → i < cars seed.road → next i < cars seed.road) where
    pub gap_on : (i : ℕ) → i < cars seed.road → gap_of new (moved (car i)) + goes (car i) ≡ gap_of old (car i) + goes (car (next i))
    gap_on i low = moved_gap (car i) (car (next i)) (course.stands i low) (course.follows i low)

    pub course_on : IsRoadAt seed sheet (suc step) new → Course seed sheet next room (suc step) new (λ i. moved (car i)) (λ i. far i + goes (car i))
    course_on is = record {
      stands = λ i low. moved_stands (car i) (course.stands i low);
      numbered = course.numbered;
      gone = λ i low. (new, moved (car i), far i, is, moved_stands (car i) (course.stands i low), course.numbered i low, course.gone i low, refl);
      follows = λ i low. moved_follows (car i) (car (next i)) (course.stands i low) (course.follows i low);
      balance = λ i low.
          let before = course.balance i low in
          let now = gap_on i low in
          omega (arith, before, now);
    }

-- the cars at the start
pub record Start (road : Cells) : Type 0 where
  pub car : ℕ → Car
  pub next : ℕ → ℕ
  pub stands : (i : ℕ) → i < cars road → IsAt road (car i)
  pub numbered : (i : ℕ) → i < cars road → (car i).number ≡ i
  pub low_next : (i : ℕ) → i < cars road → next i < cars road
  pub follows : (i : ℕ) → i < cars road → IsNextAhead road (car i) (car (next i))

-- a car with a number
record Found (road : Cells) (i : ℕ) : Type 0 where
  car : Car
  stands : i < cars road → IsAt road car
  numbered : i < cars road → car.number ≡ i

find : (road : Cells) → IsLegal road → (i : ℕ) → Found road i
find road legal i =
    elim (cases_lt i (cars road)) [
      | inl low ↦ let found = all_present road legal i low in record { car = found.0; stands = λ h. found.1.0; numbered = λ h. found.1.1 }
      | inr past ↦ record { car = no_one; stands = λ low. absurd (omega (arith, low, past)); numbered = λ low. absurd (omega (arith, low, past)) }
    ]

-- the number of the next car
record IsNextNumber (road : Cells) (car : ℕ → Car) (i j : ℕ) : Type 0 where
  low : j < cars road
  follows : IsNextAhead road (car i) (car j)

pub started : (road : Cells) → IsLegal road → Start road
started road legal =
    let car : ℕ → Car = λ i. (find road legal i).car in
    let stands : (i : ℕ) → i < cars road → IsAt road (car i) = λ i low. (find road legal i).stands low in
    let numbered : (i : ℕ) → i < cars road → (car i).number ≡ i = λ i low. (find road legal i).numbered low in
    let next = choose (λ i j. IsNextNumber road car i j) (cars road) (λ i low.
    let l = (car i).lane in
    let x = (car i).place in
    let after = next_taken (lane_of road l) x ((car i).number, (car i).speed) (stands i low) in
    let other = car_in l (next_place (lane_of road l) x) after.0.0 after.0.1 in
    let below = legal.numbered other after.1 in
    let same = legal.once (car after.0.0) other (stands after.0.0 below) after.1 (numbered after.0.0 below) in
    (after.0.0, record { low = below; follows = record { same_lane = same.0; ahead = same.1 } })) in
    record {
      car = car;
      next = next.value;
      stands = stands;
      numbered = numbered;
      low_next = λ i low. (next.is i low).low;
      follows = λ i low. (next.is i low).follows;
    }

pub course_of_start : (seed : Seed) (sheet : Sheet) (start : Start seed.road) → Course seed sheet start.next (λ i. gap_of seed.road (start.car i)) 0 seed.road start.car (λ i. 0)
course_of_start seed sheet start = record {
  stands = start.stands;
  numbered = start.numbered;
  gone = λ i low. refl;
  follows = start.follows;
  balance = λ i low. omega arith;
}

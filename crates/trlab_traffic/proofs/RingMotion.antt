-- With v_max = 1 a step of the rule of 1992 is a step of the ring of each lane, in which a car brakes if it
-- does so on its words.
use Rattle.std.proofs.Common.{◌≡◌, ℕ, zero, suc, ◌+◌, ◌-◌, ◌<◌, min, Bool, true, false, not, ◌&&◌, ◌||◌, cond}
use Rattle.std.proofs.Common.{Some, None, [], ◌∷◌, length, is_some, refl, sym, ◌∙◌, ap, subst, arith, sum_by}
use Rattle.std.proofs.lemmas.List.FromFn.{fill_by_all}
use Rattle.trlab_words.{specs.Words.happens_on, proofs.RandomWords.slice_index-random_words}
use Rattle.trlab_machine.specs.declared.dice.Dice.{Dice}
use Rattle.trlab_road.specs.declared.car.Car.{Car}
use Rattle.trlab_road.specs.Cells.{Cell, Cells, Lane, at, cell, lane_of, IsLegal, standing_from}
use Rattle.trlab_road.{specs.{Gaps.{ahead, behind, gap}, Motion.LaneMoves}, proofs.Ring.{car_in, inside}}
use Rattle.trlab_rules.specs.{Published.{brake, nasch_speed, safe_speed}, Rules.{Programs, IsNasch}}
use Rattle.trlab_step.specs.{declared.tally.StepTally.StepTally, Next.{IsMotionPhase, IsNext}}
use Rattle.trlab_traffic.specs.LimitOne.{NaschGoesByRings, NaschStepsRings, is_braking, braking_set, draw}
use Rattle.trlab_traffic.specs.LimitOne.{draws_of, is_in, is_taken_after, is_moving_car, moving_cars, ring_of}
use Rattle.trlab_traffic.proofs.Lanes.{by_lane, sum_of_cells, sum_of_lanes, sum_range, total, total_same}
use Rattle.trlab_traffic.proofs.Lanes.{weight, ahead_behind, ahead_none, behind_ahead}
use Rattle.trlab_traffic.proofs.{Steps.{answers_fit, answered, motion_alone}, Capacities.speeds_total}
use Rattle.trlab_traffic.proofs.Wolfram.{gap_none, gap_some}

-- a lane and its ring
in_ring : (lane : Lane) (x : ℕ) → is_in (ring_of lane) x ≡ is_some (at lane x)
in_ring [] x = refl
in_ring (c ∷ lane) zero = refl
in_ring (c ∷ lane) (suc x) = in_ring lane x

in_braking : (p : ℕ) (dice : Dice) (lane : Lane) (x : ℕ) → is_in (braking_set p (draws_of dice lane)) x ≡ is_braking p (draw dice (at lane x))
in_braking p dice [] x = refl
in_braking p dice (c ∷ lane) zero = refl
in_braking p dice (c ∷ lane) (suc x) = in_braking p dice lane x

ring_long : (lane : Lane) → length (ring_of lane) ≡ length lane
ring_long [] = refl
ring_long (c ∷ lane) = ap suc (ring_long lane)

-- does the car of a cell move?
abbrev going : (ℕ → Bool) → Lane → ℕ → Bool
going braking lane x = is_some (at lane x) && not (is_some (at lane (ahead (length lane) x 1))) && not (braking x)

module _ (braking : ℕ → Bool) (answer : ℕ → ℕ) (old new : Lane) (m : LaneMoves answer old new)
    (goes : (x number speed : ℕ) → at old x ≡ Some (number, speed) → answer x ≡ brake (braking x) (min 1 (gap old x))) where
  -- the speed of a car
  answers : (x : ℕ) (car : ℕ × ℕ) (next : Cell) (b : Bool) → at old x ≡ Some car → at old (ahead (length old) x 1) ≡ next → braking x ≡ b
      → answer x ≡ cond (not (is_some next) && not b) 1 0
  answers x car None false here there is =
      let some = gap_some old x car here there in
      let e : min 1 (gap old x) ≡ 1 = omega (arith, some) in
      goes x car.0 car.1 here ∙ ap (λ b. brake b (min 1 (gap old x))) is ∙ e
  answers x car None true here there is =
      let e : min 1 (gap old x) - 1 ≡ 0 = omega arith in
      goes x car.0 car.1 here ∙ ap (λ b. brake b (min 1 (gap old x))) is ∙ e
  answers x car (Some next) false here there is =
      let none = gap_none old x next there in
      let e : min 1 (gap old x) ≡ 0 = omega (arith, none) in
      goes x car.0 car.1 here ∙ ap (λ b. brake b (min 1 (gap old x))) is ∙ e
  answers x car (Some next) true here there is =
      let e : min 1 (gap old x) - 1 ≡ 0 = omega arith in
      goes x car.0 car.1 here ∙ ap (λ b. brake b (min 1 (gap old x))) is ∙ e

  answer_is : (x : ℕ) (car : ℕ × ℕ) → at old x ≡ Some car → answer x ≡ cond (going braking old x) 1 0
  answer_is x car here =
      let next = at old (ahead (length old) x 1) in
      answers x car next (braking x) here refl refl
      ∙ ap (λ (b : Bool). cond (b && not (is_some next) && not (braking x)) 1 0) (sym (ap is_some here))

  -- a cell from which a car goes has a car
  car_goes : (x : ℕ) (c : Cell) → at old x ≡ c → going braking old x ≡ true → (car : ℕ × ℕ) × (at old x ≡ Some car)
  car_goes x None is moving = let e = sym moving ∙ ap (λ (c : Cell). is_some c && not (is_some (at old (ahead (length old) x 1))) && not (braking x)) is in absurd cc
  car_goes x (Some car) is moving = (car, is)

  taken : (y number speed : ℕ) → at new y ≡ Some (number, speed) → is_some (at new y) ≡ true
  taken y number speed there = ap is_some there

  -- a car comes from the cell behind
  comes : (y : ℕ) → y < length old → going braking old (behind (length old) y 1) ≡ true → is_some (at new y) ≡ true
  comes y low moving =
      let x = behind (length old) y 1 in
      let found = car_goes x (at old x) refl moving in
      let one = answer_is x found.0 found.1 ∙ ap (λ b. cond b 1 0) moving in
      let to : ahead (length old) x (answer x) ≡ y = ap (ahead (length old) x) one ∙ behind_ahead (length old) y low in
      taken y found.0.0 (answer x) (subst (λ k. at new k ≡ Some (found.0.0, answer x)) to (m.arrives x found.0.0 found.0.1 found.1))

  -- a car stays
  stays : (y : ℕ) (car : ℕ × ℕ) → at old y ≡ Some car → going braking old y ≡ false → is_some (at new y) ≡ true
  stays y car here still =
      let none = answer_is y car here ∙ ap (λ b. cond b 1 0) still in
      let to : ahead (length old) y (answer y) ≡ y = ap (ahead (length old) y) none ∙ ahead_none (length old) y (inside old y car here) in
      taken y car.0 (answer y) (subst (λ k. at new k ≡ Some (car.0, answer y)) to (m.arrives y car.0 car.1 here))

  -- a cell to which no car comes and in which none stays is empty
  empties : (y : ℕ) → going braking old (behind (length old) y 1) ≡ false → ((car : ℕ × ℕ) → at old y ≡ Some car → going braking old y ≡ true) → is_some (at new y) ≡ false
  empties y behind_still leaves = of_cell (at new y) refl
    where
      no_car : (x number speed : ℕ) (b : Bool) → at old x ≡ Some (number, speed) → going braking old x ≡ b → ahead (length old) x (answer x) ≡ y → ⊥
      no_car x number speed true there moving reach =
          let one = answer_is x (number, speed) there ∙ ap (λ b. cond b 1 0) moving in
          let to : ahead (length old) x 1 ≡ y = sym (ap (ahead (length old) x) one) ∙ reach in
          let back : x ≡ behind (length old) y 1 = sym (ahead_behind (length old) x (inside old x (number, speed) there)) ∙ ap (λ k. behind (length old) k 1) to in
          let e = sym moving ∙ ap (going braking old) back ∙ behind_still in
          absurd cc
      no_car x number speed false there still reach =
          let none = answer_is x (number, speed) there ∙ ap (λ b. cond b 1 0) still in
          let to : x ≡ y = sym (ap (ahead (length old) x) none ∙ ahead_none (length old) x (inside old x (number, speed) there)) ∙ reach in
          let e = sym still ∙ ap (going braking old) to ∙ leaves (number, speed) (sym (ap (at old) to) ∙ there) in
          absurd cc

      of_cell : (c : Cell) → at new y ≡ c → is_some (at new y) ≡ false
      of_cell None is = ap is_some is
      of_cell (Some car) is =
          let came = m.nothing_else y car.0 car.1 is in
          absurd (no_car came.0 car.0 came.1.0 (going braking old came.0) came.1.1.was refl (sym came.1.1.reaches))

  by_cases : (y : ℕ) (c : Cell) (b o : Bool) → y < length old → at old y ≡ c → going braking old (behind (length old) y 1) ≡ b → going braking old y ≡ o
      → is_some (at new y) ≡ ((is_some c && not o) || b)
  by_cases y None true o low here came goes_on = comes y low came
  by_cases y (Some car) true false low here came goes_on = comes y low came
  by_cases y (Some car) true true low here came goes_on = comes y low came
  by_cases y None false o low here came goes_on = empties y came (λ car there. let e = sym here ∙ there in absurd cc)
  by_cases y (Some car) false true low here came goes_on = empties y came (λ other there. goes_on)
  by_cases y (Some car) false false low here came goes_on = stays y car here goes_on

  pub by_ring : (y : ℕ) → y < length old → is_some (at new y) ≡ ((is_some (at old y) && not (going braking old y)) || going braking old (behind (length old) y 1))
  by_ring y low = by_cases y (at old y) (going braking old (behind (length old) y 1)) (going braking old y) low refl refl refl

-- the lane of a ring moves as the ring
moves_is : (p : ℕ) (dice : Dice) (lane : Lane) (x : ℕ) → is_moving_car (ring_of lane) (braking_set p (draws_of dice lane)) x ≡ going (λ y. is_braking p (draw dice (at lane y))) lane x
moves_is p dice lane x =
    let to = ahead (length (ring_of lane)) x 1 in
    ap (λ b. b && not (is_in (ring_of lane) to) && not (is_in (braking_set p (draws_of dice lane)) x)) (in_ring lane x)
    ∙ ap (λ b. is_some (at lane x) && not b && not (is_in (braking_set p (draws_of dice lane)) x)) (in_ring lane to)
    ∙ ap (λ b. is_some (at lane x) && not (is_some (at lane to)) && not b) (in_braking p dice lane x)
    ∙ ap (λ n. is_some (at lane x) && not (is_some (at lane (ahead n x 1))) && not (is_braking p (draw dice (at lane x)))) (ring_long lane)

taken_is : (p : ℕ) (dice : Dice) (lane : Lane) (x : ℕ) → is_taken_after (ring_of lane) (braking_set p (draws_of dice lane)) x
    ≡ ((is_some (at lane x) && not (going (λ y. is_braking p (draw dice (at lane y))) lane x)) || going (λ y. is_braking p (draw dice (at lane y))) lane (behind (length lane) x 1))
taken_is p dice lane x =
    let braking : ℕ → Bool = λ y. is_braking p (draw dice (at lane y)) in
    let back = behind (length (ring_of lane)) x 1 in
    let move = is_moving_car (ring_of lane) (braking_set p (draws_of dice lane)) in
    ap (λ b. (b && not (move x)) || move back) (in_ring lane x)
    ∙ ap (λ b. (is_some (at lane x) && not b) || move back) (moves_is p dice lane x)
    ∙ ap (λ b. (is_some (at lane x) && not (going braking lane x)) || b) (moves_is p dice lane back)
    ∙ ap (λ n. (is_some (at lane x) && not (going braking lane x)) || going braking lane (behind n x 1)) (ring_long lane)

-- the speeds
slow : (speed gap : ℕ) → min (min (speed + 1) 1) gap ≡ min 1 gap
slow speed gap = omega arith

module _ (p : ℕ) (rule : Programs) (dice : Dice) (old new : Cells) (tally : StepTally) (is : IsNasch p rule) (legal : IsLegal old) (one : old.limit ≡ 1) (next : IsNext rule dice old new tally) where
  abbrev phase : IsMotionPhase rule.motion dice old new
  phase = motion_alone rule dice old new tally is.change next

  abbrev braking_on : ℕ → ℕ → Bool
  braking_on l x = is_braking p (draw dice (cell old l x))

  -- the speed of a car
  goes_by : (l x number speed : ℕ) → cell old l x ≡ Some (number, speed) → phase.0 l x ≡ brake (braking_on l x) (min 1 (gap (lane_of old l) x))
  goes_by l x number speed here =
      let lane = lane_of old l in
      let safe = safe_speed speed old.limit (gap lane x) in
      let drawn = slice_index-random_words dice.key dice.road number dice.step 0 (omega arith) in
      answered (nasch_speed p) rule.motion dice old phase.0 is.motion.moves legal phase.1 (car_in l x number speed) here
      ∙ ap (λ (word : ℕ). brake (happens_on p word) safe) drawn
      ∙ ap (λ (c : Cell). brake (is_braking p (draw dice c)) safe) (sym here)
      ∙ ap (λ (limit : ℕ). brake (braking_on l x) (safe_speed speed limit (gap lane x))) one
      ∙ ap (brake (braking_on l x)) (slow speed (gap lane x))

  nasch_moves_ring : (l : ℕ) → l < length old.lanes
      → (y : ℕ) → y < length (lane_of old l) → is_some (at (lane_of new l) y) ≡ is_taken_after (ring_of (lane_of old l)) (braking_set p (draws_of dice (lane_of old l))) y
  nasch_moves_ring l on y low =
      by_ring (braking_on l) (phase.0 l) (lane_of old l) (lane_of new l) (phase.2.each_lane l on) (goes_by l) y low
      ∙ sym (taken_is p dice (lane_of old l) y)

  -- the total distance of the cars of a lane
  in_each_cell : (l x : ℕ) (on : l < length old.lanes) (c : Cell) → cell old l x ≡ c
      → weight (λ (car : Car). phase.0 car.lane car.place) l x c ≡ cond (going (braking_on l) (lane_of old l) x) 1 0
  in_each_cell l x on None is_empty =
      ap (λ (c : Cell). cond (is_some c && not (is_some (at (lane_of old l) (ahead (length (lane_of old l)) x 1))) && not (braking_on l x)) 1 0) (sym is_empty)
  in_each_cell l x on (Some car) here = answer_is (braking_on l) (phase.0 l) (lane_of old l) (lane_of new l) (phase.2.each_lane l on) (goes_by l) x car here

  lane_goes : (l : ℕ) → l < length old.lanes
      → sum_by (λ (car : Car). phase.0 car.lane car.place) (standing_from (0 + l) 0 (lane_of old l)) ≡ moving_cars (ring_of (lane_of old l)) (braking_set p (draws_of dice (lane_of old l)))
  lane_goes l on =
      let lane = lane_of old l in
      let ring = ring_of lane in
      let braking = braking_set p (draws_of dice lane) in
      let f : Car → ℕ = λ car. phase.0 car.lane car.place in
      let z : 0 + l ≡ l = omega arith in
      ap (λ k. sum_by f (standing_from k 0 lane)) z
      ∙ sum_of_cells f l 0 lane
      ∙ total_same (λ x. weight f l (0 + x) (at lane x)) (λ x. cond (is_moving_car ring braking (0 + x)) 1 0) (length lane)
      (λ x low. let e : 0 + x ≡ x = omega arith in
      ap (λ k. weight f l k (at lane x)) e ∙ in_each_cell l x on (at lane x) refl
      ∙ ap (λ b. cond b 1 0) (sym (moves_is p dice lane x)) ∙ ap (λ k. cond (is_moving_car ring braking k) 1 0) (sym e))
      ∙ ap (total (λ x. cond (is_moving_car ring braking (0 + x)) 1 0)) (sym (ring_long lane))
      ∙ sym (sum_range (λ x. cond (is_moving_car ring braking x) 1 0) 0 (length ring))

  goes_by_rings : tally.distance ≡ sum_by (λ (lane : Lane). moving_cars (ring_of lane) (braking_set p (draws_of dice lane))) old.lanes
  goes_by_rings =
      let f : Car → ℕ = λ car. phase.0 car.lane car.place in
      let g : Lane → ℕ = λ lane. moving_cars (ring_of lane) (braking_set p (draws_of dice lane)) in
      next.1.distance
      ∙ speeds_total phase.0 old new (answers_fit rule.motion dice old phase.0 phase.1) phase.2
      ∙ sum_of_lanes f (λ l. g (lane_of old l)) 0 old.lanes lane_goes
      ∙ sym (by_lane g old.lanes)

pub nasch_goes_by_rings : NaschGoesByRings
nasch_goes_by_rings p rule dice old new tally is legal one next = goes_by_rings p rule dice old new tally is legal one next

pub nasch_steps_rings : NaschStepsRings
nasch_steps_rings p rule dice old new tally l is legal one next on =
    let lane = lane_of old l in
    let phase = motion_alone rule dice old new tally is.change next in
    let long : length (lane_of new l) ≡ length lane = (phase.2.each_lane l on).same_length in
    let size = ring_long lane in
    fill_by_all (is_taken_after (ring_of lane) (braking_set p (draws_of dice lane))) (ring_of (lane_of new l)) (length (ring_of lane)) false (ring_long (lane_of new l) ∙ long ∙ sym size)
    (λ k low. in_ring (lane_of new l) k ∙ nasch_moves_ring p rule dice old new tally is legal one next l on k (omega (arith, low, size)))

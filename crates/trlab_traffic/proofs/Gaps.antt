-- Gaps: those of a lane after a motion and all together, a car that has none, and the next car ahead.
use Rattle.std.proofs.Common.{◌≡◌, ◌≢◌, ℕ, ◌+◌, ◌-◌, ◌%◌, ◌<◌, ◌≤◌, true, cond, eqb, is_some, Some, None}
use Rattle.std.proofs.Common.{length, refl, sym, ◌∙◌, ap, subst, inl, inr, arith, zero, suc, [], mod-eq_of_lt}
use Rattle.std.proofs.{Common.{eq-eqb, ne_eqb, sum_by}, Math.Nat.add-mod_right}
use Rattle.std.proofs.lemmas.{Bool.{cases_eq, cases_lt, cond-false, cond-true}, Option.some_pair_parts}
use Rattle.std.proofs.lemmas.List.{get_or_past, Sums.sum-map}
use Rattle.trlab_road.specs.{declared.car.Car.Car, Cells.{Cell, Cells, Lane, IsAt, at, lane_of}}
use Rattle.trlab_road.specs.{Cells.{lane_car_count, IsLegal, standing_from}, Gaps.{ahead, gap, next_place}}
use Rattle.trlab_road.{specs.Motion.{LaneFits, LaneMoves, Fits, Moves}, proofs.ListGaps.clear_from}
use Rattle.trlab_road.proofs.{MotionLaws.{moved_legal, on_lane, lane_same_count}, Ring.apart_within_gaps}
use Rattle.trlab_road.proofs.Ring.{blocked, clear_within_gap, ends_before, inside, car_in}
use Rattle.trlab_step.{specs.{Published.car_after_motion, Run.dice_at}, proofs.RunLaws.force_all}
use Rattle.trlab_traffic.specs.{Terms.{lane_empty_cells, StaysInLane}, FlowAndJams.CarWithoutGapStops}
use Rattle.trlab_traffic.specs.Following.{GapChangesBySpeedDifference, GapsFillLane, RunKeepsLaneCars}
use Rattle.trlab_traffic.specs.Following.{IsNextAhead, EachCarHasNext, IsNextOf, NextCarIsUnique}
use Rattle.trlab_traffic.specs.Following.{RunKeepsNextCar, StepKeepsNextCar}
use Rattle.trlab_traffic.proofs.Lanes.{ahead_more, ahead_once, clear_is_gap, gap_below, ahead_none}
use Rattle.trlab_traffic.proofs.{Steps.{answers_fit, motion_alone}, RoomAhead.{lane_filled, lane_room}}

-- two paths from the same place to the same place are equally long
pub same_way : (n x i j : ℕ) → i < n → j < n → ahead n x i ≡ ahead n x j → i ≡ j
same_way n x i j low high same =
    let a : x + i ≡ i + x = omega arith in
    let b : x + j ≡ j + x = omega arith in
    ahead_once n i j x low high (sym (ap (λ k. k % n) a) ∙ same ∙ ap (λ k. k % n) b)

-- a whole lap
round : (n x : ℕ) → x < n → ahead n x n ≡ x
round n x low = add-mod_right x n ∙ mod-eq_of_lt low

-- the place of the next car is taken
pub next_taken : (lane : Lane) (x : ℕ) (car : ℕ × ℕ) → at lane x ≡ Some car → (next : ℕ × ℕ) × (at lane (next_place lane x) ≡ Some next)
next_taken lane x car here = of_cell (at lane (next_place lane x)) refl
  where
    low : x < length lane
    low = inside lane x car here

    short : gap lane x < length lane
    short = gap_below lane x x car here

    beyond : at lane (next_place lane x) ≡ None → (next : ℕ × ℕ) × (at lane (next_place lane x) ≡ Some next)
    beyond free =
        elim (cases_lt (gap lane x + 1) (length lane)) [
          | inl more ↦ absurd (let far = clear_is_gap lane x (gap lane x + 1) more (record {
            clear = λ j some most. elim (cases_lt (gap lane x) j) [
              | inl last ↦ let e : gap lane x + 1 ≡ j = omega (arith, last, most) in subst (λ k. at lane (ahead (length lane) x k) ≡ None) e free
              | inr before ↦ (clear_within_gap lane x (gap lane x) (omega arith)).clear j some before
            ];
          }) in omega (arith, far))
          | inr last ↦
              let whole : gap lane x + 1 ≡ length lane = omega (arith, last, short) in
              let e = sym here ∙ sym (ap (at lane) (ap (ahead (length lane) x) whole ∙ round (length lane) x low)) ∙ free in
              absurd cc
        ]

    of_cell : (c : Cell) → at lane (next_place lane x) ≡ c → (next : ℕ × ℕ) × (at lane (next_place lane x) ≡ Some next)
    of_cell None is = beyond is
    of_cell (Some next) is = (next, is)

module _ (answer : ℕ → ℕ) (old new : Lane) (m : LaneMoves answer old new) (fits : LaneFits answer old) where
  -- the answers, except that one car goes k cells
  abbrev but : ℕ → ℕ → ℕ → ℕ
  but q k x = cond (eqb x q) k (answer x)

  but_fits : (q k : ℕ) → k ≤ gap old q → LaneFits (but q k) old
  but_fits q k room = record {
    gaps = λ x number speed here.
        elim (cases_eq x q) [
          | inl e ↦ rw (cond-true (eqb x q) k (answer x) (eq-eqb x q e)) (subst (λ i. k ≤ gap old i) (sym e) room)
          | inr other ↦ rw (cond-false (eqb x q) k (answer x) (ne_eqb x q other)) (fits.gaps x number speed here)
        ];
  }

  -- no other car comes to a cell that a car could reach over empty cells
  nobody_else : (q k z : ℕ) (car other : ℕ × ℕ) → at old q ≡ Some car → k ≤ gap old q → at old z ≡ Some other → ahead (length old) z (answer z) ≡ ahead (length old) q k → z ≡ q
  nobody_else q k z car other here room there meet =
      elim (cases_eq z q) [
        | inl e ↦ e
        | inr apart ↦
            let goes : but q k z ≡ answer z = cond-false (eqb z q) k (answer z) (ne_eqb z q apart) in
            let stops : but q k q ≡ k = cond-true (eqb q q) k (answer q) (eq-eqb q q refl) in
            (apart_within_gaps (but q k) old (but_fits q k room)).apart z q other.0 car.0 other.1 car.1 there here
            (ap (ahead (length old) z) goes ∙ meet ∙ sym (ap (ahead (length old) q) stops))
      ]

  -- so a cell to which a car could go, but does not, is empty afterwards
  pub left_free : (q k : ℕ) (car : ℕ × ℕ) → at old q ≡ Some car → k ≤ gap old q → answer q ≢ k → at new (ahead (length old) q k) ≡ None
  left_free q k car here room differs = of_cell (at new (ahead (length old) q k)) refl
    where
      of_cell : (c : Cell) → at new (ahead (length old) q k) ≡ c → at new (ahead (length old) q k) ≡ None
      of_cell None is = is
      of_cell (Some other) is =
          let came = m.nothing_else (ahead (length old) q k) other.0 other.1 is in
          let z = came.0 in
          let was = came.1.1.was in
          let same : z ≡ q = nobody_else q k z car (other.0, came.1.0) here room was (sym came.1.1.reaches) in
          let own = fits.gaps q car.0 car.1 here in
          let short = gap_below old q q car here in
          let reach : ahead (length old) q (answer q) ≡ ahead (length old) q k = sym (came.1.1.reaches ∙ ap (λ i. ahead (length old) i (answer i)) same) in
          absurd (differs (same_way (length old) q (answer q) k (omega (arith, own, short)) (omega (arith, room, short)) reach))

  -- the gap of a car increases by the next car's distance, and decreases by its own
  pub gap_after : (x number speed : ℕ) → at old x ≡ Some (number, speed) → gap new (ahead (length old) x (answer x)) ≡ gap old x - answer x + answer (next_place old x)
  gap_after x number speed here =
      let n = length old in
      let g = gap old x in
      let a = answer x in
      let p = next_place old x in
      let b = answer p in
      let next = next_taken old x (number, speed) here in
      let low = inside old x (number, speed) here in
      let short = gap_below old x x (number, speed) here in
      let own = fits.gaps x number speed here in
      let others = fits.gaps p next.0.0 next.0.1 next.1 in
      let size = m.same_length in
      let y = ahead n x a in
      let far = g - a + b in
      let fits_in : far < n = (elim (cases_lt (g + 1) n) [
        | inl more ↦
            let rest = n - (g + 1) in
            let e : g + 1 + rest ≡ n = omega (arith, more) in
            let back : ahead n p rest ≡ x = ahead_more n x (g + 1) rest ∙ ap (ahead n x) e ∙ round n x low in
            let before = blocked old p (gap old p) rest x (number, speed) (clear_within_gap old p (gap old p) (omega arith)) here (omega (arith, more)) back in
            omega (arith, before, own, others, more)
        | inr alone ↦
            let whole : g + 1 ≡ n = omega (arith, alone, short) in
            let same : b ≡ a = ap answer (ap (ahead n x) whole ∙ round n x low) in
            omega (arith, same, own, short)
      ]) in
      let clear : (j : ℕ) → 1 ≤ j → j ≤ far → at new (ahead (length new) y j) ≡ None = λ j some most.
      let to : ahead (length new) y j ≡ ahead n x (a + j) = ap (λ k. ahead k y j) size ∙ ahead_more n x a j in
      elim (cases_lt g (a + j)) [
        | inl past ↦
            let k = a + j - (g + 1) in
            let e : a + j ≡ g + 1 + k = omega (arith, past) in
            let there : ahead n x (a + j) ≡ ahead n p k = ap (ahead n x) e ∙ sym (ahead_more n x (g + 1) k) in
            ap (at new) (to ∙ there) ∙ left_free p k next.0 next.1 (omega (arith, past, most, own, others)) (λ meet. omega (arith, meet, past, most, own))
        | inr within ↦ ap (at new) to ∙ left_free x (a + j) (number, speed) here within (λ meet. omega (arith, meet, some))
      ] in
      let e : a + (far + 1) ≡ g + 1 + b = omega (arith, own) in
      let end : ahead (length new) y (far + 1) ≡ ahead n p b = ap (λ k. ahead k y (far + 1)) size ∙ ahead_more n x a (far + 1) ∙ ap (ahead n x) e ∙ sym (ahead_more n x (g + 1) b) in
      let taken : is_some (at new (ahead (length new) y (far + 1))) ≡ true = ap (λ k. is_some (at new k)) end ∙ ap is_some (m.arrives p next.0.0 next.0.1 next.1) in
      ends_before new (ahead (length new) y) far (omega (arith, fits_in, size)) (clear_from new (ahead (length new) y) far clear) taken

-- a car moves by the speed that is stated for it
goes_so : (old new : Cells) (speeds : ℕ → ℕ → ℕ) (car : Car) (v : ℕ) → IsLegal new → IsAt new (car_after_motion old car (speeds car.lane car.place)) → IsAt new (car_after_motion old car v) → speeds car.lane car.place ≡ v
goes_so old new speeds car v legal here there =
    let same = (legal.once (car_after_motion old car (speeds car.lane car.place)) (car_after_motion old car v) here there refl).1 in
    let both = sym here ∙ ap (at (lane_of new car.lane)) same ∙ there in
    (some_pair_parts car.number car.number (speeds car.lane car.place) v both).1

pub gaps_follow_speeds : GapChangesBySpeedDifference
gaps_follow_speeds rule dice old new tally goes car next none legal is all here there following =
    let l = car.lane in
    let x = car.place in
    let phase = motion_alone rule dice old new tally none is in
    let speeds = phase.0 in
    let moved = phase.2 in
    let fits = answers_fit rule.motion dice old speeds phase.1 in
    let after = moved_legal speeds old new legal moved fits in
    let on = on_lane old l x (car.number, car.speed) here in
    let on_next = on_lane old next.lane next.place (next.number, next.speed) there in
    let m = moved.each_lane l on in
    let own = goes_so old new speeds car (goes car) after (m.arrives x car.number car.speed here) (all car here) in
    let others = goes_so old new speeds next (goes next) after ((moved.each_lane next.lane on_next).arrives next.place next.number next.speed there) (all next there) in
    let place : speeds l (next_place (lane_of old l) x) ≡ goes next = ap (speeds l) (sym following.ahead) ∙ ap (λ k. speeds k next.place) (sym following.same_lane) ∙ others in
    let gone = gap_after (speeds l) (lane_of old l) (lane_of new l) m (fits.each_lane l on) x car.number car.speed here in
    let within = (fits.each_lane l on).gaps x car.number car.speed here in
    let to : gap (lane_of new l) (ahead (length (lane_of old l)) x (goes car)) ≡ gap (lane_of new l) (ahead (length (lane_of old l)) x (speeds l x)) = ap (λ v. gap (lane_of new l) (ahead (length (lane_of old l)) x v)) (sym own) in
    omega (arith, to, gone, within, own, place)

-- The gaps of a lane add up to its empty cells, and without lane changes a lane keeps its cars.

-- the gaps of a lane that has a car are its empty cells
pub gaps_total : (l : ℕ) (lane : Lane) → 0 < lane_car_count lane → sum_by (λ (car : Car). gap lane car.place) (standing_from l 0 lane) ≡ lane_empty_cells lane
gaps_total l lane some =
    let most = lane_room (λ (car : Car). gap lane car.place) l lane (λ x number speed here. clear_within_gap lane x (gap lane x) (omega arith)) in
    let least = lane_filled (λ (car : Car). gap lane car.place) l lane some (λ x number speed g here low clear. clear_is_gap lane x g low clear) in
    omega (arith, most, least)

pub gaps_fill_lane : GapsFillLane
gaps_fill_lane lane some = sum-map (λ (car : Car). gap lane car.place) (standing_from 0 0 lane) ∙ gaps_total 0 lane some

-- a motion within the gaps keeps the cars of each lane
pub motion_keeps_lane_cars : (speeds : ℕ → ℕ → ℕ) (old new : Cells) (l : ℕ) → Moves speeds old new → Fits speeds old → lane_car_count (lane_of new l) ≡ lane_car_count (lane_of old l)
motion_keeps_lane_cars speeds old new l m fits =
    elim (cases_lt l (length old.lanes)) [
      | inl on ↦ lane_same_count (speeds l) (lane_of old l) (lane_of new l) (m.each_lane l on) (apart_within_gaps (speeds l) (lane_of old l) (fits.each_lane l on))
      | inr past ↦ let size = m.same_lanes in ap lane_car_count (get_or_past new.lanes l [] (omega (arith, past, size)) ∙ sym (get_or_past old.lanes l [] past))
    ]

pub run_keeps_lane_cars : RunKeepsLaneCars
run_keeps_lane_cars seed sheet zero road sum l stays comes = ap (λ (r : Cells). lane_car_count (lane_of r l)) comes.1
run_keeps_lane_cars seed sheet (suc step) road sum l stays comes =
    let on = comes.5 in
    let rule = comes.2 in
    let dice = dice_at seed step in
    let phase = motion_alone rule dice comes.0 road comes.3 (force_all StaysInLane sheet step rule stays on.under) on.next in
    motion_keeps_lane_cars phase.0 comes.0 road l phase.2 (answers_fit rule.motion dice comes.0 phase.0 phase.1)
    ∙ run_keeps_lane_cars seed sheet step comes.0 comes.1 l stays comes.4

-- A car without a gap stops.

pub car_without_gap_stops : CarWithoutGapStops
car_without_gap_stops rule dice old new tally car none next here jammed =
    let l = car.lane in
    let x = car.place in
    let phase = motion_alone rule dice old new tally none next in
    let on = on_lane old l x (car.number, car.speed) here in
    let fits = ((answers_fit rule.motion dice old phase.0 phase.1).each_lane l on).gaps x car.number car.speed here in
    let stopped : phase.0 l x ≡ 0 = omega (arith, fits, jammed) in
    let arrived = (phase.2.each_lane l on).arrives x car.number car.speed here in
    let there : at (lane_of new l) (ahead (length (lane_of old l)) x 0) ≡ Some (car.number, 0) =
    subst (λ v. at (lane_of new l) (ahead (length (lane_of old l)) x v) ≡ Some (car.number, v)) stopped arrived in
    subst (λ k. at (lane_of new l) k ≡ Some (car.number, 0)) (ahead_none (length (lane_of old l)) x (inside (lane_of old l) x (car.number, car.speed) here)) there

-- The next car ahead is kept in each step without lane changes.

-- the next place after a motion is that to which the next car went
pub next_place_after : (answer : ℕ → ℕ) (old new : Lane) → LaneMoves answer old new → LaneFits answer old → (x number speed : ℕ) → at old x ≡ Some (number, speed)
    → next_place new (ahead (length old) x (answer x)) ≡ ahead (length old) (next_place old x) (answer (next_place old x))
next_place_after answer old new m fits x number speed here =
    let n = length old in
    let g = gap old x in
    let a = answer x in
    let b = answer (next_place old x) in
    let y = ahead n x a in
    let own = fits.gaps x number speed here in
    let after = gap_after answer old new m fits x number speed here in
    let e : a + (gap new y + 1) ≡ g + 1 + b = omega (arith, own, after) in
    ap (λ k. ahead k y (gap new y + 1)) m.same_length
    ∙ ahead_more n x a (gap new y + 1)
    ∙ ap (ahead n x) e
    ∙ sym (ahead_more n x (g + 1) b)

-- the place of the next car
next_there : (road : Cells) (car next : Car) → IsNextAhead road car next → IsAt road next → at (lane_of road car.lane) (next_place (lane_of road car.lane) car.place) ≡ Some (next.number, next.speed)
next_there road car next follows there =
    sym (ap (λ l. at (lane_of road l) next.place) follows.same_lane ∙ ap (at (lane_of road car.lane)) follows.ahead) ∙ there

pub step_keeps_next_car : StepKeepsNextCar
step_keeps_next_car rule dice old new tally number next none is order =
    let car = order.car in
    let l = car.lane in
    let x = car.place in
    let lane = lane_of old l in
    let phase = motion_alone rule dice old new tally none is in
    let speeds = phase.0 in
    let fits = answers_fit rule.motion dice old speeds phase.1 in
    let on = on_lane old l x (car.number, car.speed) order.on_road in
    let m = phase.2.each_lane l on in
    let p = next_place lane x in
    let there = next_there old car order.next_car order.follows order.next_on_road in
    record {
      car = car_in l (ahead (length lane) x (speeds l x)) car.number (speeds l x);
      next_car = car_in l (ahead (length lane) p (speeds l p)) order.next_car.number (speeds l p);
      on_road = m.arrives x car.number car.speed order.on_road;
      next_on_road = m.arrives p order.next_car.number order.next_car.speed there;
      numbered = order.numbered;
      next_numbered = order.next_numbered;
      follows = record { same_lane = refl; ahead = sym (next_place_after (speeds l) lane (lane_of new l) m (fits.each_lane l on) x car.number car.speed order.on_road) };
    }

pub run_keeps_next_car : RunKeepsNextCar
run_keeps_next_car seed sheet zero road sum number next nobody comes order = subst (λ (r : Cells). IsNextOf r number next) (sym comes.1) order
run_keeps_next_car seed sheet (suc step) road sum number next nobody comes order =
    let before = comes.0 in
    let rule = comes.2 in
    let on = comes.5 in
    let none = force_all StaysInLane sheet step rule nobody on.under in
    step_keeps_next_car rule (dice_at seed step) before road comes.3 number next none on.next
    (run_keeps_next_car seed sheet step before comes.1 number next nobody comes.4 order)

pub each_car_has_next : EachCarHasNext
each_car_has_next road car here =
    let l = car.lane in
    let lane = lane_of road l in
    let next = next_taken lane car.place (car.number, car.speed) here in (
      next.0.0,
      record {
        car = car;
        next_car = car_in l (next_place lane car.place) next.0.0 next.0.1;
        on_road = here;
        next_on_road = next.1;
        numbered = refl;
        next_numbered = refl;
        follows = record { same_lane = refl; ahead = refl };
      },
    )

pub next_car_is_one : NextCarIsUnique
next_car_is_one road number next other legal a b =
    let same = legal.once a.car b.car a.on_road b.on_road (a.numbered ∙ sym b.numbered) in
    let one = next_there road a.car a.next_car a.follows a.next_on_road in
    let two = next_there road b.car b.next_car b.follows b.next_on_road in
    let e : at (lane_of road a.car.lane) (next_place (lane_of road a.car.lane) a.car.place) ≡ at (lane_of road b.car.lane) (next_place (lane_of road b.car.lane) b.car.place) =
    ap (λ l. at (lane_of road l) (next_place (lane_of road l) a.car.place)) same.0 ∙ ap (λ x. at (lane_of road b.car.lane) (next_place (lane_of road b.car.lane) x)) same.1 in
    let both = sym one ∙ e ∙ two in
    sym a.next_numbered ∙ (some_pair_parts a.next_car.number b.next_car.number a.next_car.speed b.next_car.speed both).0 ∙ b.next_numbered

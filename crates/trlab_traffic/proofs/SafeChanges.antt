-- Safe lane changes leave each car as much room ahead as it needs.
use Rattle.std.proofs.Common.{◌≡◌, ℕ, ◌+◌, ◌-◌, ◌<◌, ◌≤◌, ◌&&◌, min, Bool, true, false, cond, Option, Some}
use Rattle.std.proofs.Common.{None, List, length, if◌then◌else◌, refl, sym, ◌∙◌, ap, subst, arith}
use Rattle.std.proofs.Common.{mod-eq_of_lt, IfSome, MatchOption, nat_eq, nat_lt, ltb-true}
use Rattle.std.proofs.lemmas.Bool.{and_parts}
use Rattle.trlab_code.specs.declared.{program.Kind.TheVariants.Change, view.View.View}
use Rattle.trlab_code.specs.Machine.{Crosses as EndsAcross, Stays, EndsWith}
use Rattle.trlab_verify.specs.Verified.{CheckedProgram}
use Rattle.trlab_machine.specs.{declared.dice.Dice.Dice, Blocks.words_of, Answers.crossing_answer}
use Rattle.trlab_machine.proofs.Answers.{one_answer}
use Rattle.trlab_road.specs.{declared.car.Car.Car, Cells.{Cell, Cells, IsAt, Lane, at, cars, cell, lane_of}}
use Rattle.trlab_road.specs.{Cells.IsLegal, Gaps.{ahead, behind, clear_cells, gap, is_clear, side, sideback}}
use Rattle.trlab_road.specs.{Gaps.sidegap, LaneChange.{ChangesLanes, other_lane, StaysOrCrosses.on_own_lane}}
use Rattle.trlab_road.{specs.LaneChange.StaysOrCrosses.on_other_lane, proofs.LaneChangeLaws.came_from}
use Rattle.trlab_road.proofs.{LaneChangeLaws.lane_change_none_lost, MotionLaws.on_lane, Numbers.all_present}
use Rattle.trlab_road.proofs.Ring.{car_in, clear_at, clear_within_gap, greatest_passes, inside}
use Rattle.trlab_rules.specs.Rules.{ComputesCrossing, ComputesSpeed, Programs, IsChangeComputing}
use Rattle.trlab_rules.specs.Published.{brake, happens_at, nasch_speed, rickert_crosses, safe_speed}
use Rattle.trlab_rules.specs.{Published.vdr_braking_chance, Standard.rickert_program}
use Rattle.trlab_step.specs.{declared.tally.StepTally.StepTally, Answers.{AnswersCrossings, change_view_of}}
use Rattle.trlab_step.specs.{Answers.motion_view_of, Next.{IsLaneChangePhase, IsMotionPhase, IsNext}}
use Rattle.trlab_step.{specs.Next.{stopped_cars, total_speed}, proofs.AnswersExist.change_view_is_view}
use Rattle.trlab_traffic.specs.Comparison.{ChangesSafely, HasSafeChanges, IsNoSlowerStep, IsSafeToCross}
use Rattle.trlab_traffic.specs.Comparison.{RickertChangesSafely, SafeChangesCostNobody}
use Rattle.trlab_traffic.specs.Comparison.{SafeChangesCostNobodyInVdr}
use Rattle.trlab_traffic.proofs.Lanes.{ahead_back, clear_is_gap, gap_below, total}
use Rattle.trlab_traffic.proofs.Steps.{crossings_free, middle_like, next_legal_like, answered, motion_alone}
use Rattle.trlab_traffic.proofs.{Slower.stops_too, Courses.{one_speed, choose, sum_of_standing, total_le}}

-- the first cells of a path are empty
clear_way : (lane : Lane) (way : ℕ → ℕ) (j : ℕ) → 1 ≤ j → j ≤ clear_cells lane way → at lane (way j) ≡ None
clear_way lane way j low most =
    clear_at lane way (clear_cells lane way) (greatest_passes (is_clear lane way) (length lane - 1) refl) j low most

within_side : (free : Bool) (g j : ℕ) → 1 ≤ j → j ≤ cond free g 0 → j ≤ g
within_side true g j low most = most
within_side false g j low most = absurd (omega (arith, low, most))

clear_sidegap : (lane : Lane) (x j : ℕ) → 1 ≤ j → j ≤ sidegap lane x → at lane (ahead (length lane) x j) ≡ None
clear_sidegap lane x j low most =
    clear_way lane (ahead (length lane) x) j low (within_side (side lane x) (clear_cells lane (ahead (length lane) x)) j low most)

clear_sideback : (lane : Lane) (x j : ℕ) → 1 ≤ j → j ≤ sideback lane x → at lane (behind (length lane) x j) ≡ None
clear_sideback lane x j low most =
    clear_way lane (behind (length lane) x) j low (within_side (side lane x) (clear_cells lane (behind (length lane) x)) j low most)

-- j cells ahead, and j cells behind
ahead_then_behind : (n x j : ℕ) → x < n → j < n → behind n (ahead n x j) j ≡ x
ahead_then_behind n x j low small =
    ap (λ k. behind n (ahead n x j) k) (sym (mod-eq_of_lt small)) ∙ ahead_back n x j low

-- after the lane changes a car has as much room as it can use
pub record HasRoom (road middle : Cells) (car : Car) : Type 0 where
  pub lane : ℕ
  pub here : IsAt middle (car_in lane car.place car.number car.speed)
  pub room : min (min (car.speed + 1) road.limit) (gap (lane_of road car.lane) car.place) ≤ gap (lane_of middle lane) car.place

module _ (change : CheckedProgram) (safe : ChangesSafely change) (dice : Dice) (road middle : Cells) (legal : IsLegal road) (two : length road.lanes ≡ 2)
    (crosses : ℕ → ℕ → Bool) (answers : AnswersCrossings change dice road crosses) (changed : ChangesLanes crosses road middle) where
  safely : (car : Car) → IsAt road car → crosses car.lane car.place ≡ true → IsSafeToCross (change_view_of road car)
  safely car here goes =
      let view = change_view_of road car in
      let words = words_of dice car.number in
      let answer = answers.each car here in
      let ends = subst (λ (b : Bool). EndsWith Change change.program.instrs view words (crossing_answer b) answer.0) goes answer.1 in
      safe view words answer.0 (change_view_is_view road car legal two here) ends

  -- the lane of a car after the change
  abbrev now : ℕ → ℕ → ℕ
  now l x = cond (crosses l x) (other_lane l) l

  below_two : (l x : ℕ) (car : ℕ × ℕ) → cell road l x ≡ Some car → l < 2
  below_two l x car here = rw two at (on_lane road l x car here)

  long : (l m : ℕ) → l < 2 → m < 2 → length (lane_of road l) ≡ length (lane_of road m)
  long l m a b = legal.shape.equal l (rw two a) ∙ sym (legal.shape.equal m (rw two b))

  -- the place of a car after the change
  stands : (car : Car) → IsAt road car → IsAt middle (car_in (now car.lane car.place) car.place car.number car.speed)
  stands car here =
      let l = car.lane in
      let x = car.place in
      let Stands : ℕ → Type 0 = λ m. cell middle m x ≡ Some (car.number, car.speed) in
      let where_from : (m : ℕ) → Stands m → m ≡ now l x =
      λ m there.
      let came = came_from crosses road middle legal changed m x (car.number, car.speed) there in
      let same = (legal.once (car_in came.0 x car.number car.speed) car came.1.0 here refl).0 in
      subst (λ (k : ℕ). m ≡ now k x) same came.1.1 in
      let to : (m : ℕ) → Stands m → Stands (now l x) = λ m there. subst Stands (where_from m there) there in
      elim (lane_change_none_lost crosses road middle legal changed (crossings_free change dice road crosses two answers) l x car.number car.speed here) [
        | on_own_lane there ↦ to l there
        | on_other_lane empty there ↦ to (other_lane l) there
      ]

  -- no car comes into the room that a car can use
  module _ (car : Car) (here : IsAt road car) (j : ℕ) (low : 1 ≤ j) (by_gap : j ≤ gap (lane_of road car.lane) car.place) (by_limit : j ≤ road.limit) (by_speed : j ≤ car.speed + 1) where
    abbrev n : ℕ
    n = length (lane_of road car.lane)

    abbrev y : ℕ
    y = ahead n car.place j

    own_clear : at (lane_of road car.lane) y ≡ None
    own_clear = (clear_within_gap (lane_of road car.lane) car.place (gap (lane_of road car.lane) car.place) (omega arith)).clear j low by_gap

    no_car : (from : ℕ) (who : ℕ × ℕ) (mine its : Bool) → crosses car.lane car.place ≡ mine → crosses from y ≡ its → cell road from y ≡ Some who
        → cond mine (other_lane car.lane) car.lane ≡ cond its (other_lane from) from → ⊥
    no_car from who false false is was there same =
        let e = sym own_clear ∙ ap (λ l. cell road l y) same ∙ there in
        absurd cc
    no_car from who true true is was there same =
        let a = below_two car.lane car.place (car.number, car.speed) here in
        let b = below_two from y who there in
        let one : car.lane ≡ from = omega (arith, a, b, same) in
        let e = sym own_clear ∙ ap (λ l. cell road l y) one ∙ there in
        absurd cc
    no_car from who true false is was there same =
        let a = below_two car.lane car.place (car.number, car.speed) here in
        let room = (safely car here is).room_ahead in
        let side = lane_of road (other_lane car.lane) in
        let clear = clear_sidegap side car.place j low (omega (arith, room, by_speed)) in
        let size : length side ≡ n = long (other_lane car.lane) car.lane (omega arith) a in
        let e = sym clear ∙ ap (λ k. at side (ahead k car.place j)) size ∙ ap (λ l. cell road l y) same ∙ there in
        absurd cc
    no_car from who false true is was there same =
        let b = below_two from y who there in
        let room = (safely (car_in from y who.0 who.1) there was).room_behind in
        let lane = lane_of road (other_lane from) in
        let clear = clear_sideback lane y j low (omega (arith, room, by_limit)) in
        let same_lane : lane ≡ lane_of road car.lane = ap (lane_of road) (sym same) in
        let low_x = inside (lane_of road car.lane) car.place (car.number, car.speed) here in
        let short = gap_below (lane_of road car.lane) car.place car.place (car.number, car.speed) here in
        let back : behind n y j ≡ car.place = ahead_then_behind n car.place j low_x (omega (arith, short, by_gap)) in
        let e = sym clear ∙ ap (λ (k : Lane). at k (behind (length k) y j)) same_lane ∙ ap (at (lane_of road car.lane)) back ∙ here in
        absurd cc

    stays_clear : at (lane_of middle (now car.lane car.place)) y ≡ None
    stays_clear = of_cell (cell middle (now car.lane car.place) y) refl
      where
        of_cell : (c : Cell) → cell middle (now car.lane car.place) y ≡ c → cell middle (now car.lane car.place) y ≡ None
        of_cell None is = is
        of_cell (Some who) is =
            let came = came_from crosses road middle legal changed (now car.lane car.place) y who is in
            absurd (no_car came.0 who (crosses car.lane car.place) (crosses came.0 y) refl refl came.1.0 came.1.1)

  has_room : (car : Car) → IsAt road car → HasRoom road middle car
  has_room car here =
      let lane = lane_of road car.lane in
      let m = now car.lane car.place in
      let g = min (min (car.speed + 1) road.limit) (gap lane car.place) in
      let there = stands car here in
      let on : m < length road.lanes = rw changed.same_lanes at (on_lane middle m car.place (car.number, car.speed) there) in
      let size : length (lane_of middle m) ≡ length lane =
      (changed.each_lane m on).same_length ∙ long m car.lane (rw two at on) (below_two car.lane car.place (car.number, car.speed) here) in
      let short = gap_below lane car.place car.place (car.number, car.speed) here in
      record {
        lane = m;
        here = there;
        room = clear_is_gap (lane_of middle m) car.place g (omega (arith, short, size)) (record {
          clear = λ j low most. ap (λ k. at (lane_of middle m) (ahead k car.place j)) size
              ∙ stays_clear car here j low (omega (arith, most)) (omega (arith, most)) (omega (arith, most));
        });
      }

-- with or without lane changes
room_left : (change : Option CheckedProgram) (dice : Dice) (road middle : Cells) (changes : ℕ) → IfSome change ChangesSafely → IsLegal road
    → IsLaneChangePhase change dice road middle changes → (car : Car) → IsAt road car → HasRoom road middle car
room_left None dice road middle changes safe legal phase car here =
    subst (λ (r : Cells). HasRoom road r car) (sym phase.0) (record { lane = car.lane; here = here; room = omega arith })
room_left (Some change) dice road middle changes safe legal phase car here =
    has_room change safe dice road middle legal phase.0 phase.1 phase.2 phase.3 car here

same_limit : (change : Option CheckedProgram) (dice : Dice) (road middle : Cells) (changes : ℕ) → IsLegal road → IsLaneChangePhase change dice road middle changes → middle.limit ≡ road.limit
same_limit change dice road middle changes legal phase = (middle_like change dice road middle changes legal phase).same_limit

-- a car that brakes after a larger speed continues with a larger one
brake_more : (b : Bool) (s t : ℕ) → s ≤ t → brake b s ≤ brake b t
brake_more true s t h = omega (arith, h)
brake_more false s t h = h

-- a car on the road after a motion, by its number
record Gone (road : Cells) (i s : ℕ) : Type 0 where
  car : Car
  here : IsAt road car
  numbered : car.number ≡ i
  speed : car.speed ≡ s

-- the speed with a braking probability that depends on the previous speed
abbrev speed_by : (ℕ → ℕ) → View → List ℕ → ℕ
speed_by chance view words = nasch_speed (chance view.speed) view words

moved : (motion : CheckedProgram) (dice : Dice) (chance : ℕ → ℕ) (road next : Cells) → ComputesSpeed (speed_by chance) motion.program → IsLegal road → IsMotionPhase motion dice road next
    → (car : Car) → IsAt road car → Gone next car.number (speed_by chance (motion_view_of road car) (words_of dice car.number))
moved motion dice chance road next moves legal phase car here =
    let lane = lane_of road car.lane in
    let s = phase.0 car.lane car.place in
    record {
      car = car_in car.lane (ahead (length lane) car.place s) car.number s;
      here = (phase.2.each_lane car.lane (on_lane road car.lane car.place (car.number, car.speed) here)).arrives car.place car.number car.speed here;
      numbered = refl;
      speed = answered (speed_by chance) motion dice road phase.0 moves legal phase.1 car here;
    }

-- a car after both steps
record Both (slow fast : Cells) (i : ℕ) : Type 0 where
  first : ℕ
  second : ℕ
  slow_gone : Gone slow i first
  fast_gone : Gone fast i second
  less : first ≤ second

module _ (chance : ℕ → ℕ) (rule other : Programs) (dice : Dice) (road slow fast : Cells) (slow_tally fast_tally : StepTally)
    (moves : ComputesSpeed (speed_by chance) rule.motion.program) (stays : rule.change ≡ None) (is : HasSafeChanges (speed_by chance) other) (legal : IsLegal road)
    (slow_step : IsNext rule dice road slow slow_tally) (fast_step : IsNext other dice road fast fast_tally) where
  both : (i : ℕ) → i < cars road → Both slow fast i
  both i low =
      let middle = fast_step.0 in
      let phase = fast_step.1.lane_change in
      let found = all_present road legal i low in
      let car = found.0 in
      let here = found.1.0 in
      let room = room_left other.change dice road middle fast_tally.changes is.change legal phase car here in
      let limit = same_limit other.change dice road middle fast_tally.changes legal phase in
      let like = middle_like other.change dice road middle fast_tally.changes legal phase in
      let a = moved rule.motion dice chance road slow moves legal (motion_alone rule dice road slow slow_tally stays slow_step) car here in
      let b = moved other.motion dice chance middle fast is.motion like.legal fast_step.1.motion (car_in room.lane car.place car.number car.speed) room.here in
      let more = room.room in
      record {
        first = speed_by chance (motion_view_of road car) (words_of dice car.number);
        second = speed_by chance (motion_view_of middle (car_in room.lane car.place car.number car.speed)) (words_of dice car.number);
        slow_gone = subst (λ k. Gone slow k (speed_by chance (motion_view_of road car) (words_of dice car.number))) found.1.1 a;
        fast_gone = subst (λ k. Gone fast k (speed_by chance (motion_view_of middle (car_in room.lane car.place car.number car.speed)) (words_of dice car.number))) found.1.1 b;
        less = brake_more (happens_at (chance car.speed) (words_of dice car.number) 0) (safe_speed car.speed road.limit (gap (lane_of road car.lane) car.place))
            (safe_speed car.speed middle.limit (gap (lane_of middle room.lane) car.place)) (omega (arith, more, limit));
      }

  as_fast : IsNoSlowerStep slow fast slow_tally fast_tally
  as_fast =
      let n = cars road in
      let like = next_legal_like rule dice road slow slow_tally legal slow_step in
      let like_fast = next_legal_like other dice road fast fast_tally legal fast_step in
      let count = like.same_count in
      let count_fast = like_fast.same_count in
      let firsts = choose (λ i s. (t : ℕ) × (Gone slow i s × (Gone fast i t × (s ≤ t)))) n (λ i low. let b = both i low in (b.first, (b.second, (b.slow_gone, (b.fast_gone, b.less))))) in
      let seconds = choose (λ i t. Gone fast i t × (firsts.value i ≤ t)) n (λ i low. let b = firsts.is i low in (b.0, (b.1.1.0, b.1.1.1))) in
      let slow_speed : (car : Car) → IsAt slow car → car.speed ≡ firsts.value car.number = λ car here.
      let low = like.legal.numbered car here in
      let gone = (firsts.is car.number (omega (arith, low, count))).1.0 in
      one_speed slow car gone.car like.legal here gone.here (sym gone.numbered) ∙ gone.speed in
      let fast_speed : (car : Car) → IsAt fast car → car.speed ≡ seconds.value car.number = λ car here.
      let low = like_fast.legal.numbered car here in
      let gone = (seconds.is car.number (omega (arith, low, count_fast))).0 in
      one_speed fast car gone.car like_fast.legal here gone.here (sym gone.numbered) ∙ gone.speed in
      let slow_total : total_speed slow ≡ total firsts.value (cars slow) = sum_of_standing (λ (car : Car). car.speed) firsts.value slow like.legal slow_speed in
      let fast_total : total_speed fast ≡ total seconds.value (cars fast) = sum_of_standing (λ (car : Car). car.speed) seconds.value fast like_fast.legal fast_speed in
      let stop : ℕ → ℕ = λ s. cond (nat_eq s 0) 1 0 in
      let slow_stop : stopped_cars slow ≡ total (λ i. stop (firsts.value i)) (cars slow) =
      sum_of_standing (λ (car : Car). stop car.speed) (λ i. stop (firsts.value i)) slow like.legal (λ car here. ap stop (slow_speed car here)) in
      let fast_stop : stopped_cars fast ≡ total (λ i. stop (seconds.value i)) (cars fast) =
      sum_of_standing (λ (car : Car). stop car.speed) (λ i. stop (seconds.value i)) fast like_fast.legal (λ car here. ap stop (fast_speed car here)) in
      let stop_less = total_le (λ i. stop (seconds.value i)) (λ i. stop (firsts.value i)) n (λ i low. stops_too (firsts.value i) (seconds.value i) (seconds.is i low).1) in
      let f = ap (total (λ i. stop (firsts.value i))) count in
      let g = ap (total (λ i. stop (seconds.value i))) count_fast in
      let h = slow_step.1.stopped in
      let k = fast_step.1.stopped in
      let less = total_le firsts.value seconds.value n (λ i low. (seconds.is i low).1) in
      let a = ap (total firsts.value) count in
      let b = ap (total seconds.value) count_fast in
      let d = slow_step.1.distance in
      let e = fast_step.1.distance in
      record {
        each_car = λ car same here there one.
            let low = like.legal.numbered car here in
            let pair = both car.number (omega (arith, low, count)) in
            let s = pair.slow_gone in
            let t = pair.fast_gone in
            let x = one_speed slow car s.car like.legal here s.here (sym s.numbered) ∙ s.speed in
            let z = one_speed fast same t.car like_fast.legal there t.here (sym one ∙ sym t.numbered) ∙ t.speed in
            let l = pair.less in
            omega (arith, x, z, l);
        all_cars = omega (arith, slow_total, fast_total, less, a, b, d, e);
        no_more_stop = omega (arith, slow_stop, fast_stop, stop_less, f, g, h, k);
      }

pub safe_changes_cost_nobody : SafeChangesCostNobody
safe_changes_cost_nobody p rule other dice road slow fast slow_tally fast_tally nasch is legal slow_step fast_step =
    as_fast (λ v. p) rule other dice road slow fast slow_tally fast_tally nasch.motion.moves nasch.change is legal slow_step fast_step

pub safe_changes_cost_nobody_in_vdr : SafeChangesCostNobodyInVdr
safe_changes_cost_nobody_in_vdr p p0 rule other dice road slow fast slow_tally fast_tally vdr is legal slow_step fast_step =
    as_fast (vdr_braking_chance p p0) rule other dice road slow fast slow_tally fast_tally vdr.motion.moves vdr.change is legal slow_step fast_step

-- the cars that change lanes by the rule of 1996 do so safely
crossed : (b : Bool) → EndsAcross ≡ (if b then EndsAcross else Stays) → b ≡ true
crossed true e = refl
crossed false e = absurd cc

rickert_safe : (c : ℕ) (change : CheckedProgram) → ComputesCrossing (rickert_crosses c) change.program → ChangesSafely change
rickert_safe c change by view words steps seen ends =
    let answer = by view words seen in
    let b = rickert_crosses c view words in
    let one = (one_answer Change change.program.instrs view words EndsAcross (if b then EndsAcross else Stays) steps answer.0 ends answer.1).0 in
    let behind = nat_lt view.limit view.sideback in
    let ahead = nat_lt (view.speed + 1) view.sidegap in
    let some = nat_lt view.gap (view.speed + 1) in
    let first = and_parts (view.side && some && ahead && behind) (happens_at c words 1) (crossed b one) in
    let second = and_parts (view.side && some && ahead) behind first.0 in
    let third = and_parts (view.side && some) ahead second.0 in
    let back = ltb-true view.limit view.sideback second.1 in
    let room = ltb-true (view.speed + 1) view.sidegap third.1 in
    record { room_ahead = omega (arith, room); room_behind = omega (arith, back) }

change_safe : (c : ℕ) (change : Option CheckedProgram) → MatchOption change ⊥ (IsChangeComputing (rickert_crosses c) (rickert_program c)) → IfSome change ChangesSafely
change_safe c None is = absurd is
change_safe c (Some change) is = rickert_safe c change is.changes

pub rickert_changes_safely : RickertChangesSafely
rickert_changes_safely p c rule is = record { motion = is.motion.moves; change = change_safe c rule.change is.change }

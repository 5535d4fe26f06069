-- Answers to parts of the standing order.
use Rattle.std.proofs.Common.{◌≡◌, ℕ, ◌+◌, ◌-◌, ◌<◌, ◌≤◌, Bool, true, false, List, ◌++◌, length, get_or, refl}
use Rattle.std.proofs.{Common.{sym, ◌∙◌, ap, subst, inl, inr, arith, length-append}, lemmas.Bool.cases_lt}
use Rattle.std.proofs.lemmas.List.{get_or_append_left, get_or-append_right}
use Rattle.trlab_code.specs.{declared.view.View.View, Views.motion_view}
use Rattle.trlab_verify.specs.Verified.{CheckedProgram}
use Rattle.trlab_road.specs.{declared.car.Car.Car, Cells.{Cells, cars, lane_of}, Motion.{AreSafeSpeeds, gaps}}
use Rattle.trlab_road.specs.{LaneChange.{AreSafeCrossings, other_lane, sides}, Gaps.{side, sidegap, sideback}}
use Rattle.trlab_machine.specs.{declared.dice.Dice.Dice, Blocks.with_other_lane}
use Rattle.trlab_step.specs.Answers.{change_view_of, motion_view_of, CrossingsFitPart, SpeedsFitPart}
use Rattle.trlab_step.specs.Answers.{IsCrossingsPart, IsSpeedsPart}

pub same_view : (a b c d x y z w : ℕ) → a ≡ x → b ≡ y → c ≡ z → d ≡ w → motion_view a b c d ≡ motion_view x y z w
same_view a b c d x y z w e f g h = ap (λ k. motion_view k b c d) e ∙ ap (λ k. motion_view x k c d) f ∙ ap (λ k. motion_view x y k d) g ∙ ap (motion_view x y z) h

-- a change program's view of a car is the motion program's view, and the side cell and gaps of the road
pub same_beside : (road : Cells) (view : View) (told car : Car) (empty : Bool) (ahead_there behind_there : ℕ) → view ≡ motion_view_of road car → told ≡ car
    → empty ≡ side (lane_of road (other_lane car.lane)) car.place → ahead_there ≡ sidegap (lane_of road (other_lane car.lane)) car.place → behind_there ≡ sideback (lane_of road (other_lane car.lane)) car.place
    → with_other_lane view told.lane empty ahead_there behind_there ≡ change_view_of road car
same_beside road view told car empty ahead_there behind_there a b c d e = rw (a, b, c, d, e) refl

-- an element of a list after more elements were appended
appended : {X : Type 0} (none : X) (P : ℕ → X → Type 0) (xs ys : List X) → ((k : ℕ) → k < length xs → P k (get_or xs k none)) → ((k : ℕ) → k < length ys → P (length xs + k) (get_or ys k none))
    → (k : ℕ) → k < length (xs ++ ys) → P k (get_or (xs ++ ys) k none)
appended none P xs ys before behind k below =
    elim (cases_lt k (length xs)) [
      | inl less ↦ subst (P k) (sym (get_or_append_left xs ys none k less)) (before k less)
      | inr past ↦
          let j = k - length xs in
          let size = length-append xs ys in
          let place : length xs + j ≡ k = omega (arith, past) in
          let inside : j < length ys = omega (arith, size, below, past) in
          subst (P k) (sym (get_or-append_right xs ys (length xs) k none refl past)) (subst (λ i. P i (get_or ys j none)) place (behind j inside))
    ]

-- the bounds of the speeds of a part, and of a block after it
pub more_fits : (road : Cells) (from middle : ℕ) (speeds block : List ℕ) → from + length speeds ≡ middle → SpeedsFitPart road from speeds
    → ((k : ℕ) → k < length block → get_or block k 0 ≤ get_or (gaps road) (middle + k) 0) → ((k : ℕ) → k < length block → get_or block k 0 ≤ road.limit) → SpeedsFitPart road from (speeds ++ block)
more_fits road from middle speeds block whole part gap limit =
    let place : (k : ℕ) → middle + k ≡ from + (length speeds + k) = λ k. omega (arith, whole) in
    record {
      within_gaps = appended 0 (λ i s. s ≤ get_or (gaps road) (from + i) 0) speeds block part.within_gaps (λ k below. subst (λ i. get_or block k 0 ≤ get_or (gaps road) i 0) (place k) (gap k below));
      within_limit = appended 0 (λ i s. s ≤ road.limit) speeds block part.within_limit limit;
    }

-- the side cells of the cars that change lanes, in a part and in a block after it
pub more_free : (road : Cells) (from middle : ℕ) (crosses block : List Bool) → from + length crosses ≡ middle → CrossingsFitPart road from crosses
    → ((k : ℕ) → k < length block → get_or block k false ≡ true → get_or (sides road) (middle + k) false ≡ true) → CrossingsFitPart road from (crosses ++ block)
more_free road from middle crosses block whole part empty =
    let place : (k : ℕ) → middle + k ≡ from + (length crosses + k) = λ k. omega (arith, whole) in
    record {
      side_empty = appended false (λ i c. c ≡ true → get_or (sides road) (from + i) false ≡ true) crosses block part.side_empty
          (λ k below. subst (λ i. get_or block k false ≡ true → get_or (sides road) i false ≡ true) (place k) (empty k below));
    }

-- the answers of all cars are allowed
pub whole_allowed : (motion : CheckedProgram) (dice : Dice) (road : Cells) (speeds : List ℕ) → IsSpeedsPart motion dice road 0 (cars road) speeds → AreSafeSpeeds road speeds
whole_allowed motion dice road speeds told =
    let size = told.0.one_each in
    let first : (k : ℕ) → 0 + k ≡ k = λ k. omega arith in
    record {
      one_each = omega arith;
      within_gaps = λ k below. subst (λ i. get_or speeds k 0 ≤ get_or (gaps road) i 0) (first k) (told.1.within_gaps k (omega arith));
      within_limit = λ k below. told.1.within_limit k (omega arith);
    }

pub whole_free : (change : CheckedProgram) (dice : Dice) (road : Cells) (crosses : List Bool) → length road.lanes ≡ 2 → IsCrossingsPart change dice road 0 (cars road) crosses → AreSafeCrossings road crosses
whole_free change dice road crosses two told =
    let size = told.0.one_each in
    let first : (k : ℕ) → 0 + k ≡ k = λ k. omega arith in
    record {
      two_lanes = two;
      one_each = omega arith;
      side_empty = λ k below goes. subst (λ i. get_or (sides road) i false ≡ true) (first k) (told.1.side_empty k (omega arith) goes);
    }

-- The answers to parts of the standing order.
use Rattle.std.proofs.Common.{◌≡◌, ℕ, ◌+◌, ◌-◌, ◌<◌, ◌≤◌, ◌++◌, ◌∙◌, Bool, true, false, Some, List, length}
use Rattle.std.proofs.Common.{get_or, refl, sym, ap, subst, inl, inr, arith, length-append, slice_get}
use Rattle.std.proofs.{Common.ext_get_or, lemmas.List.{get_or_append_left, get_or-append_right}}
use Rattle.std.proofs.lemmas.{Bool.cases_lt, Option.{slice_get-get_or, slice_get_past, get_or_from_slice_get}}
use Rattle.trlab_code.specs.{declared.program.Kind.TheVariants.{Motion, Change}, Machine.Goes}
use Rattle.trlab_machine.specs.{Answers.crossing_answer, declared.dice.Dice.Dice, Blocks.words_of}
use Rattle.trlab_machine.proofs.Answers.{one_answer}
use Rattle.trlab_verify.specs.Verified.{CheckedProgram}
use Rattle.trlab_road.specs.{declared.car.Car.Car, Cells.{Cells, cars, IsNthCar, rank, standing}}
use Rattle.trlab_road.proofs.StandingOrder.{car_of, length-standing_from_lane, rank_below_cars, standing_rank}
use Rattle.trlab_step.specs.Answers.{motion_view_of, change_view_of, AnswersSpeed, AnswersCrossing}
use Rattle.trlab_step.specs.Answers.{AreAnswers, AreAnswersPart}
use Rattle.trlab_step.specs.Laws.{SpeedsAreUnique, SpeedsJoin, CrossingsAreUnique, CrossingsJoin}

one_speed : {a b : ℕ} → Goes a ≡ Goes b → a ≡ b
one_speed h = cc

-- a motion program has only one answer for a car
pub one_answer_each : (motion : CheckedProgram) (dice : Dice) (road : Cells) (car : Car) (a b : ℕ) → AnswersSpeed motion dice road car a → AnswersSpeed motion dice road car b → a ≡ b
one_answer_each motion dice road car a b first second =
    one_speed ((one_answer Motion motion.program.instrs (motion_view_of road car) (words_of dice car.number) (Goes a) (Goes b) first.0 second.0 first.1 second.1).0)

one_side : (p q : Bool) → crossing_answer p ≡ crossing_answer q → p ≡ q
one_side true true h = refl
one_side true false h = absurd cc
one_side false true h = absurd cc
one_side false false h = refl

-- a change program lets a car change lanes or stay, and not both
pub one_crossing_each : (change : CheckedProgram) (dice : Dice) (road : Cells) (car : Car) (a b : Bool) → AnswersCrossing change dice road car a → AnswersCrossing change dice road car b → a ≡ b
one_crossing_each change dice road car a b first second =
    one_side a b ((one_answer Change change.program.instrs (change_view_of road car) (words_of dice car.number) (crossing_answer a) (crossing_answer b) first.0 second.0 first.1 second.1).0)

no_one : Car
no_one = record { number = 0; lane = 0; place = 0; speed = 0 }

module _ {X : Type 0} (none : X) (IsAnswer : Car → X → Type 0) (road : Cells) where
  -- the answer at an index of a part
  part_at : (from to : ℕ) (answers : List X) → AreAnswersPart IsAnswer road from to answers → (k : ℕ) (car : Car) → k < length answers
      → IsNthCar road (from + k) car → IsAnswer car (get_or answers k none)
  part_at from to answers part k car below here = part.each k car (get_or answers k none) (slice_get-get_or answers k none below) here

  -- if each car has only one answer, the cars of a part have only one list of answers
  pub part_is_one : (from to : ℕ) (answers others : List X) → ((car : Car) (a b : X) → IsAnswer car a → IsAnswer car b → a ≡ b)
      → to ≤ cars road → AreAnswersPart IsAnswer road from to answers → AreAnswersPart IsAnswer road from to others → answers ≡ others
  part_is_one from to answers others one within a b =
      let all = length-standing_from_lane 0 road.lanes in
      let size = a.one_each in
      let count = b.one_each in
      ext_get_or none answers others (omega (arith, size, count))
      (λ k below.
      let car = get_or (standing road) (from + k) no_one in
      let there : slice_get (standing road) (from + k) ≡ Some car = slice_get-get_or (standing road) (from + k) no_one (omega (arith, size, count, below, within, all)) in
      one car (get_or answers k none) (get_or others k none) (part_at from to answers a k car below there) (part_at from to others b k car (omega (arith, size, count, below)) there))

  -- the answer of a list at an index, if it has one there
  pub at_index : (answers : List X) (k : ℕ) (answer : X) → slice_get answers k ≡ Some answer → (k < length answers) × (get_or answers k none ≡ answer)
  at_index answers k answer is =
      elim (cases_lt k (length answers)) [
        | inl below ↦ (below, get_or_from_slice_get answers k answer none is)
        | inr past ↦ let e = sym (slice_get_past answers k past) ∙ is in absurd cc
      ]

  -- answers that are correct at each index are correct
  pub each_answer : (from : ℕ) (answers : List X) → ((k : ℕ) (car : Car) → k < length answers → IsNthCar road (from + k) car → IsAnswer car (get_or answers k none))
      → (k : ℕ) (car : Car) (answer : X) → slice_get answers k ≡ Some answer → IsNthCar road (from + k) car → IsAnswer car answer
  each_answer from answers right k car answer is here = let there = at_index answers k answer is in subst (IsAnswer car) there.1 (right k car there.0 here)

  -- the answers to two parts, one after the other, are answers to both
  pub parts_join : (from middle to : ℕ) (first second : List X) → AreAnswersPart IsAnswer road from middle first → AreAnswersPart IsAnswer road middle to second
      → AreAnswersPart IsAnswer road from to (first ++ second)
  parts_join from middle to first second a b =
      let whole = length-append first second in
      let size = a.one_each in
      let count = b.one_each in
      record {
        one_each = omega (arith, size, count, whole);
        each = each_answer from (first ++ second) (λ k car below here. elim (cases_lt k (length first)) [
          | inl less ↦ subst (IsAnswer car) (sym (get_or_append_left first second none k less)) (part_at from middle first a k car less here)
          | inr past ↦
              let j = k - length first in
              let place : from + k ≡ middle + j = omega (arith, size, past) in
              let inside : j < length second = omega (arith, whole, below, past) in
              subst (IsAnswer car) (sym (get_or-append_right first second (length first) k none refl past))
              (part_at middle to second b j car inside (subst (λ i. IsNthCar road i car) place here))
        ]);
      }

  -- the answers to a part and those of a block after it are those of both
  pub more_answers : (from middle : ℕ) (answers block : List X) → AreAnswersPart IsAnswer road from middle answers
      → ((k : ℕ) (car : Car) → k < length block → IsNthCar road (middle + k) car → IsAnswer car (get_or block k none))
      → AreAnswersPart IsAnswer road from (middle + length block) (answers ++ block)
  more_answers from middle answers block part right =
      parts_join from middle (middle + length block) answers block part (record { one_each = refl; each = each_answer middle block right })

  -- answers of all cars in standing order, by lane and place
  pub by_place : (answers : List X) → AreAnswersPart IsAnswer road 0 (cars road) answers → AreAnswers IsAnswer road (λ l x. get_or answers (rank road l x) none)
  unfolding car_of
  by_place answers part = record {
    each = λ car here.
        let k = rank road car.lane car.place in
        let low = rank_below_cars road car.lane car.place (car.number, car.speed) here in
        let size = part.one_each in
        let count = length-standing_from_lane 0 road.lanes in
        let first : k ≡ 0 + k = omega arith in
        let there = slice_get-get_or (standing road) k no_one (omega (arith, low, count)) ∙ ap Some (standing_rank road car.lane car.place car.number car.speed no_one here) in
        part_at 0 (cars road) answers part k car (omega (arith, low, size)) (subst (λ i. IsNthCar road i car) first there);
  }

-- the cars of a part have only one list of speeds
pub speeds_are_one : SpeedsAreUnique
speeds_are_one motion dice road from to speeds others within a b =
    part_is_one 0 (AnswersSpeed motion dice road) road from to speeds others (one_answer_each motion dice road) within a b

-- the speeds of two parts, one after the other, are those of both
pub speeds_join : SpeedsJoin
speeds_join motion dice road from middle to first second a b = parts_join 0 (AnswersSpeed motion dice road) road from middle to first second a b

-- the cars of a part have only one list of lane changes
pub crossings_are_one : CrossingsAreUnique
crossings_are_one change dice road from to crosses others within a b =
    part_is_one false (AnswersCrossing change dice road) road from to crosses others (one_crossing_each change dice road) within a b

-- the lane changes of two parts, one after the other, are those of both
pub crossings_join : CrossingsJoin
crossings_join change dice road from middle to first second a b = parts_join false (AnswersCrossing change dice road) road from middle to first second a b

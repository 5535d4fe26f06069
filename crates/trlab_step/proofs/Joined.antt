-- The answers of two adjacent parts, one after the other, are those of both.
use Rattle.std.proofs.Common.{◌≡◌, ℕ, ◌+◌, ◌-◌, ◌<◌, ◌≤◌, ◌++◌, Bool, true, false, List, [], length, get_or}
use Rattle.std.proofs.{Common.{refl, sym, subst, inl, inr, arith, length-append}, lemmas.Bool.cases_lt}
use Rattle.std.proofs.lemmas.List.{get_or_append_left, get_or-append_right}
use Rattle.trlab_machine.specs.declared.dice.Dice.{Dice}
use Rattle.trlab_road.specs.{Cells.Cells, LaneChange.sides, Motion.gaps}
use Rattle.trlab_step.specs.Answers.{CrossingsFitPart, SpeedsFitPart, IsCrossingsPart, IsSpeedsPart}
use Rattle.trlab_step.proofs.PartLaws.{speeds_join as join_speeds, crossings_join as join_crossings}
use Rattle.trlab_verify.specs.Verified.{CheckedProgram}

-- a fact that holds of each element of two lists, by its index, holds of the elements of both together
both : {X : Type 0} (none : X) (P : ℕ → X → Type 0) (xs ys : List X)
    → ((k : ℕ) → k < length xs → P k (get_or xs k none))
    → ((k : ℕ) → k < length ys → P (length xs + k) (get_or ys k none))
    → (k : ℕ) → k < length (xs ++ ys) → P k (get_or (xs ++ ys) k none)
both none P xs ys first second k below =
    elim (cases_lt k (length xs)) [
      | inl less ↦ subst (P k) (sym (get_or_append_left xs ys none k less)) (first k less)
      | inr past ↦
          let size = length-append xs ys in
          let j = k - length xs in
          let at : length xs + j ≡ k = omega (arith, past) in
          let within : j < length ys = omega (arith, size, below, past) in
          let there = subst (λ i. P i (get_or ys j none)) at (second j within) in
          subst (P k) (sym (get_or-append_right xs ys (length xs) k none refl past)) there
    ]

-- for no cars, the empty list has the speeds
pub speeds_begin : (motion : CheckedProgram) (dice : Dice) (road : Cells)
    → IsSpeedsPart motion dice road 0 0 []
speeds_begin motion dice road = (
  record { one_each = refl; each = λ k car answer is here. absurd cc },
  record {
    within_gaps = λ k below. absurd (omega (arith, below));
    within_limit = λ k below. absurd (omega (arith, below));
  },
)

-- if the speeds of two parts are within the gaps and the limit, so are both together
fits_join : (road : Cells) (from middle : ℕ) (first second : List ℕ) → middle ≡ from + length first
    → SpeedsFitPart road from first → SpeedsFitPart road middle second → SpeedsFitPart road from (first ++ second)
fits_join road from middle first second behind a b =
    let IsWithin : ℕ → ℕ → Type 0 = λ i s. s ≤ get_or (gaps road) i 0 in
    let place : (k : ℕ) → middle + k ≡ from + (length first + k) = λ k. omega (arith, behind) in record {
      within_gaps = both 0 (λ i s. IsWithin (from + i) s) first second a.within_gaps
          (λ k below. subst (λ i. IsWithin i (get_or second k 0)) (place k) (b.within_gaps k below));
      within_limit = both 0 (λ i s. s ≤ road.limit) first second a.within_limit b.within_limit;
    }

-- the speeds of two parts, one after the other, are those of both
pub speeds_join : (motion : CheckedProgram) (dice : Dice) (road : Cells) (from middle to : ℕ)
    → (first second : List ℕ)
    → IsSpeedsPart motion dice road from middle first → IsSpeedsPart motion dice road middle to second
    → IsSpeedsPart motion dice road from to (first ++ second)
speeds_join motion dice road from middle to first second a b = (
  join_speeds motion dice road from middle to first second a.0 b.0,
  fits_join road from middle first second (sym a.0.one_each) a.1 b.1,
)

-- for no cars, the empty list has the lane changes
pub crosses_begin : (change : CheckedProgram) (dice : Dice) (road : Cells)
    → IsCrossingsPart change dice road 0 0 []
crosses_begin change dice road = (
  record { one_each = refl; each = λ k car answer is here. absurd cc },
  record { side_empty = λ k below. absurd (omega (arith, below)) },
)

-- if the cars of two parts change lanes only to empty cells, so do both together
free_join : (road : Cells) (from middle : ℕ) (first second : List Bool) → middle ≡ from + length first
    → CrossingsFitPart road from first → CrossingsFitPart road middle second
    → CrossingsFitPart road from (first ++ second)
free_join road from middle first second behind a b =
    let IsFree : ℕ → Bool → Type 0 = λ i c. c ≡ true → get_or (sides road) i false ≡ true in
    let place : (k : ℕ) → middle + k ≡ from + (length first + k) = λ k. omega (arith, behind) in record {
      side_empty = both false (λ i c. IsFree (from + i) c) first second a.side_empty
          (λ k below. subst (λ i. IsFree i (get_or second k false)) (place k) (b.side_empty k below));
    }

-- the lane changes of two parts, one after the other, are those of both
pub crosses_join : (change : CheckedProgram) (dice : Dice) (road : Cells) (from middle to : ℕ)
    → (first second : List Bool)
    → IsCrossingsPart change dice road from middle first → IsCrossingsPart change dice road middle to second
    → IsCrossingsPart change dice road from to (first ++ second)
crosses_join change dice road from middle to first second a b = (
  join_crossings change dice road from middle to first second a.0 b.0,
  free_join road from middle first second (sym a.0.one_each) a.1 b.1,
)

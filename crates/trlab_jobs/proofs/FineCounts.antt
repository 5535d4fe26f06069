-- Numbers of cars that fit a sweep.
use Rattle.std.proofs.Common.{◌≡◌, ℕ, zero, suc, ◌+◌, ◌*◌, ◌<◌, ◌≤◌, List, [], ◌∷◌, length, get_or, arith}
use Rattle.std.proofs.Common.{ltb-false, All, Result, Ok, Err, nat_lt, codes}
use Rattle.trlab_asm.specs.Operands.{◌>>=◌}
use Rattle.trlab_road.specs.declared.fault.RoadFault.TheVariants.{TooManyCars}
use Rattle.trlab_texts.specs.declared.fault.Cause.{Cause, TheVariants.{TooMany, Road, Work}}
use Rattle.trlab_texts.specs.{Words.{number_within, word_after}, Reading.{LocatedFault, at_line}}
use Rattle.trlab_texts.proofs.Fine.{Fine, FineText, InRange, line_other, road_other, too_many_other}
use Rattle.trlab_texts.proofs.Fine.{work_other, bind_fine, choose, numbered}
use Rattle.trlab_jobs.specs.declared.limits.TheConstants.{MAX_CARS, MAX_POINTS, MAX_WORK}
use Rattle.trlab_jobs.specs.Lines.{admit_cars, cars_line, counts_from, counts}

-- there is room for a point, and for its cars and steps
pub record HasRoom (cells steps point count : ℕ) : Type 0 where
  pub cars : count ≤ cells
  pub points : point ≤ MAX_POINTS
  pub work : point * steps ≤ MAX_WORK

admit_fine : (cells steps point count : ℕ) → Fine (HasRoom cells steps point) (admit_cars cells steps point count)
admit_fine cells steps point count =
    choose (HasRoom cells steps point) (nat_lt MAX_POINTS point) (Err TooMany) _ (λ e. too_many_other) (λ few.
    choose (HasRoom cells steps point) (nat_lt cells count) (Err (Road TooManyCars)) _ (λ e. road_other TooManyCars) (λ fit.
    choose (HasRoom cells steps point) (nat_lt MAX_WORK (point * steps)) (Err Work) (Ok count) (λ e. work_other) (λ short.
    record { cars = ltb-false cells count fit; points = ltb-false MAX_POINTS point few; work = ltb-false MAX_WORK (point * steps) short })))

line_fine : (cells steps point : ℕ) (text : List ℕ) → Fine (HasRoom cells steps point) (cars_line cells steps point text)
line_fine cells steps point text =
    bind_fine (InRange 0 MAX_CARS) (HasRoom cells steps point) (number_within 0 MAX_CARS (word_after (codes "cars ") text)) (admit_cars cells steps point)
    (numbered (codes "cars ") text 0 MAX_CARS) (λ count any. admit_fine cells steps point count)

-- counts from a point on, for each of which there is room
pub record HaveRoom (cells steps point : ℕ) (counts : List ℕ) : Type 0 where
  pub cars : All (λ count. count ≤ cells) counts
  pub points : (i : ℕ) → i < length counts → point + i ≤ MAX_POINTS
  pub work : (i : ℕ) → i < length counts → (point + i) * steps ≤ MAX_WORK

-- one more in front
in_front : (cells steps point count : ℕ) (counts : List ℕ) → HasRoom cells steps point count → HaveRoom cells steps (point + 1) counts → HaveRoom cells steps point (count ∷ counts)
in_front cells steps point count others one more = record { cars = cars_of; points = points_of; work = work_of }
  where
    cars_of : (i d : ℕ) → i < suc (length others) → get_or (count ∷ others) i d ≤ cells
    cars_of zero d inside = one.cars
    cars_of (suc i) d inside = more.cars i d (omega arith)

    points_of : (i : ℕ) → i < suc (length others) → point + i ≤ MAX_POINTS
    points_of zero inside = omega (arith, one.points)
    points_of (suc i) inside = let rest = more.points i (omega arith) in omega arith

    work_of : (i : ℕ) → i < suc (length others) → (point + i) * steps ≤ MAX_WORK
    work_of zero inside = let same : point + 0 ≡ point = omega arith in rw same one.work
    work_of (suc i) inside = let same : point + suc i ≡ point + 1 + i = omega arith in rw same (more.work i (omega arith))

line_then : (cells steps point number : ℕ) (said : Result ℕ Cause) (more : Result (List ℕ) LocatedFault) → Fine (HasRoom cells steps point) said → FineText (HaveRoom cells steps (point + 1)) more
    → FineText (HaveRoom cells steps point) (at_line number said >>= λ count. more >>= λ counts. Ok (count ∷ counts))
line_then cells steps point number (Ok count) (Ok counts) one rest = in_front cells steps point count counts one rest
line_then cells steps point number (Ok count) (Err fault) one rest = rest
line_then cells steps point number (Err cause) more one rest = one

counts_from_fine : (cells steps point number : ℕ) (left : List (List ℕ)) → FineText (HaveRoom cells steps point) (counts_from cells steps point number left)
unfolding counts_from
counts_from_fine cells steps point number [] = record { cars = λ i d inside. absurd (omega arith); points = λ i inside. absurd (omega arith); work = λ i inside. absurd (omega arith) }
counts_from_fine cells steps point number (text ∷ left) =
    line_then cells steps point number (cars_line cells steps point text) (counts_from cells steps (point + 1) (number + 1) left)
    (line_fine cells steps point text) (counts_from_fine cells steps (point + 1) (number + 1) left)

-- counts of all points, of which there is one or more
pub record AllHaveRoom (cells steps : ℕ) (counts : List ℕ) : Type 0 where
  pub some : 1 ≤ length counts
  pub room : HaveRoom cells steps 1 counts

with_one : (cells steps number : ℕ) (said : Result ℕ Cause) (more : Result (List ℕ) LocatedFault)
    → FineText (HaveRoom cells steps 1) (at_line number said >>= λ count. more >>= λ counts. Ok (count ∷ counts))
    → FineText (AllHaveRoom cells steps) (at_line number said >>= λ count. more >>= λ counts. Ok (count ∷ counts))
with_one cells steps number (Ok count) (Ok counts) room = record { some = omega arith; room = room }
with_one cells steps number (Ok count) (Err fault) room = room
with_one cells steps number (Err cause) more room = room

pub counts_fine : (cells steps number : ℕ) (left : List (List ℕ)) → FineText (AllHaveRoom cells steps) (counts cells steps number left)
unfolding counts_from
counts_fine cells steps number [] = line_other
counts_fine cells steps number (text ∷ left) =
    with_one cells steps number (cars_line cells steps 1 text) (counts_from cells steps 2 (number + 1) left) (counts_from_fine cells steps 1 number (text ∷ left))

-- Lanes: places on the ring, sums over lanes and over the cars of a lane, and lanes that roads keep.
use Rattle.std.proofs.Common.{◌≡◌, ℕ, zero, suc, ◌+◌, ◌-◌, ◌*◌, ◌/◌, ◌%◌, ◌<◌, ◌≤◌, Bool, true, Some, length}
use Rattle.std.proofs.Common.{sym, ◌∙◌, ap, inl, inr, arith, mod-eq_of_lt, mod-lt, ◌≢◌, ◌⊎◌, min, cond, None}
use Rattle.std.proofs.Common.{List, [], ◌∷◌, get_or, refl, subst, Option, true≢false, eq-eqb, le-ltb, lt-ltb}
use Rattle.std.proofs.Common.{ne_eqb, nat_eq, nat_lt, sum_by}
use Rattle.std.proofs.Math.Nat.{add-mod_right, add-mul-mod_self_left, div-add-mod, mod-add-mod, mod_self}
use Rattle.std.proofs.lemmas.Bool.{cases_Bool, cases_eq, cond-true, cond-false, cases_lt}
use Rattle.std.{proofs.lemmas.List.Sums.{sum_by-append, sum_by-cons}, specs.List.range_with_len}
use Rattle.trlab_road.specs.Cells.{Lane, at, Cell, Cells, lane_of, standing_from, standing_from_lane}
use Rattle.trlab_road.specs.{Gaps.{ahead, behind, gap, largest, is_clear}, Motion.IsClearAhead}
use Rattle.trlab_road.{specs.declared.car.Car.Car, proofs.{ListGaps.clear_from, Ring.{inside, car_in}}}
use Rattle.trlab_rules.specs.Rules.{Programs}
use Rattle.trlab_machine.specs.declared.dice.Dice.{Dice}
use Rattle.trlab_verify.specs.Verified.{CheckedProgram}
use Rattle.trlab_step.specs.{declared.tally.StepTally.StepTally, Next.{IsLaneChangePhase, IsNext}}
use Rattle.trlab_step.specs.Run.{ComesTo, Seed, Sheet, dice_at}

-- Places on the ring: distances ahead, one after another, and back.

-- a place ahead is one of the ring
pub ahead_below : (n x j : ℕ) → 0 < n → ahead n x j < n
ahead_below n x j some = mod-lt (x + j) some

-- no cell ahead is the place itself
pub ahead_none : (n x : ℕ) → x < n → ahead n x 0 ≡ x
ahead_none n x low = let e : x + 0 ≡ x = omega arith in ap (λ k. k % n) e ∙ mod-eq_of_lt low

-- a number of cells ahead, and then some more
pub ahead_more : (n x i j : ℕ) → ahead n (ahead n x i) j ≡ ahead n x (i + j)
ahead_more n x i j = let e : x + i + j ≡ x + (i + j) = omega arith in mod-add-mod (x + i) n j ∙ ap (λ k. k % n) e

-- in either order
pub ahead_swap : (n x i j : ℕ) → ahead n (ahead n x i) j ≡ ahead n (ahead n x j) i
ahead_swap n x i j = let e : i + j ≡ j + i = omega arith in ahead_more n x i j ∙ ap (ahead n x) e ∙ sym (ahead_more n x j i)

-- ahead, and then on to the end of the lap
pub ahead_back : (n x r : ℕ) → x < n → ahead n (ahead n x r) (n - r % n) ≡ x
ahead_back n x r low =
    let whole = div-add-mod r n in
    let part : r % n < n = mod-lt r (omega arith) in
    let e : x + (r + (n - r % n)) ≡ x + n * (r / n + 1) = omega (arith, whole, part) in
    ahead_more n x r (n - r % n) ∙ ap (λ k. k % n) e ∙ add-mul-mod_self_left x n (r / n + 1) ∙ mod-eq_of_lt low

pub back_ahead : (n x r : ℕ) → x < n → ahead n (ahead n x (n - r % n)) r ≡ x
back_ahead n x r low = ahead_swap n x (n - r % n) r ∙ ahead_back n x r low

-- two places from which the same distance ahead leads to the same place are equal
pub ahead_once : (n x y r : ℕ) → x < n → y < n → ahead n x r ≡ ahead n y r → x ≡ y
ahead_once n x y r low high same = sym (ahead_back n x r low) ∙ ap (λ k. ahead n k (n - r % n)) same ∙ ahead_back n y r high

-- one cell behind, and one ahead
pub behind_ahead : (n x : ℕ) → x < n → ahead n (behind n x 1) 1 ≡ x
behind_ahead n x low =
    let e : x + (n - 1 + 1) ≡ x + n = omega (arith, low) in
    ahead_more n x (n - 1) 1 ∙ ap (λ k. k % n) e ∙ add-mod_right x n ∙ mod-eq_of_lt low

pub ahead_behind : (n x : ℕ) → x < n → behind n (ahead n x 1) 1 ≡ x
ahead_behind n x low = ahead_swap n x 1 (n - 1) ∙ behind_ahead n x low

-- a number that passes is at most the largest that does
at_least : (test : ℕ → Bool) (n g : ℕ) → g ≤ n → test g ≡ true → g ≤ largest test n
at_least test zero g low passes = low
at_least test (suc n) g low passes =
    elim (cases_Bool (test (suc n))) [
      | inl top ↦ rw (cond-true (test (suc n)) (suc n) (largest test n) top) low
      | inr failed ↦ rw (cond-false (test (suc n)) (suc n) (largest test n) failed) (elim (cases_eq g (suc n)) [
        | inl e ↦ absurd (true≢false (sym passes ∙ ap test e ∙ failed))
        | inr other ↦ at_least test n g (omega arith) passes
      ])
    ]

-- the largest is within the bound
greatest_within : (test : ℕ → Bool) (n : ℕ) → largest test n ≤ n
greatest_within test zero = omega arith
greatest_within test (suc n) =
    let rest = greatest_within test n in
    elim (cases_Bool (test (suc n))) [
      | inl top ↦ rw (cond-true (test (suc n)) (suc n) (largest test n) top) (omega arith)
      | inr failed ↦ rw (cond-false (test (suc n)) (suc n) (largest test n) failed) (omega (arith, rest))
    ]

-- empty cells ahead are within the gap
pub clear_is_gap : (lane : Lane) (x g : ℕ) → g < length lane → IsClearAhead lane x g → g ≤ gap lane x
clear_is_gap lane x g low clear =
    at_least (is_clear lane (ahead (length lane) x)) (length lane - 1) g (omega arith) (clear_from lane (ahead (length lane) x) g clear.clear)

-- a gap is shorter than the lane
pub gap_below : (lane : Lane) (x y : ℕ) (car : ℕ × ℕ) → at lane y ≡ Some car → gap lane x < length lane
gap_below lane x y car there =
    let low = inside lane y car there in
    let most = greatest_within (is_clear lane (ahead (length lane) x)) (length lane - 1) in
    omega (arith, low, most)

-- Sums: of the first values of a function, over lanes, and over the cars of a lane, cell by cell.

-- tests as numbers
abbrev pub is : ℕ → ℕ → ℕ
is a b = cond (nat_eq a b) 1 0

abbrev pub below : ℕ → ℕ → ℕ
below a b = cond (nat_lt a b) 1 0

pub is_so : (a b : ℕ) → a ≡ b → is a b ≡ 1
is_so a b h = ap (λ t. cond t 1 0) (eq-eqb a b h)

pub is_not : (a b : ℕ) → a ≢ b → is a b ≡ 0
is_not a b h = ap (λ t. cond t 1 0) (ne_eqb a b h)

pub below_so : (a b : ℕ) → a < b → below a b ≡ 1
below_so a b h = ap (λ t. cond t 1 0) (lt-ltb a b h)

pub below_not : (a b : ℕ) → b ≤ a → below a b ≡ 0
below_not a b h = ap (λ t. cond t 1 0) (le-ltb a b h)

pub below_cases : (a b : ℕ) → (below a b ≡ 0) ⊎ (below a b ≡ 1)
below_cases a b =
    elim (cases_lt a b) [
      | inl less ↦ inr (below_so a b less)
      | inr more ↦ inl (below_not a b more)
    ]

pub below_is : (a b : ℕ) → below a b ≡ 1 → a < b
below_is a b h =
    elim (cases_lt a b) [
      | inl less ↦ less
      | inr more ↦ let e = below_not a b more in absurd (omega (arith, e, h))
    ]

-- the sum of the first values of a function
abbrev pub total : (ℕ → ℕ) → ℕ → ℕ
total w zero = 0
total w (suc n) = w 0 + total (λ x. w (suc x)) n

pub total_same : (v w : ℕ → ℕ) (n : ℕ) → ((x : ℕ) → x < n → v x ≡ w x) → total v n ≡ total w n
total_same v w zero same = refl
total_same v w (suc n) same =
    let first = same 0 (omega arith) in
    let rest = total_same (λ x. v (suc x)) (λ x. w (suc x)) n (λ x low. same (suc x) (omega arith)) in
    omega (arith, first, rest)

-- the last value by itself
pub total_last : (w : ℕ → ℕ) (n : ℕ) → total w (suc n) ≡ total w n + w n
total_last w zero = let e : w 0 + 0 ≡ 0 + w 0 = omega arith in e
total_last w (suc n) = let rest = total_last (λ x. w (suc x)) n in omega (arith, rest)

-- a sum over the ring may begin one cell further on
pub total_next : (w : ℕ → ℕ) (n : ℕ) → total (λ x. w (ahead n x 1)) n ≡ total w n
total_next w zero = refl
total_next w (suc m) =
    let n = suc m in
    let v : ℕ → ℕ = λ x. w (ahead n x 1) in
    let last = total_last v m in
    let end : m + 1 ≡ n = omega arith in
    let first : v m ≡ w 0 = ap (λ k. w (k % n)) end ∙ ap w (mod_self n) in
    let rest : total v m ≡ total (λ x. w (suc x)) m = total_same v (λ x. w (suc x)) m
    (λ x low. let e : x + 1 ≡ suc x = omega arith in ap w (ap (λ k. k % n) e ∙ mod-eq_of_lt (let k : suc x < n = omega arith in k))) in
    omega (arith, last, first, rest)

-- and at any cell
pub total_turned : (w : ℕ → ℕ) (n r : ℕ) → total (λ x. w (ahead n x r)) n ≡ total w n
total_turned w n zero = total_same (λ x. w (ahead n x 0)) w n (λ x low. ap w (ahead_none n x low))
total_turned w n (suc r) =
    let v : ℕ → ℕ = λ y. w (ahead n y r) in
    let one : 1 + r ≡ suc r = omega arith in
    total_same (λ x. w (ahead n x (suc r))) (λ x. v (ahead n x 1)) n (λ x low. ap w (sym (ahead_more n x 1 r ∙ ap (ahead n x) one)))
    ∙ total_next v n
    ∙ total_turned w n r

-- a sum of zeros
pub total_none : (w : ℕ → ℕ) (n : ℕ) → ((y : ℕ) → y < n → w y ≡ 0) → total w n ≡ 0
total_none w zero none = refl
total_none w (suc n) none =
    let first = none 0 (omega arith) in
    let rest = total_none (λ y. w (suc y)) n (λ y low. none (suc y) (omega (arith, low))) in
    omega (arith, first, rest)

-- a sum of which all values but one are 0
pub total_at : (w : ℕ → ℕ) (n c : ℕ) → c < n → ((y : ℕ) → y < n → y ≢ c → w y ≡ 0) → total w n ≡ w c
total_at w zero c low others = absurd (omega (arith, low))
total_at w (suc n) zero low others =
    let rest = total_none (λ y. w (suc y)) n (λ y less. others (suc y) (omega (arith, less)) (λ e. omega (arith, e))) in
    omega (arith, rest)
total_at w (suc n) (suc c) low others =
    let first = others 0 (omega arith) (λ e. omega (arith, e)) in
    let rest = total_at (λ y. w (suc y)) n c (omega (arith, low)) (λ y less apart. others (suc y) (omega (arith, less)) (λ e. apart (omega (arith, e)))) in
    omega (arith, first, rest)

-- sums of values that balance
pub total_balance : (a b c d : ℕ → ℕ) (n : ℕ) → ((y : ℕ) → y < n → a y + b y ≡ c y + d y) → total a n + total b n ≡ total c n + total d n
total_balance a b c d zero each = refl
total_balance a b c d (suc n) each =
    let first = each 0 (omega arith) in
    let rest = total_balance (λ y. a (suc y)) (λ y. b (suc y)) (λ y. c (suc y)) (λ y. d (suc y)) n (λ y low. each (suc y) (omega (arith, low))) in
    omega (arith, first, rest)

pub total_add : (a b : ℕ → ℕ) (n : ℕ) → total (λ x. a x + b x) n ≡ total a n + total b n
total_add a b zero = refl
total_add a b (suc n) = let rest = total_add (λ x. a (suc x)) (λ x. b (suc x)) n in omega (arith, rest)

-- in either order
pub total_swap : (f : ℕ → ℕ → ℕ) (m n : ℕ) → total (λ x. total (λ y. f x y) n) m ≡ total (λ y. total (λ x. f x y) m) n
total_swap f m zero = total_none (λ x. 0) m (λ x low. refl)
total_swap f m (suc n) =
    let split = total_add (λ x. f x 0) (λ x. total (λ y. f x (suc y)) n) m in
    let rest = total_swap (λ x y. f x (suc y)) m n in
    omega (arith, split, rest)

-- how many numbers are below another
pub total_below : (v n : ℕ) → total (λ z. below z v) n ≡ min v n
total_below v zero = omega arith
total_below v (suc n) =
    let last = total_last (λ z. below z v) n in
    let rest = total_below v n in
    elim (cases_lt n v) [
      | inl less ↦ let e = below_so n v less in omega (arith, last, rest, e, less)
      | inr more ↦ let e = below_not n v more in omega (arith, last, rest, e, more)
    ]

-- a sum over a range
pub sum_range : (f : ℕ → ℕ) (s n : ℕ) → sum_by f (range_with_len s n) ≡ total (λ x. f (s + x)) n
sum_range f s zero = refl
sum_range f s (suc n) =
    let split = sum_by-cons f s (range_with_len (s + 1) n) in
    let rest = sum_range f (s + 1) n in
    let same = total_same (λ x. f (s + 1 + x)) (λ x. f (s + suc x)) n (λ x low. let e : s + 1 + x ≡ s + suc x = omega arith in ap f e) in
    let zeroth : s ≡ s + 0 = omega arith in
    let first = ap f zeroth in
    omega (arith, split, rest, same, first)

-- a sum over lanes, lane by lane
pub by_lane : (g : Lane → ℕ) (lanes : List Lane) → sum_by g lanes ≡ total (λ l. g (get_or lanes l [])) (length lanes)
by_lane g [] = refl
by_lane g (lane ∷ lanes) =
    let e = sum_by-cons g lane lanes in
    let rest = by_lane g lanes in
    omega (arith, e, rest)

-- a sum over the cars of lanes, lane by lane
pub sum_of_lanes : (f : Car → ℕ) (each : ℕ → ℕ) (base : ℕ) (lanes : List Lane)
    → ((l : ℕ) → l < length lanes → sum_by f (standing_from (base + l) 0 (get_or lanes l [])) ≡ each l)
    → sum_by f (standing_from_lane base lanes) ≡ total each (length lanes)
sum_of_lanes f each base [] same = refl
sum_of_lanes f each base (lane ∷ lanes) same =
    let zeroth : base + 0 ≡ base = omega arith in
    let first = subst (λ k. sum_by f (standing_from k 0 lane) ≡ each 0) zeroth (same 0 (omega arith)) in
    let rest = sum_of_lanes f (λ l. each (suc l)) (suc base) lanes (λ l low. let e : base + suc l ≡ suc base + l = omega arith in
    subst (λ k. sum_by f (standing_from k 0 (get_or lanes l [])) ≡ each (suc l)) e (same (suc l) (omega (arith, low)))) in
    let split = sum_by-append f (standing_from base 0 lane) (standing_from_lane (suc base) lanes) in
    omega (arith, first, rest, split)

-- a sum of ones and zeros of which at most one is 1
pub single : (w : ℕ → ℕ) (n : ℕ) → ((y : ℕ) → y < n → (w y ≡ 0) ⊎ (w y ≡ 1)) → ((y z : ℕ) → y < n → z < n → w y ≡ 1 → w z ≡ 1 → y ≡ z) → total w n ≤ 1
single w zero each one = omega arith
single w (suc n) each one =
    elim (each 0 (omega arith)) [
      | inl none ↦
          let rest = single (λ y. w (suc y)) n (λ y low. each (suc y) (omega (arith, low)))
          (λ y z low high a b. let e = one (suc y) (suc z) (omega (arith, low)) (omega (arith, high)) a b in omega (arith, e)) in
          omega (arith, none, rest)
      | inr here ↦
          let rest = total_none (λ y. w (suc y)) n (λ y low. elim (each (suc y) (omega (arith, low))) [
            | inl none ↦ none
            | inr there ↦ let e = one 0 (suc y) (omega arith) (omega (arith, low)) here there in absurd (omega (arith, e))
          ]) in
          omega (arith, here, rest)
    ]

-- sums over the cars of a lane of functions that agree at the cars
pub sum_at_cars : (f g : Car → ℕ) (l s : ℕ) (lane : Lane) → ((x number speed : ℕ) → at lane x ≡ Some (number, speed) → f (car_in l (s + x) number speed) ≡ g (car_in l (s + x) number speed))
    → sum_by f (standing_from l s lane) ≡ sum_by g (standing_from l s lane)
sum_at_cars f g l s [] same = refl
sum_at_cars f g l s (None ∷ cells) same =
    sum_at_cars f g l (suc s) cells
    (λ x number speed here. let e : s + suc x ≡ suc s + x = omega arith in subst (λ k. f (car_in l k number speed) ≡ g (car_in l k number speed)) e (same (suc x) number speed here))
sum_at_cars f g l s (Some car ∷ cells) same =
    let zeroth : s + 0 ≡ s = omega arith in
    let first : f (car_in l s car.0 car.1) ≡ g (car_in l s car.0 car.1) = subst (λ k. f (car_in l k car.0 car.1) ≡ g (car_in l k car.0 car.1)) zeroth (same 0 car.0 car.1 refl) in
    let rest = sum_at_cars f g l (suc s) cells
    (λ x number speed here. let e : s + suc x ≡ suc s + x = omega arith in subst (λ k. f (car_in l k number speed) ≡ g (car_in l k number speed)) e (same (suc x) number speed here)) in
    let a = sum_by-cons f (car_in l s car.0 car.1) (standing_from l (suc s) cells) in
    let b = sum_by-cons g (car_in l s car.0 car.1) (standing_from l (suc s) cells) in
    omega (arith, first, rest, a, b)

-- the weight of the car of a cell
abbrev pub weight : (Car → ℕ) → ℕ → ℕ → Cell → ℕ
weight f l x None = 0
weight f l x (Some car) = f (car_in l x car.0 car.1)

-- a sum over the cars of a lane is a sum over its cells
pub sum_of_cells : (f : Car → ℕ) (l s : ℕ) (lane : Lane) → sum_by f (standing_from l s lane) ≡ total (λ x. weight f l (s + x) (at lane x)) (length lane)
sum_of_cells f l s [] = refl
sum_of_cells f l s (None ∷ cells) =
    let rest = sum_of_cells f l (suc s) cells in
    let same = total_same (λ x. weight f l (suc s + x) (at cells x)) (λ x. weight f l (s + suc x) (at cells x)) (length cells)
    (λ x low. let e : suc s + x ≡ s + suc x = omega arith in ap (λ k. weight f l k (at cells x)) e) in
    omega (arith, rest, same)
sum_of_cells f l s (Some here ∷ cells) =
    let rest = sum_of_cells f l (suc s) cells in
    let same = total_same (λ x. weight f l (suc s + x) (at cells x)) (λ x. weight f l (s + suc x) (at cells x)) (length cells)
    (λ x low. let e : suc s + x ≡ s + suc x = omega arith in ap (λ k. weight f l k (at cells x)) e) in
    let split = sum_by-cons f (car_in l s here.0 here.1) (standing_from l (suc s) cells) in
    let zeroth : s ≡ s + 0 = omega arith in
    let first = ap (λ k. f (car_in l k here.0 here.1)) zeroth in
    omega (arith, rest, same, split, first)

-- a sum over the cars of a lane, cell by cell
abbrev pub in_cell : (Car → ℕ) → Lane → ℕ → ℕ
in_cell f lane y = weight f 0 y (at lane y)

pub cell_sum : (f : Car → ℕ) (lane : Lane) → sum_by f (standing_from 0 0 lane) ≡ total (in_cell f lane) (length lane)
cell_sum f lane =
    sum_of_cells f 0 0 lane
    ∙ total_same (λ y. weight f 0 (0 + y) (at lane y)) (in_cell f lane) (length lane) (λ y low. let e : 0 + y ≡ y = omega arith in ap (λ k. weight f 0 k (at lane y)) e)

-- Roads of one lane: properties of each lane, and sums over lanes.

pub one_sum : (g : Lane → ℕ) (lanes : List Lane) → length lanes ≡ 1 → sum_by g lanes ≡ g (get_or lanes 0 [])
one_sum g [] one = absurd (omega (arith, one))
one_sum g (lane ∷ []) one = let e = sum_by-cons g lane [] in omega (arith, e)
one_sum g (lane ∷ other ∷ rest) one = absurd (omega (arith, one))

-- a property of the first lane is one of each
pub only_lane : (P : ℕ → Type 0) (lanes : List Lane) → length lanes ≡ 1 → P 0 → (l : ℕ) → l < length lanes → P l
only_lane P lanes one first l low = let e : 0 ≡ l = omega (arith, low, one) in subst P e first

pub one_total : (each : ℕ → ℕ) (lanes : List Lane) → length lanes ≡ 1 → total each (length lanes) ≡ each 0
one_total each lanes one = ap (total each) one ∙ (let e : each 0 + 0 ≡ each 0 = omega arith in e)

-- Roads keep their lanes, and lanes their cells, under any rule.

pub record KeepsLanes (start road : Cells) : Type 0 where
  pub count : length road.lanes ≡ length start.lanes
  pub size : (l : ℕ) → l < length start.lanes → length (lane_of road l) ≡ length (lane_of start l)

pub middle_lanes : (change : Option CheckedProgram) (dice : Dice) (road middle : Cells) (changes : ℕ) → IsLaneChangePhase change dice road middle changes → KeepsLanes road middle
middle_lanes None dice road middle changes phase = subst (KeepsLanes road) (sym phase.0) (record { count = refl; size = λ l low. refl })
middle_lanes (Some change) dice road middle changes phase = record { count = phase.3.same_lanes; size = λ l low. (phase.3.each_lane l low).same_length }

pub next_lanes : (rule : Programs) (dice : Dice) (road next : Cells) (tally : StepTally) → IsNext rule dice road next tally → KeepsLanes road next
next_lanes rule dice road next tally is =
    let middle = middle_lanes rule.change dice road is.0 tally.changes is.1.lane_change in
    let m = is.1.motion.2 in
    let more = middle.count in
    record { count = m.same_lanes ∙ middle.count; size = λ l low. (m.each_lane l (omega (arith, low, more))).same_length ∙ middle.size l low }

pub run_lanes : (seed : Seed) (sheet : Sheet) (step : ℕ) (road : Cells) (sum : StepTally) → ComesTo seed sheet step road sum → KeepsLanes seed.road road
run_lanes seed sheet zero road sum comes = subst (KeepsLanes seed.road) (sym comes.1) (record { count = refl; size = λ l low. refl })
run_lanes seed sheet (suc step) road sum comes =
    let before = run_lanes seed sheet step comes.0 comes.1 comes.4 in
    let now = next_lanes comes.2 (dice_at seed step) comes.0 road comes.3 comes.5.next in
    let same = before.count in
    record { count = now.count ∙ before.count; size = λ l low. now.size l (omega (arith, low, same)) ∙ before.size l low }

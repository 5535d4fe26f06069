-- The borders of the segments; together the segments contain all cars.
use Rattle.std.proofs.Common.{◌≡◌, ℕ, zero, suc, ◌+◌, ◌-◌, ◌*◌, ◌/◌, ◌<◌, ◌≤◌, List, [], ◌∷◌, ◌++◌}
use Rattle.std.proofs.Common.{append-nil, map, refl, sym, ap, ◌∙◌, arith, le_trans, mul-le-mul_right, suc-mul}
use Rattle.std.proofs.{Common.{mul_comm, div-mul-le_self, flat_map}, lemmas.{Nat.le-div, List.map-append}}
use Rattle.std.{proofs.{lemmas.Grind.flat_map-append, Math.Nat.div-eq_of_lt-le}, specs.List.range_with_len}
use Rattle.trlab_segments.specs.Segments.{segment_count, first_car, segment}

range_append : (a n k : ℕ) → range_with_len a (n + k) ≡ range_with_len a n ++ range_with_len (a + n) k
range_append a zero k = let e : zero + k ≡ k = omega arith in let f : a ≡ a + zero = omega arith in ap (range_with_len a) e ∙ ap (λ (z : ℕ). range_with_len z k) f
range_append a (suc n) k = let e : suc n + k ≡ suc (n + k) = omega arith in let f : a + 1 + n ≡ a + suc n = omega arith in
    ap (range_with_len a) e ∙ ap (λ (z : List ℕ). a ∷ z) (range_append (a + 1) n k ∙ ap (λ (z : ℕ). range_with_len (a + 1) n ++ range_with_len z k) f)

-- with one more part, the list ends with that part
pub flat_map_range_more : {A : Type 0} (f : ℕ → List A) (n : ℕ) → flat_map f (range_with_len 0 (n + 1)) ≡ flat_map f (range_with_len 0 n) ++ f n
flat_map_range_more f n =
    let z : 0 + n ≡ n = omega arith in
    ap (flat_map f) (range_append 0 n 1) ∙ flat_map-append f (range_with_len 0 n) ((0 + n) ∷ []) ∙ ap (λ k. flat_map f (range_with_len 0 n) ++ k) (append-nil (f (0 + n)) ∙ ap f z)

-- if borders begin with 0 and never decrease, the parts up to border k are all numbers below it
segments_up_to : (border : ℕ → ℕ) (k : ℕ) → border 0 ≡ 0 → ((i : ℕ) → border i ≤ border (i + 1))
    → flat_map (λ i. range_with_len (border i) (border (i + 1) - border i)) (range_with_len 0 k) ≡ range_with_len 0 (border k)
segments_up_to border zero start rises = sym (ap (range_with_len 0) start)
segments_up_to border (suc k) start rises =
    let part : ℕ → List ℕ = λ i. range_with_len (border i) (border (i + 1) - border i) in
    let one : suc k ≡ k + 1 = omega arith in
    let up = rises k in
    let sum_is : border k + (border (k + 1) - border k) ≡ border (k + 1) = omega arith in
    let z : 0 + border k ≡ border k = omega arith in
    ap (λ (n : ℕ). flat_map part (range_with_len 0 n)) one
    ∙ flat_map_range_more part k
    ∙ ap (λ xs. xs ++ part k) (segments_up_to border k start rises)
    ∙ ap (λ (n : ℕ). range_with_len 0 (border k) ++ range_with_len n (border (k + 1) - border k)) (sym z)
    ∙ sym (range_append 0 (border k) (border (k + 1) - border k))
    ∙ ap (range_with_len 0) (sum_is ∙ ap border (sym one))

first_of_none : (cars count : ℕ) → 0 < count → first_car cars count 0 ≡ 0
first_of_none cars count some = div-eq_of_lt-le {k = 0} count {m = 0 * cars} (omega arith) (omega arith)

pub first_rises : (cars count i : ℕ) → 0 < count → first_car cars count i ≤ first_car cars count (i + 1)
first_rises cars count i some =
    let step : i ≤ i + 1 = omega arith in
    le-div (i * cars / count) ((i + 1) * cars) count some (le_trans (div-mul-le_self (i * cars) count) (mul-le-mul_right cars step))

first_of_all : (cars count : ℕ) → 0 < count → first_car cars count count ≡ cars
first_of_all cars count some =
    let turned : count * cars ≡ cars * count = mul_comm count cars in
    let more : (cars + 1) * count ≡ cars * count + count = grind (arith, suc-mul) in
    div-eq_of_lt-le {k = cars} count {m = count * cars} (omega (arith, turned)) (omega (arith, turned, more))

pub begin_and_end : (cars count : ℕ) → 0 < count → (first_car cars count 0 ≡ 0) × (first_car cars count count ≡ cars)
begin_and_end cars count some = (first_of_none cars count some, first_of_all cars count some)

-- if there are at least as many segments as workers get, there is no car after the last one
pub no_car_behind : (cars count workers : ℕ) → 0 < workers → segment_count cars workers ≤ count → first_car cars count count ≡ cars
no_car_behind zero zero workers some enough = refl
no_car_behind zero (suc n) workers some enough = (begin_and_end 0 (suc n) (omega arith)).1
no_car_behind (suc n) count workers some enough = (begin_and_end (suc n) count (omega (arith, some, enough))).1

pub have_cars : (cars count i : ℕ) → 0 < count → count ≤ cars → first_car cars count i < first_car cars count (i + 1)
have_cars cars count i some few =
    let here = i * cars / count in
    let below : here * count ≤ i * cars = div-mul-le_self (i * cars) count in
    let next : (i + 1) * cars ≡ i * cars + cars = grind (arith, suc-mul) in
    let more : (here + 1) * count ≡ here * count + count = grind (arith, suc-mul) in
    let h : here + 1 ≤ (i + 1) * cars / count = le-div (here + 1) ((i + 1) * cars) count some (omega (arith, below, next, more, few)) in
    omega (arith, h)

pub are_all_cars : (cars workers : ℕ) → 0 < workers
    → flat_map (segment cars (segment_count cars workers)) (range_with_len 0 (segment_count cars workers)) ≡ range_with_len 0 cars
are_all_cars zero workers some =
    let none : segment_count 0 workers ≡ 0 = omega arith in
    ap (λ (n : ℕ). flat_map (segment 0 n) (range_with_len 0 n)) none
are_all_cars (suc n) workers some =
    let count = segment_count (suc n) workers in
    let any : 0 < count = omega arith in
    segments_up_to (first_car (suc n) count) count (first_of_none (suc n) count any) (λ i. first_rises (suc n) count i any)
    ∙ ap (range_with_len 0) (first_of_all (suc n) count any)

flat_map_map : {A : Type 0} (f : ℕ → A) (part : ℕ → List ℕ) (xs : List ℕ) → flat_map (λ i. map f (part i)) xs ≡ map f (flat_map part xs)
flat_map_map f part [] = refl
flat_map_map f part (x ∷ xs) = ap (λ ys. map f (part x) ++ ys) (flat_map_map f part xs) ∙ sym (map-append f (part x) (flat_map part xs))

pub join : {A : Type 0} (cars workers : ℕ) (answer : ℕ → A) → 0 < workers
    → flat_map (λ i. map answer (segment cars (segment_count cars workers) i)) (range_with_len 0 (segment_count cars workers)) ≡ map answer (range_with_len 0 cars)
join cars workers answer some =
    let count = segment_count cars workers in
    flat_map_map answer (segment cars count) (range_with_len 0 count) ∙ ap (map answer) (are_all_cars cars workers some)

-- Places on the ring, and runs of empty cells.
use Rattle.std.proofs.Common.{◌≡◌, ℕ, zero, suc, ◌+◌, ◌-◌, ◌%◌, ◌<◌, ◌≤◌, Bool, true, false, Some, None}
use Rattle.std.proofs.Common.{length, refl, sym, ◌∙◌, ap, subst, inl, inr, ◌⊎◌, arith, add-one, is_some}
use Rattle.std.proofs.{Common.{is_none, mod-eq_of_lt}, Math.Nat.mod-eq-sub-mod}
use Rattle.std.proofs.lemmas.Bool.{cases_lt, cases_order, cases_Bool, cases_eq, and_parts, and_left}
use Rattle.std.proofs.lemmas.{Bool.{and_right, cond-true, cond-false}, List.get_or_past}
use Rattle.trlab_road.specs.{Cells.{Cell, Lane, at}, Gaps.{ahead, is_clear, largest, clear_cells, gap}}
use Rattle.trlab_road.specs.{Motion.{IsClearAhead, LaneFits}, declared.car.Car.Car}

-- the car that a cell has
abbrev pub car_in : ℕ → ℕ → ℕ → ℕ → Car
car_in l x number speed = record { number = number; lane = l; place = x; speed = speed }

-- two cars of a lane never move to the same cell
pub record Apart (answer : ℕ → ℕ) (lane : Lane) : Type 0 where
  pub apart : (x y a b u v : ℕ) → at lane x ≡ Some (a, u) → at lane y ≡ Some (b, v)
      → ahead (length lane) x (answer x) ≡ ahead (length lane) y (answer y) → x ≡ y

-- a place up to one lap ahead is reached straight, or past the end
pub ring_cases : (n a : ℕ) → a < n + n → ((a < n) × (a % n ≡ a)) ⊎ ((n ≤ a) × (a % n ≡ a - n))
ring_cases n a h =
    elim (cases_lt a n) [
      | inl below ↦ inl (below, mod-eq_of_lt below)
      | inr above ↦ inr (above, mod-eq-sub-mod above ∙ mod-eq_of_lt (let k : a - n < n = omega arith in k))
    ]

-- the distance from x to a later place, and from y past the end to an earlier one
pub reach_later : (n x y : ℕ) → x < y → y < n → ahead n x (y - x) ≡ y
reach_later n x y later inside = let e : x + (y - x) ≡ y = omega arith in rw e (mod-eq_of_lt inside)

pub reach_earlier : (n x y : ℕ) → x < y → y < n → ahead n y (n - y + x) ≡ x
reach_earlier n x y later inside =
    let s : x < n = omega arith in
    let u : n ≤ y + (n - y + x) = omega arith in
    let e : y + (n - y + x) - n ≡ x = omega arith in
    mod-eq-sub-mod u ∙ ap (λ k. k % n) e ∙ mod-eq_of_lt s

-- an occupied place is a place of the lane
pub inside : (lane : Lane) (x : ℕ) (car : ℕ × ℕ) → at lane x ≡ Some car → x < length lane
inside lane x car h =
    elim (cases_lt x (length lane)) [
      | inl below ↦ below
      | inr past ↦ let e = get_or_past lane x None past in absurd cc
    ]

-- a clear run ahead of x ends before an occupied cell
pub blocked : (lane : Lane) (x g j y : ℕ) (car : ℕ × ℕ) → IsClearAhead lane x g → at lane y ≡ Some car
    → 1 ≤ j → ahead (length lane) x j ≡ y → g < j
blocked lane x g j y car run there low reach =
    elim (cases_lt g j) [
      | inl below ↦ below
      | inr far ↦ let e = run.clear j low far in let f : at lane y ≡ None = subst (λ k. at lane k ≡ None) reach e in absurd cc
    ]

-- two cars that move less than the distance to each other do not meet
apart_ahead : (n x y p q : ℕ) → x < y → y < n → p < y - x → q < n - y + x → ahead n x p ≡ ahead n y q → ⊥
apart_ahead n x y p q order inside near far meet =
    let lands : ahead n x p ≡ x + p = mod-eq_of_lt (let k : x + p < n = omega arith in k) in
    let u : y + q < n + n = omega arith in
    elim (ring_cases n (y + q) u) [
      | inl w ↦ let e = w.1 in omega arith
      | inr w ↦ let e = w.1 in let f = w.0 in omega arith
    ]

pub none_is : (c : Cell) → is_none c ≡ true → c ≡ None
none_is None h = refl
none_is (Some car) h = absurd cc

not_none : (c : Cell) → is_some c ≡ true → is_none c ≡ false
not_none None h = absurd cc
not_none (Some car) h = refl

-- a run of cells is clear at each place
pub clear_at : (lane : Lane) (way : ℕ → ℕ) (g : ℕ) → is_clear lane way g ≡ true → (j : ℕ) → 1 ≤ j
    → j ≤ g → at lane (way j) ≡ None
clear_at lane way zero h j low high = absurd (omega arith)
clear_at lane way (suc g) h j low high =
    let parts = and_parts (is_clear lane way g) (is_none (at lane (way (suc g)))) h in
    elim (cases_eq j (suc g)) [
      | inl e ↦ rw e (none_is (at lane (way (suc g))) parts.1)
      | inr other ↦ clear_at lane way g parts.0 j low (omega arith)
    ]

-- the largest number that passes does pass, and is at most the bound
pub greatest_passes : (test : ℕ → Bool) (n : ℕ) → test 0 ≡ true → test (largest test n) ≡ true
greatest_passes test zero h = h
greatest_passes test (suc n) h =
    elim (cases_Bool (test (suc n))) [
      | inl passed ↦ rw (cond-true (test (suc n)) (suc n) (largest test n) passed) passed
      | inr failed ↦ rw (cond-false (test (suc n)) (suc n) (largest test n) failed) (greatest_passes test n h)
    ]

-- an answer within the gap leads only over empty cells
pub clear_within_gap : (lane : Lane) (x v : ℕ) → v ≤ gap lane x → IsClearAhead lane x v
clear_within_gap lane x v h =
    let way : ℕ → ℕ = ahead (length lane) x in
    let passes = greatest_passes (is_clear lane way) (length lane - 1) refl in
    record { clear = λ j low high. clear_at lane way (gap lane x) passes j low (omega arith) }

-- no two cars of a lane move to the same cell
pub apart_within_gaps : (answer : ℕ → ℕ) (lane : Lane) → LaneFits answer lane → Apart answer lane
apart_within_gaps answer lane within = record {
  apart = λ x y a b u v here there meet.
      let n = length lane in
      let run_x = clear_within_gap lane x (answer x) (within.gaps x a u here) in
      let run_y = clear_within_gap lane y (answer y) (within.gaps y b v there) in
      let x_in = inside lane x (a, u) here in
      let y_in = inside lane y (b, v) there in
      elim (cases_order x y) [
        | inl same ↦ same
        | inr different ↦ elim different [
          | inl less ↦ absurd (apart_ahead n x y (answer x) (answer y) less y_in
              (blocked lane x (answer x) (y - x) y (b, v) run_x there (omega arith) (reach_later n x y less y_in))
              (blocked lane y (answer y) (n - y + x) x (a, u) run_y here (omega arith) (reach_earlier n x y less y_in)) meet)
          | inr more ↦ absurd (apart_ahead n y x (answer y) (answer x) more x_in
              (blocked lane y (answer y) (x - y) x (a, u) run_y here (omega arith) (reach_later n y x more x_in))
              (blocked lane x (answer x) (n - x + y) y (b, v) run_x there (omega arith) (reach_earlier n y x more x_in)) (sym meet))
        ]
      ];
}

-- a number that passes is the largest if no larger one passes
pub greatest_is : (test : ℕ → Bool) (n g : ℕ) → g ≤ n → test g ≡ true
    → ((m : ℕ) → g < m → m ≤ n → test m ≡ false) → largest test n ≡ g
greatest_is test zero g low passes fails = let e : zero ≡ g = omega arith in e
greatest_is test (suc n) g low passes fails =
    elim (cases_eq g (suc n)) [
      | inl e ↦ let top : test (suc n) ≡ true = subst (λ k. test k ≡ true) e passes in cond-true (test (suc n)) (suc n) (largest test n) top ∙ sym e
      | inr other ↦ cond-false (test (suc n)) (suc n) (largest test n) (fails (suc n) (omega arith) (omega arith)) ∙ greatest_is test n g (omega arith) passes (λ m above inside. fails m above (omega arith))
    ]

-- no clear run continues past an occupied cell
stopped : (lane : Lane) (way : ℕ → ℕ) (g m : ℕ) → is_none (at lane (way (suc g))) ≡ false → g < m
    → is_clear lane way m ≡ false
stopped lane way g zero taken h = absurd (omega arith)
stopped lane way g (suc m) taken h =
    elim (cases_eq g m) [
      | inl e ↦ and_right (is_clear lane way m) (is_none (at lane (way (suc m)))) (subst (λ k. is_none (at lane (way (suc k))) ≡ false) e taken)
      | inr other ↦ and_left (is_clear lane way m) (is_none (at lane (way (suc m)))) (stopped lane way g m taken (omega arith))
    ]

-- a clear run that ends before an occupied cell is the longest
pub ends_before : (lane : Lane) (way : ℕ → ℕ) (g : ℕ) → g < length lane → is_clear lane way g ≡ true
    → is_some (at lane (way (g + 1))) ≡ true → clear_cells lane way ≡ g
ends_before lane way g room run taken =
    let closed : is_none (at lane (way (suc g))) ≡ false = not_none (at lane (way (suc g))) (rw add-one at taken) in
    greatest_is (is_clear lane way) (length lane - 1) g (omega arith) run (λ m above bound. stopped lane way g m closed above)

-- a clear run over all cells but one is the longest
pub goes_round : (lane : Lane) (way : ℕ → ℕ) (g : ℕ) → g ≡ length lane - 1 → is_clear lane way g ≡ true
    → clear_cells lane way ≡ length lane - 1
goes_round lane way g all run = greatest_is (is_clear lane way) (length lane - 1) (length lane - 1) (omega arith) (rw all at run) (λ m above bound. absurd (omega arith))

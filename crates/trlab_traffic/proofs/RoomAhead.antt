-- Cars that go only over empty cells cover, all together, no more cells than are empty.
use Rattle.std.proofs.Common.{◌≡◌, ℕ, zero, suc, ◌+◌, ◌-◌, ◌%◌, ◌<◌, ◌≤◌, ◌⊎◌, cond, Some, None, List, []}
use Rattle.std.proofs.Common.{◌∷◌, length, get_or, drop, refl, sym, ◌∙◌, ap, subst, inl, inr, arith}
use Rattle.std.proofs.Common.{length-drop, get_or-drop, mod-eq_of_lt, is_none, is_some, sum_by}
use Rattle.std.proofs.{Math.Nat.add-mod_left, lemmas.{Bool.cases_lt, List.Sums.{sum_by-append, sum_by-cons}}}
use Rattle.trlab_road.specs.{declared.car.Car.Car, Cells.{Cell, Lane, at, lane_car_count, standing_from}}
use Rattle.trlab_road.{specs.{Cells.standing_from_lane, Gaps.ahead, Motion.IsClearAhead}, proofs.Ring.blocked}
use Rattle.trlab_road.proofs.{Ring.{car_in, inside}, StandingOrder.lane_car_count-some}
use Rattle.trlab_traffic.specs.{Terms.{lane_cells, lane_empty_cells}, Bounds.CellsAreTakenOrEmpty}

pub empty-none : (cells : Lane) → lane_empty_cells (None ∷ cells) ≡ suc (lane_empty_cells cells)
empty-none cells = let e = sum_by-cons (λ (c : Cell). cond (is_none c) 1 0) None cells in omega (arith, e)

pub empty-some : (car : ℕ × ℕ) (cells : Lane) → lane_empty_cells (Some car ∷ cells) ≡ lane_empty_cells cells
empty-some car cells = let e = sum_by-cons (λ (c : Cell). cond (is_none c) 1 0) (Some car) cells in omega (arith, e)

pub cars-none : (cells : Lane) → lane_car_count (None ∷ cells) ≡ lane_car_count cells
cars-none cells = let e = sum_by-cons (λ (c : Cell). cond (is_some c) 1 0) None cells in omega (arith, e)

-- a cell of a lane holds a car, or is empty
pub lane_taken_or_empty : (lane : Lane) → lane_car_count lane + lane_empty_cells lane ≡ length lane
lane_taken_or_empty [] = refl
lane_taken_or_empty (None ∷ cells) =
    let a = empty-none cells in
    let b = cars-none cells in
    let rest = lane_taken_or_empty cells in
    omega (arith, a, b, rest)
lane_taken_or_empty (Some car ∷ cells) =
    let a = empty-some car cells in
    let b = lane_car_count-some car cells in
    let rest = lane_taken_or_empty cells in
    omega (arith, a, b, rest)

lanes_taken_or_empty : (lanes : List Lane) → sum_by lane_car_count lanes + sum_by lane_empty_cells lanes ≡ sum_by lane_cells lanes
lanes_taken_or_empty [] = refl
lanes_taken_or_empty (lane ∷ lanes) =
    let a = sum_by-cons lane_car_count lane lanes in
    let b = sum_by-cons lane_empty_cells lane lanes in
    let c = sum_by-cons lane_cells lane lanes in
    let first = lane_taken_or_empty lane in
    let rest = lanes_taken_or_empty lanes in
    omega (arith, a, b, c, first, rest)

pub taken_or_empty : CellsAreTakenOrEmpty
taken_or_empty road = lanes_taken_or_empty road.lanes

-- the empty cells up to the first car, plus `more` if there is none
abbrev run : ℕ → Lane → ℕ
run more [] = more
run more (None ∷ cells) = suc (run more cells)
run more (Some car ∷ cells) = 0

-- if each car goes no further than the run after its cell, all together go over at most the empty cells
over_runs : (f : Car → ℕ) (l s more : ℕ) (cells : Lane)
    → ((x number speed : ℕ) → at cells x ≡ Some (number, speed) → f (car_in l (s + x) number speed) ≤ run more (drop (suc x) cells))
    → sum_by f (standing_from l s cells) + run more cells ≤ lane_empty_cells cells + more
over_runs f l s more [] within = omega arith
over_runs f l s more (None ∷ cells) within =
    let rest = over_runs f l (suc s) more cells
    (λ x number speed h. let e : s + suc x ≡ suc s + x = omega arith in
    subst (λ k. f (car_in l k number speed) ≤ run more (drop (suc x) cells)) e (within (suc x) number speed h)) in
    let a = empty-none cells in
    omega (arith, rest, a)
over_runs f l s more (Some here ∷ cells) within =
    let zeroth : s + 0 ≡ s = omega arith in
    let first : f (car_in l s here.0 here.1) ≤ run more cells = subst (λ k. f (car_in l k here.0 here.1) ≤ run more cells) zeroth (within 0 here.0 here.1 refl) in
    let rest = over_runs f l (suc s) more cells
    (λ x number speed h. let e : s + suc x ≡ suc s + x = omega arith in
    subst (λ k. f (car_in l k number speed) ≤ run more (drop (suc x) cells)) e (within (suc x) number speed h)) in
    let split = sum_by-cons f (car_in l s here.0 here.1) (standing_from l (suc s) cells) in
    let a = empty-some here cells in
    omega (arith, first, rest, split, a)

none_first : (cells : Lane) → ((x : ℕ) → at cells x ≡ None) → (x : ℕ) → at (None ∷ cells) x ≡ None
none_first cells none zero = refl
none_first cells none (suc x) = none x

-- a run ends at a car, or all cells are empty
run_cases : (more : ℕ) (cells : Lane) → ((car : ℕ × ℕ) × (at cells (run more cells) ≡ Some car)) ⊎ ((run more cells ≡ length cells + more) × ((x : ℕ) → at cells x ≡ None))
run_cases more [] = inr ((let e : more ≡ 0 + more = omega arith in e), λ x. refl)
run_cases more (None ∷ cells) =
    elim (run_cases more cells) [
      | inl found ↦ inl (found.0, found.1)
      | inr none ↦ let e = none.0 in inr ((let k : suc (run more cells) ≡ suc (length cells) + more = omega (arith, e) in k), none_first cells none.1)
    ]
run_cases more (Some car ∷ cells) = inl (car, refl)

-- more cells make no shorter run
least_run : (more : ℕ) (cells : Lane) → run 0 cells ≤ run more cells
least_run more [] = omega arith
least_run more (None ∷ cells) = let rest = least_run more cells in omega (arith, rest)
least_run more (Some car ∷ cells) = omega arith

-- a car that goes only over empty cells goes no further than the run after its cell, which continues past
-- the end of the lane
within_run : (lane : Lane) (x v : ℕ) (car : ℕ × ℕ) → at lane x ≡ Some car → IsClearAhead lane x v → v ≤ run (run 0 lane) (drop (suc x) lane)
within_run lane x v car here clear =
    let n = length lane in
    let low = inside lane x car here in
    let rest = drop (suc x) lane in
    let first = run 0 lane in
    let r = run first rest in
    let size : length rest ≡ n - suc x = length-drop (suc x) lane in
    elim (run_cases first rest) [
      | inl found ↦
          let there : at lane (suc x + r) ≡ Some found.0 = sym (get_or-drop (suc x) lane r None) ∙ found.1 in
          let fits = inside lane (suc x + r) found.0 there in
          let same : x + suc r ≡ suc x + r = omega arith in
          let reach : ahead n x (suc r) ≡ suc x + r = ap (λ k. k % n) same ∙ mod-eq_of_lt fits in
          let before = blocked lane x v (suc r) (suc x + r) found.0 clear there (omega arith) reach in
          omega (arith, before)
      | inr none ↦ elim (run_cases 0 lane) [
        | inl found ↦
            let fits = inside lane first found.0 found.1 in
            let same : x + (n - x + first) ≡ n + first = omega (arith, low) in
            let reach : ahead n x (n - x + first) ≡ first = ap (λ k. k % n) same ∙ add-mod_left n first ∙ mod-eq_of_lt fits in
            let before = blocked lane x v (n - x + first) first found.0 clear found.1 (omega (arith, low)) reach in
            let all = none.0 in
            omega (arith, before, all, size, low)
        | inr empty ↦ let e = sym here ∙ empty.1 x in absurd cc
      ]
    ]

-- if each car goes at least as far as the run after its cell, all together go over at least the empty cells
under_runs : (f : Car → ℕ) (l s more : ℕ) (cells : Lane)
    → ((x number speed : ℕ) → at cells x ≡ Some (number, speed) → run more (drop (suc x) cells) ≤ f (car_in l (s + x) number speed))
    → lane_empty_cells cells + more ≤ sum_by f (standing_from l s cells) + run more cells
under_runs f l s more [] within = omega arith
under_runs f l s more (None ∷ cells) within =
    let rest = under_runs f l (suc s) more cells
    (λ x number speed h. let e : s + suc x ≡ suc s + x = omega arith in
    subst (λ k. run more (drop (suc x) cells) ≤ f (car_in l k number speed)) e (within (suc x) number speed h)) in
    let a = empty-none cells in
    omega (arith, rest, a)
under_runs f l s more (Some here ∷ cells) within =
    let zeroth : s + 0 ≡ s = omega arith in
    let first : run more cells ≤ f (car_in l s here.0 here.1) = subst (λ k. run more cells ≤ f (car_in l k here.0 here.1)) zeroth (within 0 here.0 here.1 refl) in
    let rest = under_runs f l (suc s) more cells
    (λ x number speed h. let e : s + suc x ≡ suc s + x = omega arith in
    subst (λ k. run more (drop (suc x) cells) ≤ f (car_in l k number speed)) e (within (suc x) number speed h)) in
    let split = sum_by-cons f (car_in l s here.0 here.1) (standing_from l (suc s) cells) in
    let a = empty-some here cells in
    omega (arith, first, rest, split, a)

-- the cells of a run are empty
in_run : (more : ℕ) (cells : Lane) (k : ℕ) → k < run more cells → k < length cells → at cells k ≡ None
in_run more [] k below inside = refl
in_run more (None ∷ cells) zero below inside = refl
in_run more (None ∷ cells) (suc k) below inside = in_run more cells k (omega (arith, below)) (omega (arith, inside))
in_run more (Some car ∷ cells) k below inside = absurd (omega (arith, below))

run_within : (more : ℕ) (cells : Lane) → run more cells ≤ length cells + more
run_within more [] = omega arith
run_within more (None ∷ cells) = let rest = run_within more cells in omega (arith, rest)
run_within more (Some car ∷ cells) = omega arith

-- on a lane with a car, the first run does not depend on the cells after it
one_run : (more : ℕ) (cells : Lane) → 0 < lane_car_count cells → run more cells ≡ run 0 cells
one_run more [] some = absurd (omega (arith, some))
one_run more (None ∷ cells) some = let e = cars-none cells in ap suc (one_run more cells (omega (arith, e, some)))
one_run more (Some car ∷ cells) some = refl

-- the run after the cell of a car is its gap
run_is_clear : (lane : Lane) (x : ℕ) (car : ℕ × ℕ) → at lane x ≡ Some car → run (run 0 lane) (drop (suc x) lane) < length lane × IsClearAhead lane x (run (run 0 lane) (drop (suc x) lane))
run_is_clear lane x car here =
    let n = length lane in
    let low = inside lane x car here in
    let rest = drop (suc x) lane in
    let first = run 0 lane in
    let r = run first rest in
    let size : length rest ≡ n - suc x = length-drop (suc x) lane in
    let most = run_within first rest in
    let before : first ≤ x = (elim (cases_lt x first) [
      | inl past ↦ let e = sym here ∙ in_run 0 lane x past low in absurd cc
      | inr within ↦ within
    ]) in (
      omega (arith, most, size, before, low),
      record {
        clear = λ j some far.
            elim (cases_lt (x + j) n) [
              | inl straight ↦
                  let k = j - 1 in
                  let e : suc x + k ≡ x + j = omega (arith, some) in
                  ap (at lane) (mod-eq_of_lt straight ∙ sym e) ∙ sym (get_or-drop (suc x) lane k None) ∙ in_run first rest k (omega (arith, some, far)) (omega (arith, size, straight, some))
              | inr around ↦
                  let k = x + j - n in
                  let e : x + j ≡ n + k = omega (arith, around) in
                  let below : k < first = omega (arith, far, most, size, around, low) in
                  ap (at lane) (ap (λ i. i % n) e ∙ add-mod_left n k ∙ mod-eq_of_lt (let h : k < n = omega (arith, below, before, low) in h)) ∙ in_run 0 lane k below (omega (arith, below, before, low))
            ];
      },
    )

-- cars that go at least as far as they can, on a lane with a car, go over all empty cells
pub lane_filled : (f : Car → ℕ) (l : ℕ) (lane : Lane) → 0 < lane_car_count lane
    → ((x number speed g : ℕ) → at lane x ≡ Some (number, speed) → g < length lane → IsClearAhead lane x g → g ≤ f (car_in l x number speed))
    → lane_empty_cells lane ≤ sum_by f (standing_from l 0 lane)
lane_filled f l lane some far =
    let first = run 0 lane in
    let all = under_runs f l 0 first lane
    (λ x number speed here. let e : x ≡ 0 + x = omega arith in
    let clear = run_is_clear lane x (number, speed) here in
    subst (λ k. run first (drop (suc x) lane) ≤ f (car_in l k number speed)) e (far x number speed (run first (drop (suc x) lane)) here clear.0 clear.1)) in
    let one = one_run first lane some in
    omega (arith, all, one)

-- the cars of a lane that go only over empty cells
pub lane_room : (f : Car → ℕ) (l : ℕ) (lane : Lane)
    → ((x number speed : ℕ) → at lane x ≡ Some (number, speed) → IsClearAhead lane x (f (car_in l x number speed)))
    → sum_by f (standing_from l 0 lane) ≤ lane_empty_cells lane
lane_room f l lane clear =
    let first = run 0 lane in
    let all = over_runs f l 0 first lane
    (λ x number speed here. let e : x ≡ 0 + x = omega arith in
    subst (λ k. f (car_in l k number speed) ≤ run first (drop (suc x) lane)) e (within_run lane x (f (car_in l x number speed)) (number, speed) here (clear x number speed here))) in
    let least = least_run first lane in
    omega (arith, all, least)

-- the cars of several lanes
pub lanes_room : (f : Car → ℕ) (base : ℕ) (lanes : List Lane)
    → ((l : ℕ) → l < length lanes → (x number speed : ℕ) → at (get_or lanes l []) x ≡ Some (number, speed) → IsClearAhead (get_or lanes l []) x (f (car_in (base + l) x number speed)))
    → sum_by f (standing_from_lane base lanes) ≤ sum_by lane_empty_cells lanes
lanes_room f base [] clear = omega arith
lanes_room f base (lane ∷ lanes) clear =
    let zeroth : base + 0 ≡ base = omega arith in
    let first = lane_room f base lane (λ x number speed here. subst (λ k. IsClearAhead lane x (f (car_in k x number speed))) zeroth (clear 0 (omega arith) x number speed here)) in
    let rest = lanes_room f (suc base) lanes
    (λ l h x number speed here. let e : base + suc l ≡ suc base + l = omega arith in
    subst (λ k. IsClearAhead (get_or lanes l []) x (f (car_in k x number speed))) e (clear (suc l) (omega arith) x number speed here)) in
    let a = sum_by-append f (standing_from base 0 lane) (standing_from_lane (suc base) lanes) in
    let b = sum_by-cons lane_empty_cells lane lanes in
    omega (arith, first, rest, a, b)

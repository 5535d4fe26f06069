-- Evenly spread cars.
use Rattle.std.proofs.Common.{◌≡◌, ◌≢◌, ℕ, ◌+◌, ◌*◌, ◌/◌, ◌<◌, ◌≤◌, Some, None, length, set, replicate, sym}
use Rattle.std.proofs.Common.{◌∙◌, ap, subst, inl, inr, arith, div-mul-le_self, le-div_iff_mul-le}
use Rattle.std.proofs.Common.{div-lt_iff_lt-mul, mul-le-mul_left, get_or-set_same, get_or-set_other}
use Rattle.std.proofs.{Common.length-set, Math.Nat.div-add-mod, lemmas.Bool.{cases_eq, cases_order}}
use Rattle.std.proofs.lemmas.{List.length-replicate, Option.some_pair_parts}
use Rattle.trlab_road.specs.{Cells.{Lane, at}, Spreading.{flat_cell, even_lane, even_place}}
use Rattle.trlab_road.{specs.Spreading.IsEvenlySpacedLane, proofs.MotionByCar.all_empty}

-- a car with a larger number is in a later cell
pub flat_rises : (lanes cells n i j : ℕ) → n ≤ lanes * cells → 0 < n → i < j
    → flat_cell lanes cells n i < flat_cell lanes cells n j
flat_rises lanes cells n i j room some before =
    let c = lanes * cells in
    let q = i * c / n in
    let low : q * n ≤ i * c = div-mul-le_self (i * c) n in
    let step : c * (i + 1) ≤ c * j = mul-le-mul_left c (let k : i + 1 ≤ j = omega arith in k) in
    let fits : (q + 1) * n ≤ j * c = omega (arith, low, step) in
    let above : q + 1 ≤ j * c / n = (le-div_iff_mul-le {k = n} {x = q + 1} {y = j * c} some).1 fits in
    omega arith

-- the cell of a car is a cell of the road
flat_below : (lanes cells n i : ℕ) → i < n → 0 < lanes * cells
    → flat_cell lanes cells n i < lanes * cells
flat_below lanes cells n i low some =
    let c = lanes * cells in
    let step : c * (i + 1) ≤ c * n = mul-le-mul_left c (let k : i + 1 ≤ n = omega arith in k) in
    let fits : i * c < c * n = omega (arith, step) in
    (div-lt_iff_lt-mul {k = n} {x = i * c} {y = c} (let k : 0 < n = omega arith in k)).1 fits

-- two cars in the same cell are equal
pub even_once : (lanes cells n i j : ℕ) → n ≤ lanes * cells → 0 < n → 0 < lanes
    → even_lane lanes cells n i ≡ even_lane lanes cells n j
    → even_place lanes cells n i ≡ even_place lanes cells n j → i ≡ j
even_once lanes cells n i j room some one same_lane same_place =
    let f = flat_cell lanes cells n i in
    let g = flat_cell lanes cells n j in
    let p = ap (λ k. lanes * k) same_place in
    let a = div-add-mod f lanes in
    let b = div-add-mod g lanes in
    let same : f ≡ g = omega (arith, p, a, b, same_lane) in
    elim (cases_order i j) [
      | inl e ↦ e
      | inr different ↦ elim different [
        | inl less ↦ absurd (let k = flat_rises lanes cells n i j room some less in omega (arith, k, same))
        | inr more ↦ absurd (let k = flat_rises lanes cells n j i room some more in omega (arith, k, same))
      ]
    ]

-- the place of a car is a place of the lane
pub even_inside : (lanes cells n i : ℕ) → 0 < lanes → n ≤ lanes * cells → i < n
    → even_place lanes cells n i < cells
even_inside lanes cells n i some room low =
    let below = flat_below lanes cells n i low (let k : 0 < lanes * cells = omega arith in k) in
    let swap : cells * lanes ≡ lanes * cells = omega arith in
    (div-lt_iff_lt-mul {k = lanes} {x = flat_cell lanes cells n i} {y = cells} some).1 (rw swap below)

-- the lane has, at their places, those of the first i of n cars that belong to lane l, and no others
pub record EvenUpTo (lanes cells n l i : ℕ) (lane : Lane) : Type 0 where
  pub same_length : length lane ≡ cells
  pub stands : (k : ℕ) → k < i → even_lane lanes cells n k ≡ l → at lane (even_place lanes cells n k) ≡ Some (k, 0)
  pub nothing_else : (x number speed : ℕ) → at lane x ≡ Some (number, speed)
      → (number < i) × (even_lane lanes cells n number ≡ l) × (even_place lanes cells n number ≡ x)

pub even_none : (lanes cells n l : ℕ) → EvenUpTo lanes cells n l 0 (replicate cells None)
even_none lanes cells n l = record {
  same_length = length-replicate cells None;
  stands = λ k low on. absurd (omega arith);
  nothing_else = λ x number speed h. let e = all_empty cells x in absurd cc;
}

pub even_skip : (lanes cells n l i : ℕ) (lane : Lane) → EvenUpTo lanes cells n l i lane
    → even_lane lanes cells n i ≢ l → EvenUpTo lanes cells n l (i + 1) lane
even_skip lanes cells n l i lane m other = record {
  same_length = m.same_length;
  stands = λ k low on.
      elim (cases_eq k i) [
        | inl e ↦ absurd (other (subst (λ j. even_lane lanes cells n j ≡ l) e on))
        | inr before ↦ m.stands k (omega arith) on
      ];
  nothing_else = λ x number speed h. let w = m.nothing_else x number speed h in ((let k = w.0 in omega arith), w.1, w.2);
}

pub even_more : (lanes cells n l i : ℕ) (lane : Lane) → 0 < lanes → n ≤ lanes * cells → i < n
    → EvenUpTo lanes cells n l i lane → even_lane lanes cells n i ≡ l
    → EvenUpTo lanes cells n l (i + 1) (set lane (even_place lanes cells n i) (Some (i, 0)))
even_more lanes cells n l i lane some room low m on =
    let place = even_place lanes cells n i in
    let within : place < cells = even_inside lanes cells n i some room low in
    let lands : place < length lane = rw m.same_length within in
    let positive : 0 < n = omega arith in
    record {
      same_length = length-set lane place (Some (i, 0)) ∙ m.same_length;
      stands = λ k below k_on.
          elim (cases_eq k i) [
            | inl e ↦ subst (λ j. at (set lane place (Some (i, 0))) (even_place lanes cells n j) ≡ Some (j, 0)) (sym e) (get_or-set_same lane place (Some (i, 0)) None lands)
            | inr before ↦
                let apart : even_place lanes cells n k ≢ place = λ e. before (even_once lanes cells n k i room positive some (k_on ∙ sym on) e) in
                get_or-set_other lane place (even_place lanes cells n k) (Some (i, 0)) None apart ∙ m.stands k (omega arith) k_on
          ];
      nothing_else = λ x number speed h.
          elim (cases_eq x place) [
            | inl e ↦
                let k : at (set lane place (Some (i, 0))) place ≡ Some (number, speed) = subst (λ j. at (set lane place (Some (i, 0))) j ≡ Some (number, speed)) e h in
                let parts = some_pair_parts i number 0 speed (sym (get_or-set_same lane place (Some (i, 0)) None lands) ∙ k) in (
                  (let q = parts.0 in omega arith),
                  subst (λ j. even_lane lanes cells n j ≡ l) parts.0 on,
                  subst (λ j. even_place lanes cells n j ≡ x) parts.0 (sym e),
                )
            | inr other ↦
                let w = m.nothing_else x number speed (sym (get_or-set_other lane place x (Some (i, 0)) None other) ∙ h) in
                ((let k = w.0 in omega arith), w.1, w.2)
          ];
    }

-- after all cars the lane is complete
pub even_all : (lanes cells n l i : ℕ) (lane : Lane) → n ≤ i → i ≤ n → EvenUpTo lanes cells n l i lane
    → IsEvenlySpacedLane lanes cells n l lane
even_all lanes cells n l i lane low high m = record {
  same_length = m.same_length;
  stands = λ k h on. m.stands k (omega arith) on;
  nothing_else = λ x number speed h. let w = m.nothing_else x number speed h in
      record { numbered = (let k = w.0 in omega arith); on_lane = w.1; at_place = w.2 };
}

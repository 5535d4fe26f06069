-- Gaps on lanes that sorted lists of cars make.
use Rattle.std.proofs.Common.{◌≡◌, ◌≢◌, ℕ, zero, suc, ◌+◌, ◌-◌, ◌%◌, ◌<◌, ◌≤◌, true, None, List, length, refl}
use Rattle.std.proofs.Common.{sym, ◌∙◌, ap, inl, inr, arith, is_some, is_none, mod-eq_of_lt}
use Rattle.std.proofs.{Math.Nat.mod-eq-sub-mod, lemmas.Bool.{cases_lt, cases_eq, and_from}}
use Rattle.trlab_road.specs.Stored.{LaneCar, cells_of, IsSortedFrom, place_of, IsFirstPast}
use Rattle.trlab_road.specs.{Cells.{Lane, at}, Gaps.{ahead, behind, is_clear, clear_cells, gap}}
use Rattle.trlab_road.proofs.Ring.{ring_cases, reach_earlier, ends_before, goes_round}
use Rattle.trlab_road.proofs.Lists.{length_cells, cells_at, at_kth, empty_at, rises_high, rises_weakly}

-- cells that are each empty make a clear run
pub clear_from : (lane : Lane) (way : ℕ → ℕ) (g : ℕ) → ((j : ℕ) → 1 ≤ j → j ≤ g → at lane (way j) ≡ None) → is_clear lane way g ≡ true
clear_from lane way zero h = refl
clear_from lane way (suc g) h =
    and_from (is_clear lane way g) (is_none (at lane (way (suc g)))) (clear_from lane way g (λ j low high. h j low (omega arith))) (ap is_none (h (suc g) (omega arith) (omega arith)))

-- the run along a direction ends before the place of the k-th car, or goes round the whole lane
module _ (n : ℕ) (cars : List LaneCar) (way : ℕ → ℕ) (g : ℕ)
    (clear : (j : ℕ) → 1 ≤ j → j ≤ g → (way j < n) × ((k : ℕ) → k < length cars → place_of cars k ≢ way j)) where
  run : is_clear (cells_of n cars) way g ≡ true
  run = clear_from (cells_of n cars) way g (λ j low high. let c = clear j low high in cells_at n cars (way j) c.0 ∙ empty_at cars (way j) c.1)

  pub run_ends : (k : ℕ) → IsSortedFrom 0 n cars → k < length cars → g < n → way (g + 1) ≡ place_of cars k → clear_cells (cells_of n cars) way ≡ g
  run_ends k r h room reach =
      ends_before (cells_of n cars) way g (rw length_cells room) run (rw reach (ap is_some (at_kth n cars k r h)))

  pub run_round : g ≡ n - 1 → clear_cells (cells_of n cars) way ≡ n - 1
  run_round all = goes_round (cells_of n cars) way g (rw length_cells all) run ∙ ap (λ k. k - 1) (length_cells n cars)

gap_by : (n : ℕ) (cars : List LaneCar) (x : ℕ) → gap (cells_of n cars) x ≡ clear_cells (cells_of n cars) (ahead n x)
gap_by n cars x = ap (λ m. clear_cells (cells_of n cars) (ahead m x)) (length_cells n cars)

module _ (n : ℕ) (cars : List LaneCar) (r : IsSortedFrom 0 n cars) (x : ℕ) (inside : x < n) where
  -- ahead of a place, if the places of the cars from an index on are further ahead
  module _ (next : ℕ) (p : IsFirstPast cars x next) where
    pub gap_next : next < length cars → gap (cells_of n cars) x ≡ place_of cars next - x - 1
    gap_next h =
        let past = p.after next (omega arith) h in
        let high = rises_high 0 n cars next r h in
        gap_by n cars x ∙ (run_ends n cars (ahead n x) (place_of cars next - x - 1)
        (λ j low most.
        let e : (x + j) % n ≡ x + j = mod-eq_of_lt (let k : x + j < n = omega (arith, past, high, most) in k) in
        rw e (
          omega (arith, past, high, most),
          λ k within same.
              elim (cases_lt k next) [
                | inl earlier ↦ let a = p.before k earlier within in omega (arith, a, same, low)
                | inr later ↦ let a = rises_weakly n cars next k r later within in omega (arith, a, same, most, past)
              ],
        ))
        next r h (omega (arith, past, high))
        (let e : x + (place_of cars next - x - 1 + 1) ≡ place_of cars next = omega (arith, past) in ap (λ k. k % n) e ∙ mod-eq_of_lt high))

    pub gap_round : length cars ≤ next → 0 < length cars → gap (cells_of n cars) x ≡ n - 1 - x + place_of cars 0
    gap_round whole some =
        let first = p.before 0 (omega arith) some in
        let g = n - 1 - x + place_of cars 0 in
        let clear : (j : ℕ) → 1 ≤ j → j ≤ g → (ahead n x j < n) × ((k : ℕ) → k < length cars → place_of cars k ≢ ahead n x j) = λ j low most.
        elim (ring_cases n (x + j) (omega (arith, first, most, inside))) [
          | inl w ↦ let u = w.0 in rw w.1 (u, λ k within same. let a = p.before k (omega arith) within in omega (arith, a, same, low))
          | inr w ↦ let u = w.0 in rw w.1 (
            omega (arith, u, most, first, inside),
            λ k within same.
                let a = rises_weakly n cars 0 k r (omega arith) within in omega (arith, a, same, most, u, inside),
          )
        ] in
        elim (cases_eq (place_of cars 0) x) [
          | inl same ↦
              let all : g ≡ n - 1 = omega (arith, same, inside) in
              gap_by n cars x ∙ run_round n cars (ahead n x) g clear all ∙ sym all
          | inr other ↦
              let less : place_of cars 0 < x = omega (arith, first, other) in
              let e : g + 1 ≡ n - x + place_of cars 0 = omega (arith, inside) in
              gap_by n cars x ∙ (run_ends n cars (ahead n x) g clear 0 r some (omega (arith, less, inside)) (ap (ahead n x) e ∙ reach_earlier n (place_of cars 0) x less inside))
        ]

  pub gap_alone : length cars ≡ 0 → gap (cells_of n cars) x ≡ n - 1
  gap_alone none = gap_by n cars x ∙ (run_round n cars (ahead n x) (n - 1) (λ j low most.
      elim (ring_cases n (x + j) (omega arith)) [
        | inl w ↦ let u = w.0 in rw w.1 (u, λ k within. absurd (omega arith))
        | inr w ↦ let u = w.0 in rw w.1 (omega arith, λ k within. absurd (omega arith))
      ]) refl)

-- behind a place without a car
behind_near : (n x j : ℕ) → j ≤ x → x < n → behind n x j ≡ x - j
behind_near n x j low inside =
    let u : n ≤ x + (n - j) = omega arith in
    let e : x + (n - j) - n ≡ x - j = omega arith in
    mod-eq-sub-mod u ∙ ap (λ k. k % n) e ∙ mod-eq_of_lt (let k : x - j < n = omega arith in k)

behind_far : (n x j : ℕ) → x < j → j ≤ n → behind n x j ≡ x + n - j
behind_far n x j low most =
    let e : x + (n - j) ≡ x + n - j = omega arith in
    ap (λ k. k % n) e ∙ mod-eq_of_lt (let k : x + n - j < n = omega arith in k)

module _ (n : ℕ) (cars : List LaneCar) (r : IsSortedFrom 0 n cars) (x : ℕ) (inside : x < n) (next : ℕ)
    (before : (k : ℕ) → k < next → k < length cars → place_of cars k < x) (after : (k : ℕ) → next ≤ k → k < length cars → x < place_of cars k) where
  pub back_next : (k : ℕ) → k + 1 ≡ next → next ≤ length cars → clear_cells (cells_of n cars) (behind n x) ≡ x - place_of cars k - 1
  back_next k is within =
      let low = before k (omega arith) (omega arith) in
      run_ends n cars (behind n x) (x - place_of cars k - 1)
      (λ j some most.
      rw (behind_near n x j (omega (arith, most, low)) inside) (
        omega (arith, inside, some),
        λ m on same.
            elim (cases_lt m next) [
              | inl earlier ↦ let a = rises_weakly n cars m k r (omega arith) (omega arith) in omega (arith, a, same, most, low, some)
              | inr later ↦ let a = after m later on in omega (arith, a, same, some)
            ],
      ))
      k r (omega arith) (omega (arith, inside, low))
      (behind_near n x (x - place_of cars k - 1 + 1) (omega (arith, low)) inside ∙ (let e : x - (x - place_of cars k - 1 + 1) ≡ place_of cars k = omega (arith, low) in e))

  pub back_round : (k : ℕ) → k + 1 ≡ length cars → next ≡ 0 → clear_cells (cells_of n cars) (behind n x) ≡ n - 1 - place_of cars k + x
  back_round k is none =
      let past = after k (omega arith) (omega arith) in
      let high = rises_high 0 n cars k r (omega arith) in
      run_ends n cars (behind n x) (n - 1 - place_of cars k + x)
      (λ j some most.
      elim (cases_lt x j) [
        | inl far ↦ rw (behind_far n x j far (omega (arith, most, past, high))) (
          omega (arith, far, most, past, high),
          λ m on same.
              let a = rises_weakly n cars m k r (omega arith) (omega arith) in omega (arith, a, same, most, past, high, far),
        )
        | inr near ↦ rw (behind_near n x j near inside) (
          omega (arith, inside),
          λ m on same.
              let a = after m (omega arith) on in omega (arith, a, same),
        )
      ])
      k r (omega arith) (omega (arith, past, high))
      (behind_far n x (n - 1 - place_of cars k + x + 1) (omega (arith, high)) (omega (arith, high, past)) ∙ (let e : x + n - (n - 1 - place_of cars k + x + 1) ≡ place_of cars k = omega (arith, high, past) in e))

  pub back_alone : length cars ≡ 0 → clear_cells (cells_of n cars) (behind n x) ≡ n - 1
  back_alone none = run_round n cars (behind n x) (n - 1) (λ j low most.
      elim (cases_lt x j) [
        | inl far ↦ rw (behind_far n x j far (omega arith)) (omega arith, λ m on. absurd (omega arith))
        | inr near ↦ rw (behind_near n x j near inside) (omega arith, λ m on. absurd (omega arith))
      ]) refl

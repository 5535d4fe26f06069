-- The side cell and the side gaps, by binary search.
use Rattle.std.proofs.Common.{◌≡◌, ◌≢◌, ℕ, ◌<◌, ◌≤◌, ◌-◌, Bool, true, false, cond, nat_eq, not, List, length}
use Rattle.std.proofs.Common.{◌∙◌, ap, sym, inl, inr, arith, is_none}
use Rattle.std.proofs.lemmas.Bool.{cases_eq, cond-true, cond-false, Decides.nat_tests}
use Rattle.trlab_road.specs.Stored.{LaneCar, cells_of, IsSortedFrom, place_of, IsFirstPast, IsFirstFrom}
use Rattle.trlab_road.specs.Gaps.{ahead, behind, clear_cells, gap, side, sidegap, sideback}
use Rattle.trlab_road.proofs.{ListGaps.{back_next, gap_next}, Lists.{length_cells, cells_at, rises_order}}
use Rattle.trlab_road.proofs.ListLaneChange.{sought_here, sought_none}

module _ (n : ℕ) (cars : List LaneCar) (x k : ℕ) (r : IsSortedFrom 0 n cars) (inside : x < n) (s : IsFirstFrom cars x k) where
  -- the side cell is taken
  module _ (low : k < length cars) (e : place_of cars k ≡ x) where
    pub taken : side (cells_of n cars) x ≡ false
    taken = ap is_none (cells_at n cars x inside ∙ sought_here n cars x k r s low e)

    pub taken_ahead : sidegap (cells_of n cars) x ≡ 0
    taken_ahead = cond-false (side (cells_of n cars) x) (clear_cells (cells_of n cars) (ahead (length (cells_of n cars)) x)) 0 taken

    pub taken_behind : sideback (cells_of n cars) x ≡ 0
    taken_behind = cond-false (side (cells_of n cars) x) (clear_cells (cells_of n cars) (behind (length (cells_of n cars)) x)) 0 taken

  -- the side cell is empty
  module _ (other : k < length cars → place_of cars k ≢ x) where
    pub free : side (cells_of n cars) x ≡ true
    free = ap is_none (cells_at n cars x inside ∙ sought_none n cars x k r s other)

    pub free_ahead : sidegap (cells_of n cars) x ≡ gap (cells_of n cars) x
    free_ahead = cond-true (side (cells_of n cars) x) (clear_cells (cells_of n cars) (ahead (length (cells_of n cars)) x)) 0 free

    pub free_behind : sideback (cells_of n cars) x ≡ clear_cells (cells_of n cars) (behind n x)
    free_behind = cond-true (side (cells_of n cars) x) (clear_cells (cells_of n cars) (behind (length (cells_of n cars)) x)) 0 free ∙ ap (λ m. clear_cells (cells_of n cars) (behind m x)) (length_cells n cars)

    pub free_past : (m : ℕ) → k ≤ m → m < length cars → x < place_of cars m
    free_past m le on =
        elim (cases_eq k m) [
          | inl e ↦ let a = s.from m le on in let b = rw e at other in let d = b on in omega (arith, a, d)
          | inr more ↦ let a = s.from k (omega arith) (omega arith) in let b = rises_order 0 n cars k m r (omega arith) on in omega (arith, a, b)
        ]

    pub free_parted : IsFirstPast cars x k
    free_parted = record { before = λ m h on. let a = s.before m h on in omega (arith, a); after = free_past }

not_equal : (a b : ℕ) → a ≢ b → nat_eq a b ≡ false
not_equal a b other = grind (arith, nat_tests, other)

-- between two cars of the list the gaps are differences of places, whether or not the side cell is taken
module _ (n : ℕ) (cars : List LaneCar) (x k : ℕ) (r : IsSortedFrom 0 n cars) (inside : x < n) (s : IsFirstFrom cars x k) (low : k < length cars) where
  pub between_side : (empty : Bool) → empty ≡ not (nat_eq (place_of cars k - x) 0) → empty ≡ side (cells_of n cars) x
  between_side empty is =
      elim (cases_eq (place_of cars k) x) [
        | inl e ↦
            let none : place_of cars k - x ≡ 0 = omega (arith, e) in
            is ∙ ap (λ m. not (nat_eq m 0)) none ∙ sym (taken n cars x k r inside s low e)
        | inr other ↦
            let past = s.from k (omega arith) low in
            let some : place_of cars k - x ≢ 0 = λ none. other (omega (arith, none, past)) in
            is ∙ ap not (not_equal (place_of cars k - x) 0 some) ∙ sym (free n cars x k r inside s (λ _. other))
      ]

  pub between_ahead : place_of cars k - x - 1 ≡ sidegap (cells_of n cars) x
  between_ahead =
      elim (cases_eq (place_of cars k) x) [
        | inl e ↦
            let none : place_of cars k - x - 1 ≡ 0 = omega (arith, e) in
            none ∙ sym (taken_ahead n cars x k r inside s low e)
        | inr other ↦
            let differs : k < length cars → place_of cars k ≢ x = λ _. other in
            sym (free_ahead n cars x k r inside s differs ∙ gap_next n cars r x inside k (free_parted n cars x k r inside s differs) low)
      ]

  pub between_behind : (empty : Bool) → empty ≡ side (cells_of n cars) x → 0 < k
      → cond empty (x - place_of cars (k - 1) - 1) 0 ≡ sideback (cells_of n cars) x
  between_behind empty is some =
      elim (cases_eq (place_of cars k) x) [
        | inl e ↦ rw (is ∙ taken n cars x k r inside s low e) (sym (taken_behind n cars x k r inside s low e))
        | inr other ↦
            let differs : k < length cars → place_of cars k ≢ x = λ _. other in
            rw (is ∙ free n cars x k r inside s differs)
            (sym (free_behind n cars x k r inside s differs ∙ back_next n cars r x inside k s.before (free_past n cars x k r inside s differs) (k - 1) (omega (arith, some)) s.within))
      ]

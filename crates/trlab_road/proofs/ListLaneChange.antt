-- The lane change of two sorted lists of cars.
use Rattle.std.proofs.Common.{◌≡◌, ◌≢◌, ℕ, zero, suc, ◌+◌, ◌<◌, ◌≤◌, Bool, true, false, cond, eqb, Some, None}
use Rattle.std.proofs.Common.{List, [], ◌∷◌, ◌++◌, length, get_or, take, drop, min, refl, sym, ◌∙◌, ap, subst}
use Rattle.std.proofs.Common.{inl, inr, arith, length-take-le, append-nil, append_assoc}
use Rattle.std.proofs.lemmas.{Bool.{cases_lt, cases_eq}, List.{drop_more, FromFn.take-map-range_with_len}}
use Rattle.std.specs.Int.{from_bool}
use Rattle.trlab_road.specs.Stored.{LaneCar, cell_at, cells_of, IsSortedFrom, no_car, place_of, IsFirstFrom}
use Rattle.trlab_road.{specs.Stored.lane_crosses_at, proofs.Lists.{rises_order, rises_weakly}}
use Rattle.trlab_road.specs.{Cells.{Cell, at, lane_car_count}, LaneChange.{cell_after_change, LaneCrosses}}
use Rattle.trlab_road.proofs.Lists.{length_cells, cells_at, cell_kth, empty_at, cars_of_list, rises_high}
use Rattle.trlab_road.proofs.ListPush.{below_push, cell_push, cell_pushed, map_range_below, rises_push}

-- the first car from a place on: at the place, past it, and later
pub sought_here : (n : ℕ) (cars : List LaneCar) (x k : ℕ) → IsSortedFrom 0 n cars → IsFirstFrom cars x k → k < length cars → place_of cars k ≡ x → cell_at cars x ≡ Some ((get_or cars k no_car).number, (get_or cars k no_car).speed)
sought_here n cars x k r s low e = subst (λ y. cell_at cars y ≡ Some ((get_or cars k no_car).number, (get_or cars k no_car).speed)) e (cell_kth 0 n cars k r low)

pub sought_none : (n : ℕ) (cars : List LaneCar) (x k : ℕ) → IsSortedFrom 0 n cars → IsFirstFrom cars x k → (k < length cars → place_of cars k ≢ x) → cell_at cars x ≡ None
sought_none n cars x k r s other = empty_at cars x (λ m low e.
    elim (cases_lt m k) [
      | inl earlier ↦ let a = s.before m earlier low in omega (arith, a, e)
      | inr later ↦
          let a = s.from k (omega arith) (omega arith) in
          let b = rises_weakly n cars k m r later low in
          other (omega arith) (omega (arith, a, b, e))
    ])

pub sought_past : (n : ℕ) (cars : List LaneCar) (x k : ℕ) → IsSortedFrom 0 n cars → IsFirstFrom cars x k → k < length cars → place_of cars k ≡ x → IsFirstFrom cars (x + 1) (k + 1)
sought_past n cars x k r s low e = record {
  within = omega arith;
  before = λ m h on. let a = rises_weakly n cars m k r (omega arith) low in omega (arith, a, e);
  from = λ m h on. let a = rises_order 0 n cars k m r (omega arith) on in omega (arith, a, e);
}

-- up to the place of the first car from x on there is no car
pub sought_later : (n : ℕ) (cars : List LaneCar) (x y k : ℕ) → IsSortedFrom 0 n cars → IsFirstFrom cars x k → x ≤ y → (k < length cars → y ≤ place_of cars k) → IsFirstFrom cars y k
sought_later n cars x y k r s le low = record {
  within = s.within;
  before = λ m h on. let a = s.before m h on in omega (arith, a, le);
  from = λ m h on. let a = rises_weakly n cars k m r h on in let b = low (omega arith) in omega (arith, a, b);
}

pub sought_other : (n : ℕ) (cars : List LaneCar) (x k : ℕ) → IsSortedFrom 0 n cars → IsFirstFrom cars x k → (k < length cars → place_of cars k ≢ x) → IsFirstFrom cars (x + 1) k
sought_other n cars x k r s other = sought_later n cars x (x + 1) k r s (omega arith) (λ low. let a = s.from k (omega arith) low in let b = other low in omega (arith, a, b))

-- one car further, if the first car from a place on is at this place
pub sought_next : (n : ℕ) (cars : List LaneCar) (x k : ℕ) (here : Bool) → IsSortedFrom 0 n cars → IsFirstFrom cars x k → (here ≡ true → k < length cars) → (here ≡ true → place_of cars k ≡ x)
    → (here ≡ false → k < length cars → place_of cars k ≢ x) → IsFirstFrom cars (x + 1) (k + from_bool here)
sought_next n cars x k true r s low there other = sought_past n cars x k r s (low refl) (there refl)
sought_next n cars x k false r s low there other =
    let same : k ≡ k + 0 = omega arith in
    subst (λ m. IsFirstFrom cars (x + 1) m) same (sought_other n cars x k r s (other refl))

-- the place of the k-th car, or the end of the lane
pub record IsDue (n : ℕ) (cars : List LaneCar) (k a : ℕ) : Type 0 where
  pub here : k < length cars → a ≡ place_of cars k
  pub past : length cars ≤ k → a ≡ n

pub due_low : (n : ℕ) (cars : List LaneCar) (k a : ℕ) → IsDue n cars k a → a < n → k < length cars
due_low n cars k a d inside = elim (cases_lt k (length cars)) [ inl low ↦ low | inr high ↦ let e = d.past high in absurd (omega (arith, e, inside)) ]

-- the one of two lists whose next car comes first has a car left
pub own_low : (n : ℕ) (own : List LaneCar) (i a b p : ℕ) → IsDue n own i a → p ≡ min a b → p < n → a < b → i < length own
own_low n own i a b p d is inside later = due_low n own i a d (omega (arith, is, inside, later))

pub coming_low : (n : ℕ) (coming : List LaneCar) (j a b p : ℕ) → IsDue n coming j b → p ≡ min a b → p < n → b ≤ a → j < length coming
coming_low n coming j a b p d is inside early = due_low n coming j b d (omega (arith, is, inside, early))

pub due_within : (n : ℕ) (cars : List LaneCar) (k a : ℕ) → IsSortedFrom 0 n cars → IsDue n cars k a → a ≤ n
due_within n cars k a r d =
    elim (cases_lt k (length cars)) [
      | inl low ↦ let e = d.here low in let h = rises_high 0 n cars k r low in omega (arith, e, h)
      | inr high ↦ let e = d.past high in omega (arith, e)
    ]

-- if the first car from a place on is further on, the place is empty
pub due_none : (n : ℕ) (cars : List LaneCar) (x k a : ℕ) → IsSortedFrom 0 n cars → IsFirstFrom cars x k → IsDue n cars k a → x < a → cell_at cars x ≡ None
due_none n cars x k a r s d later = sought_none n cars x k r s (λ low e. let h = d.here low in omega (arith, h, e, later))

pub due_past : (n : ℕ) (cars : List LaneCar) (x k a : ℕ) → IsSortedFrom 0 n cars → IsFirstFrom cars x k → IsDue n cars k a → x < a → IsFirstFrom cars (x + 1) k
due_past n cars x k a r s d later = sought_other n cars x k r s (λ low e. let h = d.here low in omega (arith, h, e, later))

-- if k is the index of the first car from x on, k cars have places before x
cell_take : (cars : List LaneCar) (i y : ℕ) → ((k : ℕ) → i ≤ k → k < length cars → y < place_of cars k) → cell_at cars y ≡ cell_at (take i cars) y
cell_take [] zero y h = refl
cell_take [] (suc i) y h = refl
cell_take (car ∷ cars) zero y h = empty_at (car ∷ cars) y (λ k low e. let a = h k (omega arith) low in omega (arith, a, e))
cell_take (car ∷ cars) (suc i) y h = ap (cond (eqb car.place y) (Some (car.number, car.speed))) (cell_take cars i y (λ k past low. h (suc k) (omega arith) (omega arith)))

rises_take : (y n x : ℕ) (cars : List LaneCar) (i : ℕ) → IsSortedFrom y n cars → ((k : ℕ) → k < i → k < length cars → place_of cars k < x) → IsSortedFrom y x (take i cars)
rises_take y n x [] zero r h = tt
rises_take y n x [] (suc i) r h = tt
rises_take y n x (car ∷ cars) zero r h = tt
rises_take y n x (car ∷ cars) (suc i) r h = (r.0, h 0 (omega arith) (omega arith), rises_take (suc car.place) n x cars i r.2 (λ k low on. h (suc k) (omega arith) (omega arith)))

pub rank_sought : (n : ℕ) (cars : List LaneCar) (x i : ℕ) → IsSortedFrom 0 n cars → IsFirstFrom cars x i → x ≤ n → lane_car_count (take x (cells_of n cars)) ≡ i
rank_sought n cars x i r s le =
    ap lane_car_count (take-map-range_with_len (cell_at cars) 0 n x le)
    ∙ ap lane_car_count (map_range_below (cell_at cars) (cell_at (take i cars)) 0 x (λ y h. cell_take cars i y (λ k past low. let a = s.from k past low in omega arith)))
    ∙ cars_of_list x (take i cars) (rises_take 0 n x cars i r s.before)
    ∙ length-take-le i cars s.within

-- two empty cells stay empty
pub none_crosses : (a b : Bool) → cell_after_change a b None None ≡ None
none_crosses true true = refl
none_crosses true false = refl
none_crosses false true = refl
none_crosses false false = refl

-- the cells of the first places are those after the lane change
pub record Merged (n : ℕ) (own beside : List LaneCar) (oc bc : ℕ → Bool) (next : List LaneCar) (i j x : ℕ) : Type 0 where
  pub own_at : IsFirstFrom own x i
  pub beside_at : IsFirstFrom beside x j
  pub rises : IsSortedFrom 0 n next
  pub below : (k : ℕ) → k < length next → place_of next k < x
  pub cells : (y : ℕ) → y < x → cell_at next y ≡ cell_after_change (oc y) (bc y) (cell_at own y) (cell_at beside y)

module _ (n : ℕ) (own beside : List LaneCar) (oc bc : ℕ → Bool) (r : IsSortedFrom 0 n own) (q : IsSortedFrom 0 n beside) where
  pub merged_none : Merged n own beside oc bc [] 0 0 0
  merged_none = record {
    own_at = record { within = omega arith; before = λ k h. absurd (omega arith); from = λ k h on. omega arith };
    beside_at = record { within = omega arith; before = λ k h. absurd (omega arith); from = λ k h on. omega arith };
    rises = tt;
    below = λ k h. absurd (omega arith);
    cells = λ y h. absurd (omega arith);
  }

  module _ (next : List LaneCar) (i j x : ℕ) (m : Merged n own beside oc bc next i j x) where
    -- on to the first place with a car
    pub merged_to : (y : ℕ) → x ≤ y → (i < length own → y ≤ place_of own i) → (j < length beside → y ≤ place_of beside j) → Merged n own beside oc bc next i j y
    merged_to y le own_low beside_low = record {
      own_at = sought_later n own x y i r m.own_at le own_low;
      beside_at = sought_later n beside x y j q m.beside_at le beside_low;
      rises = m.rises;
      below = λ k h. let a = m.below k h in omega (arith, a, le);
      cells = λ z h.
          elim (cases_lt z x) [
            | inl low ↦ m.cells z low
            | inr past ↦
                let a = sought_none n own z i r (sought_later n own x z i r m.own_at past (λ on. let k = own_low on in omega (arith, k, h))) (λ on e. let k = own_low on in omega (arith, k, h, e)) in
                let b = sought_none n beside z j q (sought_later n beside x z j q m.beside_at past (λ on. let k = beside_low on in omega (arith, k, h))) (λ on e. let k = beside_low on in omega (arith, k, h, e)) in
                rw (a, b, none_crosses) (empty_at next z (λ k on e. let c = m.below k on in omega (arith, c, past, e)))
          ];
    }

    empty_here : cell_at next x ≡ None
    empty_here = empty_at next x (λ k on e. let c = m.below k on in omega (arith, c, e))

    -- one place more: no car comes to it, or one does
    pub merged_skip : (i' j' : ℕ) → IsFirstFrom own (x + 1) i' → IsFirstFrom beside (x + 1) j' → None ≡ cell_after_change (oc x) (bc x) (cell_at own x) (cell_at beside x) → Merged n own beside oc bc next i' j' (x + 1)
    merged_skip i' j' s t none = record {
      own_at = s;
      beside_at = t;
      rises = m.rises;
      below = λ k h. let a = m.below k h in omega (arith, a);
      cells = λ y h. elim (cases_eq y x) [ inl e ↦ rw e (empty_here ∙ none) | inr other ↦ m.cells y (omega arith) ];
    }

    pub merged_push : (car : LaneCar) (i' j' : ℕ) → IsFirstFrom own (x + 1) i' → IsFirstFrom beside (x + 1) j' → x < n → car.place ≡ x → Some (car.number, car.speed) ≡ cell_after_change (oc x) (bc x) (cell_at own x) (cell_at beside x) → Merged n own beside oc bc (next ++ car ∷ []) i' j' (x + 1)
    merged_push car i' j' s t inside at_x some =
        let past : (k : ℕ) → k < length next → place_of next k < car.place = λ k h. let a = m.below k h in omega (arith, a, at_x) in
        let rises = rises_push 0 n next car m.rises past (omega arith) (omega (arith, at_x, inside)) in
        record {
          own_at = s;
          beside_at = t;
          rises = rises;
          below = below_push next car (x + 1) (λ k h. let a = m.below k h in omega (arith, a)) (omega (arith, at_x));
          cells = λ y h. elim (cases_eq y x) [
            | inl e ↦ rw e (subst (λ z. cell_at (next ++ car ∷ []) z ≡ Some (car.number, car.speed)) at_x (cell_pushed next car past) ∙ some)
            | inr other ↦ cell_push next car y (λ e. omega (arith, e, at_x, other)) ∙ m.cells y (omega arith)
          ];
        }

-- the car that stays
pub stays : (oc : Bool) (own side : Cell) (car : ℕ × ℕ) → own ≡ Some car → oc ≡ false → Some car ≡ cell_after_change oc true own side
stays oc own side car e f = rw (e, f) refl

-- a car is the first car from its own place on
pub first_at : (n : ℕ) (cars : List LaneCar) (k : ℕ) → IsSortedFrom 0 n cars → k < length cars → IsFirstFrom cars (place_of cars k) k
first_at n cars k r low = record {
  within = omega arith;
  before = λ m h on. rises_order 0 n cars m k r h low;
  from = λ m h on. rises_weakly n cars k m r h on;
}

-- a run of cars that stay, without a car that comes
module _ (n : ℕ) (own beside : List LaneCar) (oc : ℕ → Bool) (r : IsSortedFrom 0 n own) (q : IsSortedFrom 0 n beside) (j due : ℕ) (d : IsDue n beside j due) (le : due ≤ n) where
  pub merged_run : (c : ℕ) (next : List LaneCar) (i x : ℕ) → Merged n own beside oc (λ _. true) next i j x → x ≤ due → i + c ≤ length own → ((k : ℕ) → i ≤ k → k < i + c → place_of own k < due)
      → ((k : ℕ) → i ≤ k → k < i + c → oc (place_of own k) ≡ false) → (y : ℕ) × (Merged n own beside oc (λ _. true) (next ++ take c (drop i own)) (i + c) j y × (y ≤ due))
  merged_run zero next i x m low on before stay =
      let same : i ≡ i + 0 = omega arith in
      (x, (subst (λ e. Merged n own beside oc (λ _. true) (next ++ []) e j x) same (subst (λ l. Merged n own beside oc (λ _. true) l i j x) (sym (append-nil next)) m), low))
  merged_run (suc c) next i x m low on before stay =
      let first : i < length own = omega arith in
      let p = place_of own i in
      let earlier : p < due = before i (omega arith) (omega arith) in
      let reached = m.own_at.from i (omega arith) first in
      let to = merged_to n own beside oc (λ _. true) r q next i j x m p reached (λ _. omega arith) (λ h. let a = d.here h in omega (arith, a, earlier)) in
      let s = sought_past n own p i r to.own_at first refl in
      let t = due_past n beside p j due q to.beside_at d earlier in
      let here = sought_here n own p i r to.own_at first refl in
      let car = get_or own i no_car in
      let one = merged_push n own beside oc (λ _. true) r q next i j p to car (i + 1) j s t (omega (arith, earlier, le)) refl (stays (oc p) (cell_at own p) (cell_at beside p) _ here (stay i (omega arith) (omega arith))) in
      let rest = merged_run c (next ++ car ∷ []) (i + 1) (p + 1) one (omega (arith, earlier)) (omega arith) (λ k a b. before k (omega arith) (omega arith)) (λ k a b. stay k (omega arith) (omega arith)) in
      let list : (next ++ car ∷ []) ++ take c (drop (i + 1) own) ≡ next ++ take (suc c) (drop i own) = append_assoc next (car ∷ []) (take c (drop (i + 1) own)) ∙ ap (λ l. next ++ take (suc c) l) (sym (drop_more own i no_car first)) in
      let index : i + 1 + c ≡ i + suc c = omega arith in
      (rest.0, (subst (λ e. Merged n own beside oc (λ _. true) (next ++ take (suc c) (drop i own)) e j rest.0) index (subst (λ l. Merged n own beside oc (λ _. true) l (i + 1 + c) j rest.0) list rest.1.0), rest.1.1))

-- after all places, the lane of the new list is the lane after the lane change
pub merged_all : (n : ℕ) (own beside : List LaneCar) (oc bc : ℕ → Bool) (next : List LaneCar) (i j x : ℕ) → Merged n own beside oc bc next i j x → n ≤ x → LaneCrosses oc bc (cells_of n own) (cells_of n beside) (cells_of n next)
merged_all n own beside oc bc next i j x m whole = record {
  same_length = length_cells n next ∙ sym (length_cells n own);
  each_cell = λ y h. let low : y < n = rw length_cells at h in
      cells_at n next y low ∙ m.cells y (omega arith) ∙ ap (λ c. cell_after_change (oc y) (bc y) c (cell_at beside y)) (sym (cells_at n own y low)) ∙ ap (cell_after_change (oc y) (bc y) (at (cells_of n own) y)) (sym (cells_at n beside y low));
}

-- on to the next car of either list, or the end
pub reach : (n : ℕ) (cars : List LaneCar) (k x a : ℕ) → IsSortedFrom 0 n cars → IsFirstFrom cars x k → x ≤ n → (k < length cars → a ≡ place_of cars k) → (length cars ≤ k → a ≡ n) → (x ≤ a) × (a ≤ n)
reach n cars k x a r s le here past =
    elim (cases_lt k (length cars)) [
      | inl low ↦ let e = here low in let f = s.from k (omega arith) low in let h = rises_high 0 n cars k r low in (omega (arith, e, f), omega (arith, e, h))
      | inr high ↦ let e = past high in (omega (arith, e, le), omega (arith, e))
    ]

pub merged_next : (n : ℕ) (own beside : List LaneCar) (oc bc : ℕ → Bool) (r : IsSortedFrom 0 n own) (q : IsSortedFrom 0 n beside) (next : List LaneCar) (i j x a b p : ℕ) → Merged n own beside oc bc next i j x → x ≤ n
    → (i < length own → a ≡ place_of own i) → (length own ≤ i → a ≡ n) → (j < length beside → b ≡ place_of beside j) → (length beside ≤ j → b ≡ n) → p ≡ min a b → Merged n own beside oc bc next i j p
merged_next n own beside oc bc r q next i j x a b p m le here past there gone is =
    let f = reach n own i x a r m.own_at le here past in
    let g = reach n beside j x b q m.beside_at le there gone in
    let fl = f.0 in
    let gl = g.0 in
    merged_to n own beside oc bc r q next i j x m p (omega (arith, is, fl, gl)) (λ low. let e = here low in omega (arith, is, e)) (λ low. let e = there low in omega (arith, is, e))

-- the answer at an index is the answer at the place
pub crosses_here : (n : ℕ) (cars : List LaneCar) (answers : List Bool) (from x k : ℕ) → IsSortedFrom 0 n cars → IsFirstFrom cars x k → x ≤ n → get_or answers (from + k) false ≡ lane_crosses_at (cells_of n cars) answers from x
crosses_here n cars answers from x k r s le = ap (λ i. get_or answers (from + i) false) (sym (rank_sought n cars x k r s le))

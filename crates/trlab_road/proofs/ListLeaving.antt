-- The cars of a sorted list that change lanes.
use Rattle.std.proofs.Common.{◌≡◌, ℕ, ◌+◌, ◌<◌, ◌≤◌, Bool, true, false, cond, Some, None, List, [], ◌∷◌, ◌++◌}
use Rattle.std.proofs.Common.{length, get_or, refl, sym, ◌∙◌, ap, subst, inl, inr, arith}
use Rattle.std.proofs.lemmas.Bool.{cases_eq}
use Rattle.trlab_road.specs.Stored.{LaneCar, cell_at, cells_of, IsSortedFrom, no_car, place_of, IsFirstFrom}
use Rattle.trlab_road.specs.{Stored.{HasLeavingCars, lane_crosses_at}, Cells.{Cell, at}}
use Rattle.trlab_road.specs.LaneChange.{cell_after_change, LaneCrosses}
use Rattle.trlab_road.proofs.Lists.{length_cells, cells_at, cell_kth, empty_at, kth_of_cell, list_car}
use Rattle.trlab_road.proofs.{Lists.{rises_high, rises_order, rises_weakly}, ListLaneChange.crosses_here}
use Rattle.trlab_road.proofs.ListPush.{below_push, cell_push, cell_pushed, rises_push}

-- the cars that change lanes, among the first k cars, form a list
pub record Leaving (n : ℕ) (cars : List LaneCar) (answers : List Bool) (from k : ℕ) (leaving : List LaneCar) : Type 0 where
  pub rises : IsSortedFrom 0 n leaving
  pub before : (m : ℕ) → k ≤ m → m < length cars → (j : ℕ) → j < length leaving → place_of leaving j < place_of cars m
  pub cells : (m : ℕ) → m < k → m < length cars → cell_at leaving (place_of cars m) ≡ cond (get_or answers (from + m) false) (cell_at cars (place_of cars m)) None
  pub others : (x : ℕ) → cell_at cars x ≡ None → cell_at leaving x ≡ None

some_none : {A : Type 0} (a : A) (c : Cell) → c ≡ None → (car : ℕ × ℕ) → c ≡ Some car → ⊥
some_none a c none car some = cc

module _ (n : ℕ) (cars : List LaneCar) (answers : List Bool) (from : ℕ) (r : IsSortedFrom 0 n cars) where
  module _ (leaving : List LaneCar) (k : ℕ) (low : k < length cars) (l : Leaving n cars answers from k leaving) where
    abbrev car : LaneCar
    car = get_or cars k no_car

    -- one more car, which changes lanes
    pub one_leaves : get_or answers (from + k) false ≡ true → Leaving n cars answers from (k + 1) (leaving ++ car ∷ [])
    one_leaves crosses = record {
      rises = rises_push 0 n leaving car l.rises (λ j h. l.before k (omega arith) low j h) (omega arith) (rises_high 0 n cars k r low);
      before = λ m h on. below_push leaving car (place_of cars m) (λ j g. l.before m (omega arith) on j g) (rises_order 0 n cars k m r (omega arith) on);
      cells = λ m h on. elim (cases_eq m k) [
        | inl e ↦ rw (e, crosses) (cell_pushed leaving car (λ j g. l.before k (omega arith) low j g) ∙ sym (cell_kth 0 n cars k r low))
        | inr other ↦ cell_push leaving car (place_of cars m) (λ e. let a = rises_order 0 n cars m k r (omega arith) low in omega (arith, a, e)) ∙ l.cells m (omega arith) on
      ];
      others = λ x e. cell_push leaving car x (λ same. some_none car (cell_at cars car.place) (subst (λ y. cell_at cars y ≡ None) same e) _ (cell_kth 0 n cars k r low)) ∙ l.others x e;
    }

    -- one more car, which stays
    pub one_stays : get_or answers (from + k) false ≡ false → Leaving n cars answers from (k + 1) leaving
    one_stays stays = record {
      rises = l.rises;
      before = λ m h. l.before m (omega arith);
      cells = λ m h on. elim (cases_eq m k) [
        | inl e ↦ rw (e, stays) (empty_at leaving car.place (λ j g e. let a = l.before k (omega arith) low j g in omega (arith, a, e)))
        | inr other ↦ l.cells m (omega arith) on
      ];
      others = l.others;
    }

  sought_kth : (x k : ℕ) → k < length cars → place_of cars k ≡ x → IsFirstFrom cars x k
  sought_kth x k low e = record {
    within = omega arith;
    before = λ m h on. let a = rises_order 0 n cars m k r h low in omega (arith, a, e);
    from = λ m h on. let a = rises_weakly n cars k m r h on in omega (arith, a, e);
  }

  no_cell : (b : Bool) → ◌≡◌ {A = Cell} (cond b None None) None
  no_cell true = refl
  no_cell false = refl

  module _ (leaving : List LaneCar) (l : Leaving n cars answers from (length cars) leaving) where
    left_at : (x : ℕ) → x < n → (c : Cell) → cell_at cars x ≡ c → cell_at leaving x ≡ cond (lane_crosses_at (cells_of n cars) answers from x) c None
    unfolding list_car
    left_at x inside None e = l.others x e ∙ sym (no_cell (lane_crosses_at (cells_of n cars) answers from x))
    left_at x inside (Some (number, speed)) e =
        let kth = kth_of_cell cars number x speed e in
        let k = kth.0 in
        let there : place_of cars k ≡ x = ap (λ (car : LaneCar). car.place) kth.1.is in
        let answer = crosses_here n cars answers from x k r (sought_kth x k kth.1.low there) (omega arith) in
        let here = subst (λ y. cell_at leaving y ≡ cond (get_or answers (from + k) false) (cell_at cars y) None) there (l.cells k kth.1.low kth.1.low) in
        here ∙ ap (λ b. cond b (cell_at cars x) None) answer ∙ ap (λ c. cond (lane_crosses_at (cells_of n cars) answers from x) c None) e

    -- all of them
    pub all_leave : HasLeavingCars (lane_crosses_at (cells_of n cars) answers from) (cells_of n cars) (cells_of n leaving)
    all_leave = record {
      same_length = length_cells n leaving ∙ sym (length_cells n cars);
      each_cell = λ x h.
          let inside : x < n = rw length_cells at h in
          cells_at n leaving x inside ∙ left_at x inside (cell_at cars x) refl ∙ ap (λ c. cond (lane_crosses_at (cells_of n cars) answers from x) c None) (sym (cells_at n cars x inside));
    }

-- for the lane that cars change to, the list of cars that leave replaces the other lane
pub crosses_from : (n : ℕ) (oc bc : ℕ → Bool) (own beside coming new : List LaneCar) → LaneCrosses oc (λ _. true) (cells_of n own) (cells_of n coming) (cells_of n new)
    → HasLeavingCars bc (cells_of n beside) (cells_of n coming) → LaneCrosses oc bc (cells_of n own) (cells_of n beside) (cells_of n new)
crosses_from n oc bc own beside coming new crosses leaves = record {
  same_length = crosses.same_length;
  each_cell = λ x h.
      let inside : x < n = rw length_cells at h in
      let there : x < length (cells_of n beside) = rw length_cells inside in
      crosses.each_cell x h ∙ ap (cell_after_change (oc x) true (at (cells_of n own) x)) (leaves.each_cell x there);
}

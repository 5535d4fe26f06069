-- Sorted lists of cars with one more car at their end, and the lanes that they make.
use Rattle.std.proofs.Common.{◌≡◌, ◌≢◌, ℕ, zero, suc, ◌+◌, ◌<◌, ◌≤◌, Some, None, List, [], ◌∷◌, ◌++◌, length}
use Rattle.std.proofs.Common.{map, set, replicate, cond, eqb, refl, sym, ◌∙◌, ap, subst, arith}
use Rattle.std.{proofs.lemmas.List.FromFn.map-range_with_len_more, specs.List.range_with_len}
use Rattle.trlab_road.specs.{Stored.{LaneCar, cell_at, cells_of, IsSortedFrom, place_of}, Cells.{Cell, Lane}}
use Rattle.trlab_road.proofs.Lists.{cell_here, cell_other, empty_at, map_range_same, rises_high}

-- the cell of a place
pub cell_push : (cars : List LaneCar) (car : LaneCar) (x : ℕ) → x ≢ car.place → cell_at (cars ++ car ∷ []) x ≡ cell_at cars x
cell_push [] car x other = cell_other car [] x (λ e. other (sym e))
cell_push (first ∷ cars) car x other = ap (cond (eqb first.place x) (Some (first.number, first.speed))) (cell_push cars car x other)

pub cell_pushed : (cars : List LaneCar) (car : LaneCar) → ((k : ℕ) → k < length cars → place_of cars k < car.place) → cell_at (cars ++ car ∷ []) car.place ≡ Some (car.number, car.speed)
cell_pushed [] car past = cell_here car [] car.place refl
cell_pushed (first ∷ cars) car past =
    cell_other first (cars ++ car ∷ []) car.place (λ e. let a = past 0 (omega arith) in omega (arith, a, e)) ∙ cell_pushed cars car (λ k h. past (suc k) (omega arith))

-- all places stay below a bound
pub below_push : (cars : List LaneCar) (car : LaneCar) (f : ℕ) → ((k : ℕ) → k < length cars → place_of cars k < f) → car.place < f → (k : ℕ) → k < length (cars ++ car ∷ []) → place_of (cars ++ car ∷ []) k < f
below_push [] car f low last zero h = last
below_push [] car f low last (suc k) h = absurd (omega arith)
below_push (first ∷ cars) car f low last zero h = low 0 (omega arith)
below_push (first ∷ cars) car f low last (suc k) h = below_push cars car f (λ j g. low (suc j) (omega arith)) last k (omega arith)

-- the places also rise from another place on and up to another end
pub rises_push : (x n : ℕ) (cars : List LaneCar) (car : LaneCar) → IsSortedFrom x n cars → ((k : ℕ) → k < length cars → place_of cars k < car.place) → x ≤ car.place → car.place < n → IsSortedFrom x n (cars ++ car ∷ [])
rises_push x n [] car r past low high = (low, high, tt)
rises_push x n (first ∷ cars) car r past low high = (r.0, r.1, rises_push (suc first.place) n cars car r.2 (λ k h. past (suc k) (omega arith)) (past 0 (omega arith)) high)

pub rises_above : (x y n : ℕ) (cars : List LaneCar) → IsSortedFrom x n cars → ((k : ℕ) → k < length cars → y ≤ place_of cars k) → IsSortedFrom y n cars
rises_above x y n [] r low = tt
rises_above x y n (car ∷ cars) r low = (low 0 (omega arith), r.1, r.2)

pub rises_more : (x n m : ℕ) (cars : List LaneCar) → n ≤ m → IsSortedFrom x n cars → IsSortedFrom x m cars
rises_more x n m [] le r = tt
rises_more x n m (car ∷ cars) le r = (r.0, (let a = r.1 in omega (arith, a, le)), rises_more (suc car.place) n m cars le r.2)

-- two functions that agree before a place
pub map_range_below : (f g : ℕ → Cell) (a m : ℕ) → ((y : ℕ) → y < a + m → f y ≡ g y) → map f (range_with_len a m) ≡ map g (range_with_len a m)
map_range_below f g a zero h = refl
map_range_below f g a (suc m) h =
    ap (λ c. c ∷ map f (range_with_len (a + 1) m)) (h a (omega arith)) ∙ ap (λ cs. g a ∷ cs) (map_range_below f g (a + 1) m (λ y k. h y (omega arith)))

-- a lane with one place more, empty or with a car
pub cells_none : (i : ℕ) (cars : List LaneCar) → IsSortedFrom 0 i cars → cells_of (i + 1) cars ≡ cells_of i cars ++ None ∷ []
cells_none i cars r =
    let z : 0 + i ≡ i = omega arith in
    map-range_with_len_more (cell_at cars) 0 i i z ∙ ap (λ c. cells_of i cars ++ c ∷ []) (empty_at cars i (λ k h e. let a = rises_high 0 i cars k r h in omega (arith, a, e)))

pub cells_some : (i : ℕ) (cars : List LaneCar) (car : LaneCar) → IsSortedFrom 0 i cars → car.place ≡ i → cells_of (i + 1) (cars ++ car ∷ []) ≡ cells_of i cars ++ Some (car.number, car.speed) ∷ []
cells_some i cars car r at_i =
    let z : 0 + i ≡ i = omega arith in
    map-range_with_len_more (cell_at (cars ++ car ∷ [])) 0 i i z
    ∙ ap (λ c. cells_of i (cars ++ car ∷ []) ++ c ∷ []) (subst (λ k. cell_at (cars ++ car ∷ []) k ≡ Some (car.number, car.speed)) at_i (cell_pushed cars car (λ k h. let a = rises_high 0 i cars k r h in omega (arith, a, at_i))))
    ∙ ap (λ cs. cs ++ Some (car.number, car.speed) ∷ []) (map_range_below (cell_at (cars ++ car ∷ [])) (cell_at cars) 0 i (λ y h. cell_push cars car y (λ e. omega (arith, e, at_i))))

-- an empty lane, and one on which the cell of one place is set
pub cells_empty : (a n : ℕ) → map (cell_at []) (range_with_len a n) ≡ replicate n None
cells_empty a zero = refl
cells_empty a (suc n) = ap (λ (cs : Lane). None ∷ cs) (cells_empty (a + 1) n)

set_cell : (f g : ℕ → Cell) (a n p : ℕ) (b : Cell) → p < n → g (a + p) ≡ b → ((y : ℕ) → y ≢ a + p → f y ≡ g y) → set (map f (range_with_len a n)) p b ≡ map g (range_with_len a n)
set_cell f g a zero p b low here other = absurd (omega arith)
set_cell f g a (suc n) zero b low here other =
    let e : a + 0 ≡ a = omega arith in
    ap (λ k. k ∷ map f (range_with_len (a + 1) n)) (sym here ∙ ap g e) ∙ ap (λ cs. g a ∷ cs) (map_range_same f g (a + 1) n (λ y past. other y (λ same. omega arith)))
set_cell f g a (suc n) (suc p) b low here other =
    let e : a + suc p ≡ a + 1 + p = omega arith in
    ap (λ c. c ∷ set (map f (range_with_len (a + 1) n)) p b) (other a (λ same. omega arith))
    ∙ ap (λ cs. g a ∷ cs) (set_cell f g (a + 1) n p b (omega arith) (ap g (sym e) ∙ here) (λ y differs. other y (λ same. differs (same ∙ e))))

-- a car after the others sets its cell
pub cells_push : (n : ℕ) (cars : List LaneCar) (car : LaneCar) → ((k : ℕ) → k < length cars → place_of cars k < car.place) → car.place < n → cells_of n (cars ++ car ∷ []) ≡ set (cells_of n cars) car.place (Some (car.number, car.speed))
cells_push n cars car past low =
    let z : 0 + car.place ≡ car.place = omega arith in
    sym (set_cell (cell_at cars) (cell_at (cars ++ car ∷ [])) 0 n car.place (Some (car.number, car.speed)) low (ap (cell_at (cars ++ car ∷ [])) z ∙ cell_pushed cars car past)
    (λ y differs. sym (cell_push cars car y (λ same. differs (same ∙ sym z)))))

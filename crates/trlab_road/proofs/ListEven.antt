-- Lists of evenly spread cars.
use Rattle.std.proofs.Common.{◌≡◌, ◌≢◌, ℕ, zero, suc, ◌+◌, ◌*◌, ◌/◌, ◌<◌, ◌≤◌, Some, List, [], ◌∷◌, ◌++◌, Vec}
use Rattle.std.proofs.Common.{Global, length, set, sym, ◌∙◌, ap, subst, inl, inr, arith, mul-le-mul_left}
use Rattle.std.proofs.{Math.Nat.div-add-mod, lemmas.Bool.cases_lt}
use Rattle.trlab_road.specs.Stored.{LaneCar, cells_of, IsSortedFrom, place_of, list_at}
use Rattle.trlab_road.specs.Spreading.{flat_cell, even_lane, even_place}
use Rattle.trlab_road.proofs.ListPush.{below_push, cells_empty, cells_push, rises_push}
use Rattle.trlab_road.proofs.EvenLanes.{EvenUpTo, even_none, even_skip, even_more, even_inside, flat_rises}

-- a car with a larger number has a later place on its lane
place_rises : (lanes cells n i j : ℕ) → n ≤ lanes * cells → 0 < n → i < j → even_lane lanes cells n i ≡ even_lane lanes cells n j → even_place lanes cells n i < even_place lanes cells n j
place_rises lanes cells n i j room some less same =
    let f = flat_cell lanes cells n i in
    let g = flat_cell lanes cells n j in
    let a = div-add-mod f lanes in
    let b = div-add-mod g lanes in
    let r = flat_rises lanes cells n i j room some less in
    elim (cases_lt (f / lanes) (g / lanes)) [
      | inl below ↦ below
      | inr past ↦ let k = mul-le-mul_left lanes past in absurd (omega (arith, a, b, r, k, same))
    ]

-- the list has the cars so far, and their places are before those of the cars to come
pub record EvenList (lanes cells n l i : ℕ) (cars : List LaneCar) : Type 0 where
  pub rises : IsSortedFrom 0 cells cars
  pub past : (k : ℕ) → k < length cars → (j : ℕ) → i ≤ j → j < n → even_lane lanes cells n j ≡ l → place_of cars k < even_place lanes cells n j
  pub even : EvenUpTo lanes cells n l i (cells_of cells cars)

pub list_none : (lanes cells n l : ℕ) → EvenList lanes cells n l 0 []
list_none lanes cells n l = record { rises = tt; past = λ k h. absurd (omega arith); even = rw (cells_empty 0 cells) (even_none lanes cells n l) }

pub list_skip : (lanes cells n l i : ℕ) (cars : List LaneCar) → EvenList lanes cells n l i cars → even_lane lanes cells n i ≢ l → EvenList lanes cells n l (i + 1) cars
list_skip lanes cells n l i cars e other = record { rises = e.rises; past = λ k h j low. e.past k h j (omega arith); even = even_skip lanes cells n l i (cells_of cells cars) e.even other }

pub list_more : (lanes cells n l i : ℕ) (cars : List LaneCar) (car : LaneCar) → 0 < lanes → n ≤ lanes * cells → i < n → EvenList lanes cells n l i cars → even_lane lanes cells n i ≡ l
    → car ≡ record { number = i; place = even_place lanes cells n i; speed = 0 } → EvenList lanes cells n l (i + 1) (cars ++ car ∷ [])
list_more lanes cells n l i cars car some room low e on is =
    let place : car.place ≡ even_place lanes cells n i = ap (λ (c : LaneCar). c.place) is in
    let positive : 0 < n = omega arith in
    let inside = even_inside lanes cells n i some room low in
    let past : (k : ℕ) → k < length cars → place_of cars k < car.place = λ k h. let a = e.past k h i (omega arith) low on in omega (arith, a, place) in
    record {
      rises = rises_push 0 cells cars car e.rises past (omega arith) (omega (arith, place, inside));
      past = λ k h j later below on_lane. below_push cars car (even_place lanes cells n j) (λ m g. e.past m g j (omega arith) below on_lane)
          (let a = place_rises lanes cells n i j room positive (omega arith) (on ∙ sym on_lane) in omega (arith, a, place)) k h;
      even = subst (EvenUpTo lanes cells n l (i + 1))
          (sym (cells_push cells cars car past (omega (arith, place, inside)) ∙ ap (λ (c : LaneCar). set (cells_of cells cars) c.place (Some (c.number, c.speed))) is))
          (even_more lanes cells n l i (cells_of cells cars) some room low e.even on);
    }

-- a property that every list has still holds after one of the lists was written
written_all : (P : ℕ → List LaneCar → Type 0) (lists : List (Vec LaneCar Global)) (l : ℕ) (v : Vec LaneCar Global) → l < length lists → P l v.items
    → ((k : ℕ) → k < length lists → k ≢ l → P k (list_at lists k)) → (k : ℕ) → k < length lists → P k (list_at (set lists l v) k)
written_all P [] l v inside here other k h = absurd (omega (arith, h))
written_all P (w ∷ lists) zero v inside here other zero h = here
written_all P (w ∷ lists) zero v inside here other (suc k) h = other (suc k) h (λ e. omega (arith, e))
written_all P (w ∷ lists) (suc l) v inside here other zero h = other zero h (λ e. omega (arith, e))
written_all P (w ∷ lists) (suc l) v inside here other (suc k) h =
    written_all (λ j xs. P (suc j) xs) lists l v (omega (arith, inside)) here (λ j low apart. other (suc j) (omega (arith, low)) (λ e. apart (omega (arith, e)))) k (omega (arith, h))

-- the next car belongs at the end of its lane's list
pub lists_more : (lanes cells n i l : ℕ) (lists : List (Vec LaneCar Global)) (v : Vec LaneCar Global) (car : LaneCar) → 0 < lanes → n ≤ lanes * cells → i < n → even_lane lanes cells n i ≡ l → l < length lists
    → ((k : ℕ) → k < length lists → EvenList lanes cells n k i (list_at lists k)) → car ≡ record { number = i; place = even_place lanes cells n i; speed = 0 } → v.items ≡ list_at lists l ++ car ∷ []
    → (k : ℕ) → k < length lists → EvenList lanes cells n k (i + 1) (list_at (set lists l v) k)
lists_more lanes cells n i l lists v car some room low on inside before is added =
    written_all (λ k xs. EvenList lanes cells n k (i + 1) xs) lists l v inside
    (rw added (list_more lanes cells n l i (list_at lists l) car some room low (before l inside) on is))
    (λ k h other. list_skip lanes cells n k i (list_at lists k) (before k h) (λ e. other (sym e ∙ on)))

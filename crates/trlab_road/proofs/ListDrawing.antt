-- Lists from pictures.
use Rattle.std.proofs.Common.{◌≡◌, ◌≢◌, ℕ, ◌+◌, ◌<◌, ◌≤◌, Some, None, List, [], ◌∷◌, ◌++◌, length, get_or}
use Rattle.std.proofs.Common.{drop, eqb, refl, sym, subst, ◌∙◌, ap, arith, add-one, append_assoc, drop-cons}
use Rattle.std.proofs.{Common.{eq-eqb, ne_eqb, append-nil}, lemmas.Bool.{cond-true, cond-false}}
use Rattle.std.proofs.lemmas.List.{length_push, at_drop_all}
use Rattle.trlab_road.specs.Stored.{LaneCar, cells_of, IsSortedFrom, speed_of_character, lane_of_picture}
use Rattle.trlab_road.{specs.{Cells.Lane, Pictures.dot}, proofs.Lists.rises_high}
use Rattle.trlab_road.proofs.ListPush.{cells_none, cells_some, rises_more, rises_push}

-- the cars of the first places are drawn
pub record Drawn (from : ℕ) (picture : List ℕ) (cars : List LaneCar) (number i : ℕ) : Type 0 where
  pub rises : IsSortedFrom 0 i cars
  pub counted : number ≡ from + length cars
  pub few : length cars ≤ i
  pub whole : cells_of i cars ++ lane_of_picture number (drop i picture) ≡ lane_of_picture from picture

-- at the start
pub drawn_none : (from : ℕ) (picture : List ℕ) (cars : List LaneCar) → cars ≡ [] → Drawn from picture cars from 0
drawn_none from picture cars e = rw e (record { rises = tt; counted = omega arith; few = omega arith; whole = refl })

-- at the end
pub drawn_all : (from : ℕ) (picture : List ℕ) (cars : List LaneCar) (number i : ℕ) → Drawn from picture cars number i
    → i ≡ length picture → IsSortedFrom 0 (length picture) cars × (cells_of (length picture) cars ≡ lane_of_picture from picture)
drawn_all from picture cars number i d end = (
  subst (λ k. IsSortedFrom 0 k cars) end d.rises,
  rw (← end) (sym (append-nil (cells_of i cars)) ∙ ap (λ (cs : Lane). cells_of i cars ++ cs) (sym (at_drop_all (lane_of_picture number) picture i (omega (arith, end)))) ∙ d.whole),
)

module _ (from : ℕ) (picture : List ℕ) (cars : List LaneCar) (number i : ℕ) (d : Drawn from picture cars number i) (low : i < length picture) where
  rest : drop i picture ≡ get_or picture i 0 ∷ drop (i + 1) picture
  rest = rw (add-one, drop-cons picture i 0) refl

  pub drawn_skip : get_or picture i 0 ≡ dot → Drawn from picture cars number (i + 1)
  drawn_skip e = record {
    rises = rises_more 0 i (i + 1) cars (omega arith) d.rises;
    counted = d.counted;
    few = (let a = d.few in omega arith);
    whole = ap (λ (cs : Lane). cs ++ lane_of_picture number (drop (i + 1) picture)) (cells_none i cars d.rises) ∙ append_assoc (cells_of i cars) (None ∷ []) (lane_of_picture number (drop (i + 1) picture))
        ∙ ap (λ (cs : Lane). cells_of i cars ++ cs) (sym (ap (lane_of_picture number) rest ∙ cond-true (eqb (get_or picture i 0) dot) _ _ (eq-eqb _ _ e)))
        ∙ d.whole;
  }

  pub drawn_more : (car : LaneCar) → get_or picture i 0 ≢ dot → car ≡ record { number = number; place = i; speed = speed_of_character (get_or picture i 0) } → Drawn from picture (cars ++ car ∷ []) (number + 1) (i + 1)
  drawn_more car e is =
      let at_i : car.place ≡ i = ap (λ (c : LaneCar). c.place) is in
      let size = length_push cars car in
      record {
        rises = rises_push 0 (i + 1) cars car (rises_more 0 i (i + 1) cars (omega arith) d.rises) (λ k h. let a = rises_high 0 i cars k d.rises h in omega (arith, a, at_i)) (omega arith) (omega (arith, at_i));
        counted = (let a = d.counted in omega (arith, a, size));
        few = (let a = d.few in omega (arith, a, size));
        whole = ap (λ (cs : Lane). cs ++ lane_of_picture (number + 1) (drop (i + 1) picture)) (cells_some i cars car d.rises at_i) ∙ append_assoc (cells_of i cars) (Some (car.number, car.speed) ∷ []) (lane_of_picture (number + 1) (drop (i + 1) picture))
            ∙ ap (λ (cs : Lane). cells_of i cars ++ cs) (ap (λ (c : LaneCar). Some (c.number, c.speed) ∷ lane_of_picture (number + 1) (drop (i + 1) picture)) is
            ∙ ap (λ m. Some (number, speed_of_character (get_or picture i 0)) ∷ lane_of_picture m (drop (i + 1) picture)) (add-one number)
            ∙ sym (ap (lane_of_picture number) rest ∙ cond-false (eqb (get_or picture i 0) dot) _ _ (ne_eqb _ _ e)))
            ∙ d.whole;
      }

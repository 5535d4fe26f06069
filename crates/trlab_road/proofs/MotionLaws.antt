-- Properties of the motion phase, for any code that writes the new road.
use Rattle.std.proofs.Common.{◌≡◌, ◌≢◌, ℕ, suc, ◌<◌, ◌≤◌, cond, Some, None, List, [], ◌∷◌, length, get_or}
use Rattle.std.proofs.Common.{set, refl, sym, ◌∙◌, ap, subst, inl, inr, arith, is_some, sum_by, ext_get_or}
use Rattle.std.proofs.{Common.get_or-set_other, lemmas.{Bool.cases_lt, List.get_or_past}}
use Rattle.std.proofs.lemmas.List.Sums.{sum_by-set, sum_by-cons}
use Rattle.trlab_road.proofs.Ring.{Apart, car_in, inside, clear_within_gap, apart_within_gaps}
use Rattle.trlab_road.specs.Cells.{Cell, Lane, Cells, at, cell, lane_of, cars, lane_car_count, IsLegal}
use Rattle.trlab_road.specs.{Cells.{LanesFit, LengthFits, LimitFits}, Gaps.ahead}
use Rattle.trlab_road.specs.Motion.{LaneMoves, Moves, LaneFits, Fits, IsCleanLaneMotion, IsCleanMotion}

-- the motion of a lane has only one result
same_cell : (c d : Cell) → ((number speed : ℕ) → c ≡ Some (number, speed) → d ≡ Some (number, speed))
    → ((number speed : ℕ) → d ≡ Some (number, speed) → c ≡ Some (number, speed)) → c ≡ d
same_cell None None f g = refl
same_cell None (Some car) f g = g car.0 car.1 refl
same_cell (Some car) d f g = sym (f car.0 car.1 refl)

goes_over : (answer : ℕ → ℕ) (old new other : Lane) → LaneMoves answer old new
    → LaneMoves answer old other → (y number speed : ℕ) → at new y ≡ Some (number, speed)
    → at other y ≡ Some (number, speed)
goes_over answer old new other m n y number speed h =
    let came = m.nothing_else y number speed h in
    let from = came.1.1 in
    subst (λ k. at other k ≡ Some (number, speed)) (sym from.reaches)
    (subst (λ v. at other (ahead (length old) came.0 (answer came.0)) ≡ Some (number, v)) (sym from.at_speed) (n.arrives came.0 number came.1.0 from.was))

pub one_lane_only : (answer : ℕ → ℕ) (old new other : Lane) → LaneMoves answer old new
    → LaneMoves answer old other → new ≡ other
one_lane_only answer old new other m n =
    ext_get_or None new other (m.same_length ∙ sym n.same_length)
    (λ i h. same_cell (at new i) (at other i) (λ number speed. goes_over answer old new other m n i number speed) (λ number speed. goes_over answer old other new n m i number speed))

-- if each car of a lane corresponds to a car of its own on another lane, the other lane has no fewer cars
pub fewer_cars : (xs ys : Lane) (R : ℕ → ℕ → Type 0) →
    ((x : ℕ) (a : ℕ × ℕ) → at xs x ≡ Some a → (y : ℕ) × ((b : ℕ × ℕ) × (at ys y ≡ Some b) × R x y)) →
    ((x z y : ℕ) → R x y → R z y → x ≡ z) →
    lane_car_count xs ≤ lane_car_count ys
fewer_cars [] ys R partner own = omega arith
fewer_cars (None ∷ xs) ys R partner own = fewer_cars xs ys (λ x y. R (suc x) y) (λ x a h. partner (suc x) a h) (λ x z y h k. let e = own (suc x) (suc z) y h k in omega arith)
fewer_cars (Some a ∷ xs) ys R partner own =
    let p = partner 0 a refl in
    let y = p.0 in
    let there = p.1.1 in
    let less : Lane = set ys y None in
    let rest = fewer_cars xs less (λ x z. R (suc x) z)
    (λ x b h. let q = partner (suc x) b h in
    (q.0, (q.1.0, (let ne : q.0 ≢ y = λ e. let w = own (suc x) 0 y (subst (λ k. R (suc x) k) e q.1.2) p.1.2 in absurd (omega arith) in get_or-set_other ys y q.0 None None ne ∙ q.1.1), q.1.2)))
    (λ x z w h k. let e = own (suc x) (suc z) w h k in omega arith) in
    let counts = sum_by-set (λ c. cond (is_some c) 1 0) ys y None None (inside ys y p.1.0 there) in
    let one = rw there at counts in
    let head = sum_by-cons (λ (c : Cell). cond (is_some c) 1 0) (Some a) xs in
    omega (arith, one, head)

-- the motion of a lane keeps the number of its cars
pub lane_same_count : (answer : ℕ → ℕ) (old new : Lane) → LaneMoves answer old new → Apart answer old
    → lane_car_count new ≡ lane_car_count old
lane_same_count answer old new m far =
    let Goes : ℕ → ℕ → Type 0 = λ x y. (number : ℕ) × ((before : ℕ) × ((at old x ≡ Some (number, before)) × (y ≡ ahead (length old) x (answer x)))) in
    let no_fewer : lane_car_count old ≤ lane_car_count new =
    fewer_cars old new Goes
    (λ x a h. (ahead (length old) x (answer x), ((a.0, answer x), m.arrives x a.0 a.1 h, (a.0, (a.1, (h, refl))))))
    (λ x z y h k. far.apart x z h.0 k.0 h.1.0 k.1.0 h.1.1.0 k.1.1.0 (sym h.1.1.1 ∙ k.1.1.1)) in
    let no_more : lane_car_count new ≤ lane_car_count old =
    fewer_cars new old (λ y x. y ≡ ahead (length old) x (answer x))
    (λ y a h. let came = m.nothing_else y a.0 a.1 h in (came.0, ((a.0, came.1.0), came.1.1.was, came.1.1.reaches)))
    (λ y z x h k. h ∙ sym k) in
    omega arith

pair_path : {a b x y : ℕ} → a ≡ b → x ≡ y → ◌≡◌ {A = ℕ × ℕ} (a, x) (b, y)
pair_path e f = cc

-- the motion of a lane is clean if each answer is within its gap
pub lane_clean : (answer : ℕ → ℕ) (old new : Lane) → LaneMoves answer old new → LaneFits answer old
    → IsCleanLaneMotion old new
lane_clean answer old new m within = record {
  same_count = lane_same_count answer old new m (apart_within_gaps answer old within);
  none_lost = λ x number before h. (answer x, record { arrives = m.arrives x number before h; over_empty = clear_within_gap old x (answer x) (within.gaps x number before h) });
  none_made = λ y number speed h. let came = m.nothing_else y number speed h in (came.0, (came.1.0, came.1.1.was));
}

-- an occupied cell is on a lane of the road
pub on_lane : (road : Cells) (l x : ℕ) (car : ℕ × ℕ) → cell road l x ≡ Some car → l < length road.lanes
on_lane road l x car h =
    elim (cases_lt l (length road.lanes)) [
      | inl below ↦ below
      | inr past ↦ let e = get_or_past road.lanes l [] past in let f : at [] x ≡ Some car = subst (λ k. at k x ≡ Some car) e h in absurd cc
    ]

-- two lists of lanes with the same cars on each lane have the same cars
same_sum : (xs ys : List Lane) → length ys ≡ length xs
    → ((l : ℕ) → l < length xs → lane_car_count (get_or ys l []) ≡ lane_car_count (get_or xs l []))
    → sum_by lane_car_count ys ≡ sum_by lane_car_count xs
same_sum [] [] e h = refl
same_sum [] (y ∷ ys) e h = absurd (omega arith)
same_sum (x ∷ xs) [] e h = absurd (omega arith)
same_sum (x ∷ xs) (y ∷ ys) e h =
    let first : lane_car_count y ≡ lane_car_count x = h 0 (omega arith) in
    let rest = same_sum xs ys (omega arith) (λ l k. h (suc l) (omega arith)) in
    let a = sum_by-cons lane_car_count x xs in
    let b = sum_by-cons lane_car_count y ys in
    omega arith

module _ (answer : ℕ → ℕ → ℕ) (old new : Cells) (legal : IsLegal old) (m : Moves answer old new) (within : Fits answer old) where
  pub moves_clean : IsCleanMotion old new
  moves_clean = record {
    same_lanes = m.same_lanes;
    each_lane = λ l h. lane_clean (answer l) (lane_of old l) (lane_of new l) (m.each_lane l h) (within.each_lane l h);
  }

  pub moves_same_count : cars new ≡ cars old
  moves_same_count = same_sum old.lanes new.lanes m.same_lanes (λ l h. (moves_clean.each_lane l h).same_count)

  lane_moves : (l x : ℕ) (car : ℕ × ℕ) → cell new l x ≡ Some car
      → LaneMoves (answer l) (lane_of old l) (lane_of new l)
  lane_moves l x car h = m.each_lane l (let k = on_lane new l x car h in let e = m.same_lanes in omega arith)

  -- the motion phase keeps a road legal
  pub moved_legal : IsLegal new
  moved_legal =
      let first = m.each_lane 0 legal.shape.lanes.some_lane in
      record {
        shape = record {
          lanes = subst LanesFit (sym m.same_lanes) legal.shape.lanes;
          cells = subst LengthFits (sym first.same_length) legal.shape.cells;
          equal = λ l h. let k : l < length old.lanes = rw m.same_lanes at h in (m.each_lane l k).same_length ∙ legal.shape.equal l k ∙ sym first.same_length;
          limit = subst LimitFits (sym m.same_limit) legal.shape.limit;
        };
        within_limit = λ car h.
            let came = (lane_moves car.lane car.place (car.number, car.speed) h).nothing_else car.place car.number car.speed h in
            let bound = within.within_limit (car_in car.lane came.0 car.number came.1.0) came.1.1.was in
            rw (m.same_limit, came.1.1.at_speed) bound;
        numbered = λ car h.
            let came = (lane_moves car.lane car.place (car.number, car.speed) h).nothing_else car.place car.number car.speed h in
            rw moves_same_count (legal.numbered (car_in car.lane came.0 car.number came.1.0) came.1.1.was);
        once = λ car other h g same_number.
            let a = (lane_moves car.lane car.place (car.number, car.speed) h).nothing_else car.place car.number car.speed h in
            let b = (lane_moves other.lane other.place (other.number, other.speed) g).nothing_else other.place other.number other.speed g in
            let same = legal.once (car_in car.lane a.0 car.number a.1.0) (car_in other.lane b.0 other.number b.1.0) a.1.1.was b.1.1.was same_number in
            (same.0, a.1.1.reaches ∙ ap (λ (p : ℕ × ℕ). ahead (length (lane_of old p.0)) p.1 (answer p.0 p.1)) (pair_path same.0 same.1) ∙ sym b.1.1.reaches);
      }

abbrev made : ℕ → List Lane → Cells
made limit lanes = record { limit = limit; lanes = lanes }

-- the motion phase has only one result
pub one_road_only : (answer : ℕ → ℕ → ℕ) (old new other : Cells) → Moves answer old new
    → Moves answer old other → new ≡ other
one_road_only answer old new other m n =
    let lanes : new.lanes ≡ other.lanes =
    ext_get_or [] new.lanes other.lanes (m.same_lanes ∙ sym n.same_lanes)
    (λ l h. let k : l < length old.lanes = rw m.same_lanes at h in one_lane_only (answer l) (lane_of old l) (lane_of new l) (lane_of other l) (m.each_lane l k) (n.each_lane l k)) in
    let limit : new.limit ≡ other.limit = m.same_limit ∙ sym n.same_limit in
    ap (λ (p : ℕ). made p new.lanes) limit ∙ ap (made other.limit) lanes

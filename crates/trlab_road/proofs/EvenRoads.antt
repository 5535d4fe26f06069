-- Evenly spread cars give exactly one legal road, and it has all of the cars.
use Rattle.std.proofs.Common.{◌≡◌, ◌≢◌, ℕ, ◌<◌, ◌≤◌, Some, None, List, [], length, get_or, replicate, map}
use Rattle.std.proofs.Common.{refl, sym, ◌∙◌, ap, subst, arith, mod-lt, ext_get_or}
use Rattle.std.proofs.lemmas.{List.length-replicate, Option.some_pair_parts}
use Rattle.trlab_road.specs.declared.{car.Car.Car, fault.RoadFault.{RoadFault, TheVariants.{Lanes, Length}}}
use Rattle.trlab_road.specs.declared.fault.RoadFault.TheVariants.{Limit, Character, SpeedAboveLimit, Memory}
use Rattle.trlab_road.specs.{declared.fault.RoadFault.TheVariants.TooManyCars, Cells.{HasNumber, Cell, Lane}}
use Rattle.trlab_road.specs.Cells.{Cells, at, cell, lane_of, cars, IsAt, IsLegal, LanesFit, LengthFits}
use Rattle.trlab_road.specs.{Cells.{LimitFits, standing, rank}, Spreading.{even_lane, even_place}}
use Rattle.trlab_road.specs.Spreading.{IsEvenlySpacedAt, IsEvenlySpacedLane, IsEvenlySpaced, CanSpread}
use Rattle.trlab_road.{specs.Spreading.IsEvenSpacingFault, proofs.{Ring.{inside, car_in}, MotionLaws.on_lane}}
use Rattle.trlab_road.proofs.{MotionLaws.fewer_cars, StandingOrder.{get_or-map_in, standing_rank}}
use Rattle.trlab_road.proofs.StandingOrder.{standing_cell, rank_below_cars, length-standing_from_lane, car_of}
use Rattle.trlab_road.proofs.Numbers.{car_cell, all_taken, full, no_one, no_more_cars}

-- if each number below n has a car, there are at least n cars
enough_cars : (road : Cells) (n : ℕ) → ((number : ℕ) → number < n → HasNumber road number)
    → n ≤ cars road
unfolding car_of
enough_cars road n all =
    let d : Car = record { number = 0; lane = 0; place = 0; speed = 0 } in
    let numbers : Lane = replicate n (Some (0, 0)) in
    let k = fewer_cars numbers (map car_cell (standing road)) (λ x y. (get_or (standing road) y d).number ≡ x)
    (λ x a h.
    let size : length numbers ≡ n = length-replicate n (Some (0, 0)) in
    let on = inside numbers x a h in
    let s = all x (omega arith) in
    let l = s.0.lane in
    let p = s.0.place in
    let v = s.0.speed in
    let here : cell road l p ≡ Some (x, v) = subst (λ (i : ℕ). cell road l p ≡ Some (i, v)) s.1.1 s.1.0 in
    let r = rank road l p in
    let low = rank_below_cars road l p (x, v) here in
    let within : r < length (standing road) = rw length-standing_from_lane low in
    let e = standing_rank road l p x v d here in
    (r, ((x, v), get_or-map_in car_cell (standing road) r d None within ∙ ap car_cell e, ap (λ (car : Car). car.number) e)))
    (λ x z y h g. sym h ∙ g) in
    let a = full n in
    let b = all_taken (standing road) in
    let e = length-standing_from_lane 0 road.lanes in
    omega (arith, k, a, b, e)

module _ (lanes cells limit n : ℕ) (road : Cells) (fits : CanSpread lanes cells limit n) (e : IsEvenlySpaced lanes cells limit n road) where
  -- each number below n has its car
  pub even_stands : (i : ℕ) → i < n → HasNumber road i
  even_stands i low =
      let on : even_lane lanes cells n i < lanes = mod-lt _ fits.lanes_fit.some_lane in
      (car_in (even_lane lanes cells n i) (even_place lanes cells n i) i 0, ((e.each_lane (even_lane lanes cells n i) on).stands i low refl, refl))

  lane_at : (l x : ℕ) (car : ℕ × ℕ) → cell road l x ≡ Some car → IsEvenlySpacedLane lanes cells n l (lane_of road l)
  lane_at l x car h = e.each_lane l (rw e.same_lanes at (on_lane road l x car h))

  car_at : (l x number speed : ℕ) → cell road l x ≡ Some (number, speed) → IsEvenlySpacedAt lanes cells n number l x
  car_at l x number speed h = (lane_at l x (number, speed) h).nothing_else x number speed h

  car_stands : (l x number speed : ℕ) → cell road l x ≡ Some (number, speed) → speed ≡ 0
  car_stands l x number speed h =
      let at_home = car_at l x number speed h in
      let here = (lane_at l x (number, speed) h).stands number at_home.numbered at_home.on_lane in
      let there : cell road l x ≡ Some (number, 0) = subst (λ (y : ℕ). cell road l y ≡ Some (number, 0)) at_home.at_place here in
      (some_pair_parts number number speed 0 (sym h ∙ there)).1

  once : (car other : Car) → IsAt road car → IsAt road other → car.number ≡ other.number → (car.lane ≡ other.lane) × (car.place ≡ other.place)
  once car other h g same =
      let a = car_at car.lane car.place car.number car.speed h in
      let b = car_at other.lane other.place other.number other.speed g in
      (sym a.on_lane ∙ ap (even_lane lanes cells n) same ∙ b.on_lane, sym a.at_place ∙ ap (even_place lanes cells n) same ∙ b.at_place)

  -- evenly spread cars make a legal road
  pub even_legal : IsLegal road
  even_legal =
      let first = (e.each_lane 0 fits.lanes_fit.some_lane).same_length in
      record {
        shape = record {
          lanes = subst LanesFit (sym e.same_lanes) fits.lanes_fit;
          cells = subst LengthFits (sym first) fits.length_fits;
          equal = λ l h. let k : l < lanes = rw e.same_lanes at h in (e.each_lane l k).same_length ∙ sym first;
          limit = subst LimitFits (sym e.same_limit) fits.limit_fits;
        };
        within_limit = λ car h. let z = car_stands car.lane car.place car.number car.speed h in omega arith;
        numbered = λ car h.
            let low = (car_at car.lane car.place car.number car.speed h).numbered in
            let k = enough_cars road n even_stands in
            omega arith;
        once = once;
      }

  -- the road has all of the cars, and no others
  pub even_count : cars road ≡ n
  even_count =
      let enough = enough_cars road n even_stands in
      let most = no_more_cars road even_legal n (λ k low.
      let car = get_or (standing road) k no_one in
      (car_at car.lane car.place car.number car.speed (standing_cell road k no_one low)).numbered) in
      omega (arith, enough, most)

-- lanes with the same evenly spread cars have the same cells
same_cell : (lanes cells n l : ℕ) (lane other : Lane) → IsEvenlySpacedLane lanes cells n l lane → IsEvenlySpacedLane lanes cells n l other
    → (x : ℕ) (c d : Cell) → at lane x ≡ c → at other x ≡ d → c ≡ d
same_cell lanes cells n l lane other p q x None None h g = refl
same_cell lanes cells n l lane other p q x (Some car) d h g =
    let home = p.nothing_else x car.0 car.1 h in
    let mine : at lane x ≡ Some (car.0, 0) = subst (λ (y : ℕ). at lane y ≡ Some (car.0, 0)) home.at_place (p.stands car.0 home.numbered home.on_lane) in
    let same : at other x ≡ Some (car.0, 0) = subst (λ (y : ℕ). at other y ≡ Some (car.0, 0)) home.at_place (q.stands car.0 home.numbered home.on_lane) in
    sym h ∙ mine ∙ sym same ∙ g
same_cell lanes cells n l lane other p q x None (Some car) h g =
    let home = q.nothing_else x car.0 car.1 g in
    let mine : at lane x ≡ Some (car.0, 0) = subst (λ (y : ℕ). at lane y ≡ Some (car.0, 0)) home.at_place (p.stands car.0 home.numbered home.on_lane) in
    absurd cc

abbrev made : ℕ → List Lane → Cells
made limit lanes = record { limit = limit; lanes = lanes }

-- evenly spread cars give only one road
pub one_even : (lanes cells limit n : ℕ) (road other : Cells) → IsEvenlySpaced lanes cells limit n road
    → IsEvenlySpaced lanes cells limit n other → road ≡ other
one_even lanes cells limit n road other p q =
    let same : road.lanes ≡ other.lanes =
    ext_get_or [] road.lanes other.lanes (p.same_lanes ∙ sym q.same_lanes)
    (λ l h.
    let k : l < lanes = rw p.same_lanes at h in
    let a = p.each_lane l k in
    let b = q.each_lane l k in
    ext_get_or None (lane_of road l) (lane_of other l) (a.same_length ∙ sym b.same_length)
    (λ x g. same_cell lanes cells n l (lane_of road l) (lane_of other l) a b x (cell road l x) (cell other l x) refl refl)) in
    ap (λ (k : ℕ). made k road.lanes) (p.same_limit ∙ sym q.same_limit) ∙ ap (made other.limit) same

-- a request that fits has no fault
pub no_fault : (lanes cells limit n : ℕ) (fault : RoadFault) → CanSpread lanes cells limit n
    → IsEvenSpacingFault lanes cells limit n fault → fault ≡ Memory
no_fault lanes cells limit n Lanes fits h = absurd (h fits.lanes_fit)
no_fault lanes cells limit n Length fits h = absurd (h.1 fits.length_fits)
no_fault lanes cells limit n Limit fits h = absurd (h.2 fits.limit_fits)
no_fault lanes cells limit n TooManyCars fits h = absurd (let few = h.3 in let room = fits.room in omega (arith, few, room))
no_fault lanes cells limit n (Character l x) fits h = absurd h
no_fault lanes cells limit n (SpeedAboveLimit l x) fits h = absurd h
no_fault lanes cells limit n Memory fits h = refl

-- two faults are equal, unless an allocation fails
pub one_fault : (lanes cells limit n : ℕ) (fault other : RoadFault)
    → IsEvenSpacingFault lanes cells limit n fault → IsEvenSpacingFault lanes cells limit n other
    → fault ≢ Memory → other ≢ Memory → fault ≡ other
one_fault lanes cells limit n Lanes Lanes f g p q = refl
one_fault lanes cells limit n Lanes Length f g p q = absurd (f g.0)
one_fault lanes cells limit n Lanes Limit f g p q = absurd (f g.0)
one_fault lanes cells limit n Lanes TooManyCars f g p q = absurd (f g.0)
one_fault lanes cells limit n Lanes (Character m y) f g p q = absurd g
one_fault lanes cells limit n Lanes (SpeedAboveLimit m y) f g p q = absurd g
one_fault lanes cells limit n Lanes Memory f g p q = absurd (q refl)
one_fault lanes cells limit n Length Lanes f g p q = absurd (g f.0)
one_fault lanes cells limit n Length Length f g p q = refl
one_fault lanes cells limit n Length Limit f g p q = absurd (f.1 g.1)
one_fault lanes cells limit n Length TooManyCars f g p q = absurd (f.1 g.1)
one_fault lanes cells limit n Length (Character m y) f g p q = absurd g
one_fault lanes cells limit n Length (SpeedAboveLimit m y) f g p q = absurd g
one_fault lanes cells limit n Length Memory f g p q = absurd (q refl)
one_fault lanes cells limit n Limit Lanes f g p q = absurd (g f.0)
one_fault lanes cells limit n Limit Length f g p q = absurd (g.1 f.1)
one_fault lanes cells limit n Limit Limit f g p q = refl
one_fault lanes cells limit n Limit TooManyCars f g p q = absurd (f.2 g.2)
one_fault lanes cells limit n Limit (Character m y) f g p q = absurd g
one_fault lanes cells limit n Limit (SpeedAboveLimit m y) f g p q = absurd g
one_fault lanes cells limit n Limit Memory f g p q = absurd (q refl)
one_fault lanes cells limit n TooManyCars Lanes f g p q = absurd (g f.0)
one_fault lanes cells limit n TooManyCars Length f g p q = absurd (g.1 f.1)
one_fault lanes cells limit n TooManyCars Limit f g p q = absurd (g.2 f.2)
one_fault lanes cells limit n TooManyCars TooManyCars f g p q = refl
one_fault lanes cells limit n TooManyCars (Character m y) f g p q = absurd g
one_fault lanes cells limit n TooManyCars (SpeedAboveLimit m y) f g p q = absurd g
one_fault lanes cells limit n TooManyCars Memory f g p q = absurd (q refl)
one_fault lanes cells limit n (Character l x) Lanes f g p q = absurd f
one_fault lanes cells limit n (Character l x) Length f g p q = absurd f
one_fault lanes cells limit n (Character l x) Limit f g p q = absurd f
one_fault lanes cells limit n (Character l x) TooManyCars f g p q = absurd f
one_fault lanes cells limit n (Character l x) (Character m y) f g p q = absurd f
one_fault lanes cells limit n (Character l x) (SpeedAboveLimit m y) f g p q = absurd f
one_fault lanes cells limit n (Character l x) Memory f g p q = absurd f
one_fault lanes cells limit n (SpeedAboveLimit l x) Lanes f g p q = absurd f
one_fault lanes cells limit n (SpeedAboveLimit l x) Length f g p q = absurd f
one_fault lanes cells limit n (SpeedAboveLimit l x) Limit f g p q = absurd f
one_fault lanes cells limit n (SpeedAboveLimit l x) TooManyCars f g p q = absurd f
one_fault lanes cells limit n (SpeedAboveLimit l x) (Character m y) f g p q = absurd f
one_fault lanes cells limit n (SpeedAboveLimit l x) (SpeedAboveLimit m y) f g p q = absurd f
one_fault lanes cells limit n (SpeedAboveLimit l x) Memory f g p q = absurd f
one_fault lanes cells limit n Memory Lanes f g p q = absurd (p refl)
one_fault lanes cells limit n Memory Length f g p q = absurd (p refl)
one_fault lanes cells limit n Memory Limit f g p q = absurd (p refl)
one_fault lanes cells limit n Memory TooManyCars f g p q = absurd (p refl)
one_fault lanes cells limit n Memory (Character m y) f g p q = absurd (p refl)
one_fault lanes cells limit n Memory (SpeedAboveLimit m y) f g p q = absurd (p refl)
one_fault lanes cells limit n Memory Memory f g p q = absurd (p refl)

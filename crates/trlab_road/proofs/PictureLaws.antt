-- Roads from pictures: pictures show one legal road.
use Rattle.std.proofs.Common.{◌≡◌, ◌≢◌, ℕ, zero, suc, ◌+◌, ◌<◌, ◌≤◌, true, false, Option, Some, None, List}
use Rattle.std.proofs.Common.{[], ◌∷◌, ◌++◌, length, get_or, take, drop, map, refl, sym, ◌∙◌, ap, subst, inl}
use Rattle.std.proofs.Common.{inr, arith, Bor, nat_eq, is_some, sum_by, ne_eqb, take_at, drop_at}
use Rattle.std.proofs.lemmas.{Bool.{cases_order, cond-true, cond-false, Decides.eqb_tells}, List.length-map}
use Rattle.std.proofs.lemmas.List.{map-append, FromFn.{get_or-range_with_len, length-range_with_len}}
use Rattle.std.{proofs.lemmas.List.Sums.{sum_by-cons, count_by-le-length}, specs.List.range_with_len}
use Rattle.trlab_road.specs.declared.fault.RoadFault.{RoadFault, TheVariants.{Lanes, Length, Limit}}
use Rattle.trlab_road.specs.declared.fault.RoadFault.TheVariants.{Character, SpeedAboveLimit, Memory}
use Rattle.trlab_road.specs.{declared.{fault.RoadFault.TheVariants.TooManyCars, car.Car.Car}, Cells.Cell}
use Rattle.trlab_road.specs.Cells.{Lane, Cells, cell, lane_of, cars, lane_car_count, IsLegal, LanesFit}
use Rattle.trlab_road.specs.Cells.{LengthFits, LimitFits, standing_from, standing_from_lane, standing, rank}
use Rattle.trlab_road.specs.Pictures.{ShowsSpeed, dot, speed_character, character, picture, PicturesShow}
use Rattle.trlab_road.specs.Pictures.{picture_at, character_at, ShowsCell, AreValidPictures}
use Rattle.trlab_road.specs.{Pictures.{IsFirstBadCharacter, IsFirstPictureFault}, Stored.speed_of_character}
use Rattle.trlab_road.{specs.Stored.{lane_of_picture, lanes_of_pictures}, proofs.Characters.character_back}
use Rattle.trlab_road.proofs.{Characters.{no_point, one_speed, speed_back}, Ring.{inside, car_in}}
use Rattle.trlab_road.proofs.{MotionLaws.on_lane, StandingOrder.{get_or-map_in, standing_rank}}
use Rattle.trlab_road.proofs.StandingOrder.{rank_below_cars, length-standing_from, length-standing_from_lane}
use Rattle.trlab_road.proofs.StandingOrder.{lane_car_count-some, car_of}
use Rattle.trlab_bounds.specs.declared.roads.TheConstants.{MAX_LIMIT}

-- the picture at an index of a list of pictures
pub picture_read : (ps : List (Bor (List ℕ))) (l : ℕ) → picture_at (map (λ s. s.now) ps) l ≡ (get_or ps l (record { ref_ptr = (0, 0); now = [] })).now
picture_read [] l = refl
picture_read (p ∷ ps) zero = refl
picture_read (p ∷ ps) (suc l) = picture_read ps l

abbrev pub number_of : Car → ℕ
number_of car = car.number

cons_path : {X : Type 0} {a b : X} {xs ys : List X} → a ≡ b → xs ≡ ys → a ∷ xs ≡ b ∷ ys
cons_path e f = cc

-- a dot draws an empty cell, any other byte a car
drawn_point : (n byte : ℕ) (bytes : List ℕ) → nat_eq byte dot ≡ true
    → lane_of_picture n (byte ∷ bytes) ≡ None ∷ lane_of_picture n bytes
drawn_point n byte bytes h = cond-true (nat_eq byte dot) (None ∷ lane_of_picture n bytes) (Some (n, speed_of_character byte) ∷ lane_of_picture (suc n) bytes) h

drawn_car : (n byte : ℕ) (bytes : List ℕ) → nat_eq byte dot ≡ false
    → lane_of_picture n (byte ∷ bytes) ≡ Some (n, speed_of_character byte) ∷ lane_of_picture (suc n) bytes
drawn_car n byte bytes h = cond-false (nat_eq byte dot) (None ∷ lane_of_picture n bytes) (Some (n, speed_of_character byte) ∷ lane_of_picture (suc n) bytes) h

back_again : (limit byte : ℕ) → ShowsCell limit byte → byte ≢ dot → speed_character (speed_of_character byte) ≡ byte
back_again limit byte (inl e) n = absurd (n e)
back_again limit byte (inr d) n = character_back limit byte d

-- drawing a valid picture gives back the picture
pub picture_drawn : (limit n : ℕ) (bytes : List ℕ)
    → ((x : ℕ) → x < length bytes → ShowsCell limit (get_or bytes x 0))
    → picture (lane_of_picture n bytes) ≡ bytes
picture_drawn limit n [] h = refl
picture_drawn limit n (byte ∷ bytes) h =
    elim (eqb_tells byte dot) [
      | inl w ↦ ap picture (drawn_point n byte bytes w.0) ∙ cons_path (sym w.1) (picture_drawn limit n bytes (λ x k. h (suc x) (omega arith)))
      | inr w ↦ ap picture (drawn_car n byte bytes w.0) ∙ cons_path (back_again limit byte (h 0 (omega arith)) w.1) (picture_drawn limit (suc n) bytes (λ x k. h (suc x) (omega arith)))
    ]

-- the drawn cars are numbered in order
numbers_from : (l x n : ℕ) (bytes : List ℕ)
    → map number_of (standing_from l x (lane_of_picture n bytes)) ≡ range_with_len n (lane_car_count (lane_of_picture n bytes))
numbers_from l x n [] = refl
numbers_from l x n (byte ∷ bytes) =
    elim (eqb_tells byte dot) [
      | inl w ↦ let e = drawn_point n byte bytes w.0 in
          ap (λ (lane : Lane). map number_of (standing_from l x lane)) e ∙ numbers_from l (suc x) n bytes ∙ ap (λ (lane : Lane). range_with_len n (lane_car_count lane)) (sym e)
      | inr w ↦ let e = drawn_car n byte bytes w.0 in
          let rest = lane_of_picture (suc n) bytes in
          let one : suc n ≡ n + 1 = omega arith in
          ap (λ (lane : Lane). map number_of (standing_from l x lane)) e
          ∙ cons_path refl (numbers_from l (suc x) (suc n) bytes ∙ ap (λ k. range_with_len k (lane_car_count rest)) one)
          ∙ ap (range_with_len n) (sym (lane_car_count-some (n, speed_of_character byte) rest))
          ∙ ap (λ (lane : Lane). range_with_len n (lane_car_count lane)) (sym e)
    ]

range_append : (n c d : ℕ) → range_with_len n c ++ range_with_len (n + c) d ≡ range_with_len n (c + d)
range_append n zero d =
    let e : n + 0 ≡ n = omega arith in
    let f : d ≡ 0 + d = omega arith in
    ap (λ k. range_with_len k d) e ∙ ap (range_with_len n) f
range_append n (suc c) d =
    let e : n + suc c ≡ n + 1 + c = omega arith in
    let f : suc (c + d) ≡ suc c + d = omega arith in
    cons_path refl (ap (λ k. range_with_len (n + 1) c ++ range_with_len k d) e ∙ range_append (n + 1) c d) ∙ ap (range_with_len n) f

numbers_lanes : (l n : ℕ) (ps : List (List ℕ))
    → map number_of (standing_from_lane l (lanes_of_pictures n ps)) ≡ range_with_len n (sum_by lane_car_count (lanes_of_pictures n ps))
numbers_lanes l n [] = refl
numbers_lanes l n (bytes ∷ ps) =
    let lane = lane_of_picture n bytes in
    let c = lane_car_count lane in
    let rest = lanes_of_pictures (n + c) ps in
    let e = sum_by-cons lane_car_count lane rest in
    map-append number_of (standing_from l 0 lane) (standing_from_lane (suc l) rest)
    ∙ ap (λ xs. xs ++ map number_of (standing_from_lane (suc l) rest)) (numbers_from l 0 n bytes)
    ∙ ap (λ xs. range_with_len n c ++ xs) (numbers_lanes (suc l) (n + c) ps)
    ∙ range_append n c (sum_by lane_car_count rest) ∙ ap (range_with_len n) (sym e)

picture_lanes : (limit n : ℕ) (ps : List (List ℕ))
    → ((l x : ℕ) → l < length ps → x < length (picture_at ps l) → ShowsCell limit (character_at ps l x))
    → map picture (lanes_of_pictures n ps) ≡ ps
picture_lanes limit n [] h = refl
picture_lanes limit n (bytes ∷ ps) h =
    cons_path (picture_drawn limit n bytes (λ x k. h 0 x (omega arith) k))
    (picture_lanes limit (n + lane_car_count (lane_of_picture n bytes)) ps (λ l x low k. h (suc l) x (omega arith) k))

-- valid pictures show the road that is drawn from them
pub draws : (limit : ℕ) (ps : List (List ℕ)) → AreValidPictures limit ps → PicturesShow limit ps (record { limit = limit; lanes = lanes_of_pictures 0 ps })
draws limit ps good = record {
  same_limit = refl;
  drawn = picture_lanes limit 0 ps good.cells;
  numbered = record { numbers = numbers_lanes 0 0 ps };
}

same_some : {a b u v : ℕ} → a ≡ b → u ≡ v → ◌≡◌ {A = Option (ℕ × ℕ)} (Some (a, u)) (Some (b, v))
same_some e f = cc

-- a lane whose cars are numbered in order is drawn from its picture
lane_back : (l x n : ℕ) (lane : Lane)
    → map number_of (standing_from l x lane) ≡ range_with_len n (lane_car_count lane)
    → lane_of_picture n (picture lane) ≡ lane
lane_back l x n [] h = refl
lane_back l x n (None ∷ lane) h = ap (λ (xs : Lane). None ∷ xs) (lane_back l (suc x) n lane h)
lane_back l x n (Some car ∷ lane) h =
    let h2 : car.0 ∷ map number_of (standing_from l (suc x) lane) ≡ n ∷ range_with_len (n + 1) (lane_car_count lane) = h ∙ ap (range_with_len n) (lane_car_count-some car lane) in
    let first : car.0 ≡ n = cc in
    let rest : map number_of (standing_from l (suc x) lane) ≡ range_with_len (n + 1) (lane_car_count lane) = cc in
    let one : n + 1 ≡ suc n = omega arith in
    drawn_car n (speed_character car.1) (picture lane) (ne_eqb (speed_character car.1) dot (no_point car.1))
    ∙ cons_path (same_some (sym first) (speed_back car.1)) (lane_back l (suc x) (suc n) lane (rest ∙ ap (λ k. range_with_len k (lane_car_count lane)) one))

lanes_back : (l n : ℕ) (lanes : List Lane)
    → map number_of (standing_from_lane l lanes) ≡ range_with_len n (sum_by lane_car_count lanes)
    → lanes_of_pictures n (map picture lanes) ≡ lanes
lanes_back l n [] h = refl
lanes_back l n (lane ∷ lanes) h =
    let c = lane_car_count lane in
    let mine = map number_of (standing_from l 0 lane) in
    let others = map number_of (standing_from_lane (suc l) lanes) in
    let e : sum_by lane_car_count (lane ∷ lanes) ≡ c + sum_by lane_car_count lanes = sum_by-cons lane_car_count lane lanes in
    let whole : mine ++ others ≡ range_with_len n c ++ range_with_len (n + c) (sum_by lane_car_count lanes) =
    sym (map-append number_of (standing_from l 0 lane) (standing_from_lane (suc l) lanes)) ∙ h ∙ ap (range_with_len n) e ∙ sym (range_append n c (sum_by lane_car_count lanes)) in
    let size : length mine ≡ c = length-map (standing_from l 0 lane) number_of ∙ length-standing_from l 0 lane in
    let size_range : length (range_with_len n c) ≡ c = length-range_with_len n c in
    let first : mine ≡ range_with_len n c = sym (take_at mine others c size) ∙ ap (take c) whole ∙ take_at (range_with_len n c) (range_with_len (n + c) (sum_by lane_car_count lanes)) c size_range in
    let rest : others ≡ range_with_len (n + c) (sum_by lane_car_count lanes) = sym (drop_at mine others c size) ∙ ap (drop c) whole ∙ drop_at (range_with_len n c) (range_with_len (n + c) (sum_by lane_car_count lanes)) c size_range in
    let back = lane_back l 0 n lane first in
    let count : n + lane_car_count (lane_of_picture n (picture lane)) ≡ n + c = ap (λ (xs : Lane). n + lane_car_count xs) back in
    cons_path back (ap (λ k. lanes_of_pictures k (map picture lanes)) count ∙ lanes_back (suc l) (n + c) lanes rest)

abbrev made : ℕ → List Lane → Cells
made limit lanes = record { limit = limit; lanes = lanes }

-- pictures show only one road, the one that is drawn from them
pub shown_drawn : (limit : ℕ) (ps : List (List ℕ)) (road : Cells) → PicturesShow limit ps road
    → road ≡ made limit (lanes_of_pictures 0 ps)
shown_drawn limit ps road s =
    let lanes : road.lanes ≡ lanes_of_pictures 0 ps = sym (lanes_back 0 0 road.lanes s.numbered.numbers) ∙ ap (lanes_of_pictures 0) s.drawn in
    ap (λ (p : ℕ). made p road.lanes) s.same_limit ∙ ap (made limit) lanes

pub one_shown : (limit : ℕ) (ps : List (List ℕ)) (road other : Cells) → PicturesShow limit ps road
    → PicturesShow limit ps other → road ≡ other
one_shown limit ps road other s t = shown_drawn limit ps road s ∙ sym (shown_drawn limit ps other t)

picture_of_at : (lanes : List Lane) (l : ℕ) → get_or (map picture lanes) l [] ≡ picture (get_or lanes l [])
picture_of_at [] l = refl
picture_of_at (lane ∷ lanes) zero = refl
picture_of_at (lane ∷ lanes) (suc l) = picture_of_at lanes l

within_speed : (limit v byte : ℕ) → byte ≡ speed_character v → ShowsCell limit byte → v ≤ limit
within_speed limit v byte e (inl p) = absurd (no_point v (sym e ∙ p))
within_speed limit v byte e (inr d) = let same = one_speed v d.speed (sym e ∙ d.shown) in let most = d.within in omega (arith, same, most)

module _ (limit : ℕ) (ps : List (List ℕ)) (road : Cells) (good : AreValidPictures limit ps) (s : PicturesShow limit ps road) where
  shown_lanes : length road.lanes ≡ length ps
  shown_lanes = sym (length-map road.lanes picture) ∙ ap length s.drawn

  drawn_at : (l : ℕ) → picture_at ps l ≡ picture (lane_of road l)
  drawn_at l = ap (λ (xs : List (List ℕ)). get_or xs l []) (sym s.drawn) ∙ picture_of_at road.lanes l

  lane_size : (l : ℕ) → length (lane_of road l) ≡ length (picture_at ps l)
  lane_size l = sym (length-map (lane_of road l) character) ∙ sym (ap length (drawn_at l))

  byte_is : (l x number speed : ℕ) → cell road l x ≡ Some (number, speed) → character_at ps l x ≡ speed_character speed
  byte_is l x number speed h =
      ap (λ (p : List ℕ). get_or p x 0) (drawn_at l)
      ∙ get_or-map_in character (lane_of road l) x None 0 (inside (lane_of road l) x (number, speed) h) ∙ ap character h

  -- the number of a car is the number of cars before it
  pub number_is_rank : (l x number speed : ℕ) → cell road l x ≡ Some (number, speed) → number ≡ rank road l x
  unfolding car_of
  number_is_rank l x number speed h =
      let d : Car = record { number = 0; lane = 0; place = 0; speed = 0 } in
      let r = rank road l x in
      let low = rank_below_cars road l x (number, speed) h in
      let size : r < length (standing road) = rw length-standing_from_lane low in
      let here = ap number_of (standing_rank road l x number speed d h) in
      let e : 0 + r ≡ r = omega arith in
      sym here ∙ sym (get_or-map_in number_of (standing road) r d 0 size) ∙ ap (λ (xs : List ℕ). get_or xs r 0) s.numbered.numbers ∙ get_or-range_with_len 0 (cars road) r 0 low ∙ e

  -- valid pictures show a legal road
  pub shown_legal : IsLegal road
  unfolding car_of
  shown_legal =
      let size = shown_lanes in
      let first = lane_size 0 in
      record {
        shape = record {
          lanes = subst LanesFit (sym size) good.shape.lanes;
          cells = subst LengthFits (sym first) good.shape.lengths.cells;
          equal = λ l h. lane_size l ∙ good.shape.lengths.equal l (omega arith) ∙ sym first;
          limit = subst LimitFits (sym s.same_limit) good.shape.limit_fits;
        };
        within_limit = λ car h.
            let on = on_lane road car.lane car.place (car.number, car.speed) h in
            let k = inside (lane_of road car.lane) car.place (car.number, car.speed) h in
            let n = lane_size car.lane in
            rw s.same_limit (within_speed limit car.speed (character_at ps car.lane car.place) (byte_is car.lane car.place car.number car.speed h) (good.cells car.lane car.place (omega arith) (omega arith)));
        numbered = λ car h.
            let e = number_is_rank car.lane car.place car.number car.speed h in
            let low = rank_below_cars road car.lane car.place (car.number, car.speed) h in
            omega arith;
        once = λ one other h g same_number.
            let d : Car = record { number = 0; lane = 0; place = 0; speed = 0 } in
            let a = standing_rank road one.lane one.place one.number one.speed d h in
            let b = standing_rank road other.lane other.place other.number other.speed d g in
            let same = sym (number_is_rank one.lane one.place one.number one.speed h) ∙ same_number ∙ number_is_rank other.lane other.place other.number other.speed g in
            let e : car_of one.number one.lane one.place one.speed ≡ car_of other.number other.lane other.place other.speed = sym a ∙ ap (λ k. get_or (standing road) k d) same ∙ b in
            (ap (λ (car : Car). car.lane) e, ap (λ (car : Car). car.place) e);
      }

cell_shows : (limit : ℕ) (c : Cell) → ((car : ℕ × ℕ) → c ≡ Some car → car.1 ≤ limit)
    → ShowsCell limit (character c)
cell_shows limit None h = inl refl
cell_shows limit (Some car) h = inr (record { speed = car.1; within = h car refl; shown = refl })

-- the pictures of a legal road are valid
pub pictures_good : (road : Cells) → IsLegal road → AreValidPictures road.limit (map picture road.lanes)
pictures_good road legal =
    let count = length-map road.lanes picture in
    let size : (l : ℕ) → length (picture_at (map picture road.lanes) l) ≡ length (lane_of road l) = λ l. ap length (picture_of_at road.lanes l) ∙ length-map (lane_of road l) character in
    let first = size 0 in
    record {
      shape = record {
        lanes = subst LanesFit (sym count) legal.shape.lanes;
        lengths = record { cells = subst LengthFits (sym first) legal.shape.cells; equal = λ l h. size l ∙ legal.shape.equal l (omega arith) ∙ sym first };
        limit_fits = legal.shape.limit;
      };
      cells = λ l x on h.
          let s = size l in
          let e : character_at (map picture road.lanes) l x ≡ character (cell road l x) =
          ap (λ (p : List ℕ). get_or p x 0) (picture_of_at road.lanes l) ∙ get_or-map_in character (lane_of road l) x None 0 (omega arith) in
          rw e (cell_shows road.limit (cell road l x) (λ car here. legal.within_limit (car_in l x car.0 car.1) here));
    }

-- valid pictures have no fault, unless an allocation fails
pub no_fault : (limit : ℕ) (ps : List (List ℕ)) (fault : RoadFault) → AreValidPictures limit ps
    → IsFirstPictureFault limit ps fault → fault ≡ Memory
no_fault limit ps Lanes good h = absurd (h good.shape.lanes)
no_fault limit ps Length good h = absurd (h.1 good.shape.lengths)
no_fault limit ps Limit good h = absurd (h.2 good.shape.limit_fits)
no_fault limit ps (Character l x) good h = absurd (h.0.1.bad (good.cells l x h.0.1.on_lane h.0.1.inside))
no_fault limit ps (SpeedAboveLimit l x) good h = absurd (h.0.1.bad (good.cells l x h.0.1.on_lane h.0.1.inside))
no_fault limit ps Memory good h = refl
no_fault limit ps TooManyCars good h = absurd h

-- only one byte is the first that shows no cell
pub one_first_bad : (limit : ℕ) (ps : List (List ℕ)) (l x m y : ℕ) → IsFirstBadCharacter limit ps l x
    → IsFirstBadCharacter limit ps m y → (l ≡ m) × (x ≡ y)
one_first_bad limit ps l x m y a b =
    elim (cases_order l m) [
      | inl same ↦ (
        same,
        elim (cases_order x y) [
          | inl e ↦ e
          | inr different ↦ elim different [
            | inl less ↦ absurd (a.bad (subst (λ k. ShowsCell limit (character_at ps k x)) (sym same) (b.earlier_places x less)))
            | inr more ↦ absurd (b.bad (subst (λ k. ShowsCell limit (character_at ps k y)) same (a.earlier_places y more)))
          ]
        ],
      )
      | inr different ↦ elim different [
        | inl less ↦ absurd (a.bad (b.earlier_lanes l x less a.inside))
        | inr more ↦ absurd (b.bad (a.earlier_lanes m y more b.inside))
      ]
    ]

same_character : {l x m y : ℕ} → (l ≡ m) × (x ≡ y) → ◌≡◌ {A = RoadFault} (Character l x) (Character m y)
same_character e = let a = e.0 in let b = e.1 in cc

same_speed : {l x m y : ℕ} → (l ≡ m) × (x ≡ y)
    → ◌≡◌ {A = RoadFault} (SpeedAboveLimit l x) (SpeedAboveLimit m y)
same_speed e = let a = e.0 in let b = e.1 in cc

same_byte : (limit : ℕ) (ps : List (List ℕ)) (l x m y : ℕ) → (l ≡ m) × (x ≡ y)
    → ShowsSpeed MAX_LIMIT (character_at ps l x) → ShowsSpeed MAX_LIMIT (character_at ps m y)
same_byte limit ps l x m y e h =
    subst (λ (k : ℕ). ShowsSpeed MAX_LIMIT (character_at ps m k)) e.1 (subst (λ (k : ℕ). ShowsSpeed MAX_LIMIT (character_at ps k x)) e.0 h)

-- a limit and pictures have one first fault, unless an allocation fails
pub one_fault : (limit : ℕ) (ps : List (List ℕ)) (fault other : RoadFault) → IsFirstPictureFault limit ps fault
    → IsFirstPictureFault limit ps other → fault ≢ Memory → other ≢ Memory → fault ≡ other
one_fault limit ps Lanes Lanes f g p q = refl
one_fault limit ps Lanes Length f g p q = absurd (f g.0)
one_fault limit ps Lanes Limit f g p q = absurd (f g.0)
one_fault limit ps Lanes (Character m y) f g p q = absurd (f g.0.0.lanes)
one_fault limit ps Lanes (SpeedAboveLimit m y) f g p q = absurd (f g.0.0.lanes)
one_fault limit ps Lanes Memory f g p q = absurd (q refl)
one_fault limit ps Lanes TooManyCars f g p q = absurd g
one_fault limit ps Length Lanes f g p q = absurd (g f.0)
one_fault limit ps Length Length f g p q = refl
one_fault limit ps Length Limit f g p q = absurd (f.1 g.1)
one_fault limit ps Length (Character m y) f g p q = absurd (f.1 g.0.0.lengths)
one_fault limit ps Length (SpeedAboveLimit m y) f g p q = absurd (f.1 g.0.0.lengths)
one_fault limit ps Length Memory f g p q = absurd (q refl)
one_fault limit ps Length TooManyCars f g p q = absurd g
one_fault limit ps Limit Lanes f g p q = absurd (g f.0)
one_fault limit ps Limit Length f g p q = absurd (g.1 f.1)
one_fault limit ps Limit Limit f g p q = refl
one_fault limit ps Limit (Character m y) f g p q = absurd (f.2 g.0.0.limit_fits)
one_fault limit ps Limit (SpeedAboveLimit m y) f g p q = absurd (f.2 g.0.0.limit_fits)
one_fault limit ps Limit Memory f g p q = absurd (q refl)
one_fault limit ps Limit TooManyCars f g p q = absurd g
one_fault limit ps (Character l x) Lanes f g p q = absurd (g f.0.0.lanes)
one_fault limit ps (Character l x) Length f g p q = absurd (g.1 f.0.0.lengths)
one_fault limit ps (Character l x) Limit f g p q = absurd (g.2 f.0.0.limit_fits)
one_fault limit ps (Character l x) (Character m y) f g p q = same_character (one_first_bad limit ps l x m y f.0.1 g.0.1)
one_fault limit ps (Character l x) (SpeedAboveLimit m y) f g p q = absurd (f.1 (same_byte limit ps m y l x (one_first_bad limit ps m y l x g.0.1 f.0.1) g.1))
one_fault limit ps (Character l x) Memory f g p q = absurd (q refl)
one_fault limit ps (Character l x) TooManyCars f g p q = absurd g
one_fault limit ps (SpeedAboveLimit l x) Lanes f g p q = absurd (g f.0.0.lanes)
one_fault limit ps (SpeedAboveLimit l x) Length f g p q = absurd (g.1 f.0.0.lengths)
one_fault limit ps (SpeedAboveLimit l x) Limit f g p q = absurd (g.2 f.0.0.limit_fits)
one_fault limit ps (SpeedAboveLimit l x) (Character m y) f g p q = absurd (g.1 (same_byte limit ps l x m y (one_first_bad limit ps l x m y f.0.1 g.0.1) f.1))
one_fault limit ps (SpeedAboveLimit l x) (SpeedAboveLimit m y) f g p q = same_speed (one_first_bad limit ps l x m y f.0.1 g.0.1)
one_fault limit ps (SpeedAboveLimit l x) Memory f g p q = absurd (q refl)
one_fault limit ps (SpeedAboveLimit l x) TooManyCars f g p q = absurd g
one_fault limit ps Memory Lanes f g p q = absurd (p refl)
one_fault limit ps Memory Length f g p q = absurd (p refl)
one_fault limit ps Memory Limit f g p q = absurd (p refl)
one_fault limit ps Memory (Character m y) f g p q = absurd (p refl)
one_fault limit ps Memory (SpeedAboveLimit m y) f g p q = absurd (p refl)
one_fault limit ps Memory Memory f g p q = absurd (p refl)
one_fault limit ps Memory TooManyCars f g p q = absurd (p refl)
one_fault limit ps TooManyCars Lanes f g p q = absurd f
one_fault limit ps TooManyCars Length f g p q = absurd f
one_fault limit ps TooManyCars Limit f g p q = absurd f
one_fault limit ps TooManyCars (Character m y) f g p q = absurd f
one_fault limit ps TooManyCars (SpeedAboveLimit m y) f g p q = absurd f
one_fault limit ps TooManyCars Memory f g p q = absurd (q refl)
one_fault limit ps TooManyCars TooManyCars f g p q = absurd f

pub length-lane_of_picture : (n : ℕ) (bytes : List ℕ) → length (lane_of_picture n bytes) ≡ length bytes
length-lane_of_picture n [] = refl
length-lane_of_picture n (byte ∷ bytes) =
    elim (eqb_tells byte dot) [
      | inl w ↦ ap length (drawn_point n byte bytes w.0) ∙ ap suc (length-lane_of_picture n bytes)
      | inr w ↦ ap length (drawn_car n byte bytes w.0) ∙ ap suc (length-lane_of_picture (suc n) bytes)
    ]

-- a lane has no more cars than cells
pub drawn_few : (n : ℕ) (bytes : List ℕ) → lane_car_count (lane_of_picture n bytes) ≤ length bytes
drawn_few n bytes = let e = length-lane_of_picture n bytes in let k = count_by-le-length is_some (lane_of_picture n bytes) in omega arith

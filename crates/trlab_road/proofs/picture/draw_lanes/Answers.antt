use Rattle.std.proofs.Common.{◌≡◌, ◌+◌, ◌<◌, ◌≤◌, ◌∙◌, ℕ, List, [], ◌∷◌, ◌++◌, map, Vec, Global, length, drop}
use Rattle.std.proofs.Common.{sym, refl, ap, subst, arith, append_assoc, drop-cons, add-one, append-nil}
use Rattle.std.proofs.lemmas.List.{length-map, length_push, map-append, at_drop_all}
use Rattle.trlab_bounds.specs.declared.roads.TheConstants.{MAX_LENGTH, MAX_LIMIT}
use Rattle.trlab_road.specs.Stored.{LaneCar, IsSortedFrom, cells_of, lanes_from, lane_of_picture}
use Rattle.trlab_road.specs.{Stored.lanes_of_pictures, Cells.{Lane, lane_car_count}}
use Rattle.trlab_road.specs.Pictures.{ShowsCell, picture_at, character_at}
use Rattle.trlab_road.proofs.{PictureLaws.{picture_read, drawn_few}, Lists.cars_of_list, ListRoads.one_more}
use Rattle.trlab_road.proofs.picture.draw_lanes.Goals as goal

pub draw_lane-requires-clause-shown : goal.draw_lane-requires-clause-shown
draw_lane-requires-clause-shown c =
    let i = c.loop-picture.picture-index in
    let ps = map (λ s. s.now) c.args.pictures.now in
    let size = length-map c.args.pictures.now (λ s. s.now) in
    let on : i < length ps = rw size c.loop-picture-test.true in
    let read = picture_read c.args.pictures.now i in
    let all : (x : ℕ) → x < length (picture_at ps i) → ShowsCell MAX_LIMIT (character_at ps i x) = λ x h. c.requires.valid.cells i x on h in
    rw read at all

pub draw_lane-requires-clause-at_most_max_length : goal.draw_lane-requires-clause-at_most_max_length
draw_lane-requires-clause-at_most_max_length c =
    let i = c.loop-picture.picture-index in
    let size = length-map c.args.pictures.now (λ s. s.now) in
    let same = c.requires.valid.shape.lengths.equal i (rw size c.loop-picture-test.true) in
    let read = ap length (picture_read c.args.pictures.now i) in
    let high = c.requires.valid.shape.lengths.cells.few_cells in
    omega (arith, same, read, high)

-- a lane that was drawn: its list is sorted, and it has few cars
record LaneDrawn (n number : ℕ) (bytes : List ℕ) (cars : List LaneCar) : Type 0 where
  pub rises : IsSortedFrom 0 n cars
  pub is : cells_of n cars ≡ lane_of_picture number bytes
  pub few : length cars ≤ MAX_LENGTH
  pub counted : length cars ≡ lane_car_count (lane_of_picture number bytes)

one_drawn : (n number : ℕ) (bytes now : List ℕ) (cars : List LaneCar) → bytes ≡ now → length bytes ≡ n → n ≤ MAX_LENGTH
    → IsSortedFrom 0 (length now) cars → cells_of (length now) cars ≡ lane_of_picture number now → LaneDrawn n number bytes cars
one_drawn n number bytes now cars read size small rises is =
    let e : length now ≡ n = sym (ap length read) ∙ size in
    let r : IsSortedFrom 0 n cars = subst (λ k. IsSortedFrom 0 k cars) e rises in
    let d : cells_of n cars ≡ lane_of_picture number bytes = subst (λ k. cells_of k cars ≡ lane_of_picture number bytes) e (is ∙ ap (lane_of_picture number) (sym read)) in
    let counted = sym (cars_of_list n cars r) ∙ ap lane_car_count d in
    let few = drawn_few number bytes in
    record { rises = r; is = d; few = omega (arith, few, counted, size, small); counted = counted }

cons_path : {X : Type 0} {a b : X} {xs ys : List X} → a ≡ b → xs ≡ ys → a ∷ xs ≡ b ∷ ys
cons_path e f = cc

-- one more lane
more_drawn : (cells : ℕ) (lanes : List (Vec LaneCar Global)) (v : Vec LaneCar Global) (ps : List (List ℕ)) (i n k : ℕ) (whole : List Lane)
    → i < length ps → cells_of cells v.items ≡ lane_of_picture n (picture_at ps i) → k ≡ lane_car_count (lane_of_picture n (picture_at ps i))
    → lanes_from cells lanes ++ lanes_of_pictures n (drop i ps) ≡ whole → lanes_from cells (lanes ++ v ∷ []) ++ lanes_of_pictures (n + k) (drop (i + 1) ps) ≡ whole
more_drawn cells lanes v ps i n k whole on drawn counted before =
    let rest = drop (i + 1) ps in
    let bytes = picture_at ps i in
    let parts : drop i ps ≡ bytes ∷ rest = rw (add-one, drop-cons ps i []) refl in
    let e : cells_of cells v.items ∷ lanes_of_pictures (n + k) rest ≡ lanes_of_pictures n (drop i ps) =
    cons_path drawn (ap (λ q. lanes_of_pictures (n + q) rest) counted) ∙ sym (ap (lanes_of_pictures n) parts) in
    ap (λ xs. xs ++ lanes_of_pictures (n + k) rest) (map-append (λ (w : Vec LaneCar Global). cells_of cells w.items) lanes (v ∷ []))
    ∙ append_assoc (lanes_from cells lanes) (cells_of cells v.items ∷ []) (lanes_of_pictures (n + k) rest) ∙ ap (λ r. lanes_from cells lanes ++ r) e ∙ before

pub overflow_cast-number : goal.overflow_cast-number
overflow_cast-number c =
    let i = c.loop-picture.picture-index in
    let ps = map (λ s. s.now) c.args.pictures.now in
    let count = length-map c.args.pictures.now (λ s. s.now) in
    let on : i < length ps = rw count c.loop-picture-test.true in
    let same = c.requires.valid.shape.lengths.equal i on in
    let first = c.requires.first in
    let high = c.requires.valid.shape.lengths.cells.few_cells in
    let lane = one_drawn c.args.cells c.loop-picture.number (picture_at ps i) _ c.in_ok-cars.cars.items (picture_read c.args.pictures.now i)
    (omega (arith, same, first)) (omega (arith, high, first)) c.in_ok-cars.ensures.rises c.in_ok-cars.ensures.drawn in
    let whole = c.in_ok-cars.cars.ok.0 in
    let size = c.len.ensures in
    let few = lane.few in
    omega (arith, few, size, whole)

pub overflow_add-number : goal.overflow_add-number
overflow_add-number c =
    let i = c.loop-picture.picture-index in
    let ps = map (λ s. s.now) c.args.pictures.now in
    let count = length-map c.args.pictures.now (λ s. s.now) in
    let on : i < length ps = rw count c.loop-picture-test.true in
    let same = c.requires.valid.shape.lengths.equal i on in
    let first = c.requires.first in
    let high = c.requires.valid.shape.lengths.cells.few_cells in
    let lane = one_drawn c.args.cells c.loop-picture.number (picture_at ps i) _ c.in_ok-cars.cars.items (picture_read c.args.pictures.now i)
    (omega (arith, same, first)) (omega (arith, high, first)) c.in_ok-cars.ensures.rises c.in_ok-cars.ensures.drawn in
    let whole = c.in_ok-cars.cars.ok.0 in
    let size = c.len.ensures in
    let few = lane.few in
    let before = c.loop-picture.invariant.few in
    let two = c.requires.valid.shape.lanes.few_lanes in
    let test = c.loop-picture-test.true in
    omega (arith, few, size, whole, before, two, test, count)

pub loop-picture-preserved : goal.loop-picture-preserved
loop-picture-preserved c =
    let i = c.loop-picture.picture-index in
    let ps = map (λ s. s.now) c.args.pictures.now in
    let count = length-map c.args.pictures.now (λ s. s.now) in
    let on : i < length ps = rw count c.loop-picture-test.true in
    let same = c.requires.valid.shape.lengths.equal i on in
    let first = c.requires.first in
    let high = c.requires.valid.shape.lengths.cells.few_cells in
    let lane = one_drawn c.args.cells c.loop-picture.number (picture_at ps i) _ c.in_ok-cars.cars.items (picture_read c.args.pictures.now i)
    (omega (arith, same, first)) (omega (arith, high, first)) c.in_ok-cars.ensures.rises c.in_ok-cars.ensures.drawn in
    let whole = c.in_ok-cars.cars.ok.0 in
    let size = c.len.ensures in
    let few = lane.few in
    let counted = lane.counted in
    let inv = c.loop-picture.invariant in
    let before = inv.few in
    let items = c.in_ok-push.ensures.items in
    record {
      whole = rw items (more_drawn c.args.cells c.loop-picture.lanes.items c.in_ok-cars.cars ps i c.loop-picture.number c.len.result _ on lane.is (omega (arith, size, whole, counted)) inv.whole);
      size = rw items (length_push _ _ ∙ ap (λ k. k + 1) inv.size);
      rises = rw items (one_more (λ j xs. IsSortedFrom 0 c.args.cells xs) c.loop-picture.lanes.items c.in_ok-cars.cars i inv.size inv.rises lane.rises);
      few = omega (arith, few, before, size, whole);
    }

pub loop-picture-init : goal.loop-picture-init
loop-picture-init c =
    let empty = c.in_ok-lanes.ensures.items in
    let ps = map (λ s. s.now) c.args.pictures.now in
    record {
      whole = ap (λ xs. lanes_from c.args.cells xs ++ lanes_of_pictures 0 ps) empty;
      size = ap length empty;
      rises = λ m h. absurd (omega (arith, h));
      few = omega arith;
    }

pub bounds-pictures-picture-index : goal.bounds-pictures-picture-index
bounds-pictures-picture-index c = c.loop-picture-test.true

pub slice_bounds-draw_lane-end : goal.slice_bounds-draw_lane-end
slice_bounds-draw_lane-end c = refl

pub draw_lane-requires-clause-at_most_max_cars : goal.draw_lane-requires-clause-at_most_max_cars
draw_lane-requires-clause-at_most_max_cars c =
    let count = length-map c.args.pictures.now (λ s. s.now) in
    let few = c.loop-picture.invariant.few in
    let two = c.requires.valid.shape.lanes.few_lanes in
    let on = c.loop-picture-test.true in
    omega (arith, count, few, two, on)

pub returns-clause-sorted : goal.returns-clause-sorted
returns-clause-sorted c =
    let size = c.loop-picture.invariant.size in
    record { rises = λ l h. c.loop-picture.invariant.rises l (omega (arith, h, size)) }

pub returns-clause-drawn : goal.returns-clause-drawn
returns-clause-drawn c =
    let ps = map (λ s. s.now) c.args.pictures.now in
    let lanes = lanes_from c.args.cells c.loop-picture.lanes.items in
    let count = length-map c.args.pictures.now (λ s. s.now) in
    let past = c.loop-picture-test.false in
    let rest = at_drop_all (lanes_of_pictures c.loop-picture.number) ps c.loop-picture.picture-index (omega (arith, count, past)) in
    sym (append-nil lanes) ∙ ap (λ xs. lanes ++ xs) (sym rest) ∙ c.loop-picture.invariant.whole

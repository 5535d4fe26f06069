use Rattle.std.proofs.Common.{◌≡◌, ◌≢◌, ◌+◌, ◌<◌, ◌≤◌, ◌==◌, ◌↔◌, ℕ, false, List, [], Bor, map, length}
use Rattle.std.proofs.Common.{slice_index, slice_index_or, ap, refl, sym, inl, inr, arith, below_more}
use Rattle.std.proofs.{Common.eqb-true, lemmas.{Bool.{both_ways, eqb-false}, List.length-map}}
use Rattle.trlab_bounds.specs.declared.roads.TheConstants.{MAX_LIMIT}
use Rattle.trlab_road.specs.{Cells.LanesFit, Pictures.{HaveEqualLengths, HaveValidShape, IsFaultAt}}
use Rattle.trlab_road.specs.Pictures.{ShowsAnySpeed, ShowsCell, ShowsSpeed, character_at, picture_at}
use Rattle.trlab_road.{specs.Pictures.pictures_of, proofs.PictureLaws.picture_read}
use Rattle.trlab_road.proofs.picture.check_pictures.Goals.{then-is_empty-via-then-is_empty}
use Rattle.trlab_road.proofs.picture.check_pictures.Goals.{then-is_empty-via-else-is_empty+then-pictures}
use Rattle.trlab_road.proofs.picture.check_pictures.Goals as goal

some_pictures : (n : ℕ) → false ≡ (n == 0) → 1 ≤ n
some_pictures n e = omega (arith, eqb-false n 0 (sym e))

fit_pictures : (held : List (Bor (List ℕ))) → 1 ≤ length held → length held ≤ 2 → LanesFit (length (pictures_of held))
fit_pictures held some few = let count = length-map held (λ s. s.now) in record { some_lane = omega (arith, some, count); few_lanes = omega (arith, few, count) }

pub overflow_cast-place : goal.overflow_cast-place
overflow_cast-place c =
    let size = length-map c.args.pictures.now (λ s. s.now) in
    let equal = c.if-not-has_equal_lanes.ensures.0 refl in
    let same = equal.equal c.loop-lane.lane (rw size c.loop-lane-test.true) in
    let read = ap length (picture_read c.args.pictures.now c.loop-lane.lane) in
    let high = equal.cells.few_cells in
    let within = c.if-place-picture.true in
    omega (arith, same, read, high, within)

-- one more lane
one_more : (limit : ℕ) (ps : List (List ℕ)) (i : ℕ)
    → ((m y : ℕ) → m < i → y < length (picture_at ps m) → ShowsCell limit (character_at ps m y))
    → ((y : ℕ) → y < length (picture_at ps i) → ShowsCell limit (character_at ps i y))
    → (m y : ℕ) → m < i + 1 → y < length (picture_at ps m) → ShowsCell limit (character_at ps m y)
one_more limit ps i before here m y low h = below_more (λ m. (y : ℕ) → y < length (picture_at ps m) → ShowsCell limit (character_at ps m y)) i (λ m low y h. before m y low h) here m low y h

pub loop-lane-preserved : goal.loop-lane-preserved
loop-lane-preserved c =
    let read = picture_read c.args.pictures.now c.loop-lane.lane in
    one_more c.args.limit (map (λ s. s.now) c.args.pictures.now) c.loop-lane.lane c.loop-lane.invariant
    (rw read (λ y h. c.first_invalid-place.ensures.before y (let k = c.if-place-picture.false in omega arith)))

-- pictures of this shape, which are valid up to a character
module _ (limit : ℕ) (held : List (Bor (List ℕ))) (some : 1 ≤ length held) (few : length held ≤ 2) (equal : HaveEqualLengths (pictures_of held)) (low : limit ≢ 0) (high : limit ≤ MAX_LIMIT) where
  shaped : HaveValidShape limit (pictures_of held)
  shaped =
      record { lanes = fit_pictures held some few; lengths = equal; limit_fits = record { some_limit = omega (arith, low); low_limit = high } }

  module _ (l x : ℕ) (on : l < length held) (earlier : (m y : ℕ) → m < l → y < length (picture_at (pictures_of held) m) → ShowsCell limit (character_at (pictures_of held) m y)) where
    abbrev picture_here : List ℕ
    picture_here = (slice_index_or held l (record { ref_ptr = (0, 0); now = [] })).now

    pub fault_at : x < length picture_here → ((y : ℕ) → y < x → ShowsCell limit (slice_index picture_here y)) → ¬ (ShowsCell limit (slice_index picture_here x)) → IsFaultAt limit (pictures_of held) l x
    fault_at inside before bad =
        let read = picture_read held l in
        (shaped, record { on_lane = rw length-map on; inside = rw read inside; bad = rw read bad; earlier_lanes = earlier; earlier_places = rw read before })

    pub any_speed : ShowsSpeed MAX_LIMIT (slice_index picture_here x) ↔ ShowsAnySpeed (pictures_of held) l x
    any_speed = let read = picture_read held l in (λ h. rw read h, λ h. rw read at h)

pub returns-then-is_speed : goal.returns-then-is_speed
returns-then-is_speed c =
    let held = c.args.pictures.now in
    let l = c.loop-lane.lane in
    let x = c.first_invalid-place.result in
    let some = some_pictures (length held) c.if-is_empty.ensures in
    let equal = c.if-not-has_equal_lanes.ensures.0 refl in
    let fault = fault_at c.args.limit held some c.if-pictures.false equal c.if-limit-eq0.false c.if-limit-gt-MAX_LIMIT.false l x c.loop-lane-test.true c.loop-lane.invariant
    c.if-place-picture.true c.first_invalid-place.ensures.before (c.first_invalid-place.ensures.invalid c.if-place-picture.true) in
    (fault, (any_speed c.args.limit held some c.if-pictures.false equal c.if-limit-eq0.false c.if-limit-gt-MAX_LIMIT.false l x c.loop-lane-test.true c.loop-lane.invariant).0 (c.shows_speed-is_speed.ensures.0 c.if-is_speed.true))

pub returns-else-is_speed : goal.returns-else-is_speed
returns-else-is_speed c =
    let held = c.args.pictures.now in
    let l = c.loop-lane.lane in
    let x = c.first_invalid-place.result in
    let some = some_pictures (length held) c.if-is_empty.ensures in
    let equal = c.if-not-has_equal_lanes.ensures.0 refl in
    let fault = fault_at c.args.limit held some c.if-pictures.false equal c.if-limit-eq0.false c.if-limit-gt-MAX_LIMIT.false l x c.loop-lane-test.true c.loop-lane.invariant
    c.if-place-picture.true c.first_invalid-place.ensures.before (c.first_invalid-place.ensures.invalid c.if-place-picture.true) in
    (fault, λ shown. both_ways c.shows_speed-is_speed.result c.if-is_speed.false (c.shows_speed-is_speed.ensures.1 ((any_speed c.args.limit held some c.if-pictures.false equal c.if-limit-eq0.false c.if-limit-gt-MAX_LIMIT.false l x c.loop-lane-test.true c.loop-lane.invariant).1 shown)))

pub returns-then-is_empty : goal.returns-then-is_empty
returns-then-is_empty c = λ fit.
    let count = length-map c.args.pictures.now (λ s. s.now) in
    elim c.then-is_empty.branch [
      | then-is_empty-via-then-is_empty w ↦ let some = fit.some_lane in let none = eqb-true (length c.args.pictures.now) 0 (sym w.if-is_empty.ensures) in absurd (omega (arith, some, none, count))
      | then-is_empty-via-else-is_empty+then-pictures w ↦ let few = fit.few_lanes in let many = w.if-pictures.true in absurd (omega (arith, few, many, count))
    ]

pub has_equal_lanes-requires : goal.has_equal_lanes-requires
has_equal_lanes-requires c = fit_pictures c.args.pictures.now (some_pictures (length c.args.pictures.now) c.if-is_empty.ensures) c.if-pictures.false

pub returns-then-not-has_equal_lanes : goal.returns-then-not-has_equal_lanes
returns-then-not-has_equal_lanes c = (
  fit_pictures c.args.pictures.now (some_pictures (length c.args.pictures.now) c.if-is_empty.ensures) c.if-pictures.false,
  λ equal. both_ways _ c.if-not-has_equal_lanes.true (c.has_equal_lanes.ensures.1 equal),
)

pub returns-then-limit-eq0 : goal.returns-then-limit-eq0
returns-then-limit-eq0 c = (
  fit_pictures c.args.pictures.now (some_pictures (length c.args.pictures.now) c.if-is_empty.ensures) c.if-pictures.false,
  c.if-not-has_equal_lanes.ensures.0 refl,
  λ fit.
      let some = fit.some_limit in
      let low = fit.low_limit in
      elim c.then-limit-eq0.either [
        | inl none ↦ absurd (omega (arith, some, none))
        | inr high ↦ absurd (omega (arith, low, high.1))
      ],
)

pub loop-lane-init : goal.loop-lane-init
loop-lane-init c = λ m y low h. absurd (omega (arith, low))

pub first_invalid-place-requires : goal.first_invalid-place-requires
first_invalid-place-requires c = c.if-limit-gt-MAX_LIMIT.false

pub overflow_cast-lane : goal.overflow_cast-lane
overflow_cast-lane c = let on = c.loop-lane-test.true in let few = c.if-pictures.false in omega (arith, on, few)

pub returns : goal.returns
returns c =
    let held = c.args.pictures.now in
    let some = some_pictures (length held) c.if-is_empty.ensures in
    let count = length-map held (λ s. s.now) in
    let past = c.loop-lane-test.false in
    record {
      shape = shaped c.args.limit held some c.if-pictures.false (c.if-not-has_equal_lanes.ensures.0 refl) c.if-limit-eq0.false c.if-limit-gt-MAX_LIMIT.false;
      cells = λ l x on h. c.loop-lane.invariant l x (omega (arith, on, count, past)) h;
    }

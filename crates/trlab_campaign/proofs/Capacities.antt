-- The points of a sweep are under the triangle of their roads.
use Rattle.std.proofs.Common.{◌≡◌, ℕ, suc, ◌+◌, ◌-◌, ◌*◌, ◌/◌, ◌<◌, ◌≤◌, min, List, [], ◌∷◌, length, get_or}
use Rattle.std.proofs.Common.{sym, ◌∙◌, ap, subst, arith, mul_comm, mul_assoc, mul_right_comm}
use Rattle.std.proofs.Common.{le_of_mul-le-mul_right, div-mul-le_self, mul-le-mul_right, le-div_iff_mul-le}
use Rattle.std.proofs.{Common.{le_trans, All, IfOk, Ok, Result, sum_by}, Math.Nat.mul-div-mul_right}
use Rattle.std.proofs.lemmas.List.Sums.{sum_by-cons}
use Rattle.trlab_diagram.specs.declared.point.Point.{Point}
use Rattle.trlab_road.specs.{Cells.{Cells, Lane, cars}, Spreading.{CanSpread, IsEvenlySpaced}}
use Rattle.trlab_road.proofs.EvenRoads.{even_count, even_legal}
use Rattle.trlab_texts.specs.Reading.{LocatedFault}
use Rattle.trlab_jobs.specs.{declared.sweep.Shape.Shape, Sweep.{all_steps, Setup, Sweep, ParsesAsSweep}}
use Rattle.trlab_jobs.{specs.Stored.{IsStoredSweep, CanSpreadOn}, proofs.OneSweep.{one_thing, says_stored}}
use Rattle.trlab_traffic.specs.Terms.{all_cells as cells_of_road, max_distance, empty_cells, lane_cells}
use Rattle.trlab_traffic.proofs.{RoomAhead.taken_or_empty, Capacities.run_stays_under_triangle}
use Rattle.trlab_traffic.proofs.Moving.{run_goes_by_moving_cars, run_keeps_below_peak}
use Rattle.trlab_traffic.proofs.EvenCars.{even_cars_flow_on_triangle}
use Rattle.trlab_campaign.specs.SweepOutput.{DiagramIsTriangle, IsAtMostPeak, IsOnTriangle, IsUnderTriangle}
use Rattle.trlab_campaign.specs.SweepOutput.{AsksForTriangle, HasBoundedMovingSpeed, SweepsBoundMovingSpeed}
use Rattle.trlab_campaign.specs.SweepOutput.{SweepsDoNotExceedPeak, SweepsStayUnderTriangle, ArePoints}
use Rattle.trlab_campaign.{specs.SweepOutput.{IsPoint, point_seed, sweep_sheet}, proofs.Points.some_cells}
use Rattle.trlab_campaign.proofs.StatedRules.{stated_nasch}
use Rattle.trlab_rules.specs.Rules.{IsNasch}

-- the cells of lanes of one length
equal_lanes : (lanes : List Lane) (n : ℕ) → ((l : ℕ) → l < length lanes → length (get_or lanes l []) ≡ n) → sum_by lane_cells lanes ≡ length lanes * n
equal_lanes [] n equal = omega arith
equal_lanes (lane ∷ lanes) n equal =
    let first : length lane ≡ n = equal 0 (omega arith) in
    let rest = equal_lanes lanes n (λ l h. equal (suc l) (omega arith)) in
    let split = sum_by-cons lane_cells lane lanes in
    omega (arith, first, rest, split)

even_cells : (lanes cells limit n : ℕ) (road : Cells) → IsEvenlySpaced lanes cells limit n road → cells_of_road road ≡ lanes * cells
even_cells lanes cells limit n road even =
    equal_lanes road.lanes cells (λ l h. (even.each_lane l (subst (λ k. l < k) even.same_lanes h)).same_length) ∙ ap (λ k. k * cells) even.same_lanes

-- a flow by a bound on the distance of each step
flow_within : (distance cells steps most : ℕ) → 1 ≤ cells → 1 ≤ steps → distance ≤ steps * most → distance * 1000000 / (cells * steps) ≤ most * 1000000 / cells
flow_within distance cells steps most some_cell some_step far =
    let flow = distance * 1000000 / (cells * steps) in
    let a : flow * (cells * steps) ≤ distance * 1000000 = div-mul-le_self (distance * 1000000) (cells * steps) in
    let b : distance * 1000000 ≤ steps * most * 1000000 = mul-le-mul_right 1000000 far in
    let c : flow * (cells * steps) ≡ flow * cells * steps = sym (mul_assoc flow cells steps) in
    let d : steps * most * 1000000 ≡ most * 1000000 * steps = ap (λ k. k * 1000000) (mul_comm steps most) ∙ mul_right_comm most steps 1000000 in
    let e : flow * cells * steps ≤ most * 1000000 * steps = subst (λ k. k ≤ most * 1000000 * steps) c (subst (λ k. flow * (cells * steps) ≤ k) d (le_trans a b)) in
    (le-div_iff_mul-le some_cell).1 (le_of_mul-le-mul_right e some_step)

-- the same flow by a bound on the peak
flow_below_peak : (distance cells steps limit : ℕ) → 1 ≤ cells → 1 ≤ steps → (limit + 1) * distance ≤ steps * (limit * cells) → distance * 1000000 / (cells * steps) ≤ limit * 1000000 / (limit + 1)
flow_below_peak distance cells steps limit some_cell some_step low =
    let some : 1 ≤ limit + 1 = omega arith in
    let a : steps * (limit * cells) ≡ cells * steps * limit = ap (λ k. steps * k) (mul_comm limit cells) ∙ sym (mul_assoc steps cells limit) ∙ ap (λ k. k * limit) (mul_comm steps cells) in
    let b : (limit + 1) * distance * 1000000 ≡ distance * 1000000 * (limit + 1) = ap (λ k. k * 1000000) (mul_comm (limit + 1) distance) ∙ mul_right_comm distance (limit + 1) 1000000 in
    let c : (limit + 1) * (cells * steps) ≡ cells * steps * (limit + 1) = mul_comm (limit + 1) (cells * steps) in
    let within = flow_within ((limit + 1) * distance) (limit + 1) (cells * steps) limit some (some_cells cells steps some_cell some_step) (subst (λ k. (limit + 1) * distance ≤ k) a low) in
    let e = ap (λ k. k / ((limit + 1) * (cells * steps))) b ∙ ap (λ k. distance * 1000000 * (limit + 1) / k) c ∙ mul-div-mul_right (distance * 1000000) (cells * steps) some in
    subst (λ k. k ≤ limit * 1000000 / (limit + 1)) e within

-- the initial road of a point: how far its cars can go, by the numbers of cells and cars
module _ (shape : Shape) (count : ℕ) (start : Cells) (fits : CanSpreadOn shape count) (even : IsEvenlySpaced shape.lanes shape.length shape.limit count start) where
  all_cars : cars start ≡ count
  all_cars = even_count shape.lanes shape.length shape.limit count start fits even

  empty_at_start : empty_cells start ≡ shape.lanes * shape.length - count
  empty_at_start =
      let all = all_cars in
      let cells = even_cells shape.lanes shape.length shape.limit count start even in
      let split = taken_or_empty start in
      omega (arith, all, cells, split)

  at_limit : start.limit * cars start ≡ shape.limit * count
  at_limit = ap (λ k. k * cars start) even.same_limit ∙ ap (λ k. shape.limit * k) all_cars

module _ (common : Setup) (counted : 1 ≤ common.span.measure) where
  -- the bounds of one point
  told_within : (number cars : ℕ) (point : Point) → CanSpreadOn common.shape cars → IsPoint common number cars point → IsUnderTriangle common.shape.limit point
  told_within number count point fits is =
      let shape = common.shape in
      let span = common.span in
      let start = is.start in
      let legal = even_legal shape.lanes shape.length shape.limit count start fits is.even in
      let within = run_stays_under_triangle (point_seed common number start) (sweep_sheet common) (all_steps span) is.counted.0 is.tally legal is.counted.1 in
      let steps : span.warm + span.measure - span.warm ≡ span.measure = omega arith in
      let empty : empty_cells start ≡ shape.lanes * shape.length - count = empty_at_start shape count start fits is.even in
      let most : start.limit * cars start ≡ shape.limit * count = at_limit shape count start fits is.even in
      let by_cells : is.tally.distance ≤ span.measure * (shape.lanes * shape.length - count) = rw (← steps, ← empty) within.by_empty_cells in
      let by_limit : is.tally.distance ≤ span.measure * (shape.limit * count) = rw (← steps, ← most) within.by_limit in
      let some = some_cells shape.lanes shape.length fits.lanes_fit.some_lane fits.length_fits.some_cell in
      subst (IsUnderTriangle shape.limit) (sym is.told) (record {
        room = fits.room;
        by_empty_cells = by_cells;
        by_limit = by_limit;
        flow_by_empty_cells = flow_within is.tally.distance (shape.lanes * shape.length) span.measure (shape.lanes * shape.length - count) some counted by_cells;
        flow_by_limit = flow_within is.tally.distance (shape.lanes * shape.length) span.measure (shape.limit * count) some counted by_limit;
      })

  -- and that it is below the peak
  told_below_peak : (number cars : ℕ) (point : Point) → CanSpreadOn common.shape cars → IsPoint common number cars point → IsAtMostPeak common.shape.limit point
  told_below_peak number count point fits is =
      let shape = common.shape in
      let span = common.span in
      let start = is.start in
      let legal = even_legal shape.lanes shape.length shape.limit count start fits is.even in
      let below = run_keeps_below_peak (point_seed common number start) (sweep_sheet common) (all_steps span) is.counted.0 is.tally legal is.counted.1 in
      let steps : span.warm + span.measure - span.warm ≡ span.measure = omega arith in
      let cells : cells_of_road start ≡ shape.lanes * shape.length = even_cells shape.lanes shape.length shape.limit count start is.even in
      let low : (shape.limit + 1) * is.tally.distance ≤ span.measure * (shape.limit * (shape.lanes * shape.length)) = rw (← steps, ← cells, ← is.even.same_limit) below in
      let some = some_cells shape.lanes shape.length fits.lanes_fit.some_lane fits.length_fits.some_cell in
      subst (IsAtMostPeak shape.limit) (sym is.told) (record {
        mean_distance_bounded = low;
        flow_bounded = flow_below_peak is.tally.distance (shape.lanes * shape.length) span.measure shape.limit some counted low;
      })

  -- and how far its moving cars went
  told_by_moving_cars : (number cars : ℕ) (point : Point) → CanSpreadOn common.shape cars → IsPoint common number cars point → HasBoundedMovingSpeed common.shape.limit point
  told_by_moving_cars number count point fits is =
      let shape = common.shape in
      let span = common.span in
      let start = is.start in
      let legal = even_legal shape.lanes shape.length shape.limit count start fits is.even in
      let moving = run_goes_by_moving_cars (point_seed common number start) (sweep_sheet common) (all_steps span) is.counted.0 is.tally legal is.counted.1 in
      let steps : span.warm + span.measure - span.warm ≡ span.measure = omega arith in
      let all : cars start ≡ count = all_cars shape count start fits is.even in
      let most : start.limit * cars start ≡ shape.limit * count = at_limit shape count start fits is.even in
      let stops : start.limit * is.tally.stopped ≡ shape.limit * is.tally.stopped = ap (λ k. k * is.tally.stopped) is.even.same_limit in
      let cell_each : span.measure * count ≤ is.tally.distance + is.tally.stopped = rw (← steps, ← all) moving.cell_each in
      let limit_each : is.tally.distance + shape.limit * is.tally.stopped ≤ span.measure * (shape.limit * count) = rw (← steps, ← most, ← stops) moving.limit_each in
      subst (HasBoundedMovingSpeed shape.limit) (sym is.told) (record { cell_each = cell_each; limit_each = limit_each })

-- a property of every point of a sweep, if it holds of any point with this setup
module _ (IsSo : ℕ → Point → Type 0) (told : (common : Setup) → 1 ≤ common.span.measure → (number cars : ℕ) (point : Point) → CanSpreadOn common.shape cars → IsPoint common number cars point → IsSo common.shape.limit point) where
  each_point : (text : List ℕ) (sweep : Sweep) (points : List Point) → ParsesAsSweep text (Ok sweep) → ArePoints sweep points → All (IsSo sweep.setup.shape.limit) points
  each_point text sweep points says are =
      let found = says_stored text in
      let same = one_thing text found.0 (Ok sweep) found.1.0 says in
      let stored : IsStoredSweep sweep = subst (λ (said : Result Sweep LocatedFault). IfOk said IsStoredSweep) same found.1.1 in
      λ i d inside.
      let on : i < length sweep.cars = (let size = are.one_each in omega (arith, size, inside)) in
      told sweep.setup stored.counted i (get_or sweep.cars i 0) (get_or points i d) (stored.spreads i 0 on) (are.each i 0 d on)

pub sweeps_stay_under_triangle : SweepsStayUnderTriangle
sweeps_stay_under_triangle = each_point IsUnderTriangle told_within

pub sweeps_keep_below_peak : SweepsDoNotExceedPeak
sweeps_keep_below_peak = each_point IsAtMostPeak told_below_peak

pub sweeps_go_by_moving_cars : SweepsBoundMovingSpeed
sweeps_go_by_moving_cars = each_point HasBoundedMovingSpeed told_by_moving_cars

-- a flow by the distance of each step
flow_is : (distance cells steps each : ℕ) → 1 ≤ steps → distance ≡ steps * each → distance * 1000000 / (cells * steps) ≡ each * 1000000 / cells
flow_is distance cells steps each some far =
    let e : steps * each * 1000000 ≡ each * 1000000 * steps = ap (λ k. k * 1000000) (mul_comm steps each) ∙ mul_right_comm each steps 1000000 in
    ap (λ k. k * 1000000 / (cells * steps)) far ∙ ap (λ k. k / (cells * steps)) e ∙ mul-div-mul_right (each * 1000000) cells some

module _ (text : List ℕ) (common : Setup) (counted : 1 ≤ common.span.measure) (is_nasch : IsNasch 0 common.rule) (without : AsksForTriangle text common) where
  on_triangle : (number cars : ℕ) (point : Point) → CanSpreadOn common.shape cars → IsPoint common number cars point → IsOnTriangle common.shape.limit point
  on_triangle number count point fits is =
      let shape = common.shape in
      let span = common.span in
      let one = without.lanes in
      let alone = subst (λ lanes. CanSpread lanes shape.length shape.limit count) one fits in
      let even = subst (λ lanes. IsEvenlySpaced lanes shape.length shape.limit count is.start) one is.even in
      let gone = even_cars_flow_on_triangle shape.length shape.limit count common.rule (point_seed common number is.start) (all_steps span) is.counted.0 is.tally is_nasch alone even without.warm is.counted.1 in
      let steps : span.warm + span.measure - span.warm ≡ span.measure = omega arith in
      let empty = empty_at_start shape count is.start fits is.even in
      let most = at_limit shape count is.start fits is.even in
      let far : is.tally.distance ≡ span.measure * min (shape.limit * count) (shape.lanes * shape.length - count) =
      gone ∙ ap (λ k. k * max_distance is.start) steps
      ∙ ap (λ k. span.measure * min k (empty_cells is.start)) most
      ∙ ap (λ k. span.measure * min (shape.limit * count) k) empty in
      subst (IsOnTriangle shape.limit) (sym is.told) (record {
        distance = far;
        flow = flow_is is.tally.distance (shape.lanes * shape.length) span.measure (min (shape.limit * count) (shape.lanes * shape.length - count)) counted far;
      })

pub diagram_is_triangle : DiagramIsTriangle
diagram_is_triangle text sweep points says are without =
    let found = says_stored text in
    let same = one_thing text found.0 (Ok sweep) found.1.0 says in
    let stored : IsStoredSweep sweep = subst (λ (said : Result Sweep LocatedFault). IfOk said IsStoredSweep) same found.1.1 in
    λ i d inside.
    let on : i < length sweep.cars = (let size = are.one_each in omega (arith, size, inside)) in
    on_triangle text sweep.setup stored.counted (stated_nasch 0 text sweep without.rule says) without i (get_or sweep.cars i 0) (get_or points i d) (stored.spreads i 0 on) (are.each i 0 d on)

use Rattle.std.proofs.Common.{◌≡◌, ◌*◌, ◌/◌, ◌%◌, ◌<◌, ◌≤◌, ◌∙◌, mod-lt, ℕ, [], ◌∷◌, ◌++◌, length, sym, ap}
use Rattle.std.proofs.Common.{arith, mul-le-mul_right, length-set}
use Rattle.trlab_road.proofs.{EvenLanes.{even_all, even_inside}, ListEven.{list_none, lists_more}}
use Rattle.trlab_road.proofs.ListRoads.{list_read}
use Rattle.trlab_road.proofs.spreading.even_lanes.Goals as goal

pub loop-number-init : goal.loop-number-init
loop-number-init c = record {
  same_lanes = c.in_ok-next.ensures.same_count;
  each_lane = λ k h. rw (c.in_ok-next.ensures.empty k) (list_none c.args.lanes c.args.cells c.args.count k);
}

pub loop-number-preserved : goal.loop-number-preserved
loop-number-preserved c =
    let next = c.loop-number.next.items in
    let k = c.flat_cell-flat.result % c.args.lanes in
    let inv = c.loop-number.invariant in
    let on : k < length next = rw inv.same_lanes (mod-lt c.flat_cell-flat.result c.requires.at_least_one_lane) in
    let is = c.flat_cell-flat.ensures in
    let here = ap (λ (f : ℕ). f % c.args.lanes) (sym is) in
    let car = rw is at c.new.ensures in
    record {
      same_lanes = rw length-set inv.same_lanes;
      each_lane = λ l h. lists_more c.args.lanes c.args.cells c.args.count c.loop-number.number k next c.push.new.self c.new.result c.requires.at_least_one_lane c.requires.room c.loop-number-test.true
          here on inv.each_lane car (c.in_ok-push.ensures.items ∙ ap (λ xs. xs ++ c.new.result ∷ []) (list_read next k c.index_mut.result.now on c.index_mut.ensures.value)) l (rw length-set at h);
    }

pub returns-clause-same_lanes : goal.returns-clause-same_lanes
returns-clause-same_lanes c = c.loop-number.invariant.same_lanes

pub returns-clause-sorted : goal.returns-clause-sorted
returns-clause-sorted c = record { rises = λ l h. (c.loop-number.invariant.each_lane l h).rises }

pub returns-clause-each_lane : goal.returns-clause-each_lane
returns-clause-each_lane c = λ l h. even_all c.args.lanes c.args.cells c.args.count l c.loop-number.number _ c.loop-number-test.false c.loop-number.auto.number-end
    (c.loop-number.invariant.each_lane l (rw c.loop-number.invariant.same_lanes h)).even

-- the cell of each car is one of at most 200000 cells
pub overflow_mul-lanes : goal.overflow_mul-lanes
overflow_mul-lanes c = let few = mul-le-mul_right c.args.cells c.requires.at_most_max_lanes in let small = c.requires.at_most_max_length in omega (arith, few, small)

pub flat_cell-flat-requires-clause-at_most_max_cells : goal.flat_cell-flat-requires-clause-at_most_max_cells
flat_cell-flat-requires-clause-at_most_max_cells c = let few = mul-le-mul_right c.args.cells c.requires.at_most_max_lanes in let small = c.requires.at_most_max_length in omega (arith, few, small)

pub flat_cell-flat-requires-clause-room : goal.flat_cell-flat-requires-clause-room
flat_cell-flat-requires-clause-room c = c.requires.room

pub flat_cell-flat-requires-clause-below : goal.flat_cell-flat-requires-clause-below
flat_cell-flat-requires-clause-below c = c.loop-number-test.true

pub nonzero_rem-flat : goal.nonzero_rem-flat
nonzero_rem-flat c = c.requires.at_least_one_lane

pub nonzero_div-flat : goal.nonzero_div-flat
nonzero_div-flat c = c.requires.at_least_one_lane

pub index_mut-requires : goal.index_mut-requires
index_mut-requires c =
    let on = mod-lt c.flat_cell-flat.result c.requires.at_least_one_lane in
    let same = c.loop-number.invariant.same_lanes in
    let whole = c.loop-number.next.ok.0 in
    omega (arith, on, same, whole)

pub overflow_cast-number : goal.overflow_cast-number
overflow_cast-number c =
    let few = mul-le-mul_right c.args.cells c.requires.at_most_max_lanes in
    let small = c.requires.at_most_max_length in
    let low = c.loop-number-test.true in
    let room = c.requires.room in
    omega (arith, few, small, low, room)

-- the place of a car is a place of its lane
module _ (lanes cells n i flat : ℕ) (is : flat ≡ i * (lanes * cells) / n) (some : 1 ≤ lanes) (room : n ≤ lanes * cells) (low : i < n) where
  place_inside : flat / lanes < cells
  place_inside = rw is (even_inside lanes cells n i some room low)

pub overflow_cast-flat : goal.overflow_cast-flat
overflow_cast-flat c =
    let inside = place_inside c.args.lanes c.args.cells c.args.count c.loop-number.number c.flat_cell-flat.result c.flat_cell-flat.ensures c.requires.at_least_one_lane c.requires.room c.loop-number-test.true in
    let small = c.requires.at_most_max_length in
    omega (arith, inside, small)

pub new-requires-clause-on_lane : goal.new-requires-clause-on_lane
new-requires-clause-on_lane c =
    let inside = place_inside c.args.lanes c.args.cells c.args.count c.loop-number.number c.flat_cell-flat.result c.flat_cell-flat.ensures c.requires.at_least_one_lane c.requires.room c.loop-number-test.true in
    let small = c.requires.at_most_max_length in
    omega (arith, inside, small)

use Rattle.std.proofs.Common.{◌≡◌, ◌<◌, ◌≤◌, ◌∙◌, ℕ, List, Vec, Global, length, get_or, ap, arith}
use Rattle.trlab_road.{specs.Stored.{LaneCar, list_at}, proofs.ListRoads.{list_read, one_list_more}}
use Rattle.trlab_road.proofs.lanes.count_cars.Goals as goal
use Rattle.trlab_bounds.specs.declared.roads.TheConstants.{MAX_LENGTH}

-- the list that the loop reads is short
short : (l m : ℕ) (lists : List (Vec LaneCar Global)) (v : Vec LaneCar Global) → ((j : ℕ) → j < length lists → length (list_at lists j) ≤ MAX_LENGTH)
    → l < length lists → v ≡ get_or lists l v → m ≡ length v.items → (m ≡ length (list_at lists l)) × (m ≤ 100000)
short l m lists v small h is size =
    let here = ap length (list_read lists l v h is) in
    let k = small l h in
    (size ∙ here, omega (arith, here, k, size))

pub overflow_cast-count : goal.overflow_cast-count
overflow_cast-count c =
    let a = short c.loop-lane.lane-index c.len.result c.args.lanes.now _ c.requires.at_most_max_length c.loop-lane-test.true c.lane-item.is (c.len.ensures ∙ c.lane-item.result.ok.0) in
    let b = a.1 in omega (arith, b)

pub overflow_add-count : goal.overflow_add-count
overflow_add-count c =
    let a = short c.loop-lane.lane-index c.len.result c.args.lanes.now _ c.requires.at_most_max_length c.loop-lane-test.true c.lane-item.is (c.len.ensures ∙ c.lane-item.result.ok.0) in
    let b = a.1 in let few = c.loop-lane.invariant.few in let most = c.requires.at_most_max_lanes in let low = c.loop-lane-test.true in omega (arith, b, few, most, low)

pub loop-lane-preserved : goal.loop-lane-preserved
loop-lane-preserved c =
    let a = short c.loop-lane.lane-index c.len.result c.args.lanes.now _ c.requires.at_most_max_length c.loop-lane-test.true c.lane-item.is (c.len.ensures ∙ c.lane-item.result.ok.0) in
    let b = a.0 in let d = a.1 in
    let few = c.loop-lane.invariant.few in
    let before = c.loop-lane.invariant.counted in
    let more = one_list_more c.args.lanes.now c.loop-lane.lane-index c.loop-lane-test.true in
    record { counted = omega (arith, b, before, more); few = omega (arith, d, few) }

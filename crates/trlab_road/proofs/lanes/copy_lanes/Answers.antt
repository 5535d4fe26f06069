use Rattle.std.proofs.Common.{◌≡◌, ℕ, ◌+◌, ◌<◌, ◌∙◌, List, [], ◌∷◌, ◌++◌, Vec, Global, length, take, ap}
use Rattle.std.proofs.lemmas.List.{length-map, map-append, take_more}
use Rattle.trlab_road.{specs.Stored.{LaneCar, list_at, lists_of}, proofs.ListRoads.list_read}
use Rattle.trlab_road.proofs.lanes.copy_lanes.Goals as goal

-- one more lane
one_more : (lanes copies : List (Vec LaneCar Global)) (copy : Vec LaneCar Global) (i : ℕ) → i < length lanes
    → copy.items ≡ list_at lanes i → lists_of copies ≡ take i (lists_of lanes)
    → lists_of (copies ++ copy ∷ []) ≡ take (i + 1) (lists_of lanes)
one_more lanes copies copy i low is before =
    let on : i < length (lists_of lanes) = rw length-map low in
    rw (take_more (lists_of lanes) i [] on)
    (map-append (λ v. v.items) copies (copy ∷ []) ∙ ap (λ xs. xs ++ copy.items ∷ []) before
    ∙ ap (λ (x : List LaneCar). take i (lists_of lanes) ++ x ∷ []) is)

pub loop-lane-preserved : goal.loop-lane-preserved
loop-lane-preserved c =
    rw c.in_ok-push.ensures.items (one_more c.args.lanes.now c.loop-lane.copies.items c.in_ok-from_slice.field-0 c.loop-lane.lane-index c.loop-lane-test.true
    (c.in_ok-from_slice.ensures.items ∙ c.deref.ensures.value ∙ list_read c.args.lanes.now c.loop-lane.lane-index c.lane-item.result c.loop-lane-test.true c.lane-item.is)
    c.loop-lane.invariant)

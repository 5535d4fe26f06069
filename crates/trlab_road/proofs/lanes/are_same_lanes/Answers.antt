use Rattle.std.proofs.Common.{◌≡◌, ℕ, ◌<◌, List, Vec, Global, ap, arith, length, slice_index_or, [], inl, inr}
use Rattle.std.proofs.{Common.{sym, ◌∙◌, refl, ext_get_or}, lemmas.Bool.cases_lt}
use Rattle.std.proofs.lemmas.List.{get_or-map, length-map}
use Rattle.trlab_road.specs.Stored.{LaneCar, list_at, lists_of}
use Rattle.trlab_road.proofs.lanes.are_same_lanes.Goals as goal

-- the list of a lane that is there
list_of : (lanes : List (Vec LaneCar Global)) (k : ℕ) (lane : Vec LaneCar Global) → k < length lanes
    → lane ≡ slice_index_or lanes k lane → list_at lanes k ≡ lane.items
list_of lanes k lane inside is =
    get_or-map (λ (v : Vec LaneCar Global). v.items) lanes k lane [] inside ∙ sym (ap (λ (v : Vec LaneCar Global). v.items) is)

pub returns-then-not-are_same_cars : goal.returns-then-not-are_same_cars
returns-then-not-are_same_cars c =
    let k = c.loop-k.k in
    let inside : k < length c.args.others.now = omega (arith, c.loop-k-test.true, c.if-lanes-others.false) in
    let here = list_of c.args.lanes.now k c.index-lanes-k.result c.loop-k-test.true c.index-lanes-k.is in
    let there = list_of c.args.others.now k c.index-others-k.result inside c.index-others-k.is in (
      λ t. cc t,
      λ e. sym c.if-not-are_same_cars.true ∙ (c.are_same_cars.ensures.1
          (c.deref.ensures.value ∙ sym here ∙ ap (λ xs. slice_index_or xs k []) e ∙ there ∙ sym c.deref-in-loop-k.ensures.value)),
    )

pub loop-k-preserved : goal.loop-k-preserved
loop-k-preserved c j h =
    let k = c.loop-k.k in
    let inside : k < length c.args.others.now = omega (arith, c.loop-k-test.true, c.if-lanes-others.false) in
    let here = list_of c.args.lanes.now k c.index-lanes-k.result c.loop-k-test.true c.index-lanes-k.is in
    let there = list_of c.args.others.now k c.index-others-k.result inside c.index-others-k.is in
    let same = c.are_same_cars.ensures.0 c.if-not-are_same_cars.false in
    elim (cases_lt j k) [
      | inl below ↦ c.loop-k.invariant j below
      | inr past ↦
          let is : j ≡ k = omega (arith, past, h) in
          rw is (here ∙ sym c.deref.ensures.value ∙ same ∙ c.deref-in-loop-k.ensures.value ∙ sym there)
    ]

pub returns : goal.returns
returns c =
    let lanes = length-map c.args.lanes.now (λ (v : Vec LaneCar Global). v.items) in
    let others = length-map c.args.others.now (λ (v : Vec LaneCar Global). v.items) in
    let whole = c.loop-k-test.false in
    let same = c.if-lanes-others.false in (
      λ t. ext_get_or [] (lists_of c.args.lanes.now) (lists_of c.args.others.now) (omega (arith, lanes, others, same)) (λ j h. c.loop-k.invariant j (omega (arith, h, lanes, whole))),
      λ e. refl,
    )

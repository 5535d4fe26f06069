use Rattle.std.proofs.Common.{◌≡◌, ◌-◌, ◌≤◌, take, drop, [], ◌∷◌, ◌++◌, ◌≢◌, nat_eq, ◌+◌, ◌<◌, ◌∙◌, ℕ, Bool}
use Rattle.std.proofs.Common.{true, false, None, refl, sym, cond, min, subst, length, arith, eqb-true}
use Rattle.std.proofs.lemmas.Bool.{eqb-false}
use Rattle.trlab_road.specs.LaneChange.{cell_after_change}
use Rattle.trlab_road.specs.{Cells.Cell, Stored.{cells_of, cell_at, lane_crosses_at, place_of, IsFirstFrom}}
use Rattle.trlab_road.proofs.ListLaneChange.{Merged, merged_none, merged_next, merged_skip, merged_push}
use Rattle.trlab_road.proofs.ListLaneChange.{merged_all, crosses_here, sought_here, sought_none, sought_past}
use Rattle.trlab_road.proofs.ListLaneChange.{sought_next, due_low, own_low, coming_low, due_none, due_past}
use Rattle.trlab_road.proofs.{ListLaneChange.{due_within, stays, first_at, merged_run}, Lists.rises_high}
use Rattle.trlab_road.proofs.lane_change.change_lane.Goals.{then-crosses-own, else-own_here-via-else-own_here}
use Rattle.trlab_road.proofs.lane_change.change_lane.Goals.{else-crosses-own+in_ok-extend_from_slice}
use Rattle.trlab_road.proofs.lane_change.change_lane.Goals.{then-own_here+then-not-crosses-own, else-own_here}
use Rattle.trlab_road.proofs.lane_change.change_lane.Goals.{else-own_here-via-then-own_here+else-not-crosses-own}
use Rattle.trlab_road.proofs.lane_change.change_lane.Goals as goal

pub loop-own_next-init : goal.loop-own_next-init
loop-own_next-init c =
    let n = c.args.cells in
    let own = c.args.own.cars.now in
    let oc = lane_crosses_at (cells_of n own) c.args.crosses.now c.args.own.from in
    let none = merged_none n own c.args.coming.now oc (λ _. true) c.requires.own_sorted c.requires.coming_sorted in
    record {
      own_due = record { here = c.place_or_end-own_next.ensures.here; past = c.place_or_end-own_next.ensures.past };
      coming_due = record { here = c.place_or_end-due.ensures.here; past = c.place_or_end-due.ensures.past };
      merged = rw (c.in_ok-reserve.ensures.items, c.clear.ensures.items) (merged_next n own c.args.coming.now oc (λ _. true) c.requires.own_sorted c.requires.coming_sorted _ 0 0 0 _ _ _ none (omega arith)
          c.place_or_end-own_next.ensures.here c.place_or_end-own_next.ensures.past c.place_or_end-due.ensures.here c.place_or_end-due.ensures.past refl);
    }

-- a car that leaves, and a car that comes if none stays
left : (oc : Bool) (own : Cell) → oc ≡ true → cond oc None own ≡ None
left oc own e = rw e refl

empty : (oc : Bool) (own : Cell) → own ≡ None → cond oc None own ≡ None
empty true own e = refl
empty false own e = e

comes : (oc : Bool) (own side : Cell) → cond oc None own ≡ None → side ≡ cell_after_change oc true own side
comes oc own side e = rw e refl

-- a car of the lane is next
pub loop-own_next-preserved-then-own_next-due : goal.loop-own_next-preserved-then-own_next-due
loop-own_next-preserved-then-own_next-due c =
    let n = c.args.cells in
    let own = c.args.own.cars.now in
    let beside = c.args.coming.now in
    let oc = lane_crosses_at (cells_of n own) c.args.crosses.now c.args.own.from in
    let bc : ℕ → Bool = λ _. true in
    let r = c.requires.own_sorted in
    let q = c.requires.coming_sorted in
    let items = c.loop-own_next.next.items in
    let i = c.loop-own_next.i in
    let j = c.loop-own_next.j in
    let x = c.loop-own_next.own_next in
    let later : x < c.loop-own_next.due = c.if-own_next-due.true in
    let least : min x c.loop-own_next.due ≡ x = omega (arith, later) in
    let test = c.loop-own_next-test.true in
    let is = c.min.ensures in
    let inside : x < n = omega (arith, test, is, least) in
    let m = subst (λ y. Merged n own beside oc bc items i j y) least c.loop-own_next.invariant.merged in
    let own_due = c.loop-own_next.invariant.own_due in
    let coming_due = c.loop-own_next.invariant.coming_due in
    let due_high : c.loop-own_next.due ≤ n = due_within n beside j c.loop-own_next.due q coming_due in
    let low = due_low n own i x own_due inside in
    let there = sym (own_due.here low) in
    let here = sought_here n own x i r m.own_at low there in
    let s = sought_past n own x i r m.own_at low there in
    let t = due_past n beside x j c.loop-own_next.due q m.beside_at coming_due later in
    let none = due_none n beside x j c.loop-own_next.due q m.beside_at coming_due later in
    let answer = crosses_here n own c.args.crosses.now c.args.own.from x i r m.own_at (omega (arith, inside)) in
    let step : (y : ℕ) × (Merged n own beside oc bc c.if-crosses-own.next.items c.if-crosses-own.i j y × (y ≤ c.loop-own_next.due)) =
    elim c.if-crosses-own.branch [
      | then-crosses-own w ↦ (
        x + 1,
        (
          rw (w.next-is, w.i-is)
              (merged_skip n own beside oc bc r q items i j x m (i + 1) j s t (sym none ∙ comes (oc x) (cell_at own x) (cell_at beside x) (left (oc x) (cell_at own x) (sym answer ∙ w.if-crosses-own.true)))),
          omega (arith, later),
        ),
      )
      | else-crosses-own+in_ok-extend_from_slice w ↦
          let end = w.run_end-end.result in
          let after : i < end = w.run_end-end.ensures.in_range.0 in
          let within : end ≤ length own = w.run_end-end.ensures.in_range.1 in
          let index : i + (end - i) ≡ end = omega (arith, after) in
          let stay : (k : ℕ) → i ≤ k → k < i + (end - i) → oc (place_of own k) ≡ false = λ k a b.
          let on : k < end = omega (arith, b, index) in
          let here : k < length own = omega (arith, on, within) in
          let high = rises_high 0 n own k r here in
          sym (crosses_here n own c.args.crosses.now c.args.own.from (place_of own k) k r (first_at n own k r here) (omega (arith, high))) ∙ w.run_end-end.ensures.stay k a on in
          let run = merged_run n own beside oc r q j c.loop-own_next.due coming_due due_high (end - i) items i x m (omega (arith, later)) (omega (arith, index, within))
          (λ k a b. w.run_end-end.ensures.before k a (omega (arith, b, index))) stay in (
            run.0,
            (
              rw (w.next-is, w.i-is, w.in_ok-extend_from_slice.ensures.items)
                  (subst (λ e. Merged n own beside oc bc (items ++ take (end - i) (drop i own)) e j run.0) index run.1.0),
              run.1.1,
            ),
          )
    ] in
    let further = c.place_or_end-own_next-then-own_next-due.ensures in
    record {
      own_due = record { here = further.here; past = further.past };
      coming_due = coming_due;
      merged = merged_next n own beside oc bc r q _ _ j step.0 _ _ _ step.1.0 (let a = step.1.1 in omega (arith, a, due_high)) further.here further.past coming_due.here coming_due.past refl;
    }

-- a car that comes is next
pub loop-own_next-preserved : goal.loop-own_next-preserved
loop-own_next-preserved c =
    let n = c.args.cells in
    let own = c.args.own.cars.now in
    let beside = c.args.coming.now in
    let oc = lane_crosses_at (cells_of n own) c.args.crosses.now c.args.own.from in
    let bc : ℕ → Bool = λ _. true in
    let r = c.requires.own_sorted in
    let q = c.requires.coming_sorted in
    let items = c.loop-own_next.next.items in
    let i = c.loop-own_next.i in
    let j = c.loop-own_next.j in
    let x = c.loop-own_next.due in
    let own_next = c.loop-own_next.own_next in
    let not_before = c.if-own_next-due.false in
    let least : min own_next x ≡ x = omega (arith, not_before) in
    let test = c.loop-own_next-test.true in
    let is = c.min.ensures in
    let inside : x < n = omega (arith, test, is, least) in
    let m = subst (λ y. Merged n own beside oc bc items i j y) least c.loop-own_next.invariant.merged in
    let own_due = c.loop-own_next.invariant.own_due in
    let coming_due = c.loop-own_next.invariant.coming_due in
    let low = due_low n beside j x coming_due inside in
    let there = sym (coming_due.here low) in
    let here = sought_here n beside x j q m.beside_at low there in
    let t = sought_past n beside x j q m.beside_at low there in
    let answer = crosses_here n own c.args.crosses.now c.args.own.from x i r m.own_at (omega (arith, inside)) in
    let own_low : own_next ≡ x → i < length own = λ same. due_low n own i own_next own_due (omega (arith, same, inside)) in
    let own_there : own_next ≡ x → place_of own i ≡ x = λ same. sym (own_due.here (own_low same)) ∙ same in
    let apart : own_next ≢ x → i < length own → place_of own i ≢ x = λ other on e. other (own_due.here on ∙ e) in
    let s : IsFirstFrom own (x + 1) (i + c.from-i.result) =
    rw c.from-i.ensures (sought_next n own x i (nat_eq own_next x) r m.own_at (λ e. own_low (eqb-true own_next x e)) (λ e. own_there (eqb-true own_next x e)) (λ f. apart (eqb-false own_next x f))) in
    let step : Merged n own beside oc bc (items ++ c.if-own_here.car ∷ []) (i + c.from-i.result) (j + 1) (x + 1) =
    elim c.if-own_here.branch [
      | then-own_here+then-not-crosses-own w ↦
          let same : own_next ≡ x = w.if-own_here.true in
          let own_here = sought_here n own x i r m.own_at (own_low same) (own_there same) in
          rw (w.car-is, w.car_at-car.ensures)
          (merged_push n own beside oc bc r q items i j x m _ _ (j + 1) s t inside (own_there same) (stays (oc x) (cell_at own x) (cell_at beside x) _ own_here (sym answer ∙ w.if-not-crosses-own.true)))
      | else-own_here w ↦
          let gone : cond (oc x) None (cell_at own x) ≡ None = elim w.else-own_here.branch [
            | else-own_here-via-then-own_here+else-not-crosses-own w' ↦ left (oc x) (cell_at own x) (sym answer ∙ w'.if-not-crosses-own.false)
            | else-own_here-via-else-own_here w' ↦ empty (oc x) (cell_at own x) (sought_none n own x i r m.own_at (apart w'.if-own_here.false))
          ] in
          rw (w.car-is, w.car_at-car-else-own_here.ensures)
          (merged_push n own beside oc bc r q items i j x m _ _ (j + 1) s t inside there (sym here ∙ comes (oc x) (cell_at own x) (cell_at beside x) gone))
    ] in
    let further = c.place_or_end-own_next-else-own_next-due.ensures in
    let due = c.place_or_end-due-else-own_next-due.ensures in
    record {
      own_due = record { here = further.here; past = further.past };
      coming_due = record { here = due.here; past = due.past };
      merged = rw c.in_ok-push.ensures.items (merged_next n own beside oc bc r q _ (i + c.from-i.result) (j + 1) (x + 1) _ _ _ step (omega (arith, inside)) further.here further.past due.here due.past refl);
    }

pub returns-clause-crosses : goal.returns-clause-crosses
returns-clause-crosses c = merged_all _ _ _ _ _ _ _ _ _ c.loop-own_next.invariant.merged (let h = c.loop-own_next-test.false in let is = c.min.ensures in omega (arith, h, is))

-- the next car of either list is a car
pub run_end-end-requires-clause-each : goal.run_end-end-requires-clause-each
run_end-end-requires-clause-each c = c.requires.own_each

pub run_end-end-requires-clause-begin : goal.run_end-end-requires-clause-begin
run_end-end-requires-clause-begin c = own_low _ _ _ _ _ _ c.loop-own_next.invariant.own_due c.min.ensures c.loop-own_next-test.true c.if-own_next-due.true

pub run_end-end-requires-clause-stays : goal.run_end-end-requires-clause-stays
run_end-end-requires-clause-stays c = c.if-crosses-own.false

pub run_end-end-requires-clause-before : goal.run_end-end-requires-clause-before
run_end-end-requires-clause-before c =
    let own_due = c.loop-own_next.invariant.own_due in
    let low = own_low _ _ _ _ _ _ own_due c.min.ensures c.loop-own_next-test.true c.if-own_next-due.true in
    let here = own_due.here low in
    let later = c.if-own_next-due.true in
    omega (arith, here, later)

pub slice_bounds-extend_from_slice-count : goal.slice_bounds-extend_from_slice-count
slice_bounds-extend_from_slice-count c = let after = c.run_end-end.ensures.in_range.0 in let within = c.run_end-end.ensures.in_range.1 in omega (arith, after, within)

pub slice_bounds-extend_from_slice-start : goal.slice_bounds-extend_from_slice-start
slice_bounds-extend_from_slice-start c = let after = c.run_end-end.ensures.in_range.0 in let within = c.run_end-end.ensures.in_range.1 in omega (arith, after, within)

pub slice_bounds-extend_from_slice-end : goal.slice_bounds-extend_from_slice-end
slice_bounds-extend_from_slice-end c = let after = c.run_end-end.ensures.in_range.0 in let within = c.run_end-end.ensures.in_range.1 in omega (arith, after, within)

pub car_at-car-requires : goal.car_at-car-requires
car_at-car-requires c =
    let test = c.loop-own_next-test.true in
    let is = c.min.ensures in
    let same = c.if-own_here.true in
    due_low _ _ _ _ c.loop-own_next.invariant.own_due (omega (arith, test, is, same))

pub car_at-car-requires-else-own_here : goal.car_at-car-requires-else-own_here
car_at-car-requires-else-own_here c = coming_low _ _ _ _ _ _ c.loop-own_next.invariant.coming_due c.min.ensures c.loop-own_next-test.true c.if-own_next-due.false

pub loop-own_next-smaller-then-own_next-due : goal.loop-own_next-smaller-then-own_next-due
loop-own_next-smaller-then-own_next-due c =
    let low = own_low _ _ _ _ _ _ c.loop-own_next.invariant.own_due c.min.ensures c.loop-own_next-test.true c.if-own_next-due.true in
    elim c.if-crosses-own.branch [
      | then-crosses-own w ↦ let on = w.i-is in omega (arith, low, on)
      | else-crosses-own+in_ok-extend_from_slice w ↦ let on = w.i-is in let end = w.run_end-end.ensures.in_range.0 in omega (arith, low, on, end)
    ]

pub loop-own_next-smaller : goal.loop-own_next-smaller
loop-own_next-smaller c =
    let low = coming_low _ _ _ _ _ _ c.loop-own_next.invariant.coming_due c.min.ensures c.loop-own_next-test.true c.if-own_next-due.false in
    omega (arith, low)

use Rattle.std.proofs.Common.{◌≡◌, ◌<◌, ◌≤◌, ◌∙◌, ℕ, List, length, get_or, set, refl, ap, subst, below_more}
use Rattle.std.proofs.Common.{arith, length-set}
use Rattle.trlab_road.specs.{Stored.{LaneCar, cells_of, list_at, lane_answer}, Motion.LaneMoves}
use Rattle.trlab_road.proofs.ListRoads.{list_here, list_written, list_unwritten, list_counted, list_within}
use Rattle.trlab_road.proofs.motion.move_lanes.Goals as goal

pub move_lane-requires-clause-sorted : goal.move_lane-requires-clause-sorted
move_lane-requires-clause-sorted c =
    let l = c.loop-l.l in
    let low : l < length c.loop-l.lanes = let t = c.loop-l-test.true in let e = c.loop-l.auto.lanes in omega (arith, t, e) in
    let here = list_here c.loop-l.lanes l c.index-lanes-l.result low ∙ c.loop-l.invariant.stand l (omega arith) in
    rw here (c.requires.sorted.rises l c.loop-l-test.true)

pub move_lane-requires-clause-one_each : goal.move_lane-requires-clause-one_each
move_lane-requires-clause-one_each c =
    let l = c.loop-l.l in
    let low : l < length c.loop-l.lanes = let t = c.loop-l-test.true in let e = c.loop-l.auto.lanes in omega (arith, t, e) in
    let here = ap length (list_here c.loop-l.lanes l c.index-lanes-l.result low ∙ c.loop-l.invariant.stand l (omega arith)) in
    let a = list_within c.args.cells c.args.lanes.now l c.requires.sorted c.loop-l-test.true in
    let b = c.loop-l.invariant.counted in
    let d = c.requires.one_each in
    omega (arith, here, a, b, d)

pub move_lane-requires-clause-gaps : goal.move_lane-requires-clause-gaps
move_lane-requires-clause-gaps c =
    let l = c.loop-l.l in
    let low : l < length c.loop-l.lanes = let t = c.loop-l-test.true in let e = c.loop-l.auto.lanes in omega (arith, t, e) in
    let here = list_here c.loop-l.lanes l c.index-lanes-l.result low ∙ c.loop-l.invariant.stand l (omega arith) in
    rw (here, c.loop-l.invariant.counted) (c.requires.gaps.each_lane l c.loop-l-test.true)

-- the motion of the old list, whose answers begin at the number of the cars before it
moved_here : (n : ℕ) (answers : List ℕ) (list lane next : List LaneCar) (from before : ℕ) → list ≡ lane → from ≡ before → LaneMoves (lane_answer (cells_of n list) answers from) (cells_of n list) (cells_of n next)
    → LaneMoves (lane_answer (cells_of n lane) answers before) (cells_of n lane) (cells_of n next)
moved_here n answers list lane next from before e f m = subst (λ (k : ℕ). LaneMoves (lane_answer (cells_of n lane) answers k) (cells_of n lane) (cells_of n next)) f (subst (λ (xs : List LaneCar). LaneMoves (lane_answer (cells_of n xs) answers from) (cells_of n xs) (cells_of n next)) e m)

pub loop-l-preserved : goal.loop-l-preserved
loop-l-preserved c =
    let n = c.args.cells in
    let lists = c.args.lanes.now in
    let l = c.loop-l.l in
    let new = c.move_lane.new.cars in
    let low : l < length c.loop-l.lanes = let t = c.loop-l-test.true in let e = c.loop-l.auto.lanes in omega (arith, t, e) in
    let here = list_here c.loop-l.lanes l c.index-lanes-l.result low ∙ c.loop-l.invariant.stand l (omega arith) in
    let there = list_written c.loop-l.lanes l new low in
    let other : (j : ℕ) → j < l → list_at (set c.loop-l.lanes l new) j ≡ list_at c.loop-l.lanes j = λ j h. list_unwritten c.loop-l.lanes l j new (λ e. absurd (omega (arith, e, h))) in
    record {
      counted = (
          let more = list_counted n lists l c.requires.sorted c.loop-l-test.true in
          let size = ap length here in
          let count = c.len-from.ensures in
          let read = ap length (list_here (set c.loop-l.lanes l new) l c.index-lanes-l-in-loop-l.result (rw length-set low) ∙ there) in
          let same = c.move_lane.ensures.same_count in
          let whole = (get_or (set c.loop-l.lanes l new) l c.index-lanes-l-in-loop-l.result).ok.0 in
          let before = c.loop-l.invariant.counted in
          omega (arith, more, size, count, read, same, whole, before));
      rises = below_more _ _ (λ j h. rw (other j h) (c.loop-l.invariant.rises j h)) (rw there c.move_lane.ensures.rises);
      moved = below_more _ _ (λ j h. rw (other j h) (c.loop-l.invariant.moved j h))
          (rw there (moved_here n c.args.speeds.now _ _ _ _ _ here c.loop-l.invariant.counted c.move_lane.ensures.moves));
      stand = λ j h. list_unwritten c.loop-l.lanes l j new (λ e. absurd (omega (arith, e, h))) ∙ c.loop-l.invariant.stand j (omega arith);
    }

pub loop-l-init : goal.loop-l-init
loop-l-init c = record { counted = refl; rises = λ j h. absurd (omega (arith, h)); moved = λ j h. absurd (omega (arith, h)); stand = λ j h. refl }

pub bounds-lanes-l : goal.bounds-lanes-l
bounds-lanes-l c = rw c.loop-l.auto.lanes c.loop-l-test.true

pub bounds-lanes-l-in-loop-l : goal.bounds-lanes-l-in-loop-l
bounds-lanes-l-in-loop-l c = rw (length-set, c.loop-l.auto.lanes) c.loop-l-test.true

pub move_lane-requires-clause-at_most_max_length : goal.move_lane-requires-clause-at_most_max_length
move_lane-requires-clause-at_most_max_length c = c.requires.at_most_max_length

pub move_lane-requires-clause-at_most_max_limit : goal.move_lane-requires-clause-at_most_max_limit
move_lane-requires-clause-at_most_max_limit c = c.requires.at_most_max_limit

-- after the loop every lane has moved
behind : (j l all : ℕ) → all ≤ l → j < all → j < l
behind j l all end on = omega (arith, end, on)

pub returns-clause-sorted : goal.returns-clause-sorted
returns-clause-sorted c = record { rises = λ j h. c.loop-l.invariant.rises j (behind j _ _ c.loop-l-test.false (rw c.loop-l.auto.lanes at h)) }

pub returns-clause-moves : goal.returns-clause-moves
returns-clause-moves c = record { same_lanes = c.loop-l.auto.lanes; each_lane = λ j h. c.loop-l.invariant.moved j (behind j _ _ c.loop-l-test.false h) }

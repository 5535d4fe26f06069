use Rattle.std.proofs.Common.{◌≡◌, ℕ, [], Vec, Global, vec_len, sym, ◌∙◌, arith}
use Rattle.std.proofs.lemmas.List.{nil_from_length}
use Rattle.trlab_road.{specs.{Stored.{LaneCar, cells_of}, Motion.LaneMoves}, proofs.ListMotion.moved_all}
use Rattle.trlab_road.proofs.{ListMotion.moved_none, StraightMotion.{all_in_place, last_short, room_left}}
use Rattle.trlab_road.proofs.StraightMotion.{short, went_round, went_straight}
use Rattle.trlab_road.proofs.motion.move_lane.Goals as goal

-- no car moves
none_moves : (n : ℕ) (answer : ℕ → ℕ) (old new : Vec LaneCar Global) → (vec_len old ≡ 0) × (vec_len new ≡ 0)
    → LaneMoves answer (cells_of n old.items) (cells_of n new.items)
none_moves n answer old new none =
    rw (nil_from_length old.items (sym old.ok.0 ∙ none.0), nil_from_length new.items (sym new.ok.0 ∙ none.1)) (moved_all n answer [] [] tt (moved_none n answer []))

pub returns-in_default-clause-moves : goal.returns-in_default-clause-moves
returns-in_default-clause-moves c = none_moves c.args.cells _ c.args.cars.now c.pop.new.self c.in_default.ensures.cases

pub move_straight-requires-clause-short : goal.move_straight-requires-clause-short
move_straight-requires-clause-short c = rw c.deref_mut.ensures.value (λ k low.
    let a = short c.args.cells c.args.cars.now.items c.pop.new.self.items c.in-Some.last c.args.speeds.now c.args.from c.requires.sorted c.requires.gaps c.in-Some.ensures.items k low in
    let small = c.requires.at_most_max_length in
    omega (arith, a, small))

pub new-requires-else-place-cells-clause-on_lane : goal.new-requires-else-place-cells-clause-on_lane
new-requires-else-place-cells-clause-on_lane c =
    let short = last_short c.args.cells _ _ _ c.args.speeds.now c.args.from c.requires.sorted c.requires.gaps c.in-Some.ensures.items _ _ (c.len-straight.ensures ∙ c.pop.new.self.ok.0) c.place.ensures in
    let small = c.requires.at_most_max_length in
    omega (arith, short, small)

pub returns-then-place-cells-clause-rises : goal.returns-then-place-cells-clause-rises
returns-then-place-cells-clause-rises c =
    let gone = rw c.deref_mut.ensures.value at c.move_straight.ensures in
    let written = all_in_place c.pop.new.self.items c.move_straight.new.cars c.pop.new.self.len c.pop.new.self.ok.0 gone.same_count in
    let room = room_left c.args.cars.now c.pop.new.self c.in-Some.last c.in-Some.ensures.items c.pop.ensures.capacity in
    let list = rw written at (rw (c.push.ensures.succeeds room) at c.push.ensures.items) in
    (went_straight c.args.cells _ _ _ c.args.speeds.now c.args.from c.requires.sorted c.requires.gaps c.in-Some.ensures.items _ gone _ _ _ _ _ (c.len-straight.ensures ∙ c.pop.new.self.ok.0) list c.new.ensures c.number-number.ensures c.place.ensures c.if-place-cells.true).0

pub returns-then-place-cells-clause-moves : goal.returns-then-place-cells-clause-moves
returns-then-place-cells-clause-moves c =
    let gone = rw c.deref_mut.ensures.value at c.move_straight.ensures in
    let written = all_in_place c.pop.new.self.items c.move_straight.new.cars c.pop.new.self.len c.pop.new.self.ok.0 gone.same_count in
    let room = room_left c.args.cars.now c.pop.new.self c.in-Some.last c.in-Some.ensures.items c.pop.ensures.capacity in
    let list = rw written at (rw (c.push.ensures.succeeds room) at c.push.ensures.items) in
    (went_straight c.args.cells _ _ _ c.args.speeds.now c.args.from c.requires.sorted c.requires.gaps c.in-Some.ensures.items _ gone _ _ _ _ _ (c.len-straight.ensures ∙ c.pop.new.self.ok.0) list c.new.ensures c.number-number.ensures c.place.ensures c.if-place-cells.true).1

pub returns-else-place-cells-clause-rises : goal.returns-else-place-cells-clause-rises
returns-else-place-cells-clause-rises c =
    let gone = rw c.deref_mut.ensures.value at c.move_straight.ensures in
    let written = all_in_place c.pop.new.self.items c.move_straight.new.cars c.pop.new.self.len c.pop.new.self.ok.0 gone.same_count in
    let room = room_left c.args.cars.now c.pop.new.self c.in-Some.last c.in-Some.ensures.items c.pop.ensures.capacity in
    let list = rw written at (rw (c.insert.ensures.succeeds room) at c.insert.ensures.items) in
    (went_round c.args.cells _ _ _ c.args.speeds.now c.args.from c.requires.sorted c.requires.gaps c.in-Some.ensures.items _ gone _ _ _ _ _ (c.len-straight.ensures ∙ c.pop.new.self.ok.0) list c.new-else-place-cells.ensures c.number-number.ensures c.place.ensures c.if-place-cells.false).0

pub returns-else-place-cells-clause-moves : goal.returns-else-place-cells-clause-moves
returns-else-place-cells-clause-moves c =
    let gone = rw c.deref_mut.ensures.value at c.move_straight.ensures in
    let written = all_in_place c.pop.new.self.items c.move_straight.new.cars c.pop.new.self.len c.pop.new.self.ok.0 gone.same_count in
    let room = room_left c.args.cars.now c.pop.new.self c.in-Some.last c.in-Some.ensures.items c.pop.ensures.capacity in
    let list = rw written at (rw (c.insert.ensures.succeeds room) at c.insert.ensures.items) in
    (went_round c.args.cells _ _ _ c.args.speeds.now c.args.from c.requires.sorted c.requires.gaps c.in-Some.ensures.items _ gone _ _ _ _ _ (c.len-straight.ensures ∙ c.pop.new.self.ok.0) list c.new-else-place-cells.ensures c.number-number.ensures c.place.ensures c.if-place-cells.false).1

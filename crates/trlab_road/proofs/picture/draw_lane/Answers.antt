use Rattle.std.proofs.Common.{◌≡◌, ℕ, refl, sym, ap, ◌∙◌, inl, inr, arith}
use Rattle.trlab_bounds.specs.declared.roads.TheConstants.{MAX_LIMIT}
use Rattle.trlab_road.specs.{Pictures.{ShowsCell, ShowsSpeed, dot}, Stored.speed_of_character}
use Rattle.trlab_road.proofs.Characters.{no_point, speed_back}
use Rattle.trlab_road.proofs.ListDrawing.{drawn_none, drawn_all, drawn_skip, drawn_more}
use Rattle.trlab_road.proofs.picture.draw_lane.Goals.{in-Some+in_ok-push, in_default}
use Rattle.trlab_road.proofs.picture.draw_lane.Goals as goal

-- a character that shows a cell, but not a speed, is a dot
only_point : (character : ℕ) → ShowsCell MAX_LIMIT character → ¬ (ShowsSpeed MAX_LIMIT character) → character ≡ dot
only_point character (inl is) none = is
only_point character (inr shows) none = absurd (none shows)

pub loop-place-preserved : goal.loop-place-preserved
loop-place-preserved c =
    elim c.match-speed_shown.branch [
      | in-Some+in_ok-push w ↦
          let shown = w.in-Some.ensures.shown in
          let speed = sym (speed_back w.in-Some.speed) ∙ ap speed_of_character (sym shown) in
          rw (w.cars-is, w.number-is, w.in_ok-push.ensures.items)
          (drawn_more c.args.from c.args.picture.now c.loop-place.cars.items c.loop-place.number c.loop-place.place c.loop-place.invariant c.loop-place-test.true _
          (λ e. no_point w.in-Some.speed (sym shown ∙ e))
          (w.new.ensures ∙ ap (λ v. record { number = c.loop-place.number; place = c.loop-place.place; speed = v }) speed))
      | in_default w ↦ rw (w.cars-is, w.number-is)
          (drawn_skip c.args.from c.args.picture.now c.loop-place.cars.items c.loop-place.number c.loop-place.place c.loop-place.invariant c.loop-place-test.true
          (only_point _ (c.requires.shown c.loop-place.place c.loop-place-test.true) (w.in_default.ensures.none refl)))
    ]

pub loop-place-init : goal.loop-place-init
loop-place-init c = drawn_none c.args.from c.args.picture.now c.new-cars.result.items c.new-cars.ensures.items

pub overflow_cast-place : goal.overflow_cast-place
overflow_cast-place c = let on = c.loop-place-test.true in let small = c.requires.at_most_max_length in omega (arith, on, small)

pub new-requires-clause-on_lane : goal.new-requires-clause-on_lane
new-requires-clause-on_lane c = let on = c.loop-place-test.true in let small = c.requires.at_most_max_length in omega (arith, on, small)

pub new-requires-clause-at_most_max_limit : goal.new-requires-clause-at_most_max_limit
new-requires-clause-at_most_max_limit c = c.in-Some.ensures.in_range

pub overflow_add-number : goal.overflow_add-number
overflow_add-number c =
    let count = c.loop-place.invariant.counted in
    let few = c.loop-place.invariant.few in
    let on = c.loop-place-test.true in
    let small = c.requires.at_most_max_length in
    let first = c.requires.at_most_max_cars in
    omega (arith, count, few, on, small, first)

pub returns-clause-rises : goal.returns-clause-rises
returns-clause-rises c =
    let last = c.loop-place-test.false in
    let inside = c.loop-place.auto.place-end in
    (drawn_all c.args.from c.args.picture.now c.loop-place.cars.items c.loop-place.number c.loop-place.place c.loop-place.invariant (omega (arith, last, inside))).0

pub returns-clause-drawn : goal.returns-clause-drawn
returns-clause-drawn c =
    let last = c.loop-place-test.false in
    let inside = c.loop-place.auto.place-end in
    (drawn_all c.args.from c.args.picture.now c.loop-place.cars.items c.loop-place.number c.loop-place.place c.loop-place.invariant (omega (arith, last, inside))).1

use Rattle.std.proofs.Common.{◌≢◌, ◌<◌, ◌∙◌, length, sym, arith}
use Rattle.trlab_road.{specs.Stored.place_of, proofs.ListSides.{taken, taken_ahead, taken_behind, free}}
use Rattle.trlab_road.proofs.ListSides.{free_ahead, free_behind, free_parted, free_past}
use Rattle.trlab_road.proofs.gaps.look_anywhere.Goals.{else-next-cars-via-then-next-cars+else-place_at-place}
use Rattle.trlab_road.proofs.gaps.look_anywhere.Goals.{else-next-cars-via-else-next-cars}
use Rattle.trlab_road.proofs.gaps.look_anywhere.Goals as goal

pub returns-then-place_at-place-clause-beside : goal.returns-then-place_at-place-clause-beside
returns-then-place_at-place-clause-beside c =
    let same = sym c.place_at.ensures ∙ c.if-place_at-place.true in
    let inside = c.requires.inside in
    record {
      empty = sym (taken c.args.cells c.args.cars.now c.args.place c.args.next c.requires.sorted inside c.requires.found c.if-next-cars.true same);
      ahead = sym (taken_ahead c.args.cells c.args.cars.now c.args.place c.args.next c.requires.sorted inside c.requires.found c.if-next-cars.true same);
      behind = sym (taken_behind c.args.cells c.args.cars.now c.args.place c.args.next c.requires.sorted inside c.requires.found c.if-next-cars.true same);
      ahead_within = omega (arith, inside);
      behind_within = omega (arith, inside);
    }

pub gap_ahead-requires-clause-parted : goal.gap_ahead-requires-clause-parted
gap_ahead-requires-clause-parted c =
    let other : c.args.next < length c.args.cars.now → place_of c.args.cars.now c.args.next ≢ c.args.place = λ low. elim c.else-next-cars.branch [
      | else-next-cars-via-then-next-cars+else-place_at-place w ↦ (λ e. w.if-place_at-place.false (w.place_at.ensures ∙ e))
      | else-next-cars-via-else-next-cars w ↦ (let h = w.if-next-cars.false in absurd (omega arith))
    ] in
    free_parted c.args.cells c.args.cars.now c.args.place c.args.next c.requires.sorted c.requires.inside c.requires.found other

pub gap_behind-requires-clause-after : goal.gap_behind-requires-clause-after
gap_behind-requires-clause-after c =
    let other : c.args.next < length c.args.cars.now → place_of c.args.cars.now c.args.next ≢ c.args.place = λ low. elim c.else-next-cars.branch [
      | else-next-cars-via-then-next-cars+else-place_at-place w ↦ (λ e. w.if-place_at-place.false (w.place_at.ensures ∙ e))
      | else-next-cars-via-else-next-cars w ↦ (let h = w.if-next-cars.false in absurd (omega arith))
    ] in
    free_past c.args.cells c.args.cars.now c.args.place c.args.next c.requires.sorted c.requires.inside c.requires.found other

pub returns-clause-beside : goal.returns-clause-beside
returns-clause-beside c =
    let other : c.args.next < length c.args.cars.now → place_of c.args.cars.now c.args.next ≢ c.args.place = λ low. elim c.else-next-cars.branch [
      | else-next-cars-via-then-next-cars+else-place_at-place w ↦ (λ e. w.if-place_at-place.false (w.place_at.ensures ∙ e))
      | else-next-cars-via-else-next-cars w ↦ (let h = w.if-next-cars.false in absurd (omega arith))
    ] in
    record {
      empty = sym (free c.args.cells c.args.cars.now c.args.place c.args.next c.requires.sorted c.requires.inside c.requires.found other);
      ahead = c.gap_ahead.ensures.value ∙ sym (free_ahead c.args.cells c.args.cars.now c.args.place c.args.next c.requires.sorted c.requires.inside c.requires.found other);
      behind = c.gap_behind.ensures.value ∙ sym (free_behind c.args.cells c.args.cars.now c.args.place c.args.next c.requires.sorted c.requires.inside c.requires.found other);
      ahead_within = c.gap_ahead.ensures.in_range;
      behind_within = c.gap_behind.ensures.in_range;
    }

use Rattle.std.proofs.Common.{◌∙◌, sym, arith}
use Rattle.trlab_road.proofs.ListLaneChange.{rank_sought}
use Rattle.trlab_road.proofs.gaps.look_beside.Goals as goal

pub first_near-next-requires : goal.first_near-next-requires
first_near-next-requires c = record { sorted = (c.args.cells, c.requires.sorted) }

-- the index that was found counts the cars before the place
pub returns-then-next-cars-clause-next : goal.returns-then-next-cars-clause-next
returns-then-next-cars-clause-next c =
    let inside = c.requires.inside in
    c.look_between-then-next-cars.ensures.next ∙ sym (rank_sought c.args.cells c.args.cars.now c.args.place c.first_near-next.result c.requires.sorted c.first_near-next.ensures (omega (arith, inside)))

pub returns-else-next-gt0-clause-next : goal.returns-else-next-gt0-clause-next
returns-else-next-gt0-clause-next c =
    let inside = c.requires.inside in
    c.look_anywhere.ensures.next ∙ sym (rank_sought c.args.cells c.args.cars.now c.args.place c.first_near-next.result c.requires.sorted c.first_near-next.ensures (omega (arith, inside)))

pub returns-in-Some-clause-next : goal.returns-in-Some-clause-next
returns-in-Some-clause-next c =
    let inside = c.requires.inside in
    c.look_between.ensures.next ∙ sym (rank_sought c.args.cells c.args.cars.now c.args.place c.in-Some.next c.requires.sorted c.in-Some.ensures.found (omega (arith, inside)))

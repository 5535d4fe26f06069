use Rattle.std.proofs.{Common.{ap, arith, slice_index_or, ext_get_or}, lemmas.Bool.Decides.Decides-eqb}
use Rattle.trlab_road.specs.Stored.{no_car}
use Rattle.trlab_road.proofs.lanes.are_same_cars.Goals as goal

pub returns : goal.returns
returns c =
    let inv = c.loop-k.invariant in
    let whole = c.loop-k-test.false in
    let end = c.loop-k.auto.k-end in
    let same = c.if-cars-others.false in
    let none = Decides-eqb c.loop-k.max_difference 0 in (
      λ t. ext_get_or no_car c.args.cars.now c.args.others.now same (λ j h. inv.0 (none.0 t) j (omega (arith, h, whole, end))),
      λ e. none.1 (inv.1 (λ j h. ap (λ xs. slice_index_or xs j no_car) e)),
    )

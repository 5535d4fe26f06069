use Rattle.std.proofs.Common.{◌<◌, ◌≤◌, ◌-◌, arith, length}
use Rattle.trlab_road.{specs.Stored.place_of, proofs.Lists.rises_weakly}
use Rattle.trlab_road.proofs.gaps.first_near.Goals as goal

-- the cars before the index are at places before the given place
pub pass_four-near-requires-clause-before : goal.pass_four-near-requires-clause-before
pass_four-near-requires-clause-before c = λ k low on.
    let near : 0 < c.args.near = omega (arith, c.if-near-eq0.false) in
    let inside : c.args.near - 1 < length c.args.cars.now = omega (arith, c.if-near-cars.false, near) in
    let last : place_of c.args.cars.now (c.args.near - 1) < c.args.place = omega (arith, c.if-place_at-place.false, c.place_at.ensures) in
    let order : place_of c.args.cars.now k ≤ place_of c.args.cars.now (c.args.near - 1) = rises_weakly c.requires.sorted.0 c.args.cars.now k (c.args.near - 1) c.requires.sorted.1 (omega (arith, low)) inside in
    omega (arith, order, last)

pub returns-then-place_at-place-2 : goal.returns-then-place_at-place-2
returns-then-place_at-place-2 c = record {
  within = omega (arith, c.loop-next-test.true);
  before = c.loop-next.invariant;
  from = λ k le on.
      let order = rises_weakly c.requires.sorted.0 c.args.cars.now c.loop-next.next k c.requires.sorted.1 le on in
      omega (arith, order, c.if-place_at-place-2.true, c.place_at-in-loop-next.ensures);
}

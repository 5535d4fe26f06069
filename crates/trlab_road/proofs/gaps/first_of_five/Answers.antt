use Rattle.std.proofs.{Common.{◌<◌, ◌≤◌, ◌-◌, arith, inl, inr, length}, lemmas.Bool.cases_lt}
use Rattle.trlab_road.{specs.Stored.place_of, proofs.Lists.rises_weakly}
use Rattle.trlab_road.proofs.gaps.first_of_five.Goals as goal

-- the cars before the index are at places before the given place
pub pass_four-next-requires-clause-before : goal.pass_four-next-requires-clause-before
pass_four-next-requires-clause-before c = λ k low on.
    let near : 0 < c.args.near = omega (arith, c.if-near-eq0.false) in
    let inside : c.args.near - 1 < length c.args.cars.now = omega (arith, c.if-near-cars.false, near) in
    let last : place_of c.args.cars.now (c.args.near - 1) < c.args.place = omega (arith, c.if-place_at-place.false, c.place_at.ensures) in
    let order : place_of c.args.cars.now k ≤ place_of c.args.cars.now (c.args.near - 1) = rises_weakly c.requires.sorted.0 c.args.cars.now k (c.args.near - 1) c.requires.sorted.1 (omega (arith, low)) inside in
    omega (arith, order, last)

pub returns-then-place_at-place-2-clause-found : goal.returns-then-place_at-place-2-clause-found
returns-then-place_at-place-2-clause-found c = record {
  within = omega (arith, c.if-next-cars.true);
  before = c.pass_four-next.ensures.before;
  from = λ k le on.
      let order = rises_weakly c.requires.sorted.0 c.args.cars.now c.pass_four-next.result k c.requires.sorted.1 le on in
      omega (arith, order, c.if-place_at-place-2.true, c.place_at-then-next-cars.ensures);
}

-- if the list has a car before the given place, its first car is before that place
pub returns-then-place_at-place-2-clause-past : goal.returns-then-place_at-place-2-clause-past
returns-then-place_at-place-2-clause-past c =
    let cars = c.args.cars.now in
    let next = c.pass_four-next.result in
    let near : 0 < c.args.near = omega (arith, c.if-near-eq0.false) in
    let inside : c.args.near - 1 < length cars = omega (arith, c.if-near-cars.false, near) in
    let last : place_of cars (c.args.near - 1) < c.args.place = omega (arith, c.if-place_at-place.false, c.place_at.ensures) in
    elim (cases_lt 0 next) [
      | inl some ↦ some
      | inr none ↦
          let order : place_of cars next ≤ place_of cars (c.args.near - 1) = rises_weakly c.requires.sorted.0 cars next (c.args.near - 1) c.requires.sorted.1 (omega (arith, none)) inside in
          absurd (omega (arith, order, last, c.if-place_at-place-2.true, c.place_at-then-next-cars.ensures))
    ]

use Rattle.std.proofs.Common.{◌≡◌, ◌<◌, ◌≤◌, ◌+◌, ◌-◌, ℕ, List, length, sym, arith}
use Rattle.trlab_road.specs.{Stored.{LaneCar, IsSortedFrom, cells_of, place_of}, Gaps.gap}
use Rattle.trlab_road.proofs.{Headspeeds.{first_headspeed, next_headspeed}, ListGaps.{gap_next, gap_round}}
use Rattle.trlab_road.proofs.{ListMotion.parted_kth, Lists.{rises_high, rises_order}}
use Rattle.trlab_road.proofs.gaps.look_ahead.Goals as goal

-- the next car of a list is past the car; from the end on, the first car is not
module _ (n : ℕ) (cars : List LaneCar) (r : IsSortedFrom 0 n cars) (i : ℕ) (low : i < length cars) where
  past : i + 1 < length cars → place_of cars i < place_of cars (i + 1)
  past more = rises_order 0 n cars i (i + 1) r (omega arith) more

  of_next : (more : i + 1 < length cars) → place_of cars (i + 1) - place_of cars i - 1 ≡ gap (cells_of n cars) (place_of cars i)
  of_next more = sym (gap_next n cars r (place_of cars i) (rises_high 0 n cars i r low) (i + 1) (parted_kth n cars i r low) more)

  of_first : length cars ≤ i + 1 → n - 1 - place_of cars i + place_of cars 0 ≡ gap (cells_of n cars) (place_of cars i)
  of_first last = sym (gap_round n cars r (place_of cars i) (rises_high 0 n cars i r low) (i + 1) (parted_kth n cars i r low) last (omega (arith, low)))

  not_past : place_of cars 0 ≤ place_of cars i
  not_past = (parted_kth n cars i r low).before 0 (omega arith) (omega (arith, low))

pub overflow_sub-result : goal.overflow_sub-result
overflow_sub-result c = let a = past c.args.cells c.args.cars.now c.requires.sorted c.args.index c.requires.here c.if-next-cars.true in omega (arith, a)

pub overflow_sub-result-then-next-cars : goal.overflow_sub-result-then-next-cars
overflow_sub-result-then-next-cars c = let a = past c.args.cells c.args.cars.now c.requires.sorted c.args.index c.requires.here c.if-next-cars.true in omega (arith, a)

pub overflow_sub-result-else-next-cars-2 : goal.overflow_sub-result-else-next-cars-2
overflow_sub-result-else-next-cars-2 c = let a = rises_high 0 c.args.cells c.args.cars.now c.args.index c.requires.sorted c.requires.here in omega (arith, a)

pub returns-then-next-cars-clause-gap : goal.returns-then-next-cars-clause-gap
returns-then-next-cars-clause-gap c = rw (c.place_at.ensures, c.place_at-place.ensures) (of_next c.args.cells c.args.cars.now c.requires.sorted c.args.index c.requires.here c.if-next-cars.true)

pub returns-then-next-cars-clause-headspeed : goal.returns-then-next-cars-clause-headspeed
returns-then-next-cars-clause-headspeed c = rw c.speed_at.ensures (next_headspeed c.args.cells c.args.cars.now c.requires.sorted c.args.index c.requires.here c.if-next-cars.true)

pub returns-then-next-cars-clause-in_range : goal.returns-then-next-cars-clause-in_range
returns-then-next-cars-clause-in_range c =
    let a = rises_high 0 c.args.cells c.args.cars.now (c.args.index + 1) c.requires.sorted c.if-next-cars.true in
    let b = past c.args.cells c.args.cars.now c.requires.sorted c.args.index c.requires.here c.if-next-cars.true in omega (arith, a, b)

pub returns-else-next-cars-clause-gap : goal.returns-else-next-cars-clause-gap
returns-else-next-cars-clause-gap c = rw (c.place_at-place.ensures, c.place_at-else-next-cars.ensures) (of_first c.args.cells c.args.cars.now c.requires.sorted c.args.index c.requires.here (let h = c.if-next-cars.false in omega arith))

pub returns-else-next-cars-clause-headspeed : goal.returns-else-next-cars-clause-headspeed
returns-else-next-cars-clause-headspeed c = rw c.speed_at-else-next-cars.ensures (first_headspeed c.args.cells c.args.cars.now c.requires.sorted c.args.index c.requires.here (let h = c.if-next-cars.false in omega arith))

pub returns-else-next-cars-clause-in_range : goal.returns-else-next-cars-clause-in_range
returns-else-next-cars-clause-in_range c =
    let a = rises_high 0 c.args.cells c.args.cars.now c.args.index c.requires.sorted c.requires.here in
    let b = not_past c.args.cells c.args.cars.now c.requires.sorted c.args.index c.requires.here in omega (arith, a, b)

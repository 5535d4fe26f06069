use Rattle.std.proofs.{Common.{sym, arith}, lemmas.Bool.Decides.nat_tests}
use Rattle.trlab_road.proofs.{Lists.rises_high, ListGaps.{gap_next, gap_round, gap_alone}}
use Rattle.trlab_road.proofs.gaps.gap_ahead.Goals as goal

pub returns-then-next-cars-clause-value : goal.returns-then-next-cars-clause-value
returns-then-next-cars-clause-value c = rw c.place_at.ensures (sym (gap_next c.args.cells c.args.cars.now c.requires.sorted c.args.place c.requires.inside c.args.next c.requires.parted c.if-next-cars.true))

pub returns-then-next-cars-clause-in_range : goal.returns-then-next-cars-clause-in_range
returns-then-next-cars-clause-in_range c = let a = rises_high 0 c.args.cells c.args.cars.now c.args.next c.requires.sorted c.if-next-cars.true in let b = c.requires.inside in omega (arith, a, b)

pub returns-then-is_empty-clause-value : goal.returns-then-is_empty-clause-value
returns-then-is_empty-clause-value c = sym (gap_alone c.args.cells c.args.cars.now c.requires.sorted c.args.place c.requires.inside (let e = c.if-is_empty.ensures in grind (arith, nat_tests, e)))

pub returns-else-is_empty-clause-value : goal.returns-else-is_empty-clause-value
returns-else-is_empty-clause-value c = rw c.place_at-else-is_empty.ensures (sym (gap_round c.args.cells c.args.cars.now c.requires.sorted c.args.place c.requires.inside c.args.next c.requires.parted (let h = c.if-next-cars.false in omega arith) (let e = c.if-is_empty.ensures in grind (arith, nat_tests, e))))

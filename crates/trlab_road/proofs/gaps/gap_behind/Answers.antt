use Rattle.std.proofs.{Common.{◌<◌, ◌-◌, length, sym, arith}, lemmas.Bool.Decides.nat_tests}
use Rattle.trlab_road.proofs.{Lists.rises_high, ListGaps.{back_next, back_round, back_alone}}
use Rattle.trlab_road.proofs.gaps.gap_behind.Goals as goal

pub overflow_sub-result-else-is_empty-2 : goal.overflow_sub-result-else-is_empty-2
overflow_sub-result-else-is_empty-2 c =
    let some : 0 < length c.args.cars.now = (let e = c.if-is_empty.ensures in grind (arith, nat_tests, e)) in
    let a = rises_high 0 c.args.cells c.args.cars.now (length c.args.cars.now - 1) c.requires.sorted (omega arith) in
    let b = c.place_at-else-is_empty.ensures in omega (arith, a, b)

pub returns-then-next-gt0-clause-value : goal.returns-then-next-gt0-clause-value
returns-then-next-gt0-clause-value c =
    rw c.place_at.ensures (sym (back_next c.args.cells c.args.cars.now c.requires.sorted c.args.place c.requires.inside c.args.next c.requires.before c.requires.after (c.args.next - 1) (let h = c.if-next-gt0.true in omega arith) c.requires.in_range))

pub returns-then-is_empty-clause-value : goal.returns-then-is_empty-clause-value
returns-then-is_empty-clause-value c =
    sym (back_alone c.args.cells c.args.cars.now c.requires.sorted c.args.place c.requires.inside c.args.next c.requires.before c.requires.after (let e = c.if-is_empty.ensures in grind (arith, nat_tests, e)))

pub returns-else-is_empty-clause-value : goal.returns-else-is_empty-clause-value
returns-else-is_empty-clause-value c =
    let some : 0 < length c.args.cars.now = (let e = c.if-is_empty.ensures in grind (arith, nat_tests, e)) in
    rw c.place_at-else-is_empty.ensures (sym (back_round c.args.cells c.args.cars.now c.requires.sorted c.args.place c.requires.inside c.args.next c.requires.before c.requires.after (length c.args.cars.now - 1) (omega arith) (let h = c.if-next-gt0.false in omega arith)))

use Rattle.std.proofs.Common.{rules, ◌+◌, ◌*◌, ◌<◌, ◌≤◌, length, arith, sym, ◌∙◌, add-one, eq-eqb, ne_eqb}
use Rattle.trlab_machine.proofs.{Underway.{inside, more}, OnWay.{starts, wrote, fell, jumped, ended}}
use Rattle.trlab_machine.proofs.Stores.{at_written, at_others}
use Rattle.trlab_machine.proofs.for_embedders.run.Goals as goal

pub run-init : goal.run-init
run-init c = record { eight = search rules; car = starts _ _ _ _ _ _ c.requires.safe c.requires.seen c.told-words }

pub bounds-instrs-pc : goal.bounds-instrs-pc
bounds-instrs-pc c = inside c.run.invariant.car.run

pub offset_bounds-instrs-pc : goal.offset_bounds-instrs-pc
offset_bounds-instrs-pc c =
    let within : c.run.pc < length c.args.instrs.now = inside c.run.invariant.car.run in
    let few : c.run.pc * 8 < 1024 = omega (arith, c.requires.at_most_max_instructions) in
    grind (arith, few)

pub overflow_add-pc : goal.overflow_add-pc
overflow_add-pc c =
    let within : c.run.pc < length c.args.instrs.now = inside c.run.invariant.car.run in
    let few : c.run.pc + 1 ≤ 128 = omega (arith, c.requires.at_most_max_instructions) in
    grind (arith, few)

pub run-preserved-in-Writes : goal.run-preserved-in-Writes
run-preserved-in-Writes c = record {
  eight = search rules;
  car =
      let in_range : c.number.result < length c.run.registers = omega (arith, c.number.ensures.in_range, c.run.invariant.eight) in
      rw add-one (wrote c.run.invariant.car _ _ c.in-Writes.register (sym c.role_of.ensures ∙ c.in-Writes.is)
      (at_written c.run.registers c.in-Writes.register c.number.result c.result_number-number.result c.number.ensures.value in_range ∙ c.result_number-number.ensures)
      (at_others c.run.registers c.in-Writes.register c.number.result c.result_number-number.result c.number.ensures.value));
}

pub run-preserved-then-number-eq1 : goal.run-preserved-then-number-eq1
run-preserved-then-number-eq1 c = record {
  eight = c.run.invariant.eight;
  car = jumped c.run.invariant.car _ c.in-Jumps.target (sym c.role_of.ensures ∙ c.in-Jumps.is) (rw (← c.result_number-number.ensures) (eq-eqb _ 1 c.if-number-eq1.true));
}

pub run-preserved : goal.run-preserved
run-preserved c = record {
  eight = c.run.invariant.eight;
  car = rw add-one (fell c.run.invariant.car _ c.in-Jumps.target (sym c.role_of.ensures ∙ c.in-Jumps.is) (rw (← c.result_number-number.ensures) (ne_eqb _ 1 c.if-number-eq1.false)));
}

pub returns-in-Ends-clause-ends : goal.returns-in-Ends-clause-ends
returns-in-Ends-clause-ends c = rw c.result_number-number.ensures (ended c.run.invariant.car _ (sym c.role_of.ensures ∙ c.in-Ends.is)).0

pub returns-in-Ends-clause-in_budget : goal.returns-in-Ends-clause-in_budget
returns-in-Ends-clause-in_budget c = (ended c.run.invariant.car _ (sym c.role_of.ensures ∙ c.in-Ends.is)).1

pub overflow_add-steps : goal.overflow_add-steps
overflow_add-steps c = omega (arith, more c.run.invariant.car.run, c.ranges.budget)

pub overflow_add-pc-else-number-eq1 : goal.overflow_add-pc-else-number-eq1
overflow_add-pc-else-number-eq1 c = omega (arith, inside c.run.invariant.car.run, c.requires.at_most_max_instructions)

pub run-smaller-in-Writes : goal.run-smaller-in-Writes
run-smaller-in-Writes c = omega (arith, more c.run.invariant.car.run)

pub run-smaller-then-number-eq1 : goal.run-smaller-then-number-eq1
run-smaller-then-number-eq1 c = omega (arith, more c.run.invariant.car.run)

pub run-smaller : goal.run-smaller
run-smaller c = omega (arith, more c.run.invariant.car.run)

pub result_number-number-requires : goal.result_number-number-requires
result_number-number-requires c = c.requires.in_range c.run.pc _ (inside c.run.invariant.car.run)

pub bounds-registers-number : goal.bounds-registers-number
bounds-registers-number c = c.number.ensures.in_range

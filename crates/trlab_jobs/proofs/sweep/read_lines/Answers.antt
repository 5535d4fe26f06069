use Rattle.std.proofs.{Common.arith, lemmas.Grind.common_steps}
use Rattle.trlab_texts.proofs.Readings.{handed_on}
use Rattle.trlab_jobs.proofs.{SweepCounts.{counts_fail, counts_said}, OneSweep.said_stored}
use Rattle.trlab_jobs.proofs.sweep.read_lines.Goals as goal

pub invariant_of-result : goal.invariant_of-result
invariant_of-result c =
    let told = rw (← c.setup.view_is) at c.in_ok-setup.ensures.reported in
    said_stored _ c.in_ok-cars.cars.items c.start.result c.in_ok-setup.rest told c.in_ok-cars.ensures

pub returns-clause-stored : goal.returns-clause-stored
returns-clause-stored c =
    let told = rw (← c.setup.view_is) at c.in_ok-setup.ensures.reported in
    said_stored _ c.in_ok-cars.cars.items c.start.result c.in_ok-setup.rest told c.in_ok-cars.ensures

pub returns-in_err-cars-clause-reported : goal.returns-in_err-cars-clause-reported
returns-in_err-cars-clause-reported c =
    let told = rw (← c.setup.view_is) at c.in_ok-setup.ensures.reported in
    let fault = handed_on c.from_residual-in_err-cars.result c.in_err-cars.field-0.0 c.from_residual-in_err-cars.ensures.0 c.from_residual-in_err-cars.ensures.1 in
    rw fault (counts_fail _ c.args.text.now c.start.result c.in_ok-setup.rest c.in_err-cars.field-0.0 c.start.ensures told c.in_err-cars.ensures)

pub returns-clause-reported : goal.returns-clause-reported
returns-clause-reported c =
    let told = rw (← c.setup.view_is) at c.in_ok-setup.ensures.reported in
    counts_said _ c.in_ok-cars.cars.items c.args.text.now c.start.result c.in_ok-setup.rest c.start.ensures told c.in_ok-cars.ensures

pub returns-in_err-setup-clause-reported : goal.returns-in_err-setup-clause-reported
returns-in_err-setup-clause-reported c = grind (arith, common_steps)

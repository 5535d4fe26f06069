use Rattle.std.proofs.{Common.{◌≡◌, ◌∙◌, ap, arith, le-leb, nat_le, if◌then◌else◌}, lemmas.Bool.lt-leb}
use Rattle.trlab_step.specs.Run.{tally_sum}
use Rattle.trlab_sequential_book.specs.{Comparison.run_seed, declared.seed.Seed.Seed, Machine.JobState}
use Rattle.trlab_sequential_book.proofs.{Booking.job_state, LeaseRuns.{go_on_at, way_begins}}
use Rattle.trlab_sequential_book.proofs.job.JobRecord.tally_with.Goals.{then-seed-step, else-seed-step}
use Rattle.trlab_sequential_book.proofs.job.JobRecord.tally_with.Goals as goal

pub loop-ran-init : goal.loop-ran-init
loop-ran-init c =
    let j = c.self.inside in
    let state = job_state j.seed j.sheet j.steps j.high j.done j.cancelled j.out in
    let at = ap (λ (s : JobState). s.done) c.self.view_is in
    let base = c.requires.base in
    (omega arith, way_begins state c.args.self.now c.args.lease.now _ j.tally c.self.view_is c.self.invariant.run c.applied-ran-items.ensures.lease c.requires.own c.requires.base)

pub tally_sum-sum-requires-clause-distance : goal.tally_sum-sum-requires-clause-distance
tally_sum-sum-requires-clause-distance c =
    let below = rw c.applied-ran-items.ensures.value at c.loop-ran-test.true in
    let on = go_on_at (run_seed c.args.self.now.seed) c.args.self.now.sheet c.loop-ran.step c.loop-ran.sum c.args.lease.now.applied c.loop-ran.ran-index c.ran-item.result c.args.lease.now.road below (rw c.applied-ran-items.ensures.value at c.ran-item.is) c.loop-ran.invariant.1 in
    let few = on.small.distance in
    let early = c.loop-ran.auto.step-fits in
    omega arith

pub tally_sum-sum-requires-clause-stopped : goal.tally_sum-sum-requires-clause-stopped
tally_sum-sum-requires-clause-stopped c =
    let below = rw c.applied-ran-items.ensures.value at c.loop-ran-test.true in
    let on = go_on_at (run_seed c.args.self.now.seed) c.args.self.now.sheet c.loop-ran.step c.loop-ran.sum c.args.lease.now.applied c.loop-ran.ran-index c.ran-item.result c.args.lease.now.road below (rw c.applied-ran-items.ensures.value at c.ran-item.is) c.loop-ran.invariant.1 in
    let few = on.small.stopped in
    let early = c.loop-ran.auto.step-fits in
    omega arith

pub tally_sum-sum-requires-clause-changes : goal.tally_sum-sum-requires-clause-changes
tally_sum-sum-requires-clause-changes c =
    let below = rw c.applied-ran-items.ensures.value at c.loop-ran-test.true in
    let on = go_on_at (run_seed c.args.self.now.seed) c.args.self.now.sheet c.loop-ran.step c.loop-ran.sum c.args.lease.now.applied c.loop-ran.ran-index c.ran-item.result c.args.lease.now.road below (rw c.applied-ran-items.ensures.value at c.ran-item.is) c.loop-ran.invariant.1 in
    let few = on.small.changes in
    let early = c.loop-ran.auto.step-fits in
    omega arith

pub loop-ran-preserved : goal.loop-ran-preserved
loop-ran-preserved c =
    let below = rw c.applied-ran-items.ensures.value at c.loop-ran-test.true in
    let on = go_on_at (run_seed c.args.self.now.seed) c.args.self.now.sheet c.loop-ran.step c.loop-ran.sum c.args.lease.now.applied c.loop-ran.ran-index c.ran-item.result c.args.lease.now.road below (rw c.applied-ran-items.ensures.value at c.ran-item.is) c.loop-ran.invariant.1 in
    let at = c.loop-ran.invariant.0 in
    let warm = ap (λ (s : JobState). s.seed.warm) c.self.view_is in
    let seen = ap (λ (s : Seed). s.warm) c.get-seed.ensures in
    let counted : c.if-seed-step.sum ≡ (if nat_le c.args.self.now.seed.warm c.loop-ran.step then tally_sum c.loop-ran.sum c.ran-item.result.tally else c.loop-ran.sum) = elim c.if-seed-step.branch [
      | then-seed-step w ↦ rw (← warm, le-leb c.self.inside.seed.warm c.loop-ran.step (let by = w.if-seed-step.true in omega arith)) (w.sum-is ∙ w.tally_sum-sum.ensures)
      | else-seed-step w ↦ rw (← warm, lt-leb c.self.inside.seed.warm c.loop-ran.step (let by = w.if-seed-step.false in omega arith)) w.sum-is
    ] in
    (omega arith, rw counted on.way)

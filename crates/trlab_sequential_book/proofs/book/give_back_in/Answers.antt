use Rattle.std.proofs.Common.{rules, List, refl, ap, ◌∙◌, slice_set}
use Rattle.trlab_sequential_book.specs.{Comparison.offered, Machine.{JobState, give_back_outcome}}
use Rattle.trlab_sequential_book.proofs.Booking.{jobs_found, own_found, reply_found}
use Rattle.trlab_sequential_book.proofs.book.give_back_in.Goals as goal

pub give_back-requires : goal.give_back-requires
give_back-requires c = λ same.
    own_found c.args.jobs.now.items c.args.lease.job c.in-Some.found.now c.args.lease
    (search (rules, c.in-Some.ensures.variant, c.job.ensures)) (rw c.job.ensures at c.in-Some.ensures.value) refl (c.requires same)

pub returns-clause-reply : goal.returns-clause-reply
returns-clause-reply c =
    c.give_back.ensures.reply ∙ reply_found c.args.jobs.now.items c.args.lease.job c.in-Some.found.now (give_back_outcome (offered c.args.lease c.args.runs_its_road))
    (search (rules, c.in-Some.ensures.variant, c.job.ensures)) (rw c.job.ensures at c.in-Some.ensures.value)

pub returns-clause-jobs : goal.returns-clause-jobs
returns-clause-jobs c =
    let put : JobState → List JobState = λ k. slice_set c.args.jobs.now.items c.args.lease.job k in
    rw c.job.ensures (ap put c.give_back.ensures.job ∙ jobs_found c.args.jobs.now.items c.args.lease.job c.in-Some.found.now (give_back_outcome (offered c.args.lease c.args.runs_its_road))
    (search (rules, c.in-Some.ensures.variant, c.job.ensures)) (rw c.job.ensures at c.in-Some.ensures.value))

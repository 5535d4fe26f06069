use Rattle.std.proofs.Common.{rules, List, ap, ◌∙◌, slice_set}
use Rattle.trlab_sequential_book.specs.Machine.{JobState, revoke_outcome}
use Rattle.trlab_sequential_book.proofs.Booking.{jobs_found, reply_found}
use Rattle.trlab_sequential_book.proofs.book.revoke_in.Goals as goal

pub returns-clause-reply : goal.returns-clause-reply
returns-clause-reply c =
    c.revoke.ensures.reply ∙ reply_found c.args.jobs.now.items c.args.index c.in-Some.found.now revoke_outcome (search (rules, c.in-Some.ensures.variant)) c.in-Some.ensures.value

pub returns-clause-jobs : goal.returns-clause-jobs
returns-clause-jobs c =
    let put : JobState → List JobState = λ k. slice_set c.args.jobs.now.items c.args.index k in
    ap put c.revoke.ensures.job ∙ jobs_found c.args.jobs.now.items c.args.index c.in-Some.found.now revoke_outcome (search (rules, c.in-Some.ensures.variant)) c.in-Some.ensures.value

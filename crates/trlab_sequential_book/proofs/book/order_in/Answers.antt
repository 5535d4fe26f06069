use Rattle.std.proofs.Common.{refl, rules}
use Rattle.trlab_sequential_book.specs.{Machine.order_outcome, Comparison.offered}
use Rattle.trlab_sequential_book.specs.Histories.{is_memory, order_reply}
use Rattle.trlab_sequential_book.proofs.Booking.{jobs_made, own_found, reply_made, rule_found}
use Rattle.trlab_sequential_book.proofs.book.order_in.Goals as goal

pub order-requires : goal.order-requires
order-requires c = λ same.
    own_found c.args.jobs.now.items c.args.lease.now.job c.in-Some.found.now c.args.lease.now
    (search (rules, c.in-Some.ensures.variant, c.job.ensures)) (rw c.job.ensures at c.in-Some.ensures.value) refl (c.requires same)

pub returns-clause-reply : goal.returns-clause-reply
returns-clause-reply c =
    reply_made c.args.jobs.now.items c.args.lease.now.job c.in-Some.found.now (order_outcome (offered c.args.lease.now c.args.runs_its_road)) (is_memory c.order.result) (order_reply c.order.result)
    (search (rules, c.in-Some.ensures.variant, c.job.ensures)) (rw c.job.ensures at c.in-Some.ensures.value) c.order.ensures.reply

pub returns-clause-jobs : goal.returns-clause-jobs
returns-clause-jobs c =
    rw c.job.ensures (jobs_made c.args.jobs.now.items c.args.lease.now.job c.in-Some.found.now c.order.new.self (order_outcome (offered c.args.lease.now c.args.runs_its_road)) (is_memory c.order.result)
    (search (rules, c.in-Some.ensures.variant, c.job.ensures)) (rw c.job.ensures at c.in-Some.ensures.value) c.order.ensures.job)

pub returns-clause-rule : goal.returns-clause-rule
returns-clause-rule c =
    rule_found c.args.jobs.now.items c.args.lease.now c.in-Some.found.now c.order.result
    (search (rules, c.in-Some.ensures.variant, c.job.ensures)) (rw c.job.ensures at c.in-Some.ensures.value) c.order.ensures.fits c.order.ensures.rule

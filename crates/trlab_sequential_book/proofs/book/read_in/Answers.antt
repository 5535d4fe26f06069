use Rattle.trlab_sequential_book.proofs.Booking.{reading_stays, seen_found, seen_told}
use Rattle.trlab_sequential_book.proofs.book.read_in.Goals as goal

pub returns-in_err-read-clause-jobs : goal.returns-in_err-read-clause-jobs
returns-in_err-read-clause-jobs c = reading_stays c.args.jobs.now c.args.index

pub returns-clause-reply : goal.returns-clause-reply
returns-clause-reply c =
    seen_told c.args.jobs.now c.args.index c.in-Some.found.now c.in_ok-read.field-0 c.in-Some.ensures.lookup.3.0 c.in-Some.ensures.lookup.1 c.in_ok-read.ensures

pub returns-clause-seen : goal.returns-clause-seen
returns-clause-seen c =
    seen_found c.args.jobs.now c.args.index c.in-Some.found.now c.in_ok-read.field-0 c.in-Some.ensures.lookup.3.0 c.in-Some.ensures.lookup.1 c.in_ok-read.ensures

pub returns-clause-jobs : goal.returns-clause-jobs
returns-clause-jobs c = reading_stays c.args.jobs.now c.args.index

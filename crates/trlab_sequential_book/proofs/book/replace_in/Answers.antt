use Rattle.std.proofs.Common.{rules}
use Rattle.trlab_sequential_book.specs.{Machine.replace_outcome, Histories.{is_memory, number_reply}}
use Rattle.trlab_sequential_book.proofs.Booking.{jobs_made, reply_made}
use Rattle.trlab_sequential_book.proofs.book.replace_in.Goals as goal

pub returns-clause-reply : goal.returns-clause-reply
returns-clause-reply c =
    reply_made c.args.jobs.now.items c.args.index c.in-Some.found.now (replace_outcome c.args.rule) (is_memory c.replace.result) (number_reply c.replace.result)
    (search (rules, c.in-Some.ensures.variant)) c.in-Some.ensures.value c.replace.ensures.reply

pub returns-clause-jobs : goal.returns-clause-jobs
returns-clause-jobs c =
    jobs_made c.args.jobs.now.items c.args.index c.in-Some.found.now c.replace.new.self (replace_outcome c.args.rule) (is_memory c.replace.result)
    (search (rules, c.in-Some.ensures.variant)) c.in-Some.ensures.value c.replace.ensures.job

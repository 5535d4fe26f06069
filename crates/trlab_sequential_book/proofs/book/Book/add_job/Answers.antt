use Rattle.trlab_sequential_book.specs.declared.event.Call.TheVariants.{Submit}
use Rattle.trlab_sequential_book.specs.{Histories.{is_memory, number_reply}, Machine.BookState}
use Rattle.trlab_sequential_book.proofs.Booking.{counted, next_number, told_made}
use Rattle.trlab_sequential_book.proofs.book.Book.add_job.Goals as goal

pub returns-clause-reply : goal.returns-clause-reply
returns-clause-reply c =
    let book = c.self.inside in
    let state : BookState = record { count = book.count; next = book.next; jobs = book.jobs.items } in
    let answer = c.submit_in-answer.result in
    told_made state c.args.self.now (is_memory answer) (Submit c.args.seed c.args.rule c.args.steps) (number_reply answer) c.self.view_is c.requires c.submit_in-answer.ensures.reply

pub returns-clause-state : goal.returns-clause-state
returns-clause-state c =
    let book = c.self.inside in
    let state : BookState = record { count = book.count; next = book.next; jobs = book.jobs.items } in
    let answer = c.submit_in-answer.result in
    counted state c.args.self.now (is_memory answer) (Submit c.args.seed c.args.rule c.args.steps) (number_reply answer) c.submit_in-answer.new.jobs.items c.count_after-self-inside.result c.self.view_is c.requires (next_number book.next answer) c.count_after-self-inside.ensures.value c.submit_in-answer.ensures.reply c.submit_in-answer.ensures.jobs

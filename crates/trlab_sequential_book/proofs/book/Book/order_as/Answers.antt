use Rattle.std.proofs.Common.{sym, ◌∙◌}
use Rattle.trlab_sequential_book.specs.{Comparison.{OrderCall, offered}, Histories.{is_memory, order_reply}}
use Rattle.trlab_sequential_book.specs.Machine.{BookState}
use Rattle.trlab_sequential_book.proofs.Booking.{counted, full_stays, full_told, next_order, told_made}
use Rattle.trlab_sequential_book.proofs.book.Book.order_as.Goals as goal

pub returns-then-has_full_history-clause-reply : goal.returns-then-has_full_history-clause-reply
returns-then-has_full_history-clause-reply c = full_told c.args.self.now (OrderCall (offered c.args.lease.now c.args.runs_its_road)) (sym c.has_full_history.ensures ∙ c.if-has_full_history.true)

pub returns-then-has_full_history-clause-state : goal.returns-then-has_full_history-clause-state
returns-then-has_full_history-clause-state c = full_stays c.args.self.now (OrderCall (offered c.args.lease.now c.args.runs_its_road)) (sym c.has_full_history.ensures ∙ c.if-has_full_history.true)

pub returns-clause-reply : goal.returns-clause-reply
returns-clause-reply c =
    let book = c.self.inside in
    let state : BookState = record { count = book.count; next = book.next; jobs = book.jobs.items } in
    let answer = c.order_in-answer.result in
    told_made state c.args.self.now (is_memory answer) (OrderCall (offered c.args.lease.now c.args.runs_its_road)) (order_reply answer) c.self.view_is (sym c.has_full_history.ensures ∙ c.if-has_full_history.false) c.order_in-answer.ensures.reply

pub returns-clause-state : goal.returns-clause-state
returns-clause-state c =
    let book = c.self.inside in
    let state : BookState = record { count = book.count; next = book.next; jobs = book.jobs.items } in
    let answer = c.order_in-answer.result in
    counted state c.args.self.now (is_memory answer) (OrderCall (offered c.args.lease.now c.args.runs_its_road)) (order_reply answer) c.order_in-answer.new.jobs.items c.count_after-self-inside.result c.self.view_is (sym c.has_full_history.ensures ∙ c.if-has_full_history.false) (next_order book.next answer) c.count_after-self-inside.ensures.value c.order_in-answer.ensures.reply c.order_in-answer.ensures.jobs

use Rattle.std.proofs.Common.{sym, ◌∙◌}
use Rattle.trlab_sequential_book.specs.{declared.event.Call.TheVariants.Read, Histories.is_memory}
use Rattle.trlab_sequential_book.specs.{Histories.read_reply, Machine.{BookState, outcome_of_call}}
use Rattle.trlab_sequential_book.proofs.Booking.{counted, full_stays, full_told, next_seen, reading_stays}
use Rattle.trlab_sequential_book.proofs.Booking.{same_jobs, told_made, told_seen}
use Rattle.trlab_sequential_book.proofs.book.Book.read.Goals as goal

pub returns-then-has_full_history-clause-reply : goal.returns-then-has_full_history-clause-reply
returns-then-has_full_history-clause-reply c = full_told c.args.self.now (Read c.args.job) (sym c.has_full_history.ensures ∙ c.if-has_full_history.true)

pub returns-then-has_full_history-clause-state : goal.returns-then-has_full_history-clause-state
returns-then-has_full_history-clause-state c = full_stays c.args.self.now (Read c.args.job) (sym c.has_full_history.ensures ∙ c.if-has_full_history.true)

pub returns-clause-reply : goal.returns-clause-reply
returns-clause-reply c =
    let book = c.self.inside in
    let state : BookState = record { count = book.count; next = book.next; jobs = book.jobs.items } in
    let answer = c.read_in-answer.result in
    let told = told_seen state.jobs c.deref.result.now c.args.job (is_memory answer) (read_reply answer) c.deref.ensures.value c.read_in-answer.ensures.reply in
    told_made state c.args.self.now (is_memory answer) (Read c.args.job) (read_reply answer) c.self.view_is (sym c.has_full_history.ensures ∙ c.if-has_full_history.false) told

pub returns-clause-state : goal.returns-clause-state
returns-clause-state c =
    let book = c.self.inside in
    let state : BookState = record { count = book.count; next = book.next; jobs = book.jobs.items } in
    let answer = c.read_in-answer.result in
    let m = is_memory answer in
    let told = told_seen state.jobs c.deref.result.now c.args.job m (read_reply answer) c.deref.ensures.value c.read_in-answer.ensures.reply in
    counted state c.args.self.now m (Read c.args.job) (read_reply answer) state.jobs c.count_after-self-inside.result c.self.view_is (sym c.has_full_history.ensures ∙ c.if-has_full_history.false) (next_seen book.next answer) c.count_after-self-inside.ensures.value told
    (same_jobs m state.jobs (outcome_of_call state (Read c.args.job)).jobs (reading_stays state.jobs c.args.job))

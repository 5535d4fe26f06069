use Rattle.std.proofs.Common.{false, refl, sym, ◌∙◌}
use Rattle.trlab_sequential_book.specs.{declared.event.Call.TheVariants.GiveBack, Comparison.offered}
use Rattle.trlab_sequential_book.specs.{Histories.give_back_reply, Machine.BookState}
use Rattle.trlab_sequential_book.proofs.Booking.{full_stays, full_told, leads_made, next_back, told_made}
use Rattle.trlab_sequential_book.proofs.book.Book.give_back_as.Goals as goal

pub returns-then-has_full_history-clause-reply : goal.returns-then-has_full_history-clause-reply
returns-then-has_full_history-clause-reply c = full_told c.args.self.now (GiveBack (offered c.args.lease c.args.runs_its_road)) (sym c.has_full_history.ensures ∙ c.if-has_full_history.true)

pub returns-then-has_full_history-clause-state : goal.returns-then-has_full_history-clause-state
returns-then-has_full_history-clause-state c = full_stays c.args.self.now (GiveBack (offered c.args.lease c.args.runs_its_road)) (sym c.has_full_history.ensures ∙ c.if-has_full_history.true)

pub returns-clause-reply : goal.returns-clause-reply
returns-clause-reply c =
    let book = c.self.inside in
    let state : BookState = record { count = book.count; next = book.next; jobs = book.jobs.items } in
    told_made state c.args.self.now false (GiveBack (offered c.args.lease c.args.runs_its_road)) (give_back_reply c.give_back_in.result) c.self.view_is (sym c.has_full_history.ensures ∙ c.if-has_full_history.false) c.give_back_in.ensures.reply

pub returns-clause-state : goal.returns-clause-state
returns-clause-state c =
    let book = c.self.inside in
    let state : BookState = record { count = book.count; next = book.next; jobs = book.jobs.items } in
    let answer = c.give_back_in.result in
    leads_made state c.args.self.now false (GiveBack (offered c.args.lease c.args.runs_its_road)) (give_back_reply answer) c.give_back_in.new.jobs.items c.self.view_is (sym c.has_full_history.ensures ∙ c.if-has_full_history.false) refl (next_back book.next answer) c.give_back_in.ensures.reply c.give_back_in.ensures.jobs

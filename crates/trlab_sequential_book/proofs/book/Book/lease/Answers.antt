use Rattle.std.proofs.{Common.{ap, arith, rules, sym, ◌∙◌, position}, lemmas.Grind.common_steps}
use Rattle.trlab_sequential_book.specs.{Comparison.LeaseCall, Machine.{BookState, is_free}}
use Rattle.trlab_sequential_book.proofs.Booking.{full_stays, full_told, lease_leads, lease_lent, lease_told}
use Rattle.trlab_sequential_book.proofs.Booking.{none_leads, none_told}
use Rattle.trlab_sequential_book.proofs.book.Book.lease.Goals as goal

pub invariant_of-self-in_err-lease : goal.invariant_of-self-in_err-lease
invariant_of-self-in_err-lease c = search rules

pub returns-in_err-lease-clause-state : goal.returns-in_err-lease-clause-state
returns-in_err-lease-clause-state c = grind (arith, common_steps)

pub returns-clause-reply : goal.returns-clause-reply
returns-clause-reply c =
    let book = c.self.inside in
    let state : BookState = record { count = book.count; next = book.next; jobs = book.jobs.items } in
    let free = rw c.deref.ensures.value at c.in-Some.ensures.place in
    let within = rw c.deref.ensures.value at c.in-Some.ensures.in_range in
    lease_told state c.args.self.now c.in-Some.index c.index_mut-found.result.now c.in_ok-lease.lease c.self.view_is (sym c.has_full_history.ensures ∙ c.if-has_full_history.false)
    (sym free) within c.index_mut-found.ensures.value c.in_ok-lease.ensures.lease.0 c.in_ok-lease.ensures.lease.1

pub returns-clause-state : goal.returns-clause-state
returns-clause-state c =
    let book = c.self.inside in
    let state : BookState = record { count = book.count; next = book.next; jobs = book.jobs.items } in
    let free = rw c.deref.ensures.value at c.in-Some.ensures.place in
    let within = rw c.deref.ensures.value at c.in-Some.ensures.in_range in
    lease_leads state c.args.self.now c.in-Some.index c.index_mut-found.result.now c.lend.new.self c.self.view_is (sym c.has_full_history.ensures ∙ c.if-has_full_history.false)
    (sym free) within c.index_mut-found.ensures.value c.in_ok-lease.ensures.job

pub returns-clause-lent : goal.returns-clause-lent
returns-clause-lent c =
    let book = c.self.inside in
    let state : BookState = record { count = book.count; next = book.next; jobs = book.jobs.items } in
    let within = rw c.deref.ensures.value at c.in-Some.ensures.in_range in
    lease_lent state c.args.self.now c.in-Some.index c.index_mut-found.result.now c.in_ok-lease.lease c.self.view_is
    within c.index_mut-found.ensures.value c.in_ok-lease.ensures.lease.0 c.in_ok-lease.ensures.lease.1

pub returns-then-has_full_history-clause-reply : goal.returns-then-has_full_history-clause-reply
returns-then-has_full_history-clause-reply c = full_told c.args.self.now LeaseCall (sym c.has_full_history.ensures ∙ c.if-has_full_history.true)

pub returns-then-has_full_history-clause-state : goal.returns-then-has_full_history-clause-state
returns-then-has_full_history-clause-state c = full_stays c.args.self.now LeaseCall (sym c.has_full_history.ensures ∙ c.if-has_full_history.true)

pub returns-in_default-clause-reply : goal.returns-in_default-clause-reply
returns-in_default-clause-reply c =
    let book = c.self.inside in
    let state : BookState = record { count = book.count; next = book.next; jobs = book.jobs.items } in
    none_told state c.args.self.now c.self.view_is (sym c.has_full_history.ensures ∙ c.if-has_full_history.false) (ap (position is_free) (sym c.deref.ensures.value) ∙ sym c.in_default.ensures.place)

pub returns-in_default-clause-state : goal.returns-in_default-clause-state
returns-in_default-clause-state c =
    let book = c.self.inside in
    let state : BookState = record { count = book.count; next = book.next; jobs = book.jobs.items } in
    none_leads state c.args.self.now c.self.view_is (sym c.has_full_history.ensures ∙ c.if-has_full_history.false) (ap (position is_free) (sym c.deref.ensures.value) ∙ sym c.in_default.ensures.place)

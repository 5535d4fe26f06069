-- In each job of a book the steps done were ordered.
use Rattle.std.proofs.Common.{◌≡◌, ℕ, ◌+◌, ◌≤◌, ◌==◌, ◌||◌, not, ltb, Bool, true, false, List, [], ◌∷◌, ◌++◌}
use Rattle.std.proofs.Common.{Option, Some, None, length, refl, sym, ◌∙◌, ap, subst, inl, inr, arith}
use Rattle.std.proofs.Common.{slice_get, slice_set, is_some, if◌then◌else◌, position}
use Rattle.std.proofs.lemmas.{Bool.{cases_eq, cond_both}, Option.{none-some, same_Some}}
use Rattle.trlab_rules.specs.Rules.{Programs}
use Rattle.trlab_step.specs.Run.{suits}
use Rattle.trlab_sequential_book.specs.declared.{book.TheConstants.MAX_JOBS, sheet.TheConstants.MAX_ENTRIES}
use Rattle.trlab_sequential_book.specs.declared.{seed.Seed.Seed, event.{Offered.Offered, Call.Call}}
use Rattle.trlab_sequential_book.specs.{declared.order.Order.Order, Histories.state_from}
use Rattle.trlab_sequential_book.specs.Machine.{JobState, JobOutcome, JobsOutcome, BookState, accepts_lease}
use Rattle.trlab_sequential_book.specs.Machine.{after, cancel_outcome, empty_book, give_back_outcome}
use Rattle.trlab_sequential_book.specs.Machine.{has_full_history, is_free, lease_outcome, new_job, on_free}
use Rattle.trlab_sequential_book.specs.Machine.{on_job, order_outcome, outcome_of_call, read_outcome, refusal}
use Rattle.trlab_sequential_book.specs.{Machine.{replace_outcome, revoke_outcome}, Sheets.with_rule_from}
use Rattle.trlab_sequential_book.proofs.Booking.{on_found, own_parts}
use Rattle.trlab_sequential_book.proofs.LeaseTracking.{set_here, set_there, push_was, by_if, made_on, book_if}
use Rattle.trlab_sequential_book.specs.declared.event.Call.TheVariants as call
use Rattle.trlab_sequential_book.specs.declared.event.Reply.TheVariants as reply
use Rattle.trlab_sequential_book.specs.declared.fault.BookFault.TheVariants as fault

-- in each job of a book the steps done were ordered

abbrev IsOrdered : JobState → Type 0
IsOrdered job = job.done ≤ job.high

abbrev pub AreOrdered : List JobState → Type 0
AreOrdered jobs = (number : ℕ) (job : JobState) → slice_get jobs number ≡ Some job → IsOrdered job

module _ (jobs : List JobState) (index : ℕ) (outcome : JobState → JobOutcome) (are : AreOrdered jobs)
    (keeps : (job : JobState) → IsOrdered job → IsOrdered (outcome job).job) where
  order_by : (found : Option JobState) → slice_get jobs index ≡ found → AreOrdered (on_job jobs index outcome).jobs
  order_by None none =
      let t : Option JobState → JobsOutcome = λ o. elim o [ None ↦ record { reply = reply.Refused fault.NoSuchJob; jobs = jobs } | Some k ↦ record { reply = (outcome k).reply; jobs = slice_set jobs index (outcome k).job } ] in
      subst AreOrdered (sym (ap (λ (s : JobsOutcome). s.jobs) (ap t none))) are
  order_by (Some old) found =
      let same : (on_job jobs index outcome).jobs ≡ slice_set jobs index (outcome old).job = ap (λ (s : JobsOutcome). s.jobs) (on_found jobs index old outcome found) in
      subst AreOrdered (sym same) (λ number job at. elim (cases_eq number index) [
        | inl own ↦
            let put = set_here jobs index (outcome old).job old found in
            let mine : (outcome old).job ≡ job = same_Some (outcome old).job job (sym put ∙ (ap (slice_get (slice_set jobs index (outcome old).job)) (sym own) ∙ at)) in
            subst IsOrdered mine (keeps old (are index old found))
        | inr other ↦ are number job (sym (set_there jobs index number (outcome old).job other) ∙ at)
      ])

  order_one : AreOrdered (on_job jobs index outcome).jobs
  order_one = order_by (slice_get jobs index) refl

order_free : (jobs : List JobState) (next : ℕ) (free : Option ℕ) → AreOrdered jobs → AreOrdered (on_free jobs next free).jobs
order_free jobs next None are = are
order_free jobs next (Some index) are = order_one jobs index (lease_outcome index next) are (λ job low. low)

order_submit : (b c : Bool) (jobs : List JobState) (seed : Seed) (rule : Programs) (steps : ℕ) → AreOrdered jobs
    → let ended : JobsOutcome = if b then record { reply = reply.Refused fault.LanesMismatch; jobs = jobs } else if c then record { reply = reply.Number (length jobs); jobs = jobs ++ new_job seed rule steps ∷ [] } else record { reply = reply.Refused fault.Full; jobs = jobs } in
    AreOrdered ended.jobs
order_submit true c jobs seed rule steps are = are
order_submit false true jobs seed rule steps are = λ number job at. elim (push_was jobs (new_job seed rule steps) job number at) [
  | inl before ↦ are number job before
  | inr new ↦ subst IsOrdered (sym new.1) (omega arith)
]
order_submit false false jobs seed rule steps are = are

order_replacing : (rule : Programs) (job : JobState) → IsOrdered job → IsOrdered (replace_outcome rule job).job
order_replacing rule job low =
    let P : JobOutcome → Type 0 = λ (o : JobOutcome). IsOrdered o.job in
    by_if P (job.cancelled || (job.high == job.steps)) _ _ low (by_if P (not (suits rule job.seed.road)) _ _ low (by_if P (ltb MAX_ENTRIES (length (with_rule_from job.sheet job.high rule))) _ _ low low))

order_ordering : (offer : Offered) (job : JobState) → IsOrdered job → IsOrdered (order_outcome offer job).job
order_ordering offer job low =
    let P : JobOutcome → Type 0 = λ (o : JobOutcome). IsOrdered o.job in
    by_if P (job.cancelled || (offer.step == job.steps)) _ _ low (by_if P (accepts_lease offer job) _ _ (omega (arith, low)) low)

order_giving : (offer : Offered) (job : JobState) → IsOrdered job → IsOrdered (give_back_outcome offer job).job
order_giving offer job low =
    let back : JobOutcome = record { reply = reply.Done; job = record job { done = offer.step; out = None } } in
    cond_both (accepts_lease offer job) back (refusal fault.StrangerLease job) (λ (o : JobOutcome). IsOrdered o.job)
    (λ own. (own_parts offer job own).1) (λ other. low)

order_revoking : (job : JobState) → IsOrdered job → IsOrdered (revoke_outcome job).job
order_revoking job low = by_if (λ (o : JobOutcome). IsOrdered o.job) (is_some job.out) _ _ low low

order_cancelling : (job : JobState) → IsOrdered job → IsOrdered (cancel_outcome job).job
order_cancelling job low = by_if (λ (o : JobOutcome). IsOrdered o.job) (job.cancelled || (job.done == job.steps)) _ _ low low

order_served : (book : BookState) (made : Call) → AreOrdered book.jobs → AreOrdered (outcome_of_call book made).jobs
order_served book (call.Submit seed rule steps) are = order_submit (not (suits rule seed.road)) (ltb (length book.jobs) MAX_JOBS) book.jobs seed rule steps are
order_served book (call.Replace job rule) are = order_one book.jobs job (replace_outcome rule) are (order_replacing rule)
order_served book call.Lease are = order_free book.jobs book.next (position is_free book.jobs) are
order_served book (call.Order offer) are = order_one book.jobs offer.job (order_outcome offer) are (order_ordering offer)
order_served book (call.GiveBack offer) are = order_one book.jobs offer.job (give_back_outcome offer) are (order_giving offer)
order_served book (call.Revoke job) are = order_one book.jobs job revoke_outcome are order_revoking
order_served book (call.Cancel job) are = order_one book.jobs job cancel_outcome are order_cancelling
order_served book (call.Read job) are = order_one book.jobs job read_outcome are (λ job low. low)

pub ordered_after : (book : BookState) (calls : List Call) → AreOrdered book.jobs → AreOrdered (state_from book calls).jobs
ordered_after book [] are = are
ordered_after book (made ∷ calls) are =
    ordered_after (after book made) calls (book_if (λ (b : BookState). AreOrdered b.jobs) (has_full_history book) book (made_on book made) are (order_served book made are))

pub none_at_first : AreOrdered empty_book.jobs
none_at_first number job at = absurd (none-some job at)

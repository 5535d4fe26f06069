-- Jobs whose steps are all done, and jobs that were cancelled, stay so.
use Rattle.std.proofs.Common.{◌≡◌, ℕ, ◌+◌, ◌≤◌, ◌==◌, ◌&&◌, ◌||◌, not, ltb, max, Bool, true, false, List, [], ◌∷◌}
use Rattle.std.proofs.Common.{Option, Some, None, length, map, refl, sym, ◌∙◌, ap, inl, inr, ◌⊎◌, arith}
use Rattle.std.proofs.Common.{slice_get, is_some, if◌then◌else◌, All, eq-eqb, true≢false}
use Rattle.std.proofs.Math.Nat.{eq-or-lt_of_le}
use Rattle.std.proofs.lemmas.{List.Elements.{All-head, All-tail}, Bool.{cond_both, ltb-false}, Option.none-some}
use Rattle.trlab_step.specs.Run.{suits}
use Rattle.trlab_sequential_book.specs.declared.{sheet.TheConstants.MAX_ENTRIES, event.{Call.Call, Event.Event}}
use Rattle.trlab_sequential_book.specs.{declared.event.Offered.Offered, Sheets.{begin_in_force, with_rule_from}}
use Rattle.trlab_sequential_book.specs.Histories.{call_of, state_from}
use Rattle.trlab_sequential_book.specs.Machine.{JobState, JobOutcome, BookState, accepts_lease, is_out}
use Rattle.trlab_sequential_book.specs.Machine.{after, empty_book, is_free, order_outcome, refusal}
use Rattle.trlab_sequential_book.{proofs.{Booking.own_parts, LeaseTracking.by_if}}
use Rattle.trlab_sequential_book.specs.declared.event.Call.TheVariants as call
use Rattle.trlab_sequential_book.specs.declared.event.Reply.TheVariants as reply
use Rattle.trlab_sequential_book.specs.declared.fault.BookFault.TheVariants as fault
use Rattle.trlab_book.specs.Turns.{IsOver, is_cancel, is_lease, is_submit}
use Rattle.trlab_book.proofs.BookJobs.{AllHave, KeepsCall, Told, first_told, kept_after, rest_told}

-- at most all steps of a job were ordered

abbrev IsWithin : ℕ → JobState → Type 0
IsWithin index job = job.high ≤ job.steps

or_second : (a b : Bool) → (a || b) ≡ false → b ≡ false
or_second true b is = absurd (cc is)
or_second false b is = is

order_within : (offer : Offered) (job : JobState) → job.high ≤ job.steps → (order_outcome offer job).job.high ≤ (order_outcome offer job).job.steps
order_within offer job low =
    let P : JobOutcome → Type 0 = λ (o : JobOutcome). o.job.high ≤ o.job.steps in
    let taken : JobOutcome = record { reply = reply.Ordered offer.job offer.number offer.step (begin_in_force job.sheet offer.step); job = record job { high = max job.high (offer.step + 1) } } in
    let going : JobOutcome = if accepts_lease offer job then taken else refusal fault.StrangerLease job in
    cond_both (job.cancelled || (offer.step == job.steps)) (refusal fault.Ended job) going P (λ _. low)
    (λ more. cond_both (accepts_lease offer job) taken (refusal fault.StrangerLease job) P
    (λ own.
    let ordered = (own_parts offer job own).1 in
    let most : offer.step ≤ job.steps = omega (arith, low, ordered) in
    elim (eq-or-lt_of_le most) [
      | inl same ↦ absurd (true≢false (sym (eq-eqb offer.step job.steps same) ∙ or_second job.cancelled (offer.step == job.steps) more))
      | inr less ↦ omega (arith, low, less)
    ])
    (λ _. low))

within_kept : (book : BookState) (made : Call) → KeepsCall IsWithin book made
within_kept book (call.Submit seed rule steps) = λ index. omega arith
within_kept book (call.Replace index rule) = λ job low.
    let P : JobOutcome → Type 0 = λ (o : JobOutcome). o.job.high ≤ o.job.steps in
    by_if P (job.cancelled || (job.high == job.steps)) _ _ low (by_if P (not (suits rule job.seed.road)) _ _ low (by_if P (ltb MAX_ENTRIES (length (with_rule_from job.sheet job.high rule))) _ _ low low))
within_kept book call.Lease = λ index job first at low. low
within_kept book (call.Order offer) = λ job low. order_within offer job low
within_kept book (call.GiveBack offer) = λ job low. by_if (λ (o : JobOutcome). o.job.high ≤ o.job.steps) (accepts_lease offer job) _ _ low low
within_kept book (call.Revoke index) = λ job low. by_if (λ (o : JobOutcome). o.job.high ≤ o.job.steps) (is_some job.out) _ _ low low
within_kept book (call.Cancel index) = λ job low. by_if (λ (o : JobOutcome). o.job.high ≤ o.job.steps) (job.cancelled || (job.done == job.steps)) _ _ low low
within_kept book (call.Read index) = tt

within_from : (book : BookState) (events : List Event) → Told book events → AllHave IsWithin book.jobs → AllHave IsWithin (state_from book (map call_of events)).jobs
within_from book [] told are = are
within_from book (made ∷ events) told are =
    within_from (after book made.call) events (rest_told book made events told) (kept_after IsWithin book made (first_told book made events told) are (λ is. within_kept book made.call))

pub within_after : (events : List Event) → Told empty_book events → (number : ℕ) (job : JobState) → slice_get (state_from empty_book (map call_of events)).jobs number ≡ Some job → job.high ≤ job.steps
within_after events told = within_from empty_book events told (λ index job at. absurd (none-some job at))

-- a job that is not free and not out is over
by_parts : (cancelled more : Bool) → (not cancelled && more) ≡ false → (cancelled ≡ true) ⊎ (more ≡ false)
by_parts true more is = inl refl
by_parts false more is = inr is

pub over_if : (job : JobState) → is_free job ≡ false → job.out ≡ None → job.done ≤ job.steps → IsOver job
over_if job busy out low =
    let rest : (not job.cancelled && ltb job.done job.steps) ≡ false = ap (λ (o : Option ℕ). not (is_some o) && (not job.cancelled && ltb job.done job.steps)) (sym out) ∙ busy in
    record {
      out = out;
      over = elim (by_parts job.cancelled (ltb job.done job.steps) rest) [
        | inl cancelled ↦ inl cancelled
        | inr none ↦ let high = ltb-false job.done job.steps none in inr (omega (arith, low, high))
      ];
    }

-- without a lease and a submit, a job that is over stays so

abbrev IsOverAt : ℕ → JobState → Type 0
IsOverAt index job = IsOver job

not_accepted : (offer : Offered) (job : JobState) → job.out ≡ None → accepts_lease offer job ≡ false
not_accepted offer job out = ap (λ (o : Option ℕ). is_out offer.number o && ((offer.base == job.done) && (not (ltb job.high offer.step) && offer.same))) out

over_kept : (book : BookState) (made : Call) → is_lease made ≡ false → is_submit made ≡ false → KeepsCall IsOverAt book made
over_kept book (call.Submit seed rule steps) no_lease no_submit = absurd (cc no_submit)
over_kept book (call.Replace index rule) no_lease no_submit = λ job is.
    let P : JobOutcome → Type 0 = λ (o : JobOutcome). IsOver o.job in
    by_if P (job.cancelled || (job.high == job.steps)) _ _ is (by_if P (not (suits rule job.seed.road)) _ _ is (by_if P (ltb MAX_ENTRIES (length (with_rule_from job.sheet job.high rule))) _ _ is (record { out = is.out; over = is.over })))
over_kept book call.Lease no_lease no_submit = absurd (cc no_lease)
over_kept book (call.Order offer) no_lease no_submit = λ job is.
    let P : JobOutcome → Type 0 = λ (o : JobOutcome). IsOver o.job in
    by_if P (job.cancelled || (offer.step == job.steps)) _ _ is (cond_both (accepts_lease offer job) _ _ P (λ own. absurd (true≢false (sym own ∙ not_accepted offer job is.out))) (λ _. is))
over_kept book (call.GiveBack offer) no_lease no_submit = λ job is.
    cond_both (accepts_lease offer job) _ _ (λ (o : JobOutcome). IsOver o.job) (λ own. absurd (true≢false (sym own ∙ not_accepted offer job is.out))) (λ _. is)
over_kept book (call.Revoke index) no_lease no_submit = λ job is.
    cond_both (is_some job.out) _ _ (λ (o : JobOutcome). IsOver o.job) (λ some. absurd (true≢false (sym some ∙ ap is_some is.out))) (λ _. is)
over_kept book (call.Cancel index) no_lease no_submit = λ job is.
    by_if (λ (o : JobOutcome). IsOver o.job) (job.cancelled || (job.done == job.steps)) _ _ is (record { out = refl; over = inl refl })
over_kept book (call.Read index) no_lease no_submit = tt

pub over_from : (book : BookState) (events : List Event) → Told book events → All (λ (e : Event). (is_lease e.call ≡ false) × (is_submit e.call ≡ false)) events
    → ((number : ℕ) (job : JobState) → slice_get book.jobs number ≡ Some job → IsOver job) → (number : ℕ) (job : JobState) → slice_get (state_from book (map call_of events)).jobs number ≡ Some job → IsOver job
over_from book [] told none are = are
over_from book (made ∷ events) told none are =
    let here = All-head (λ (e : Event). (is_lease e.call ≡ false) × (is_submit e.call ≡ false)) made events none in
    over_from (after book made.call) events (rest_told book made events told) (All-tail (λ (e : Event). (is_lease e.call ≡ false) × (is_submit e.call ≡ false)) made events none)
    (kept_after IsOverAt book made (first_told book made events told) are (λ is. over_kept book made.call here.0 here.1))

-- without a call of `cancel` no job is cancelled

abbrev IsGoing : ℕ → JobState → Type 0
IsGoing index job = job.cancelled ≡ false

going_kept : (book : BookState) (made : Call) → is_cancel made ≡ false → KeepsCall IsGoing book made
going_kept book (call.Submit seed rule steps) none = λ index. refl
going_kept book (call.Replace index rule) none = λ job going.
    let P : JobOutcome → Type 0 = λ (o : JobOutcome). o.job.cancelled ≡ false in
    by_if P (job.cancelled || (job.high == job.steps)) _ _ going (by_if P (not (suits rule job.seed.road)) _ _ going (by_if P (ltb MAX_ENTRIES (length (with_rule_from job.sheet job.high rule))) _ _ going going))
going_kept book call.Lease none = λ index job first at going. going
going_kept book (call.Order offer) none = λ job going.
    let P : JobOutcome → Type 0 = λ (o : JobOutcome). o.job.cancelled ≡ false in
    by_if P (job.cancelled || (offer.step == job.steps)) _ _ going (by_if P (accepts_lease offer job) _ _ going going)
going_kept book (call.GiveBack offer) none = λ job going. by_if (λ (o : JobOutcome). o.job.cancelled ≡ false) (accepts_lease offer job) _ _ going going
going_kept book (call.Revoke index) none = λ job going. by_if (λ (o : JobOutcome). o.job.cancelled ≡ false) (is_some job.out) _ _ going going
going_kept book (call.Cancel index) none = absurd (cc none)
going_kept book (call.Read index) none = tt

going_from : (book : BookState) (events : List Event) → Told book events → All (λ (e : Event). is_cancel e.call ≡ false) events → AllHave IsGoing book.jobs → AllHave IsGoing (state_from book (map call_of events)).jobs
going_from book [] told none are = are
going_from book (made ∷ events) told none are =
    let here = All-head (λ (e : Event). is_cancel e.call ≡ false) made events none in
    going_from (after book made.call) events (rest_told book made events told) (All-tail (λ (e : Event). is_cancel e.call ≡ false) made events none)
    (kept_after IsGoing book made (first_told book made events told) are (λ is. going_kept book made.call here))

pub never_cancelled : (events : List Event) → Told empty_book events → All (λ (e : Event). is_cancel e.call ≡ false) events
    → (number : ℕ) (job : JobState) → slice_get (state_from empty_book (map call_of events)).jobs number ≡ Some job → job.cancelled ≡ false
never_cancelled events told none = going_from empty_book events told none (λ index job at. absurd (none-some job at))

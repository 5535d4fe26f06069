-- The effect of calls on each job of a book.
use Rattle.std.proofs.Common.{◌≡◌, ℕ, ◌+◌, ◌<◌, ◌≤◌, ◌==◌, ◌&&◌, ◌||◌, not, ltb, Bool, true, false, List, []}
use Rattle.std.proofs.Common.{◌∷◌, ◌++◌, Option, Some, None, length, map, refl, sym, ◌∙◌, ap, subst, inl, inr}
use Rattle.std.proofs.Common.{arith, slice_get, slice_set, is_some, if◌then◌else◌, position, MatchOption, All}
use Rattle.std.proofs.{Common.{eq-eqb}, lemmas.List.Elements.{All-head, All-tail, All-nil}}
use Rattle.std.proofs.lemmas.{List.Elements.All-cons, Bool.{cases_eq, cond-false}}
use Rattle.std.proofs.lemmas.Option.{same_Some}
use Rattle.trlab_rules.specs.Rules.{Programs}
use Rattle.trlab_step.specs.Run.{suits}
use Rattle.trlab_sequential_book.specs.declared.{book.TheConstants.MAX_JOBS, sheet.TheConstants.MAX_ENTRIES}
use Rattle.trlab_sequential_book.specs.declared.{seed.Seed.Seed, event.{Call.Call, Event.Event, Offered.Offered}}
use Rattle.trlab_sequential_book.specs.{declared.event.Reply.Reply, Sheets.with_rule_from}
use Rattle.trlab_sequential_book.specs.Histories.{call_of, replies_from, reply_of_event, state_from}
use Rattle.trlab_sequential_book.specs.Machine.{JobState, JobOutcome, JobsOutcome, BookState, accepts_lease}
use Rattle.trlab_sequential_book.specs.Machine.{after, cancel_outcome, give_back_outcome, has_full_history}
use Rattle.trlab_sequential_book.specs.Machine.{is_free, is_out, lease_outcome, new_job, next_after, on_free}
use Rattle.trlab_sequential_book.specs.Machine.{on_job, order_outcome, outcome_of_call, read_outcome, refusal}
use Rattle.trlab_sequential_book.specs.Machine.{reply_of, replace_outcome, revoke_outcome}
use Rattle.trlab_sequential_book.proofs.Booking.{on_found}
use Rattle.trlab_sequential_book.proofs.LeaseTracking.{apart, book_if, by_if, made_on, next_grows, push_was}
use Rattle.trlab_sequential_book.proofs.LeaseTracking.{set_here, set_there}
use Rattle.trlab_sequential_book.specs.declared.event.Call.TheVariants as call
use Rattle.trlab_sequential_book.specs.declared.event.Reply.TheVariants as reply
use Rattle.trlab_sequential_book.specs.declared.fault.BookFault.TheVariants as fault
use Rattle.trlab_book.specs.Turns.{LeaseIsNotOut}

-- a property of each job and its number

abbrev pub AllHave : (ℕ → JobState → Type 0) → List JobState → Type 0
AllHave P jobs = (number : ℕ) (job : JobState) → slice_get jobs number ≡ Some job → P number job

module _ (P : ℕ → JobState → Type 0) (jobs : List JobState) (index : ℕ) (outcome : JobState → JobOutcome) (are : AllHave P jobs)
    (keeps : (job : JobState) → slice_get jobs index ≡ Some job → P index job → P index (outcome job).job) where
  kept_by : (found : Option JobState) → slice_get jobs index ≡ found → AllHave P (on_job jobs index outcome).jobs
  kept_by None none =
      let t : Option JobState → JobsOutcome = λ o. elim o [ None ↦ record { reply = reply.Refused fault.NoSuchJob; jobs = jobs } | Some k ↦ record { reply = (outcome k).reply; jobs = slice_set jobs index (outcome k).job } ] in
      subst (AllHave P) (sym (ap (λ (s : JobsOutcome). s.jobs) (ap t none))) are
  kept_by (Some old) found =
      let same : (on_job jobs index outcome).jobs ≡ slice_set jobs index (outcome old).job = ap (λ (s : JobsOutcome). s.jobs) (on_found jobs index old outcome found) in
      subst (AllHave P) (sym same) (λ number job at. elim (cases_eq number index) [
        | inl own ↦
            let put = set_here jobs index (outcome old).job old found in
            let mine : (outcome old).job ≡ job = same_Some (outcome old).job job (sym put ∙ (ap (slice_get (slice_set jobs index (outcome old).job)) (sym own) ∙ at)) in
            subst (λ (n : ℕ). P n job) (sym own) (subst (P index) mine (keeps old found (are index old found)))
        | inr other ↦ are number job (sym (set_there jobs index number (outcome old).job other) ∙ at)
      ])

  kept_on : AllHave P (on_job jobs index outcome).jobs
  kept_on = kept_by (slice_get jobs index) refl

-- the effect of a call on a job keeps the property
abbrev pub KeepsCall : (ℕ → JobState → Type 0) → BookState → Call → Type 0
KeepsCall P book (call.Submit seed rule steps) = (number : ℕ) → P number (new_job seed rule steps)
KeepsCall P book (call.Replace index rule) = (job : JobState) → P index job → P index (replace_outcome rule job).job
KeepsCall P book call.Lease =
    (index : ℕ) (job : JobState) → position is_free book.jobs ≡ Some index → slice_get book.jobs index ≡ Some job
    → P index job → P index (lease_outcome index book.next job).job
KeepsCall P book (call.Order offer) = (job : JobState) → P offer.job job → P offer.job (order_outcome offer job).job
KeepsCall P book (call.GiveBack offer) = (job : JobState) → P offer.job job → P offer.job (give_back_outcome offer job).job
KeepsCall P book (call.Revoke index) = (job : JobState) → P index job → P index (revoke_outcome job).job
KeepsCall P book (call.Cancel index) = (job : JobState) → P index job → P index (cancel_outcome job).job
KeepsCall P book (call.Read index) = Unit {0}

module _ (P : ℕ → JobState → Type 0) where
  kept_free : (book : BookState) (free : Option ℕ) → position is_free book.jobs ≡ free → AllHave P book.jobs → KeepsCall P book call.Lease → AllHave P (on_free book.jobs book.next free).jobs
  kept_free book None none are keeps = are
  kept_free book (Some index) first are keeps = kept_on P book.jobs index (lease_outcome index book.next) are (λ job at has. keeps index job first at has)

  kept_submit : (b c : Bool) (jobs : List JobState) (seed : Seed) (rule : Programs) (steps : ℕ) → AllHave P jobs → ((number : ℕ) → P number (new_job seed rule steps))
      → let ended : JobsOutcome = if b then record { reply = reply.Refused fault.LanesMismatch; jobs = jobs } else if c then record { reply = reply.Number (length jobs); jobs = jobs ++ new_job seed rule steps ∷ [] } else record { reply = reply.Refused fault.Full; jobs = jobs } in
      AllHave P ended.jobs
  kept_submit true c jobs seed rule steps are keeps = are
  kept_submit false true jobs seed rule steps are keeps = λ number job at. elim (push_was jobs (new_job seed rule steps) job number at) [
    | inl before ↦ are number job before
    | inr new ↦ subst (P number) (sym new.1) (keeps number)
  ]
  kept_submit false false jobs seed rule steps are keeps = are

  kept : (book : BookState) (made : Call) → AllHave P book.jobs → KeepsCall P book made → AllHave P (outcome_of_call book made).jobs
  kept book (call.Submit seed rule steps) are keeps = kept_submit (not (suits rule seed.road)) (ltb (length book.jobs) MAX_JOBS) book.jobs seed rule steps are keeps
  kept book (call.Replace index rule) are keeps = kept_on P book.jobs index (replace_outcome rule) are (λ job at. keeps job)
  kept book call.Lease are keeps = kept_free book (position is_free book.jobs) refl are keeps
  kept book (call.Order offer) are keeps = kept_on P book.jobs offer.job (order_outcome offer) are (λ job at. keeps job)
  kept book (call.GiveBack offer) are keeps = kept_on P book.jobs offer.job (give_back_outcome offer) are (λ job at. keeps job)
  kept book (call.Revoke index) are keeps = kept_on P book.jobs index revoke_outcome are (λ job at. keeps job)
  kept book (call.Cancel index) are keeps = kept_on P book.jobs index cancel_outcome are (λ job at. keeps job)
  kept book (call.Read index) are keeps = kept_on P book.jobs index read_outcome are (λ job at has. has)

  -- a call with its reply; a book with a full history stays as it is
  kept_if : (book : BookState) (made : Event) (full : Bool) → (if full then reply.Refused fault.HistoryFull else (outcome_of_call book made.call).reply) ≡ made.reply → AllHave P book.jobs
      → ((outcome_of_call book made.call).reply ≡ made.reply → KeepsCall P book made.call) → AllHave P (if full then book else made_on book made.call).jobs
  kept_if book made true told are keeps = are
  kept_if book made false told are keeps = kept book made.call are (keeps told)

  pub kept_after : (book : BookState) (made : Event) → made.reply ≡ reply_of book made.call → AllHave P book.jobs
      → ((outcome_of_call book made.call).reply ≡ made.reply → KeepsCall P book made.call) → AllHave P (after book made.call).jobs
  kept_after book made told are keeps = kept_if book made (has_full_history book) (sym told) are keeps

-- histories, one event after another

abbrev pub Told : BookState → List Event → Type 0
Told book events = map reply_of_event events ≡ replies_from book (map call_of events)

head_is : (x y : Reply) (xs ys : List Reply) → x ∷ xs ≡ y ∷ ys → x ≡ y
head_is x y xs ys is = cc

tail_is : (x y : Reply) (xs ys : List Reply) → x ∷ xs ≡ y ∷ ys → xs ≡ ys
tail_is x y xs ys is = cc

pub first_told : (book : BookState) (made : Event) (events : List Event) → Told book (made ∷ events) → made.reply ≡ reply_of book made.call
first_told book made events told = head_is made.reply (reply_of book made.call) (map reply_of_event events) (replies_from (after book made.call) (map call_of events)) told

pub rest_told : (book : BookState) (made : Event) (events : List Event) → Told book (made ∷ events) → Told (after book made.call) events
rest_told book made events told = tail_is made.reply (reply_of book made.call) (map reply_of_event events) (replies_from (after book made.call) (map call_of events)) told

pub told_after : (book : BookState) (before events : List Event) → Told book (before ++ events) → Told (state_from book (map call_of before)) events
told_after book [] events told = told
told_after book (made ∷ before) events told = told_after (after book made.call) before events (rest_told book made (before ++ events) told)

-- a lease that is not out

-- does this event lend the job with this lease?
abbrev pub lends : ℕ → ℕ → Call → Reply → Bool
lends number lease call.Lease (reply.Leased job out step steps) = (job == number) && (out == lease)
lends number lease _ _ = false

abbrev pub IsNotOutFor : ℕ → ℕ → ℕ → JobState → Type 0
IsNotOutFor number lease index job = index ≡ number → is_out lease job.out ≡ false

second_false : (a b : Bool) → (a && b) ≡ false → a ≡ true → b ≡ false
second_false true b is holds = is
second_false false b is holds = absurd (cc holds)

and_false : (a b : Bool) → b ≡ false → (a && b) ≡ false
and_false true b is = is
and_false false b is = refl

-- the reply if the job at this index goes out
lent_reply : (book : BookState) (index : ℕ) (job : JobState) → position is_free book.jobs ≡ Some index → slice_get book.jobs index ≡ Some job
    → (outcome_of_call book call.Lease).reply ≡ reply.Leased index book.next job.done job.steps
lent_reply book index job first at =
    ap (λ (f : Option ℕ). (on_free book.jobs book.next f).reply) first ∙ ap (λ (s : JobsOutcome). s.reply) (on_found book.jobs index job (lease_outcome index book.next) at)

not_out_kept : (number lease : ℕ) (book : BookState) (made : Call) → lends number lease made (outcome_of_call book made).reply ≡ false → KeepsCall (IsNotOutFor number lease) book made
not_out_kept number lease book (call.Submit seed rule steps) other = λ index same. refl
not_out_kept number lease book (call.Replace index rule) other = λ job is same.
    let P : JobOutcome → Type 0 = λ (o : JobOutcome). is_out lease o.job.out ≡ false in
    let h = is same in
    by_if P (job.cancelled || (job.high == job.steps)) _ _ h (by_if P (not (suits rule job.seed.road)) _ _ h (by_if P (ltb MAX_ENTRIES (length (with_rule_from job.sheet job.high rule))) _ _ h h))
not_out_kept number lease book call.Lease other = λ index job first at is same.
    second_false (index == number) (book.next == lease) (ap (lends number lease call.Lease) (sym (lent_reply book index job first at)) ∙ other) (eq-eqb index number same)
not_out_kept number lease book (call.Order offer) other = λ job is same.
    let P : JobOutcome → Type 0 = λ (o : JobOutcome). is_out lease o.job.out ≡ false in
    let h = is same in
    by_if P (job.cancelled || (offer.step == job.steps)) _ _ h (by_if P (accepts_lease offer job) _ _ h h)
not_out_kept number lease book (call.GiveBack offer) other = λ job is same.
    by_if (λ (o : JobOutcome). is_out lease o.job.out ≡ false) (accepts_lease offer job) _ _ refl (is same)
not_out_kept number lease book (call.Revoke index) other = λ job is same. by_if (λ (o : JobOutcome). is_out lease o.job.out ≡ false) (is_some job.out) _ _ refl (is same)
not_out_kept number lease book (call.Cancel index) other = λ job is same.
    by_if (λ (o : JobOutcome). is_out lease o.job.out ≡ false) (job.cancelled || (job.done == job.steps)) _ _ (is same) refl
not_out_kept number lease book (call.Read index) other = tt

-- it stays so as long as no event lends it
pub stays_not_out : (number lease : ℕ) (book : BookState) (events : List Event) → Told book events → All (λ (e : Event). lends number lease e.call e.reply ≡ false) events
    → AllHave (IsNotOutFor number lease) book.jobs → AllHave (IsNotOutFor number lease) (state_from book (map call_of events)).jobs
stays_not_out number lease book [] told none are = are
stays_not_out number lease book (made ∷ events) told none are =
    let here = All-head (λ (e : Event). lends number lease e.call e.reply ≡ false) made events none in
    stays_not_out number lease (after book made.call) events (rest_told book made events told) (All-tail (λ (e : Event). lends number lease e.call e.reply ≡ false) made events none)
    (kept_after (IsNotOutFor number lease) book made (first_told book made events told) are (λ is. not_out_kept number lease book made.call (ap (lends number lease made.call) is ∙ here)))

pub not_out_all : (book : BookState) (number lease : ℕ) → LeaseIsNotOut book number lease → AllHave (IsNotOutFor number lease) book.jobs
not_out_all book number lease is index job at same =
    subst (λ (o : Option JobState). MatchOption o ⊥ (λ (k : JobState). is_out lease k.out ≡ false)) (ap (slice_get book.jobs) (sym same) ∙ at) is

-- numbers of leases

room_if : (full : Bool) (told said : Reply) → (if full then reply.Refused fault.HistoryFull else told) ≡ said → (said ≡ reply.Refused fault.HistoryFull → ⊥) → (full ≡ false) × (told ≡ said)
room_if true told said is other = absurd (other (sym is))
room_if false told said is other = (refl, is)

after_room : (book : BookState) (made : Call) → has_full_history book ≡ false → after book made ≡ made_on book made
after_room book made room = cond-false (has_full_history book) book (made_on book made) room

next_leased : (book : BookState) (free : Option ℕ) (job number step steps : ℕ) → (on_free book.jobs book.next free).reply ≡ reply.Leased job number step steps → number ≡ book.next
next_leased book None job number step steps is = absurd (cc is)
next_leased book (Some index) job number step steps is = by (slice_get book.jobs index) is
  where
    by : (found : Option JobState)
        → let ended : JobsOutcome = elim found [ None ↦ record { reply = reply.Refused fault.NoSuchJob; jobs = book.jobs } | Some k ↦ record { reply = (lease_outcome index book.next k).reply; jobs = slice_set book.jobs index (lease_outcome index book.next k).job } ] in
        ended.reply ≡ reply.Leased job number step steps → number ≡ book.next
    by None told = absurd (cc told)
    by (Some k) told = cc

-- the lease that goes out has the book's next number, and the next one a greater number
pub leased_next : (book : BookState) (job number step steps : ℕ) → reply_of book call.Lease ≡ reply.Leased job number step steps → (number ≡ book.next) × (number < (after book call.Lease).next)
leased_next book job number step steps told =
    let room = room_if (has_full_history book) (outcome_of_call book call.Lease).reply (reply.Leased job number step steps) told (λ is. absurd (cc is)) in
    let own = next_leased book (position is_free book.jobs) job number step steps room.1 in
    let grown : (after book call.Lease).next ≡ book.next + 1 = ap (λ (b : BookState). b.next) (after_room book call.Lease room.0) ∙ ap (next_after book.next) room.1 in
    (own, omega (arith, own, grown))

next_after_call : (book : BookState) (made : Call) → book.next ≤ (after book made).next
next_after_call book made = book_if (λ (b : BookState). book.next ≤ b.next) (has_full_history book) book (made_on book made) (omega arith) (next_grows book.next (outcome_of_call book made).reply)

pub next_after_events : (book : BookState) (events : List Event) → book.next ≤ (state_from book (map call_of events)).next
next_after_events book [] = omega arith
next_after_events book (made ∷ events) =
    let one = next_after_call book made.call in
    let more = next_after_events (after book made.call) events in
    omega (arith, one, more)

-- a lease with a smaller number never goes out again
not_lent : (number lease : ℕ) (book : BookState) (c : Call) (r : Reply) → r ≡ reply_of book c → lease < book.next → lends number lease c r ≡ false
not_lent number lease book call.Lease (reply.Leased job out step steps) told low =
    let own = leased_next book job out step steps (sym told) in
    and_false (job == number) (out == lease) (apart out lease (λ same. absurd (omega (arith, same, low, own.0))))
not_lent number lease book call.Lease (reply.Refused why) told low = refl
not_lent number lease book call.Lease (reply.Number n) told low = refl
not_lent number lease book call.Lease reply.NoLease told low = refl
not_lent number lease book call.Lease (reply.Ordered job out step from) told low = refl
not_lent number lease book call.Lease reply.Done told low = refl
not_lent number lease book call.Lease (reply.Seen step entries) told low = refl
not_lent number lease book (call.Submit seed rule steps) r told low = refl
not_lent number lease book (call.Replace index rule) r told low = refl
not_lent number lease book (call.Order offer) r told low = refl
not_lent number lease book (call.GiveBack offer) r told low = refl
not_lent number lease book (call.Revoke index) r told low = refl
not_lent number lease book (call.Cancel index) r told low = refl
not_lent number lease book (call.Read index) r told low = refl

pub never_lent : (number lease : ℕ) (book : BookState) (events : List Event) → Told book events → lease < book.next → All (λ (e : Event). lends number lease e.call e.reply ≡ false) events
never_lent number lease book [] told low = All-nil _
never_lent number lease book (made ∷ events) told low =
    let grows = next_after_call book made.call in
    All-cons (λ (e : Event). lends number lease e.call e.reply ≡ false) made events (not_lent number lease book made.call made.reply (first_told book made events told) low)
    (never_lent number lease (after book made.call) events (rest_told book made events told) (omega (arith, low, grows)))

-- a lease that was given back is not out
back_by : (offer : Offered) (job : JobState) (lease : ℕ) → (give_back_outcome offer job).reply ≡ reply.Done → is_out lease (give_back_outcome offer job).job.out ≡ false
back_by offer job lease = by (accepts_lease offer job)
  where
    by : (own : Bool)
        → let ended : JobOutcome = if own then record { reply = reply.Done; job = record job { done = offer.step; out = None } } else refusal fault.StrangerLease job in
        ended.reply ≡ reply.Done → is_out lease ended.job.out ≡ false
    by true told = refl
    by false told = absurd (cc told)

module _ (book : BookState) (offer : Offered) (lease : ℕ) where
  back_found : (found : Option JobState) → slice_get book.jobs offer.job ≡ found → (on_job book.jobs offer.job (give_back_outcome offer)).reply ≡ reply.Done
      → AllHave (IsNotOutFor offer.job lease) (on_job book.jobs offer.job (give_back_outcome offer)).jobs
  back_found None none told =
      let t : Option JobState → JobsOutcome = λ o. elim o [ None ↦ record { reply = reply.Refused fault.NoSuchJob; jobs = book.jobs } | Some k ↦ record { reply = (give_back_outcome offer k).reply; jobs = slice_set book.jobs offer.job (give_back_outcome offer k).job } ] in
      let other : reply.Refused fault.NoSuchJob ≡ reply.Done = sym (ap (λ (s : JobsOutcome). s.reply) (ap t none)) ∙ told in
      absurd (cc other)
  back_found (Some old) found told =
      let ended = on_found book.jobs offer.job old (give_back_outcome offer) found in
      let now = (give_back_outcome offer old).job in
      let is = back_by offer old lease (sym (ap (λ (s : JobsOutcome). s.reply) ended) ∙ told) in
      subst (AllHave (IsNotOutFor offer.job lease)) (sym (ap (λ (s : JobsOutcome). s.jobs) ended)) (λ index job at same.
      let mine : now ≡ job = same_Some now job (sym (set_here book.jobs offer.job now old found) ∙ (ap (slice_get (slice_set book.jobs offer.job now)) (sym same) ∙ at)) in
      subst (λ (k : JobState). is_out lease k.out ≡ false) mine is)

  pub back_not_out : reply_of book (call.GiveBack offer) ≡ reply.Done → AllHave (IsNotOutFor offer.job lease) (after book (call.GiveBack offer)).jobs
  back_not_out told =
      let room = room_if (has_full_history book) (outcome_of_call book (call.GiveBack offer)).reply reply.Done told (λ is. absurd (cc is)) in
      subst (λ (b : BookState). AllHave (IsNotOutFor offer.job lease) b.jobs) (sym (after_room book (call.GiveBack offer) room.0))
      (back_found (slice_get book.jobs offer.job) refl room.1)

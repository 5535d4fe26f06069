-- When the runners of a history have ended, all its jobs are over.
use Rattle.std.proofs.Common.{◌≡◌, ℕ, ◌+◌, ◌<◌, ◌≤◌, Bool, true, false, List, []}
use Rattle.std.proofs.Common.{◌∷◌, ◌++◌, Option, Some, None, length, map, refl, sym, ◌∙◌, ap, subst, inl, inr, ◌⊎◌}
use Rattle.std.proofs.Common.{arith, slice_get, position, All, append_assoc, length-append, cond}
use Rattle.std.proofs.Common.{true≢false, lt-ltb, if◌then◌else◌, slice_set}
use Rattle.std.proofs.lemmas.List.{Elements.{All-cons, All-nil, All-weaker}}
use Rattle.std.proofs.lemmas.{List.Elements.All-get_or}
use Rattle.std.proofs.lemmas.Option.{none-some, slice_get_within}
use Rattle.std.proofs.lemmas.Option.{get_or_from_slice_get}
use Rattle.trlab_sequential_book.specs.declared.event.{Call.Call, Event.Event}
use Rattle.trlab_sequential_book.specs.{Histories.{Replays, book_after}}
use Rattle.trlab_sequential_book.specs.Histories.{call_of, state_from}
use Rattle.trlab_sequential_book.specs.Machine.{BookState, JobState, JobsOutcome, after, empty_book, is_free, reply_of}
use Rattle.trlab_sequential_book.specs.Machine.{has_full_history, is_out, lease_outcome, on_free, outcome_of_call}
use Rattle.trlab_sequential_book.proofs.LeaseTracking.{made_on, same_number}
use Rattle.trlab_sequential_book.proofs.OrderedSteps.{ordered_after, none_at_first}
use Rattle.trlab_sequential_book.specs.declared.event.Call.TheVariants as call
use Rattle.trlab_sequential_book.specs.declared.event.Reply.TheVariants as reply
use Rattle.trlab_sequential_book.specs.declared.fault.BookFault.TheVariants as fault
use Rattle.trlab_strands.specs.declared.knowledge.Noted.{Noted}
use Rattle.trlab_strands.specs.Knowledge.{AreInList, IsInList, IsLinearization, count_with_number, event_number}
use Rattle.trlab_book.specs.Turns.{AreLogs, AreOtherCalls}
use Rattle.trlab_book.specs.Turns.{AllStepsAreDone, IsOver, JobsAreOver}
use Rattle.trlab_book.specs.Turns.{is_lease, is_submit}
use Rattle.trlab_book.proofs.{FreeJobs.no_job_is_free}
use Rattle.trlab_book.proofs.RefusedLeases.{state_append}
use Rattle.trlab_book.proofs.BookJobs.{AllHave, IsNotOutFor, Told, first_told}
use Rattle.trlab_book.proofs.BookJobs.{stays_not_out}
use Rattle.trlab_book.proofs.BookJobs.{told_after}
use Rattle.trlab_book.proofs.JobsOver.{never_cancelled, over_from, over_if, within_after}
use Rattle.trlab_book.proofs.RunnerLogs.{IsAmong, LastCall, all_among, all_both, all_left}
use Rattle.trlab_book.proofs.RunnerLogs.{all_right, among_two, found_in, log_of, same_place, some_latest}
use Rattle.trlab_book.proofs.EndedLeases.{find_lent, lends_true, not_out_at_end, told_before, told_from}

-- a call of `lease` that finds no free job changes no job

none_changes : (book : BookState) (free : Option ℕ) → (on_free book.jobs book.next free).reply ≡ reply.NoLease → (on_free book.jobs book.next free).jobs ≡ book.jobs
none_changes book None is = refl
none_changes book (Some index) is = absurd (by (slice_get book.jobs index) is)
  where
    by : (found : Option JobState)
        → let told : JobsOutcome = elim found [ None ↦ record { reply = reply.Refused fault.NoSuchJob; jobs = book.jobs } | Some k ↦ record { reply = (lease_outcome index book.next k).reply; jobs = slice_set book.jobs index (lease_outcome index book.next k).job } ] in
        told.reply ≡ reply.NoLease → ⊥
    by None told = cc
    by (Some k) told = cc

none_changes_if : (book : BookState) (full : Bool) → (if full then reply.Refused fault.HistoryFull else (outcome_of_call book call.Lease).reply) ≡ reply.NoLease
    → (if full then book else made_on book call.Lease).jobs ≡ book.jobs
none_changes_if book true is = refl
none_changes_if book false is = none_changes book (position is_free book.jobs) is

no_lease_changes : (book : BookState) → reply_of book call.Lease ≡ reply.NoLease → (after book call.Lease).jobs ≡ book.jobs
no_lease_changes book is = none_changes_if book (has_full_history book) is

module _ (history : List Event) (book : BookState) (replays : Replays history book) (before calls later : List (Noted Event)) (runners count : ℕ)
    (lin : IsLinearization history (before ++ (calls ++ later))) (some : 0 < runners) (logs : AreLogs runners calls)
    (late : All (λ (m : Noted Event). count ≤ event_number m) calls) (others_before : AreOtherCalls count before) (others_later : AreOtherCalls count later) where
  abbrev Other : Noted Event → Type 0
  Other m = (is_lease m.event.call ≡ false) × (is_submit m.event.call ≡ true → event_number m < count)

  of_calls : AreInList history calls
  of_calls = all_left (IsInList history) calls later (all_right (IsInList history) before (calls ++ later) lin.in_list)

  kind_of : (m : Noted Event) → IsAmong (before ++ (calls ++ later)) m → IsAmong calls m ⊎ Other m
  kind_of m is = elim (among_two before (calls ++ later) is.before is.later m is.all_is) [
    | inl first ↦ inr (all_among Other before m first others_before)
    | inr more ↦ elim (among_two calls later more.before more.later m more.all_is) [
      | inl call ↦ inl call
      | inr last ↦ inr (all_among Other later m last others_later)
    ]
  ]

  event_is : (m : Noted Event) (p q : List Event) (made : Event) → IsInList history m → event_number m ≡ length p → history ≡ p ++ made ∷ q → m.event ≡ made
  event_is m p q made is size split = (same_place m.before p is.0 q m.event made (sym is.1 ∙ split) size).1

  -- each event of the history is a call of a runner or another call
  someone : (p q : List Event) (made : Event) → history ≡ p ++ made ∷ q → (m : Noted Event) × (IsAmong calls m ⊎ Other m) × (m.event ≡ made) × (event_number m ≡ length p)
  someone p q made split =
      let size : length history ≡ length p + length (made ∷ q) = ap length split ∙ length-append p (made ∷ q) in
      let once : count_with_number (length p) (before ++ (calls ++ later)) ≡ 1 =
      lin.once (length p) ∙ ap (λ (b : Bool). cond b 1 0) (lt-ltb (length p) (length history) (omega (arith, size))) in
      let found = found_in (length p) (before ++ (calls ++ later)) (omega (arith, once)) in (
        found.0,
        kind_of found.0 found.1,
        event_is found.0 p q made (all_among (IsInList history) (before ++ (calls ++ later)) found.0 found.1 lin.in_list) found.2 split,
        found.2,
      )

  end : LastCall calls
  end = some_latest runners calls some logs

  abbrev ending : Noted Event
  ending = end.last

  ending_in : IsInList history ending
  ending_in = all_among (IsInList history) calls ending end.among of_calls

  abbrev past : List Event
  past = ending.before ++ ending.event ∷ []

  abbrev rest : List Event
  rest = ending_in.0

  parts : history ≡ past ++ rest
  parts = ending_in.1 ∙ sym (append_assoc ending.before (ending.event ∷ []) ending_in.0)

  size_past : length past ≡ event_number ending + 1
  size_past = let size = length-append ending.before (ending.event ∷ []) in omega (arith, size)

  low : All (λ (m : Noted Event). event_number m < length past) calls
  low = All-weaker (λ (m : Noted Event). event_number m ≤ event_number ending) (λ (m : Noted Event). event_number m < length past) (λ m is. let size = size_past in omega (arith, is, size)) calls end.all

  told_past : Told empty_book past
  told_past = told_before empty_book past rest (subst (Told empty_book) parts replays.replies)

  -- no lease is out when the runners have ended
  not_out : (number lease : ℕ) → AllHave (IsNotOutFor number lease) (book_after past).jobs
  not_out number lease = elim (find_lent number lease past) [
    | inl none ↦ stays_not_out number lease empty_book past told_past none (λ index job at. absurd (none-some job at))
    | inr lent ↦
        let one = someone lent.before (lent.later ++ rest) lent.made (parts ∙ (ap (λ (l : List Event). l ++ rest) lent.events_are ∙ append_assoc lent.before (lent.made ∷ lent.later) rest)) in
        let is = lends_true number lease lent.made.call lent.made.reply lent.is in
        let is_call : one.0.event.call ≡ call.Lease = ap (λ (e : Event). e.call) one.2 ∙ is.2 in
        elim one.1 [
          | inl among ↦
              let P : Noted Event → Type 0 = λ (m : Noted Event). IsInList history m × (event_number m < length past) in
              let own = log_of P runners calls one.0 logs (all_both (IsInList history) (λ (m : Noted Event). event_number m < length past) calls of_calls low) among in
              not_out_at_end history book replays number lease is.0 is.1 own.log own.among.before own.among.later one.0 own.is own.runs own.among.all_is is_call
              (ap (λ (e : Event). e.reply) one.2 ∙ is.3) (All-weaker P (IsInList history) (λ m both. both.0) own.log own.all) past rest parts
              (All-weaker P (λ (m : Noted Event). event_number m < length past) (λ m both. both.1) own.log own.all)
          | inr other ↦ absurd (true≢false (sym (ap is_lease is_call) ∙ other.0))
        ]
  ]

  none_out : (number : ℕ) (job : JobState) → slice_get (book_after past).jobs number ≡ Some job → job.out ≡ None
  none_out number job at = by job.out refl
    where
      by : (out : Option ℕ) → job.out ≡ out → job.out ≡ None
      by None is = is
      by (Some lease) is = absurd (true≢false (sym (ap (is_out lease) is ∙ same_number lease) ∙ not_out number lease number job at refl))

  -- the last call of the runners found no free job
  abbrev there : BookState
  there = book_after ending.before

  told_ending : ending.event.reply ≡ reply_of there ending.event.call
  told_ending = first_told there ending.event ending_in.0 (told_from history book replays ending ending_in.0 ending_in.1)

  same_jobs : (book_after past).jobs ≡ there.jobs
  same_jobs =
      let is_call : ending.event.call ≡ call.Lease = ap (λ (e : Event). e.call) end.none in
      let is_reply : ending.event.reply ≡ reply.NoLease = ap (λ (e : Event). e.reply) end.none in
      ap (λ (b : BookState). b.jobs) (state_append empty_book ending.before (ending.event ∷ []))
      ∙ (ap (λ (c : Call). (after there c).jobs) is_call ∙ no_lease_changes there (sym (ap (reply_of there) is_call) ∙ (sym told_ending ∙ is_reply)))

  not_free : (number : ℕ) (job : JobState) → slice_get (book_after past).jobs number ≡ Some job → is_free job ≡ false
  not_free number job at =
      let all = no_job_is_free history ending.before rest book replays (ending_in.1 ∙ ap (λ (e : Event). ending.before ++ e ∷ rest) end.none) in
      let here : slice_get there.jobs number ≡ Some job = ap (λ (l : List JobState). slice_get l number) (sym same_jobs) ∙ at in
      subst (λ (k : JobState). is_free k ≡ false) (get_or_from_slice_get there.jobs number job job here)
      (All-get_or (λ (k : JobState). is_free k ≡ false) there.jobs number job (slice_get_within there.jobs number job here) all)

  over_past : (number : ℕ) (job : JobState) → slice_get (book_after past).jobs number ≡ Some job → IsOver job
  over_past number job at =
      let ordered = ordered_after empty_book (map call_of past) none_at_first number job at in
      let within = within_after past told_past number job at in
      over_if job (not_free number job at) (none_out number job at) (omega (arith, ordered, within))

  -- no later call leases or submits
  rest_calls : (p q : List Event) → history ≡ p ++ q → length past ≤ length p → All (λ (e : Event). (is_lease e.call ≡ false) × (is_submit e.call ≡ false)) q
  rest_calls p [] split far = All-nil _
  rest_calls p (made ∷ q) split far =
      let one = someone p q made split in
      let size = length-append p (made ∷ []) in
      let more = rest_calls (p ++ made ∷ []) q (split ∙ sym (append_assoc p (made ∷ []) q)) (omega (arith, far, size)) in
      All-cons (λ (e : Event). (is_lease e.call ≡ false) × (is_submit e.call ≡ false)) made q (subst (λ (e : Event). (is_lease e.call ≡ false) × (is_submit e.call ≡ false)) one.2 (by one.0 one.1 (omega (arith, far, one.3)))) more
    where
      submits : (m : Noted Event) → Other m → length past ≤ event_number m → (b : Bool) → is_submit m.event.call ≡ b → is_submit m.event.call ≡ false
      submits m other high false is = is
      submits m other high true is =
          let early = other.1 is in
          let least = all_among (λ (n : Noted Event). count ≤ event_number n) calls ending end.among late in
          let size = size_past in
          absurd (omega (arith, high, early, least, size))

      by : (m : Noted Event) → IsAmong calls m ⊎ Other m → length past ≤ event_number m → (is_lease m.event.call ≡ false) × (is_submit m.event.call ≡ false)
      by m (inl among) high =
          let most = all_among (λ (n : Noted Event). event_number n < length past) calls m among low in
          absurd (omega (arith, high, most))
      by m (inr other) high = (other.0, submits m other high (is_submit m.event.call) refl)

  over_at : (number : ℕ) (job : JobState) → slice_get book.jobs number ≡ Some job → IsOver job
  over_at number job at =
      let now : book ≡ state_from (book_after past) (map call_of rest) = replays.state_is ∙ (ap book_after parts ∙ state_append empty_book past rest) in
      over_from (book_after past) rest (told_after empty_book past rest (subst (Told empty_book) parts replays.replies)) (rest_calls past rest parts (omega arith)) over_past number job
      (ap (λ (b : BookState). slice_get b.jobs number) (sym now) ∙ at)

pub jobs_are_over : JobsAreOver
jobs_are_over history book runners count before calls later number job replays ended at =
    over_at history book replays before calls later runners count ended.whole ended.some ended.logs ended.first ended.others_before ended.others_later number job at

pub all_steps_are_done : AllStepsAreDone
all_steps_are_done history book runners count before calls later number job replays ended none at =
    let going = never_cancelled history replays.replies none number job (ap (λ (b : BookState). slice_get b.jobs number) (sym replays.state_is) ∙ at) in
    elim (jobs_are_over history book runners count before calls later number job replays ended at).over [
      | inl cancelled ↦ absurd (true≢false (sym cancelled ∙ going))
      | inr done ↦ done
    ]

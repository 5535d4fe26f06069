-- Each job of a book was submitted by one event of its history.
use Rattle.std.proofs.Common.{◌≡◌, ℕ, zero, suc, ◌+◌, ◌≤◌, ◌==◌, ◌||◌, not, ltb, Bool, true, false, List, []}
use Rattle.std.proofs.Common.{◌∷◌, ◌++◌, Option, Some, None, length, map, refl, sym, ◌∙◌, ap, subst, inl, inr}
use Rattle.std.proofs.Common.{◌⊎◌, arith, length-append, slice_get, slice_set, get_or-set_other}
use Rattle.std.proofs.Common.{get_or-set_same, length-set, MatchOption, is_some, if◌then◌else◌, position}
use Rattle.std.proofs.lemmas.{Bool.cases_eq, Option.{get_or_from_slice_get, none-some, same_Some}}
use Rattle.std.proofs.lemmas.Option.{slice_get-get_or, slice_get_within}
use Rattle.trlab_rules.specs.Rules.{Programs}
use Rattle.trlab_step.specs.Run.{Progress, suits}
use Rattle.trlab_sequential_book.specs.declared.{book.TheConstants.MAX_JOBS, sheet.TheConstants.MAX_ENTRIES}
use Rattle.trlab_sequential_book.specs.declared.{seed.Seed.Seed, event.{Offered.Offered, Event.Event}}
use Rattle.trlab_sequential_book.specs.{declared.event.{Call.Call, Reply.Reply}, Comparison.IsSnapshotOf}
use Rattle.trlab_sequential_book.specs.Machine.{JobState, JobOutcome, JobsOutcome, BookState, after}
use Rattle.trlab_sequential_book.specs.Machine.{cancel_outcome, give_back_outcome, is_free, has_full_history}
use Rattle.trlab_sequential_book.specs.Machine.{accepts_lease, lease_outcome, new_job, next_after, on_free}
use Rattle.trlab_sequential_book.specs.Machine.{on_job, order_outcome, read_outcome, replace_outcome}
use Rattle.trlab_sequential_book.specs.Machine.{reply_of, revoke_outcome, outcome_of_call, empty_book}
use Rattle.trlab_sequential_book.specs.Histories.{Replays, call_of, event, replies_from, state_from}
use Rattle.trlab_sequential_book.specs.Histories.{reply_of_event, IsSubmitted, JobsAreSubmitted}
use Rattle.trlab_sequential_book.specs.Histories.{SnapshotsShowSubmittedJobs, SubmitNumbersAreUnique}
use Rattle.trlab_sequential_book.{specs.Sheets.with_rule_from, proofs.Booking.on_found}
use Rattle.trlab_sequential_book.specs.declared.event.Call.TheVariants as call
use Rattle.trlab_sequential_book.specs.declared.event.Reply.TheVariants as reply
use Rattle.trlab_sequential_book.specs.declared.fault.BookFault.TheVariants as fault

-- a job keeps its seed and its number of steps
record Keeps (old new : JobState) : Type 0 where
  seed : new.seed ≡ old.seed
  steps : new.steps ≡ old.steps

same_job : (job : JobState) → Keeps job job
same_job job = record { seed = refl; steps = refl }

keeps_on : (a b c : JobState) → Keeps a b → Keeps b c → Keeps a c
keeps_on a b c first second = record { seed = second.seed ∙ first.seed; steps = second.steps ∙ first.steps }

by_if : (P : JobOutcome → Type 0) (b : Bool) (x y : JobOutcome) → P x → P y → P (if b then x else y)
by_if P true x y h k = h
by_if P false x y h k = k

-- a call on a job keeps them
abbrev Leaves : (JobState → JobOutcome) → Type 0
Leaves outcome = (job : JobState) → Keeps job (outcome job).job

replacing_keeps : (rule : Programs) → Leaves (replace_outcome rule)
replacing_keeps rule job =
    let P : JobOutcome → Type 0 = λ (o : JobOutcome). Keeps job o.job in
    let same = same_job job in
    by_if P (job.cancelled || (job.high == job.steps)) _ _ same (by_if P (not (suits rule job.seed.road)) _ _ same (by_if P (ltb MAX_ENTRIES (length (with_rule_from job.sheet job.high rule))) _ _ same (record { seed = refl; steps = refl })))

ordering_keeps : (lease : Offered) → Leaves (order_outcome lease)
ordering_keeps lease job =
    let P : JobOutcome → Type 0 = λ (o : JobOutcome). Keeps job o.job in
    by_if P (job.cancelled || (lease.step == job.steps)) _ _ (same_job job) (by_if P (accepts_lease lease job) _ _ (record { seed = refl; steps = refl }) (same_job job))

giving_back_keeps : (lease : Offered) → Leaves (give_back_outcome lease)
giving_back_keeps lease job = by_if (λ (o : JobOutcome). Keeps job o.job) (accepts_lease lease job) _ _ (record { seed = refl; steps = refl }) (same_job job)

revoking_keeps : Leaves revoke_outcome
revoking_keeps job = by_if (λ (o : JobOutcome). Keeps job o.job) (is_some job.out) _ _ (record { seed = refl; steps = refl }) (same_job job)

cancelling_keeps : Leaves cancel_outcome
cancelling_keeps job = by_if (λ (o : JobOutcome). Keeps job o.job) (job.cancelled || (job.done == job.steps)) _ _ (same_job job) (record { seed = refl; steps = refl })

-- a job of this number was there before
record Was (jobs : List JobState) (number : ℕ) (job : JobState) : Type 0 where
  old : JobState
  there : slice_get jobs number ≡ Some old
  keeps : Keeps old job

still : (jobs : List JobState) (number : ℕ) (job : JobState) → slice_get jobs number ≡ Some job → Was jobs number job
still jobs number job at = record { old = job; there = at; keeps = same_job job }

-- a job of a list in which another job was replaced by one with the same seed and steps
set_was : (jobs : List JobState) (index number : ℕ) (put job was : JobState) → slice_get jobs index ≡ Some was → Keeps was put → slice_get (slice_set jobs index put) number ≡ Some job → Was jobs number job
set_was jobs index number put job was here keeps at =
    let size = length-set jobs index put in
    let within = slice_get_within (slice_set jobs index put) number job at in
    let low = slice_get_within jobs index was here in
    let is = get_or_from_slice_get (slice_set jobs index put) number job job at in
    elim (cases_eq number index) [
      | inl same ↦
          let now : job ≡ put = sym (get_or_from_slice_get (slice_set jobs index put) index job job (ap (slice_get (slice_set jobs index put)) (sym same) ∙ at)) ∙ get_or-set_same jobs index put job low in
          record { old = was; there = ap (slice_get jobs) same ∙ here; keeps = subst (Keeps was) (sym now) keeps }
      | inr other ↦ still jobs number job (slice_get-get_or jobs number job (omega (arith, within, size)) ∙ ap Some (sym (get_or-set_other jobs index number put job other) ∙ is))
    ]

-- the jobs after a call on one of them
record AfterOne (jobs now : List JobState) : Type 0 where
  was : (number : ℕ) (job : JobState) → slice_get now number ≡ Some job → Was jobs number job
  size : length now ≡ length jobs

after_one : (jobs : List JobState) (index : ℕ) (outcome : JobState → JobOutcome) → Leaves outcome → (found : Option JobState) → slice_get jobs index ≡ found → AfterOne jobs (on_job jobs index outcome).jobs
after_one jobs index outcome leaves None none =
    let t : Option JobState → JobsOutcome = λ o. elim o [ None ↦ record { reply = reply.Refused fault.NoSuchJob; jobs = jobs } | Some k ↦ record { reply = (outcome k).reply; jobs = slice_set jobs index (outcome k).job } ] in
    let same : (on_job jobs index outcome).jobs ≡ jobs = ap (λ (s : JobsOutcome). s.jobs) (ap t none) in
    subst (AfterOne jobs) (sym same) (record { was = still jobs; size = refl })
after_one jobs index outcome leaves (Some job) here =
    let same : (on_job jobs index outcome).jobs ≡ slice_set jobs index (outcome job).job = ap (λ (s : JobsOutcome). s.jobs) (on_found jobs index job outcome here) in
    subst (AfterOne jobs) (sym same) (record {
      was = λ number new at. set_was jobs index number (outcome job).job new job here (leaves job) at;
      size = length-set jobs index (outcome job).job;
    })

on_one : (jobs : List JobState) (index : ℕ) (outcome : JobState → JobOutcome) → Leaves outcome → AfterOne jobs (on_job jobs index outcome).jobs
on_one jobs index outcome leaves = after_one jobs index outcome leaves (slice_get jobs index) refl

after_lease : (jobs : List JobState) (next : ℕ) (free : Option ℕ) → AfterOne jobs (on_free jobs next free).jobs
after_lease jobs next None = record { was = still jobs; size = refl }
after_lease jobs next (Some index) = on_one jobs index (lease_outcome index next) (λ job. record { seed = refl; steps = refl })

-- a job after a push was there before, or is the one that was pushed
push_was : (jobs : List JobState) (last job : JobState) (number : ℕ) → slice_get (jobs ++ last ∷ []) number ≡ Some job → (slice_get jobs number ≡ Some job) ⊎ ((number ≡ length jobs) × (job ≡ last))
push_was [] last job zero at = inr (refl, sym (same_Some last job at))
push_was [] last job (suc number) at = absurd (none-some job at)
push_was (first ∷ jobs) last job zero at = inl at
push_was (first ∷ jobs) last job (suc number) at = elim (push_was jobs last job number at) [
  | inl before ↦ inl before
  | inr new ↦ inr (ap suc new.0, new.1)
]

-- a call submitted this job, and the reply has its number
abbrev Submits : Call → Reply → ℕ → JobState → Type 0
Submits asked told number job =
    (rule : Programs) × (asked ≡ call.Submit job.seed rule job.steps) × (told ≡ reply.Number number)

-- after a call, each job was there before or is submitted by the call; no job is removed, and a submit whose
-- reply has a number has added one job at the end
record Left (jobs : List JobState) (asked : Call) (told : Reply) (now : List JobState) : Type 0 where
  from : (number : ℕ) (job : JobState) → slice_get now number ≡ Some job → Was jobs number job ⊎ Submits asked told number job
  grows : length jobs ≤ length now
  counted : (seed : Seed) (rule : Programs) (steps number : ℕ) → asked ≡ call.Submit seed rule steps → told ≡ reply.Number number
      → (number ≡ length jobs) × (length now ≡ number + 1)

nothing_done : (jobs : List JobState) (asked : Call) (told : Reply) → ((number : ℕ) → told ≡ reply.Number number → ⊥) → Left jobs asked told jobs
nothing_done jobs asked told none = record {
  from = λ number job at. inl (still jobs number job at);
  grows = omega arith;
  counted = λ seed rule steps number is said. absurd (none number said);
}

left_one : (jobs : List JobState) (asked : Call) (told : Reply) (now : List JobState) → ((seed : Seed) (rule : Programs) (steps : ℕ) → asked ≡ call.Submit seed rule steps → ⊥) → AfterOne jobs now → Left jobs asked told now
left_one jobs asked told now other one = record {
  from = λ number job at. inl (one.was number job at);
  grows = (let size = one.size in omega (arith, size));
  counted = λ seed rule steps number is said. absurd (other seed rule steps is);
}

same_number : {m n : ℕ} → reply.Number m ≡ reply.Number n → m ≡ n
same_number h = cc

pushed : (jobs : List JobState) (seed : Seed) (rule : Programs) (steps : ℕ) → Left jobs (call.Submit seed rule steps) (reply.Number (length jobs)) (jobs ++ new_job seed rule steps ∷ [])
pushed jobs seed rule steps =
    let size = length-append jobs (new_job seed rule steps ∷ []) in
    record {
      from = λ number job at. elim (push_was jobs (new_job seed rule steps) job number at) [
        | inl before ↦ inl (still jobs number job before)
        | inr new ↦ inr (
          rule,
          ap (λ (s : Seed). call.Submit s rule steps) (sym (ap (λ (j : JobState). j.seed) new.1)) ∙ ap (call.Submit job.seed rule) (sym (ap (λ (j : JobState). j.steps) new.1)),
          ap reply.Number (sym new.0),
        )
      ];
      grows = omega (arith, size);
      counted = λ other another more number is said. let same = same_number said in (sym same, omega (arith, size, same));
    }

no_number : (number : ℕ) → reply.Refused fault.LanesMismatch ≡ reply.Number number → ⊥
no_number number h = cc

not_full : (number : ℕ) → reply.Refused fault.Full ≡ reply.Number number → ⊥
not_full number h = cc

not_any : (number : ℕ) → reply.Refused fault.HistoryFull ≡ reply.Number number → ⊥
not_any number h = cc

submit_by : (b c : Bool) (jobs : List JobState) (seed : Seed) (rule : Programs) (steps : ℕ)
    → let ended : JobsOutcome = if b then record { reply = reply.Refused fault.LanesMismatch; jobs = jobs } else if c then record { reply = reply.Number (length jobs); jobs = jobs ++ new_job seed rule steps ∷ [] } else record { reply = reply.Refused fault.Full; jobs = jobs } in
    Left jobs (call.Submit seed rule steps) ended.reply ended.jobs
submit_by true c jobs seed rule steps = nothing_done jobs (call.Submit seed rule steps) (reply.Refused fault.LanesMismatch) no_number
submit_by false true jobs seed rule steps = pushed jobs seed rule steps
submit_by false false jobs seed rule steps = nothing_done jobs (call.Submit seed rule steps) (reply.Refused fault.Full) not_full

served_left : (book : BookState) (asked : Call) → Left book.jobs asked (outcome_of_call book asked).reply (outcome_of_call book asked).jobs
served_left book (call.Submit seed rule steps) = submit_by (not (suits rule seed.road)) (ltb (length book.jobs) MAX_JOBS) book.jobs seed rule steps
served_left book (call.Replace job rule) = left_one _ _ _ _ (λ s r n is. absurd cc) (on_one book.jobs job (replace_outcome rule) (replacing_keeps rule))
served_left book call.Lease = left_one _ _ _ _ (λ s r n is. absurd cc) (after_lease book.jobs book.next (position is_free book.jobs))
served_left book (call.Order lease) = left_one _ _ _ _ (λ s r n is. absurd cc) (on_one book.jobs lease.job (order_outcome lease) (ordering_keeps lease))
served_left book (call.GiveBack lease) = left_one _ _ _ _ (λ s r n is. absurd cc) (on_one book.jobs lease.job (give_back_outcome lease) (giving_back_keeps lease))
served_left book (call.Revoke job) = left_one _ _ _ _ (λ s r n is. absurd cc) (on_one book.jobs job revoke_outcome revoking_keeps)
served_left book (call.Cancel job) = left_one _ _ _ _ (λ s r n is. absurd cc) (on_one book.jobs job cancel_outcome cancelling_keeps)
served_left book (call.Read job) = left_one _ _ _ _ (λ s r n is. absurd cc) (on_one book.jobs job read_outcome same_job)

full_by : (b : Bool) (book next : BookState) (asked : Call) (told : Reply) → Left book.jobs asked told next.jobs → Left book.jobs asked (if b then reply.Refused fault.HistoryFull else told) (if b then book else next).jobs
full_by true book next asked told left = nothing_done book.jobs asked (reply.Refused fault.HistoryFull) not_any
full_by false book next asked told left = left

call_left : (book : BookState) (asked : Call) → Left book.jobs asked (reply_of book asked) (after book asked).jobs
call_left book asked =
    let later : BookState = record { count = book.count + 1; next = next_after book.next (outcome_of_call book asked).reply; jobs = (outcome_of_call book asked).jobs } in
    full_by (has_full_history book) book later asked (outcome_of_call book asked).reply (served_left book asked)

-- one of the calls submitted this job, and the reply has its number
record SubmitsAmong (calls : List Call) (replies : List Reply) (number : ℕ) (job : JobState) : Type 0 where
  k : ℕ
  rule : Programs
  asked : slice_get calls k ≡ Some (call.Submit job.seed rule job.steps)
  told : slice_get replies k ≡ Some (reply.Number number)

kept_submit : (asked : Call) (told : Reply) (number : ℕ) (old job : JobState) → Keeps old job → Submits asked told number old → Submits asked told number job
kept_submit asked told number old job keeps submits = (
  submits.0,
  submits.1 ∙ ap (λ (s : Seed). call.Submit s submits.0 old.steps) (sym keeps.seed) ∙ ap (call.Submit job.seed submits.0) (sym keeps.steps),
  submits.2,
)

-- each job after some calls was there before them, or one of them submitted it
from_calls : (calls : List Call) (book : BookState) (number : ℕ) (job : JobState) → slice_get (state_from book calls).jobs number ≡ Some job
    → Was book.jobs number job ⊎ SubmitsAmong calls (replies_from book calls) number job
from_calls [] book number job at = inl (still book.jobs number job at)
from_calls (asked ∷ calls) book number job at = elim (from_calls calls (after book asked) number job at) [
  | inr later ↦ inr (record { k = suc later.k; rule = later.rule; asked = later.asked; told = later.told })
  | inl was ↦ elim ((call_left book asked).from number was.old was.there) [
    | inl before ↦ inl (record { old = before.old; there = before.there; keeps = keeps_on before.old was.old job before.keeps was.keeps })
    | inr now ↦ let mine = kept_submit asked (reply_of book asked) number was.old job was.keeps now in inr (record { k = zero; rule = mine.0; asked = ap Some mine.1; told = ap Some mine.2 })
  ]
]

-- the event of a history at an index, from its call and its reply
event_at : (history : List Event) (k : ℕ) (asked : Call) (told : Reply) → slice_get (map call_of history) k ≡ Some asked → slice_get (map reply_of_event history) k ≡ Some told → slice_get history k ≡ Some (event asked told)
event_at [] k asked told a b = absurd (none-some asked a)
event_at (first ∷ history) zero asked told a b = ap (λ (c : Call). Some (event c first.reply)) (same_Some first.call asked a) ∙ ap (λ (r : Reply). Some (event asked r)) (same_Some first.reply told b)
event_at (first ∷ history) (suc k) asked told a b = event_at history k asked told a b

pub jobs_are_submitted : JobsAreSubmitted
jobs_are_submitted history book number job replays at =
    let calls = map call_of history in
    let state : (state_from empty_book calls).jobs ≡ book.jobs = ap (λ (s : BookState). s.jobs) (sym replays.state_is) in
    elim (from_calls calls empty_book number job (ap (λ (jobs : List JobState). slice_get jobs number) state ∙ at)) [
      | inl was ↦ absurd (none-some was.old was.there)
      | inr one ↦ record { k = one.k; rule = one.rule; submit = event_at history one.k _ _ one.asked (ap (λ (replies : List Reply). slice_get replies one.k) replays.replies ∙ one.told) }
    ]

of_job : (history : List Event) (book : BookState) (number : ℕ) (seen : Progress) → Replays history book → (found : Option JobState) → slice_get book.jobs number ≡ found → MatchOption found ⊥ (λ job. IsSnapshotOf job seen)
    → (job : JobState) × IsSubmitted history number job × IsSnapshotOf job seen
of_job history book number seen replays None none is = absurd is
of_job history book number seen replays (Some job) here is = (job, jobs_are_submitted history book number job replays here, is)

pub snapshots_are_of_submits : SnapshotsShowSubmittedJobs
snapshots_are_of_submits history book number seen replays is = of_job history book number seen replays (slice_get book.jobs number) refl is

-- the reply to a submit after some calls has a number that no earlier job has
later_number : (calls : List Call) (book : BookState) (k number : ℕ) (seed : Seed) (rule : Programs) (steps : ℕ) → slice_get calls k ≡ Some (call.Submit seed rule steps) → slice_get (replies_from book calls) k ≡ Some (reply.Number number)
    → length book.jobs ≤ number
later_number [] book k number seed rule steps a b = absurd (none-some (call.Submit seed rule steps) a)
later_number (asked ∷ calls) book zero number seed rule steps a b =
    let is = ((call_left book asked).counted seed rule steps number (same_Some asked _ a) (same_Some (reply_of book asked) _ b)).0 in omega (arith, is)
later_number (asked ∷ calls) book (suc k) number seed rule steps a b =
    let rest = later_number calls (after book asked) k number seed rule steps a b in
    let grows = (call_left book asked).grows in
    omega (arith, rest, grows)

-- the first submit has put its job there, so that no later one has its number
not_later : (asked : Call) (calls : List Call) (book : BookState) (k number : ℕ) (seed other : Seed) (rule another : Programs) (steps more : ℕ) → asked ≡ call.Submit seed rule steps → reply_of book asked ≡ reply.Number number
    → slice_get calls k ≡ Some (call.Submit other another more) → slice_get (replies_from (after book asked) calls) k ≡ Some (reply.Number number) → ⊥
not_later asked calls book k number seed other rule another steps more is said a b =
    let size = ((call_left book asked).counted seed rule steps number is said).1 in
    let rest = later_number calls (after book asked) k number other another more a b in
    absurd (omega (arith, size, rest))

apart : (calls : List Call) (book : BookState) (j k number : ℕ) (seed other : Seed) (rule another : Programs) (steps more : ℕ) → slice_get calls j ≡ Some (call.Submit seed rule steps) → slice_get (replies_from book calls) j ≡ Some (reply.Number number)
    → slice_get calls k ≡ Some (call.Submit other another more) → slice_get (replies_from book calls) k ≡ Some (reply.Number number) → j ≡ k
apart [] book j k number seed other rule another steps more a b c d = absurd (none-some (call.Submit seed rule steps) a)
apart (asked ∷ calls) book zero zero number seed other rule another steps more a b c d = refl
apart (asked ∷ calls) book zero (suc k) number seed other rule another steps more a b c d =
    absurd (not_later asked calls book k number seed other rule another steps more (same_Some asked _ a) (same_Some (reply_of book asked) _ b) c d)
apart (asked ∷ calls) book (suc j) zero number seed other rule another steps more a b c d =
    absurd (not_later asked calls book j number other seed another rule more steps (same_Some asked _ c) (same_Some (reply_of book asked) _ d) a b)
apart (asked ∷ calls) book (suc j) (suc k) number seed other rule another steps more a b c d = ap suc (apart calls (after book asked) j k number seed other rule another steps more a b c d)

-- the call and the reply of an event in a history
call_at : (history : List Event) (k : ℕ) (asked : Call) (told : Reply) → slice_get history k ≡ Some (event asked told) → (slice_get (map call_of history) k ≡ Some asked) × (slice_get (map reply_of_event history) k ≡ Some told)
call_at [] k asked told at = absurd (none-some (event asked told) at)
call_at (first ∷ history) zero asked told at =
    let same = same_Some first (event asked told) at in
    (ap (λ (e : Event). Some e.call) same, ap (λ (e : Event). Some e.reply) same)
call_at (first ∷ history) (suc k) asked told at = call_at history k asked told at

pub submits_have_their_numbers : SubmitNumbersAreUnique
submits_have_their_numbers history book j k number seed other rule another steps more replays a b =
    let first = call_at history j _ _ a in
    let second = call_at history k _ _ b in
    let calls = map call_of history in
    apart calls empty_book j k number seed other rule another steps more first.0 (ap (λ (replies : List Reply). slice_get replies j) (sym replays.replies) ∙ first.1)
    second.0 (ap (λ (replies : List Reply). slice_get replies k) (sym replays.replies) ∙ second.1)

-- The turns of runners, and what the logs of these turns say of leases and of free jobs.
use Rattle.std.specs.Prelude.{◌≡◌, false, List, ◌∷◌, ◌++◌, map, All, ℕ, zero, suc, ◌+◌, ◌==◌, ◌<◌, ◌≤◌, ltb, Bool}
use Rattle.std.specs.Prelude.{◌&&◌, [], if◌then◌else◌, fold, true, Option, Some, None, MatchOption, slice_get, ◌⊎◌}
use Rattle.trlab_sequential_book.specs.declared.event.{Event.Event, Reply.{Reply, TheVariants.NoLease}}
use Rattle.trlab_sequential_book.specs.declared.event.{Call.Call, Offered.Offered}
use Rattle.trlab_sequential_book.specs.declared.fault.BookFault.{BookFault}
use Rattle.trlab_sequential_book.specs.Machine.{BookState, JobState, empty_book, is_free, is_out}
use Rattle.trlab_sequential_book.specs.Histories.{Replays, book_after, call_of, event, state_from}
use Rattle.trlab_sequential_book.specs.Leases.{LeaseState}
use Rattle.trlab_sequential_book.specs.declared.event.Call.TheVariants as call
use Rattle.trlab_sequential_book.specs.declared.event.Reply.TheVariants as reply
use Rattle.trlab_strands.specs.{declared.knowledge.Noted.Noted, Knowledge.{AreInList, IsLinearization, event_number}}
use Rattle.trlab_book.specs.HeldLeases.{RunnerState, Idle, Running, Over, RunsLeases}

-- What a call of `lease` that finds no free job says of the book.

-- in a history that replays, no job was free when a call of `lease` found none: each job of the book was out,
-- cancelled, or had no step left to do
abbrev pub NoJobIsFree : Type 0
NoJobIsFree =
    (history before later : List Event) (book : BookState) → Replays history book
    → history ≡ before ++ event call.Lease NoLease ∷ later
    → All (λ (job : JobState). is_free job ≡ false) (state_from empty_book (map call_of before)).jobs

-- The logs of runners. A runner runs jobs in turns: it takes a lease, orders the lease's steps one after
-- another, and ends the lease, before it takes another one. Its last call finds no free job.

-- a turn with one lease: the number of its job, its own number, the step at which it went out, its next step,
-- and the number of steps of the job
pub record Turn : Type 0 where
  pub job : ℕ
  pub number : ℕ
  pub base : ℕ
  pub step : ℕ
  pub steps : ℕ

-- the turn with this lease, as it now is
abbrev pub turn_of : LeaseState → Turn
turn_of lease = record {
  job = lease.job;
  number = lease.number;
  base = lease.base.step;
  step = lease.step;
  steps = lease.steps;
}

-- what a runner has after its calls so far: no lease, but it goes on (`Free`); the lease of this turn
-- (`InTurn`); no lease, and it has ended (`Finished`); or its calls were not those of a runner (`Astray`)
pub data Stage : Type 0 where
  Free : Stage
  InTurn : (turn : Turn) → Stage
  Finished : Stage
  Astray : Stage

-- does a call offer the lease of this turn, with its next step?
abbrev pub is_of_turn : Turn → Offered → Bool
is_of_turn turn lease =
    (turn.job == lease.job) && ((turn.number == lease.number) && ((turn.base == lease.base) && (turn.step == lease.step)))

-- the stage of a runner that has a lease, or has none
abbrev pub stage_of : RunnerState → Stage
stage_of Idle = Free
stage_of (Running lease) = InTurn (turn_of lease)
stage_of Over = Finished

-- the stage after a call of `lease`: a turn begins with the lease that went out; if no job is free, the
-- runner has ended
abbrev pub after_leasing : Reply → Stage
after_leasing (reply.Leased job number step steps) =
    InTurn (record { job = job; number = number; base = step; step = step; steps = steps })
after_leasing reply.NoLease = Finished
after_leasing _ = Astray

-- the stage after a call of a runner that has no lease, which can only be `lease`
abbrev pub without_lease : Call → Reply → Stage
without_lease call.Lease told = after_leasing told
without_lease _ told = Astray

-- the stage after the next step of the lease was ordered: if the book refuses it, the runner drops the lease
abbrev pub after_ordering : Turn → Reply → Stage
after_ordering turn (reply.Ordered job number step from) = InTurn (record turn { step = turn.step + 1 })
after_ordering turn (reply.Refused fault) = Free
after_ordering turn _ = Astray

-- the stage after the lease was given back: the runner no longer has it, also if the book refuses it
abbrev pub after_giving_back : Reply → Stage
after_giving_back reply.Done = Free
after_giving_back (reply.Refused fault) = Free
after_giving_back _ = Astray

-- the stage after a call of a runner that has the lease of this turn: it orders the next step, if there is
-- one, or gives the lease back
abbrev pub with_lease : Turn → Call → Reply → Stage
with_lease turn (call.Order lease) told =
    if is_of_turn turn lease && ltb turn.step turn.steps then after_ordering turn told else Astray
with_lease turn (call.GiveBack lease) told = if is_of_turn turn lease then after_giving_back told else Astray
with_lease turn _ told = Astray

-- the stage after one more event; a runner that has ended makes no more calls
abbrev pub stage_after : Stage → Event → Stage
stage_after Free made = without_lease made.call made.reply
stage_after (InTurn turn) made = with_lease turn made.call made.reply
stage_after _ made = Astray

-- the stage after these events
abbrev pub last_stage : Stage → List (Noted Event) → Stage
last_stage from events = fold (λ stage made. stage_after stage made.event) from events

-- these events come in the history in the order of this list, the first of them after `from` events or more
abbrev pub AreInOrderFrom : ℕ → List (Noted Event) → Type 0
AreInOrderFrom from [] = Unit {0}
AreInOrderFrom from (made ∷ more) = (from ≤ event_number made) × AreInOrderFrom (event_number made + 1) more

-- these events are a runner's next calls, in their order, and lead it from one stage to another
pub record AreNextCalls (clock : ℕ) (from to : Stage) (events : List (Noted Event)) : Type 0 where
  pub rise : AreInOrderFrom clock events
  pub stage : last_stage from events ≡ to

-- these events are the log of one runner, from its first call to its last: each lease that went out ends
-- before the next call of `lease`, and the last call found no free job. For example, `lease`, `order`,
-- `order`, `give_back` and a `lease` that finds no free job are a log; without the `give_back` they are
-- none
abbrev pub IsLog : List (Noted Event) → Type 0
IsLog events = AreNextCalls 0 Free Finished events

-- these events are the logs of this number of runners, one log after the other; and in each log the leases
-- themselves ran only steps that the book ordered
abbrev pub AreLogs : ℕ → List (Noted Event) → Type 0
AreLogs zero events = events ≡ []
AreLogs (suc runners) events =
    (log : List (Noted Event)) × (more : List (Noted Event))
    × (events ≡ log ++ more) × IsLog log × RunsLeases Idle log Over × AreLogs runners more

-- What the log of a runner says of each of its leases.

-- is it the lease of this job with this number that a call offers?
abbrev pub is_lease_of : ℕ → ℕ → Offered → Bool
is_lease_of job number lease = (job == lease.job) && (number == lease.number)

-- is this an order of this lease that the book accepted?
abbrev pub is_order_of : ℕ → ℕ → Call → Reply → Bool
is_order_of job number (call.Order lease) (reply.Ordered of_job of_lease step from) = is_lease_of job number lease
is_order_of job number _ _ = false

-- does this event end this lease? It does if the lease is given back, or if the book refuses it, in an
-- order or when it is given back
abbrev pub ends_lease : ℕ → ℕ → Call → Reply → Bool
ends_lease job number (call.GiveBack lease) reply.Done = is_lease_of job number lease
ends_lease job number (call.GiveBack lease) (reply.Refused fault) = is_lease_of job number lease
ends_lease job number (call.Order lease) (reply.Refused fault) = is_lease_of job number lease
ends_lease job number _ _ = false

-- one of these events ends the lease, and the ones before it are accepted orders of this lease
pub record IsEndedIn (job number : ℕ) (events : List (Noted Event)) : Type 0 where
  pub orders : List (Noted Event)
  pub last : Noted Event
  pub later : List (Noted Event)
  pub events_are : events ≡ orders ++ last ∷ later
  pub ordered : All (λ made. is_order_of job number made.event.call made.event.reply ≡ true) orders
  pub ends : ends_lease job number last.event.call last.event.reply ≡ true

-- in the log of a runner, after each lease that went out come accepted orders of this lease, and then an
-- event that ends it
abbrev pub LeasesEnd : Type 0
LeasesEnd =
    (log before after : List (Noted Event)) (made : Noted Event) (job number step steps : ℕ) → IsLog log
    → log ≡ before ++ made ∷ after → made.event.reply ≡ reply.Leased job number step steps
    → IsEndedIn job number after

-- Leases that the book refuses to a runner.

-- the lease that a call offers to the book; `None` if it offers none
abbrev pub lease_offered_by : Call → Option Offered
lease_offered_by (call.Order lease) = Some lease
lease_offered_by (call.GiveBack lease) = Some lease
lease_offered_by _ = None

-- the book has a job with this number, for which the lease with the number `lease` is not out
abbrev pub LeaseIsNotOut : BookState → ℕ → ℕ → Type 0
LeaseIsNotOut book number lease =
    MatchOption (slice_get book.jobs number) ⊥ (λ job. is_out lease job.out ≡ false)

-- a history that replays has the events of a runner's log. If the book refuses a lease to this runner, then
-- the lease is not out: another call has ended it before
abbrev pub LeasesRefusedToRunnersAreNotOut : Type 0
LeasesRefusedToRunnersAreNotOut =
    (history : List Event) (book : BookState) (log before later : List (Noted Event)) (made : Noted Event)
    (lease : Offered) (fault : BookFault) → Replays history book → AreInList history log
    → IsLog log → RunsLeases Idle log Over → log ≡ before ++ made ∷ later
    → lease_offered_by made.event.call ≡ Some lease → made.event.reply ≡ reply.Refused fault
    → LeaseIsNotOut (book_after made.before) lease.job lease.number

-- The jobs of a book after its runners have ended.

-- is this the call `lease`?
abbrev pub is_lease : Call → Bool
is_lease call.Lease = true
is_lease _ = false

-- is this a call of `submit`?
abbrev pub is_submit : Call → Bool
is_submit (call.Submit seed rule steps) = true
is_submit _ = false

-- the job is over: no lease is out for it, and it was cancelled or all its steps are done
pub record IsOver (job : JobState) : Type 0 where
  pub out : job.out ≡ None
  pub over : (job.cancelled ≡ true) ⊎ (job.done ≡ job.steps)

-- none of these events is a call of `lease`, and each call of `submit` among them is one of the first `count`
-- events of the history
abbrev pub AreOtherCalls : ℕ → List (Noted Event) → Type 0
AreOtherCalls count events =
    All (λ made. (is_lease made.event.call ≡ false)
    × (is_submit made.event.call ≡ true → event_number made < count)) events

-- the history consists of the calls of one or more runners, which have all ended, and of other calls: none of
-- these is `lease`, and each `submit` is one of the first `count` events. No runner called before
pub record HaveEnded (history : List Event) (runners count : ℕ) (before calls later : List (Noted Event))
    : Type 0 where
  pub whole : IsLinearization history (before ++ (calls ++ later))
  pub some : 0 < runners
  pub logs : AreLogs runners calls
  pub first : All (λ made. count ≤ event_number made) calls
  pub others_before : AreOtherCalls count before
  pub others_later : AreOtherCalls count later

-- if a history replays to a book and its runners have ended, all jobs of the book are over
abbrev pub JobsAreOver : Type 0
JobsAreOver =
    (history : List Event) (book : BookState) (runners count : ℕ) (before calls later : List (Noted Event))
    (number : ℕ) (job : JobState) → Replays history book
    → HaveEnded history runners count before calls later
    → slice_get book.jobs number ≡ Some job → IsOver job

-- is this a call of `cancel`?
abbrev pub is_cancel : Call → Bool
is_cancel (call.Cancel job) = true
is_cancel _ = false

-- if nobody has called `cancel` either, all steps of each job are done
abbrev pub AllStepsAreDone : Type 0
AllStepsAreDone =
    (history : List Event) (book : BookState) (runners count : ℕ) (before calls later : List (Noted Event))
    (number : ℕ) (job : JobState) → Replays history book
    → HaveEnded history runners count before calls later
    → All (λ made. is_cancel made.call ≡ false) history
    → slice_get book.jobs number ≡ Some job → job.done ≡ job.steps

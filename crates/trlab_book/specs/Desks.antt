-- Desks as callers see them: the calls made through a desk, each with its predecessors in the history.
use Rattle.std.specs.Prelude.{◌≡◌, ◌↔◌, ℕ, ◌+◌, ◌<◌, ◌≤◌, Bool, true, false, ◌&&◌, IsTrue, Result, Ok, Err}
use Rattle.std.specs.Prelude.{Option, IfOk, OnOk, count_by, List, length, ◌++◌, All, MatchBool}
use Rattle.trlab_step.specs.Run.{Progress}
use Rattle.trlab_sequential_book.specs.declared.{fault.BookFault.BookFault, book.TheConstants.MAX_EVENTS}
use Rattle.trlab_sequential_book.specs.declared.{order.Order.Order, event.{Call.Call, Event.Event}}
use Rattle.trlab_sequential_book.specs.declared.event.Reply.{Reply, TheVariants.{NoLease, Refused}}
use Rattle.trlab_sequential_book.specs.{Leases.LeaseState, Comparison.{IsFreshIfLent, HasRuleInForce}}
use Rattle.trlab_sequential_book.specs.{Comparison.ShowsJob, Machine.{BookState, reply_of}}
use Rattle.trlab_sequential_book.specs.Histories.{is_event, is_history_full, Replays, event}
use Rattle.trlab_sequential_book.specs.Comparison as comparison
use Rattle.trlab_sequential_book.specs.declared.event.Call.TheVariants as call
use Rattle.trlab_strands.specs.{declared.knowledge.{Noted.Noted, Ledger.Ghosts}, Knowledge.event_number}
use Rattle.trlab_strands.specs.Tokens.{AddsEvent, CatchesUp, IsSameStrand, strand_clock, strand_events}
use Rattle.trlab_book.specs.HeldLeases.{RunnerState, Idle, Running, RunsLeases}
use Rattle.trlab_book.specs.Turns.{stage_of, is_lease, AreNextCalls, AreLogs}
use Rattle.trlab_book.specs.declared.{desk.{Desk.Desk, SharedBook.SharedBook}, running.RunFault.RunFault}
use Rattle.trlab_book.specs.declared.running.RunFault.TheVariants as run

-- both are the same shared book: their events are in one list, which no other book has
abbrev pub IsSameBook : {L : Type 0} {ledger : Ghosts L} → SharedBook L ledger → SharedBook L ledger → Type 0
IsSameBook old new = new.strands.table.shared.table_id ≡ old.strands.table.shared.table_id

-- the number of parts of a desk (the invariant of `Desk` keeps it from 1 to ALL_PARTS)
abbrev pub part_count : {L : Type 0} {ledger : Ghosts L} → Desk L ledger → ℕ
part_count desk = desk.parts

-- the subhistory of a desk: the events made through it, each with all earlier events of the history. For
-- example, if the history is [a, b] and a was made through another desk, it is only b after [a]
abbrev pub subhistory_of : {L : Type 0} {ledger : Ghosts L} → Desk L ledger → List (Noted Event)
subhistory_of desk = strand_events desk.strand

-- the clock of a desk, which is the number of events that it has seen: each event made through it from now on
-- has at least this number
abbrev pub clock_of : {L : Type 0} {ledger : Ghosts L} → Desk L ledger → ℕ
clock_of desk = strand_clock desk.strand

-- the desk has now seen at least `count` events, and no fewer than before. Its parts and its subhistory are
-- unchanged
abbrev pub HasSeen : {L : Type 0} {ledger : Ghosts L} → Desk L ledger → ℕ → Desk L ledger → Type 0
HasSeen old count new =
    (part_count new ≡ part_count old) × (subhistory_of new ≡ subhistory_of old)
    × (clock_of old ≤ clock_of new) × (count ≤ clock_of new)

-- the desk has now seen more events than are in its subhistory, so at least one was made through another
-- desk. Its parts and its subhistory are unchanged
abbrev pub LacksEvents : {L : Type 0} {ledger : Ghosts L} → Desk L ledger → Desk L ledger → Type 0
LacksEvents old new = HasSeen old (length (subhistory_of old) + 1) new

-- the effect on a desk of a call that is not an event: if the reply is that the history is full, the desk has
-- now seen a full history, that is MAX_EVENTS events; otherwise the desk is unchanged
abbrev pub MakesNoEvent : {L : Type 0} {ledger : Ghosts L} → Desk L ledger → Reply → Desk L ledger → Type 0
MakesNoEvent old reply new =
    MatchBool (is_history_full reply) (HasSeen old MAX_EVENTS new) (IsSameStrand old.strand new.strand)

-- a call with the reply `answer` is one event: the events before it replay to `book`, the answer is the reply
-- of this book, and the desk adds the event to its subhistory
pub record MakesEvent {L : Type 0} {ledger : Ghosts L} (old : Desk L ledger) (call : Call) (answer : Reply)
    (new : Desk L ledger) (book : BookState) : Type 0 where
  pub before : List Event
  pub replays : ∥ Replays before book ∥₁
  pub reply : answer ≡ reply_of book call
  pub noted : AddsEvent old.strand before (event call answer) new.strand

-- the effect of a call on its desk, which keeps its parts. If the reply makes the call an event, the desk
-- adds this event, and `Holds` is true of the book before the call; otherwise `MakesNoEvent` holds
abbrev pub MakesCallOn : {L : Type 0} {ledger : Ghosts L} → (BookState → Type 0)
    → Desk L ledger → Call → Reply → Desk L ledger → Type 0
MakesCallOn Holds old call reply new =
    (part_count new ≡ part_count old)
    × MatchBool (is_event reply)
    ((book : BookState) × MakesEvent old call reply new book × Holds book)
    (MakesNoEvent old reply new)

-- the effect of a call on its desk, with any book before the call
abbrev pub MakesCall : {L : Type 0} {ledger : Ghosts L}
    → Desk L ledger → Call → Reply → Desk L ledger → Type 0
MakesCall old call reply new = MakesCallOn (λ book. Unit {0}) old call reply new

-- a desk notes a call that was made after the events `before`. If the reply makes the call an event, the desk
-- adds it. If the reply is that the history is full, the desk has now seen all of `before`. Otherwise the
-- desk is unchanged. It always keeps its parts
abbrev pub NotesCall : {L : Type 0} {ledger : Ghosts L} → Desk L ledger → List Event → Call → Reply
    → Desk L ledger → Type 0
NotesCall old before call reply new =
    (part_count new ≡ part_count old)
    × MatchBool (is_event reply)
    (AddsEvent old.strand before (event call reply) new.strand)
    (MatchBool (is_history_full reply)
    (CatchesUp old.strand (length before) new.strand)
    (IsSameStrand old.strand new.strand))

-- the verdict `same` on a lease is correct: it is true if and only if the lease runs the road of its job in
-- the book
abbrev pub IsCorrectVerdict : LeaseState → Bool → BookState → Type 0
IsCorrectVerdict lease same book = IsTrue same ↔ comparison.RunsRoadOfItsJob book.jobs lease

-- if the call `lease` succeeded and a lease went out, it is a fresh lease of a job of the book, with the
-- book's next number
abbrev pub LeaseIsFresh : Result (Option LeaseState) BookFault → BookState → Type 0
LeaseIsFresh answer book = IfOk answer (λ lent. IsFreshIfLent book.jobs book.next lent)

-- if the call `order` succeeded, the order's rule is in force in the job's sheet at the order's step
abbrev pub OrderHasRuleInForce : Result Order BookFault → BookState → Type 0
OrderHasRuleInForce answer book = IfOk answer (λ order. HasRuleInForce book.jobs order)

-- if the call `read` succeeded, the snapshot is one of the book's job with this number
abbrev pub ReadShowsJob : ℕ → Result Progress BookFault → BookState → Type 0
ReadShowsJob number answer book = IfOk answer (λ snapshot. ShowsJob book.jobs number snapshot)

-- is this one of the calls that runners make: `lease`, `order`, `give_back` or `revoke`?
abbrev pub is_runner_call : Call → Bool
is_runner_call call.Lease = true
is_runner_call (call.Order lease) = true
is_runner_call (call.GiveBack lease) = true
is_runner_call (call.Revoke job) = true
is_runner_call _ = false

-- all these events are calls that runners make, with numbers from `from` up to, but not including, `to`
abbrev pub AreRunnerCalls : ℕ → ℕ → List (Noted Event) → Type 0
AreRunnerCalls from to events =
    All (λ made. (from ≤ event_number made) × (event_number made < to)
    × (is_runner_call made.event.call ≡ true)) events

-- the desk `old` is `new` after runners have called through it: it keeps its parts, and its subhistory is the
-- old one, followed by the calls of the runners (`more`). In the history these come after all events that the
-- desk had seen, and before all that are made through it from now on
pub record AddsRunnerCalls {L : Type 0} {ledger : Ghosts L} (old new : Desk L ledger) : Type 0 where
  pub parts : part_count new ≡ part_count old
  pub least : clock_of old ≤ clock_of new
  pub more : List (Noted Event)
  pub subhistory : subhistory_of new ≡ subhistory_of old ++ more
  pub runners : AreRunnerCalls (clock_of old) (clock_of new) more

-- is this the reply that no job is free?
abbrev pub is_no_lease : Reply → Bool
is_no_lease NoLease = true
is_no_lease _ = false

-- is this event a call of `lease` that found no free job?
abbrev pub finds_no_job : Event → Bool
finds_no_job made = is_lease made.call && is_no_lease made.reply

-- how many of these events are calls of `lease` that found no free job
abbrev pub no_job_count : List (Noted Event) → ℕ
no_job_count events = count_by (λ made. finds_no_job made.event) events

-- the desk `old` is `new` after `runners` runners have called through it and have ended. If all succeeded,
-- their calls are `runners` logs, so that none of them kept a lease; and at least one call of `lease` per
-- runner found no free job. If one ended because the history was full, the desk has seen all of it; if an
-- allocation failed, nothing more is known
pub record HasEnded {L : Type 0} {ledger : Ghosts L} (runners : ℕ) (ended : Result (Unit {0}) RunFault)
    (old new : Desk L ledger) : Type 0 where
  pub on : AddsRunnerCalls old new
  pub logs : OnOk ended (AreLogs runners on.more)
  pub no_job : OnOk ended (no_job_count (subhistory_of old) + runners ≤ no_job_count (subhistory_of new))
  pub full : ended ≡ Err run.HistoryFull → MAX_EVENTS ≤ clock_of new

-- the desk `old` is `new` after calls of a runner, which was `from` and is `to`
pub record Goes {L : Type 0} {ledger : Ghosts L} (from to : RunnerState) (old new : Desk L ledger)
    : Type 0 where
  pub on : AddsRunnerCalls old new
  pub stage : AreNextCalls (clock_of old) (stage_of from) (stage_of to) on.more
  pub leases : RunsLeases from on.more to

-- the desk `old` is `new` after calls of a runner, with this result. If it succeeded, the runner was `from`
-- and is `to`, and `count` of the calls or more found no free job; if it ended because the history was full,
-- the desk has seen all of it
pub record EndsAt {L : Type 0} {ledger : Ghosts L} (from to : RunnerState) (count : ℕ)
    (ended : Result (Unit {0}) RunFault) (old new : Desk L ledger) : Type 0 where
  pub on : AddsRunnerCalls old new
  pub stage : OnOk ended (AreNextCalls (clock_of old) (stage_of from) (stage_of to) on.more)
  pub leases : OnOk ended (RunsLeases from on.more to)
  pub no_job : OnOk ended (no_job_count (subhistory_of old) + count ≤ no_job_count (subhistory_of new))
  pub full : ended ≡ Err run.HistoryFull → MAX_EVENTS ≤ clock_of new

-- the desk `old` is `new` after a runner's turn with one lease. If it succeeded, the lease has ended
abbrev pub EndsTurn : {L : Type 0} {ledger : Ghosts L}
    → LeaseState → Result (Unit {0}) RunFault → Desk L ledger → Desk L ledger → Type 0
EndsTurn lease result old new = EndsAt (Running lease) Idle 0 result old new

-- the desk `old` is `new` after a runner has ordered and run steps of a lease, which was `before` and is
-- `after`. If the book refused an order, the lease has ended; if an allocation failed or the history was
-- full, only the kinds of the calls are known
abbrev pub RunsSteps : {L : Type 0} {ledger : Ghosts L}
    → LeaseState → LeaseState → Result (Unit {0}) BookFault → Desk L ledger → Desk L ledger → Type 0
RunsSteps before after (Ok done) old new = Goes (Running before) (Running after) old new
RunsSteps before after (Err fault) old new =
    MatchBool (is_event (Refused fault))
    (Goes (Running before) Idle old new) (AddsRunnerCalls old new)

-- Histories: their replies, how they are replayed, which event submitted a job, and refused leases.
use Rattle.std.specs.Prelude.{◌≡◌, ℕ, Bool, true, false, Result, Ok, Err, length, Option, Some, None}
use Rattle.std.specs.Prelude.{MatchBool, List, [], ◌∷◌, map, slice_get, ◌⊎◌, ◌↔◌, ◌<◌, IsTrue, ◌++◌}
use Rattle.std.specs.Prelude.{MatchOption}
use Rattle.trlab_step.specs.{Run.{Progress, IsReachedByRun}, Laws.IsDriven}
use Rattle.trlab_sequential_book.specs.declared.fault.BookFault.{BookFault, TheVariants.{Memory, HistoryFull}}
use Rattle.trlab_sequential_book.specs.declared.{event.Call.Call, seed.Seed.Seed}
use Rattle.trlab_sequential_book.specs.declared.event.Reply.{Reply, TheVariants.{Leased, NoLease}}
use Rattle.trlab_sequential_book.specs.declared.event.Reply.TheVariants.{Refused, Number, Done, Ordered, Seen}
use Rattle.trlab_sequential_book.specs.{declared.event.Event.Event, Comparison.{RunsRoadOfItsJob, offered}}
use Rattle.trlab_sequential_book.specs.{declared.order.Order.Order, Leases.{LeaseState, HasRun, IsLease}}
use Rattle.trlab_sequential_book.specs.Machine.{BookState, reply_of, after, empty_book, JobState, is_out}
use Rattle.trlab_sequential_book.specs.Comparison.{ShowsJob, IsSnapshotOf, HasRuleInForce, IsFreshIfLent}
use Rattle.trlab_sequential_book.specs.declared.event.Call.TheVariants as call
use Rattle.trlab_sequential_book.specs.declared.event.Reply.TheVariants as reply
use Rattle.trlab_road.specs.Cells.{Cells}
use Rattle.trlab_rules.specs.Rules.{Programs}

-- The replies of the history, computed from the results of calls. The replies have numbers where the results
-- have leases, orders and snapshots.

-- is the result of a call the fault `Memory`, because an allocation failed?
abbrev pub is_memory : {A : Type 0} → Result A BookFault → Bool
is_memory (Err Memory) = true
is_memory _ = false

-- the reply for a result of `submit` or `replace`: a number, or the fault
abbrev pub number_reply : Result ℕ BookFault → Reply
number_reply (Ok number) = Number number
number_reply (Err fault) = Refused fault

-- the reply for a result of `revoke` or `cancel`: `Done`, or the fault
abbrev pub done_reply : Result (Unit {0}) BookFault → Reply
done_reply (Ok done) = Done
done_reply (Err fault) = Refused fault

-- the reply for a result of `order`: the job, the lease, the step and the step from which its rule is in
-- force; or the fault
abbrev pub order_reply : Result Order BookFault → Reply
order_reply (Ok order) = Ordered order.job order.lease order.step order.from
order_reply (Err fault) = Refused fault

-- the reply for a result of `give_back`: `Done`, or the fault, which the result has together with the lease
abbrev pub give_back_reply : Result (Unit {0}) (LeaseState × BookFault) → Reply
give_back_reply (Ok done) = Done
give_back_reply (Err lease_and_fault) = Refused lease_and_fault.1

-- the reply for a result of `read`: the steps done and the number of entries of the sheet, or the fault
abbrev pub read_reply : Result Progress BookFault → Reply
read_reply (Ok snapshot) = Seen snapshot.step (length snapshot.sheet)
read_reply (Err fault) = Refused fault

-- the reply for a result of `lease`: `NoLease` if no job is free; otherwise the job, the number of the lease,
-- its next step and the steps of the job; or the fault
abbrev pub lease_reply : Result (Option LeaseState) BookFault → Reply
lease_reply (Ok None) = NoLease
lease_reply (Ok (Some lease)) = Leased lease.job lease.number lease.step lease.steps
lease_reply (Err fault) = Refused fault

-- is a call with this reply an event of the history? Each is, even if it was refused, except one refused as
-- `Memory` or `HistoryFull`
abbrev pub is_event : Reply → Bool
is_event (Refused Memory) = false
is_event (Refused HistoryFull) = false
is_event _ = true

-- does a reply say that the history is full?
abbrev pub is_history_full : Reply → Bool
is_history_full (Refused HistoryFull) = true
is_history_full _ = false

-- the reply is the machine's reply to the call on this book. If an allocation failed (`out_of_memory`), it
-- may be any reply
abbrev pub RepliesAs : Bool → Reply → BookState → Call → Type 0
RepliesAs out_of_memory reply book call = MatchBool out_of_memory (Unit {0}) (reply ≡ reply_of book call)

-- the book `new` is the machine's after the call on the book `old`. If an allocation failed
-- (`out_of_memory`), it is `old`
abbrev pub LeadsAs : Bool → BookState → Call → BookState → Type 0
LeadsAs out_of_memory old call new = MatchBool out_of_memory (new ≡ old) (new ≡ after old call)

-- Histories, and replaying them: the calls of a history, made again on an empty book.

-- the replies of a book to calls that are made one after another, in their order
abbrev pub replies_from : BookState → List Call → List Reply
replies_from book [] = []
replies_from book (call ∷ calls) = reply_of book call ∷ replies_from (after book call) calls

-- the book after calls that are made one after another
abbrev pub state_from : BookState → List Call → BookState
state_from book [] = book
state_from book (call ∷ calls) = state_from (after book call) calls

-- the call of an event
abbrev pub call_of : Event → Call
call_of event = event.call

-- the reply of an event
abbrev pub reply_of_event : Event → Reply
reply_of_event event = event.reply

-- an event with this call and this reply
abbrev pub event : Call → Reply → Event
event call reply = record { call = call; reply = reply }

-- replaying the history gives this book: its calls, made one after another on an empty book, get the replies
-- of the history and lead to the book, which has counted as many events as the history has
pub record Replays (history : List Event) (book : BookState) : Type 0 where
  pub replies : map reply_of_event history ≡ replies_from empty_book (map call_of history)
  pub state_is : book ≡ state_from empty_book (map call_of history)
  pub count_is : book.count ≡ length history

-- Which event of a history submitted a job of the book, and what follows for snapshots of this job.

-- event k of a history, counted from 0, is a submit with this seed, this rule and this number of steps, and
-- its reply is the job's number `number`
abbrev pub IsSubmit : List Event → ℕ → Seed → Programs → ℕ → ℕ → Type 0
IsSubmit history k seed rule steps number =
    slice_get history k ≡ Some (event (call.Submit seed rule steps) (reply.Number number))

-- event k of the history submitted the job with this number: it is a submit with the seed and the number of
-- steps of the job, and with some rule, and its reply is this number
pub record IsSubmitted (history : List Event) (number : ℕ) (job : JobState) : Type 0 where
  pub k : ℕ
  pub rule : Programs
  pub submit : IsSubmit history k job.seed rule job.steps number

-- if a history replays to a book, each job of the book was submitted by one of its events
abbrev pub JobsAreSubmitted : Type 0
JobsAreSubmitted =
    (history : List Event) (book : BookState) (number : ℕ) (job : JobState) → Replays history book
    → slice_get book.jobs number ≡ Some job → IsSubmitted history number job

-- if a history replays to a book, no two of its submits have the same number as their reply
abbrev pub SubmitNumbersAreUnique : Type 0
SubmitNumbersAreUnique =
    (history : List Event) (book : BookState) (j k number : ℕ) (seed other_seed : Seed)
    (rule other_rule : Programs) (steps other_steps : ℕ) → Replays history book
    → IsSubmit history j seed rule steps number
    → IsSubmit history k other_seed other_rule other_steps number → j ≡ k

-- if a history replays to a book, an event of the history submitted the job of each snapshot of the book, and
-- the snapshot has the seed that was submitted
abbrev pub SnapshotsShowSubmittedJobs : Type 0
SnapshotsShowSubmittedJobs =
    (history : List Event) (book : BookState) (number : ℕ) (seen : Progress) → Replays history book
    → ShowsJob book.jobs number seen
    → (job : JobState) × IsSubmitted history number job × IsSnapshotOf job seen

-- the snapshot `seen` of the job with this number shows the last road of a driven run, in which one worker
-- runs the steps done, from the seed that was submitted and under the job's sheet; `roads` is the road at
-- each step
pub record IsDrivenRead (history : List Event) (number : ℕ) (seen : Progress) : Type 0 where
  pub job : JobState
  pub submitted : IsSubmitted history number job
  pub snapshot : IsSnapshotOf job seen
  pub roads : ℕ → Cells
  pub driven : IsDriven seen.seed seen.sheet seen.step roads
  pub road : roads seen.step ≡ seen.road

-- if a history replays to a book, each snapshot of one of its jobs that is under way shows the last road of a
-- driven run from the seed that was submitted
abbrev pub ReadsAreDriven : Type 0
ReadsAreDriven =
    (history : List Event) (book : BookState) (number : ℕ) (seen : Progress) → Replays history book
    → ShowsJob book.jobs number seen → IsReachedByRun seen → IsDrivenRead history number seen

-- Refused leases: a lease that the book refuses is no longer out.

-- the book after these events, from an empty book on
abbrev pub book_after : List Event → BookState
book_after events = state_from empty_book (map call_of events)

-- the lease went out in this event: it is fresh, and no step was run yet
pub record WentOut (book : BookState) (made : Event) (lease : LeaseState) : Type 0 where
  pub made_is : made ≡ event call.Lease (lease_reply (Ok (Some lease)))
  pub fresh : IsFreshIfLent book.jobs book.next (Some lease)
  pub is_lease : IsLease lease

-- in this event the book accepted an order of the lease, which then ran the ordered step: it was `old` and
-- is `new`
pub record RanStep (book : BookState) (made : Event) (old new : LeaseState) : Type 0 where
  pub order : Order
  pub same : Bool
  pub made_is : made ≡ event (call.Order (offered old same)) (order_reply (Ok order))
  pub rule : HasRuleInForce book.jobs order
  pub ran : HasRun old order new

-- these events, made on `book` one after another, take a lease from `old` to `new`: in each of them it
-- stays as it is, or runs a step that was ordered
abbrev pub GoesThrough : BookState → List Event → LeaseState → LeaseState → Type 0
GoesThrough book [] old new = new ≡ old
GoesThrough book (made ∷ events) old new =
    (next : LeaseState) × ((next ≡ old) ⊎ RanStep book made old next)
    × GoesThrough (after book made.call) events next new

-- a call offers the lease: with its next step, which the job has, or to give it back. `same` is the verdict
-- on it
abbrev pub Offers : Call → LeaseState → Bool → Type 0
Offers made lease same =
    (made ≡ call.GiveBack (offered lease same)) ⊎ ((made ≡ call.Order (offered lease same)) × (lease.step < lease.steps))

-- the job of the lease exists, and this lease is not out for it
abbrev pub IsNotOut : BookState → LeaseState → Type 0
IsNotOut book lease = MatchOption (slice_get book.jobs lease.job) ⊥ (λ job. is_out lease.number job.out ≡ false)

-- in a history that replays, a lease went out and ran only steps that the book ordered. If the book refuses
-- its order or its return, with the correct verdict on it, then it is not out: another call has ended it
abbrev pub RefusedLeasesAreNotOut : Type 0
RefusedLeasesAreNotOut =
    (history before events later : List Event) (out : Event) (book : BookState) (lease now : LeaseState)
    (made : Call) (same : Bool) (fault : BookFault) → Replays history book
    → history ≡ before ++ out ∷ (events ++ event made (Refused fault) ∷ later)
    → WentOut (book_after before) out lease
    → GoesThrough (after (book_after before) out.call) events lease now
    → Offers made now same
    → IsTrue same ↔ RunsRoadOfItsJob (book_after (before ++ out ∷ events)).jobs now
    → is_event (Refused fault) ≡ true
    → IsNotOut (book_after (before ++ out ∷ events)) now

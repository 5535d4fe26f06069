-- The book of jobs as a machine: the reply to each call, and the state after it. It has no roads but those of
-- the seeds, because the road of a job follows from its seed, its sheet and its steps done.
use Rattle.std.specs.Prelude.{ℕ, ◌+◌, ◌==◌, max, Bool, true, false, ◌&&◌, ◌||◌, not, ltb, List, [], ◌∷◌, ◌++◌}
use Rattle.std.specs.Prelude.{length, slice_get, slice_set, Option, Some, None, is_some, if◌then◌else◌}
use Rattle.std.specs.Prelude.{position}
use Rattle.trlab_rules.specs.Rules.{Programs}
use Rattle.trlab_step.specs.Run.{Sheet, suits}
use Rattle.trlab_sequential_book.specs.declared.{book.TheConstants.{MAX_EVENTS, MAX_JOBS}, event.Reply.Reply}
use Rattle.trlab_sequential_book.specs.declared.{sheet.TheConstants.MAX_ENTRIES, fault.BookFault.BookFault}
use Rattle.trlab_sequential_book.specs.declared.{seed.Seed.Seed, event.Offered.Offered}
use Rattle.trlab_sequential_book.specs.{declared.event.Call.Call, Sheets.{begin_in_force, with_rule_from}}
use Rattle.trlab_sequential_book.specs.declared.fault.BookFault.TheVariants as fault
use Rattle.trlab_sequential_book.specs.declared.event.Call.TheVariants as call
use Rattle.trlab_sequential_book.specs.declared.event.Reply.TheVariants as reply

-- a job: its seed and its sheet, the number of its steps, of steps ever ordered (`high`) and of steps done,
-- whether it was cancelled, and the number of the lease that is out, if one is. For example, with `high` 5
-- and `done` 3 the steps 0 to 2 are done, and steps 3 and 4 are ordered but not done
pub record JobState : Type 0 where
  pub seed : Seed
  pub sheet : Sheet
  pub steps : ℕ
  pub high : ℕ
  pub done : ℕ
  pub cancelled : Bool
  pub out : Option ℕ

-- a book: the number of events that it has had, the number of its next lease, and its jobs
pub record BookState : Type 0 where
  pub count : ℕ
  pub next : ℕ
  pub jobs : List JobState

-- an empty book: no event and no job; its first lease has number 0
abbrev pub empty_book : BookState
empty_book = record { count = 0; next = 0; jobs = [] }

-- the outcome of a call on one job: the reply, and the job after the call
pub record JobOutcome : Type 0 where
  pub reply : Reply
  pub job : JobState

-- the outcome of a call that is refused with this fault: the job stays as it is
abbrev pub refusal : BookFault → JobState → JobOutcome
refusal fault job = record { reply = reply.Refused fault; job = job }

-- a job that was just submitted: its rule is in force from step 0 on, no step is ordered or done, and no
-- lease is out
abbrev pub new_job : Seed → Programs → ℕ → JobState
new_job seed rule steps = record {
  seed = seed;
  sheet = (0, rule) ∷ [];
  steps = steps;
  high = 0;
  done = 0;
  cancelled = false;
  out = None;
}

-- the outcome of `replace`: the rule is in force from step `high` on, the first that was never ordered, and
-- the reply has this step. The fault is the first that applies: `Ended` if the job was cancelled or all its
-- steps were ordered, `LanesMismatch` if the rule does not suit the road, `SheetFull` if the sheet would
-- have more than MAX_ENTRIES entries
abbrev pub replace_outcome : Programs → JobState → JobOutcome
replace_outcome rule job =
    if job.cancelled || (job.high == job.steps) then refusal fault.Ended job
    else if not (suits rule job.seed.road) then refusal fault.LanesMismatch job
    else if ltb MAX_ENTRIES (length (with_rule_from job.sheet job.high rule)) then refusal fault.SheetFull job
    else record {
      reply = reply.Number job.high;
      job = record job { sheet = with_rule_from job.sheet job.high rule };
    }

-- is a lease out (`Some`), and does it have this number?
abbrev pub is_out : ℕ → Option ℕ → Bool
is_out number None = false
is_out number (Some out) = out == number

-- does the job accept the lease as its own? The lease must be the one that is out, begin at the steps done,
-- have run no step that was not ordered, and run the job's road
abbrev pub accepts_lease : Offered → JobState → Bool
accepts_lease lease job =
    is_out lease.number job.out && ((lease.base == job.done) && (not (ltb job.high lease.step) && lease.same))

-- the outcome of `order`: the lease's next step is ordered, so `high` is now above it, and the reply has the
-- step from which its rule is in force. The fault is `Ended` if the job was cancelled or the lease has run
-- all its steps, otherwise `StrangerLease` if the job does not accept the lease as its own
abbrev pub order_outcome : Offered → JobState → JobOutcome
order_outcome lease job =
    if job.cancelled || (lease.step == job.steps) then refusal fault.Ended job
    else if accepts_lease lease job then record {
      reply = reply.Ordered lease.job lease.number lease.step (begin_in_force job.sheet lease.step);
      job = record job { high = max job.high (lease.step + 1) };
    } else refusal fault.StrangerLease job

-- the outcome of `give_back`: the job takes over the steps of the lease, which are now done, and no lease is
-- out. The fault is `StrangerLease` if the job does not accept the lease as its own
abbrev pub give_back_outcome : Offered → JobState → JobOutcome
give_back_outcome lease job =
    if accepts_lease lease job
    then record { reply = reply.Done; job = record job { done = lease.step; out = None } }
    else refusal fault.StrangerLease job

-- the outcome of `revoke`: the lease that is out ends, and its steps are lost. The fault is `StrangerLease`
-- if none is out
abbrev pub revoke_outcome : JobState → JobOutcome
revoke_outcome job =
    if is_some job.out then record { reply = reply.Done; job = record job { out = None } }
    else refusal fault.StrangerLease job

-- the outcome of `cancel`: the job is cancelled, and no lease is out. The fault is `Ended` if it was
-- cancelled before or all its steps are done
abbrev pub cancel_outcome : JobState → JobOutcome
cancel_outcome job =
    if job.cancelled || (job.done == job.steps) then refusal fault.Ended job
    else record { reply = reply.Done; job = record job { cancelled = true; out = None } }

-- the outcome of `read`: the reply has the number of steps done and the number of entries of the sheet, and
-- the job stays as it is
abbrev pub read_outcome : JobState → JobOutcome
read_outcome job = record { reply = reply.Seen job.done (length job.sheet); job = job }

-- can the job be leased? It can if no lease is out, it was not cancelled, and not all its steps are done
abbrev pub is_free : JobState → Bool
is_free job = not (is_some job.out) && (not job.cancelled && ltb job.done job.steps)

-- the outcome of `lease` if this job, with number `job_number`, is leased: lease number `lease_number` is
-- out. The reply has both numbers, the steps done (the lease's next step) and the number of all steps
abbrev pub lease_outcome : ℕ → ℕ → JobState → JobOutcome
lease_outcome job_number lease_number job = record {
  reply = reply.Leased job_number lease_number job.done job.steps;
  job = record job { out = Some lease_number };
}

-- the outcome of a call on the jobs of a book: the reply, and the jobs after the call
pub record JobsOutcome : Type 0 where
  pub reply : Reply
  pub jobs : List JobState

-- the outcome of a call on the job with number `index`, if its effect on a job is `outcome`; the other jobs
-- stay as they are. The fault is `NoSuchJob` if no job has this number
abbrev pub on_job : List JobState → ℕ → (JobState → JobOutcome) → JobsOutcome
on_job jobs index outcome = elim (slice_get jobs index) [
  | None ↦ record { reply = reply.Refused fault.NoSuchJob; jobs = jobs }
  | Some job ↦ record { reply = (outcome job).reply; jobs = slice_set jobs index (outcome job).job }
]

-- the outcome of `lease`, if the next lease has this number: the free job with number `index` is leased; for
-- `None` no job is free, and the reply is `NoLease`
abbrev pub on_free : List JobState → ℕ → Option ℕ → JobsOutcome
on_free jobs number None = record { reply = reply.NoLease; jobs = jobs }
on_free jobs number (Some index) = on_job jobs index (lease_outcome index number)

-- the outcome of `submit`: a job is added as the last one, and the reply is its number, counted from 0. The
-- fault is `LanesMismatch` if its rule does not suit its road, otherwise `Full` if there are MAX_JOBS jobs
abbrev pub submit_outcome : List JobState → Seed → Programs → ℕ → JobsOutcome
submit_outcome jobs seed rule steps =
    if not (suits rule seed.road) then record { reply = reply.Refused fault.LanesMismatch; jobs = jobs }
    else if ltb (length jobs) MAX_JOBS
    then record { reply = reply.Number (length jobs); jobs = jobs ++ new_job seed rule steps ∷ [] }
    else record { reply = reply.Refused fault.Full; jobs = jobs }

-- the outcome of a call on the jobs of a book: `submit` adds a job, `lease` lends the free job with the
-- smallest number, and each other call is on the job with the number that it names
abbrev pub outcome_of_call : BookState → Call → JobsOutcome
outcome_of_call book (call.Submit seed rule steps) = submit_outcome book.jobs seed rule steps
outcome_of_call book (call.Replace job rule) = on_job book.jobs job (replace_outcome rule)
outcome_of_call book call.Lease = on_free book.jobs book.next (position is_free book.jobs)
outcome_of_call book (call.Order lease) = on_job book.jobs lease.job (order_outcome lease)
outcome_of_call book (call.GiveBack lease) = on_job book.jobs lease.job (give_back_outcome lease)
outcome_of_call book (call.Revoke job) = on_job book.jobs job revoke_outcome
outcome_of_call book (call.Cancel job) = on_job book.jobs job cancel_outcome
outcome_of_call book (call.Read job) = on_job book.jobs job read_outcome

-- the number of the next lease after a reply: one more if a lease went out
abbrev pub next_after : ℕ → Reply → ℕ
next_after next (reply.Leased job number step steps) = next + 1
next_after next _ = next

-- does the book have a full history? It does after MAX_EVENTS events, and refuses each call as `HistoryFull`
abbrev pub has_full_history : BookState → Bool
has_full_history book = not (ltb book.count MAX_EVENTS)

-- the reply of a book to a call: `HistoryFull` if the book's history is full, otherwise the outcome's reply
abbrev pub reply_of : BookState → Call → Reply
reply_of book call =
    if has_full_history book then reply.Refused fault.HistoryFull else (outcome_of_call book call).reply

-- the book after a call, which is one more event, also if it was refused; a book with a full history stays as
-- it is
abbrev pub after : BookState → Call → BookState
after book call = if has_full_history book then book else record {
  count = book.count + 1;
  next = next_after book.next (outcome_of_call book call).reply;
  jobs = (outcome_of_call book call).jobs;
}

-- The jobs of a book: their invariant, and how leases, orders and snapshots belong to them.
use Rattle.std.specs.Prelude.{ℕ, ◌≤◌, ◌≡◌, Bool, List, slice_get, MatchOption, Option, Some, None}
use Rattle.trlab_road.specs.Cells.{Cells}
use Rattle.trlab_step.specs.Run.{Sheet, Seed as RunSeed, Progress, IsReachedByRun, IsRoadAt, in_force}
use Rattle.trlab_step.specs.declared.tally.StepTally.{StepTally}
use Rattle.trlab_sequential_book.specs.declared.{seed.Seed.Seed, event.{Offered.Offered, Call.Call}}
use Rattle.trlab_sequential_book.specs.{declared.order.Order.Order, Machine.JobState}
use Rattle.trlab_sequential_book.specs.{Sheets.{BeginBy, RanUnderSheet}, Leases.LeaseState}
use Rattle.trlab_sequential_book.specs.declared.event.Call.TheVariants as call

-- The invariant of the jobs of a book.

-- the seed of the run of a job with this seed: its road, the bytes of its key, its road number, and `warm`,
-- the step from which on tallies are counted
abbrev pub run_seed : Seed → RunSeed
run_seed seed = record { road = seed.road; key = seed.key.0; number = seed.number; warm = seed.warm }

-- a progress with these fields; `IsReachedByRun` says whether the run really comes to this road and this sum
abbrev pub progress_of : Seed → Sheet → ℕ → Cells → StepTally → Progress
progress_of seed sheet step road sum =
    record { seed = run_seed seed; sheet = sheet; step = step; road = road; sum = sum }

-- the invariant of a job: the steps done are at most the steps ordered (`high`), and these are at most all
-- its steps; each of its rules begins at step `high` or before; and its run starts on a legal road under
-- rules for its lanes, and after the steps done is at this road, with this sum of tallies
pub record IsJob (job : JobState) (road : Cells) (sum : StepTally) : Type 0 where
  pub ordered : job.done ≤ job.high
  pub within : job.high ≤ job.steps
  pub begin : BeginBy job.high job.sheet
  pub run : IsReachedByRun (progress_of job.seed job.sheet job.done road sum)

-- How leases, orders and snapshots belong to the jobs of a book.

-- the parts of a lease that a call records: its job, its number, the step of its base, its next step, and
-- `same`: whether it runs the road of its job
abbrev pub offered : LeaseState → Bool → Offered
offered lease same = record {
  job = lease.job;
  number = lease.number;
  base = lease.base.step;
  step = lease.step;
  same = same;
}

-- the lease runs the job's road: it has the key and the number of the job's seed, its base is the job's road
-- at the steps done, and its steps were run under the rules in force in the job's sheet
pub record RunsRoadOfJob (job : JobState) (lease : LeaseState) : Type 0 where
  pub key : lease.key ≡ job.seed.key
  pub number : lease.road_number ≡ job.seed.number
  pub base : IsRoadAt (run_seed job.seed) job.sheet job.done lease.base.road
  pub rules : RanUnderSheet job.sheet lease.base.step lease.applied

-- the job of the lease exists, and the lease runs this job's road: the meaning of `same` in `Offered`
abbrev pub RunsRoadOfItsJob : List JobState → LeaseState → Type 0
RunsRoadOfItsJob jobs lease = MatchOption (slice_get jobs lease.job) ⊥ (λ job. RunsRoadOfJob job lease)

-- the job of the order exists, and the order's rule is in force at the order's step in this job's sheet
abbrev pub HasRuleInForce : List JobState → Order → Type 0
HasRuleInForce jobs order =
    MatchOption (slice_get jobs order.job) ⊥ (λ job. in_force job.sheet order.step ≡ Some order.rule)

-- a snapshot of the job: it has the job's seed and sheet, and its step is the number of steps done. Its road
-- and its tally follow from these, as the type `Snapshot` guarantees
pub record IsSnapshotOf (job : JobState) (snapshot : Progress) : Type 0 where
  pub seed : snapshot.seed ≡ run_seed job.seed
  pub sheet : snapshot.sheet ≡ job.sheet
  pub step : snapshot.step ≡ job.done

-- the job with this number exists, and this is a snapshot of it
abbrev pub ShowsJob : List JobState → ℕ → Progress → Type 0
ShowsJob jobs number snapshot = MatchOption (slice_get jobs number) ⊥ (λ job. IsSnapshotOf job snapshot)

-- the lease has this number and has just gone out for the job: it begins at the job's road after the steps
-- done, has the job's number of steps, and has run none of them
pub record IsFresh (job : JobState) (number : ℕ) (lease : LeaseState) : Type 0 where
  pub number_is : lease.number ≡ number
  pub steps : lease.steps ≡ job.steps
  pub base_step : lease.base.step ≡ job.done
  pub step : lease.step ≡ job.done
  pub own : RunsRoadOfJob job lease

-- if a lease went out, its job exists, and the lease is a fresh one of this job, with this number; for `None`
-- no lease went out, and this is always true
abbrev pub IsFreshIfLent : List JobState → ℕ → Option LeaseState → Type 0
IsFreshIfLent jobs number None = Unit {0}
IsFreshIfLent jobs number (Some lease) =
    MatchOption (slice_get jobs lease.job) ⊥ (λ job. IsFresh job number lease)

-- the call `lease`; it has this name because `Lease` is the type of its result
abbrev pub LeaseCall : Call
LeaseCall = call.Lease

-- the call `order` with this lease; it has this name because `Order` is the type of its result
abbrev pub OrderCall : Offered → Call
OrderCall lease = call.Order lease

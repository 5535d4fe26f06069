-- Leases: the steps that they have run outside the book, and the roads that they share with it.
use Rattle.std.specs.Prelude.{Option, Some, None, ◌≡◌, ℕ, ◌+◌, true, List, [], ◌∷◌, ◌++◌, length, All}
use Rattle.std.specs.{Arc.arc_value, Global.Global, declared.sync.Arc.Arc}
use Rattle.trlab_road.specs.Cells.{Cells}
use Rattle.trlab_sequential_book.specs.declared.{seed.Seed.Seed, lease.ExecutedStep.ExecutedStep}
use Rattle.trlab_sequential_book.specs.declared.order.Order.{Order}
use Rattle.trlab_rules.specs.Rules.{Programs}
use Rattle.trlab_words.specs.declared.key.Key.{Key}
use Rattle.trlab_step.specs.{Answers.dice_of, Next.IsNext, Run.suits, declared.tally.StepTally.StepTally}

-- Roads of a seed's run, in memory that several owners share. The road at the start is not stored again.

-- the road that is stored; or the seed's own road if none is (`None`)
abbrev pub held_road : Option (Arc Cells Global) → Seed → Cells
held_road None seed = seed.road
held_road (Some road) seed = arc_value road

-- Leases: the steps that they have run outside the book, and how a lease runs one more.

-- the executed steps, which are numbered from `step`, lead from `road` to `last`, each under its rule and
-- with its tally. `key` and `road_number` determine the random numbers. Without any steps `last` is `road`
abbrev pub LeadsTo : List ℕ → ℕ → ℕ → Cells → List ExecutedStep → Cells → Type 0
LeadsTo key road_number step road [] last = last ≡ road
LeadsTo key road_number step road (ran ∷ more) last =
    (next : Cells) × IsNext ran.rule (dice_of key road_number step) road next ran.tally
    × LeadsTo key road_number (step + 1) next more last

-- the base of a lease: the step of its job at which it went out, and the road there
pub record Base : Type 0 where
  pub step : ℕ
  pub road : Cells

-- a lease: the number of its job; its own number; the number of steps of the job; the key and the number of
-- the road, which determine its random numbers; its base; its next step; the road before this step; and the
-- steps that it has run since its base
pub record LeaseState : Type 0 where
  pub job : ℕ
  pub number : ℕ
  pub steps : ℕ
  pub key : Key
  pub road_number : ℕ
  pub base : Base
  pub step : ℕ
  pub road : Cells
  pub applied : List ExecutedStep

-- the steps that a lease has run lead from its base to its road, and its next step is the one after them
pub record IsLease (lease : LeaseState) : Type 0 where
  pub steps_run : lease.step ≡ lease.base.step + length lease.applied
  pub leads : LeadsTo lease.key.0 lease.road_number lease.base.step lease.base.road lease.applied lease.road

-- all these steps were run under the rule of the first one; also true if there is no step
abbrev pub IsSteady : List ExecutedStep → Type 0
IsSteady [] = Unit {0}
IsSteady (first ∷ more) = All (λ (ran : ExecutedStep). ran.rule ≡ first.rule) more

-- the order fits the lease: it is for this lease of this job and for its next step, and its rule suits the
-- road of the lease
pub record FitsOrder (lease : LeaseState) (order : Order) : Type 0 where
  pub job : order.job ≡ lease.job
  pub number : order.lease ≡ lease.number
  pub step : order.step ≡ lease.step
  pub rule : suits order.rule lease.road ≡ true

-- the lease after one more step under `rule`, with this tally, to the road `next`
abbrev pub with_executed_step : LeaseState → Programs → StepTally → Cells → LeaseState
with_executed_step lease rule tally next = record lease {
  step = lease.step + 1;
  road = next;
  applied = lease.applied ++ record { rule = rule; tally = tally } ∷ [];
}

-- the order fits the lease `old`, and `new` is this lease after one more step, run under the order's rule
pub record HasRun (old : LeaseState) (order : Order) (new : LeaseState) : Type 0 where
  pub fits : FitsOrder old order
  pub tally : StepTally
  pub next : IsNext order.rule (dice_of old.key.0 old.road_number old.step) old.road new.road tally
  pub grown : new ≡ with_executed_step old order.rule tally new.road

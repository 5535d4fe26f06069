-- A run whose snapshots are written step by step.
use Rattle.std.proofs.Common.{◌≡◌, ℕ, zero, suc, ◌+◌, ◌<◌, ◌≤◌, Bool, List, [], ◌++◌, flat_map, refl, ◌∙◌, ap}
use Rattle.std.{proofs.Common.{arith, add-one, inr, false, Result, Ok, Err}, specs.List.range_with_len}
use Rattle.trlab_road.specs.Cells.{Cells}
use Rattle.trlab_step.specs.Run.{IsRoadAt, Progress, IsOneStepOn, at_start}
use Rattle.trlab_step.proofs.RunLaws.{run_comes_to_road, road_at_is_one}
use Rattle.trlab_jobs.specs.{Job.{Job, seed_of, sheet_of}, Stored.IsStoredJob}
use Rattle.trlab_campaign.specs.{Output.{IsOutputForJob, shown_text, steps_text}, Ending.WroteAll}
use Rattle.trlab_campaign.specs.{Ending.{WroteByResult, WrotePrefix}, Writers.{HasWritten, AddsByResult}}
use Rattle.trlab_campaign.{specs.Writers.{AddsPrefix, SinkBytes}, proofs.{Sheets.plain_sheet, Owed.Owes}}
use Rattle.trlab_campaign.proofs.Owed.{owes_all, owes_less, owes_prefix, owes_none}

-- the text of a number of steps, of those that are shown
abbrev pub text_from : (ℕ → Bool) → (ℕ → Cells) → ℕ → ℕ → List ℕ
text_from shown roads step count = flat_map (λ s. shown_text shown s (roads s)) (range_with_len step count)

-- at each step of a run its road
abbrev pub Roads : Job → (ℕ → Cells) → Type 0
Roads job roads = (s : ℕ) → IsRoadAt (seed_of job) (sheet_of job) s (roads s)

-- before a step, the text from this step on is owed of the whole output
pub record Underway (shown : ℕ → Bool) (job : Job) (step left : ℕ) (old now : SinkBytes) : Type 0 where
  pub roads : ℕ → Cells
  pub each : Roads job roads
  pub ends : step + left ≡ job.steps
  pub owes : Owes (steps_text shown roads (job.steps + 1)) (text_from shown roads step (left + 1)) old now

-- the same, once the text of the step is written
pub record Written (shown : ℕ → Bool) (job : Job) (step left : ℕ) (old now : SinkBytes) : Type 0 where
  pub roads : ℕ → Cells
  pub each : Roads job roads
  pub ends : step + left ≡ job.steps
  pub owes : Owes (steps_text shown roads (job.steps + 1)) (text_from shown roads (step + 1) left) old now

-- a run on its way is that of a job, at a step
pub record Drives (job : Job) (step : ℕ) (run : Progress) : Type 0 where
  pub seed : run.seed ≡ seed_of job
  pub sheet : run.sheet ≡ sheet_of job
  pub step_is : run.step ≡ step

-- a run of this number of steps is that of a job, and has not begun
pub record Begins (job : Job) (steps : ℕ) (run : Progress) : Type 0 where
  pub stored : IsStoredJob job
  pub starts : run ≡ at_start (seed_of job) (sheet_of job)
  pub ends : steps ≡ job.steps

-- a run has come to a step, with this number of steps left: if it began as that of a job, it is under way
-- as that
abbrev pub Writes : (ℕ → Bool) → ℕ → Progress → ℕ → ℕ → Progress → SinkBytes → SinkBytes → Type 0
Writes shown steps start step left run old now = (job : Job) → Begins job steps start → Underway shown job step left old now × Drives job step run

-- a job that was read has a road at each step of its run
pub roads_of : (job : Job) → IsStoredJob job → (roads : ℕ → Cells) × Roads job roads
roads_of job plain =
    let at = λ (s : ℕ). run_comes_to_road (seed_of job) (sheet_of job) s plain.legal (plain_sheet job plain) in
    (λ s. (at s).0, λ s. ((at s).1, (at s).2))

-- before the first step
begin : (shown : ℕ → Bool) (job : Job) (old : SinkBytes) → IsStoredJob job → Underway shown job 0 job.steps old old
begin shown job old plain =
    let found = roads_of job plain in
    record {
      roads = found.0;
      each = found.1;
      ends = omega arith;
      owes = owes_all (steps_text shown found.0 (job.steps + 1)) old;
    }

-- the run of a job begins
pub begin_run : (shown : ℕ → Bool) (steps : ℕ) (run : Progress) (old : SinkBytes) → Writes shown steps run 0 steps run old old
begin_run shown steps run old job begins = (
  rw begins.ends (begin shown job old begins.stored),
  rw begins.starts (record { seed = refl; sheet = refl; step_is = refl }),
)

-- and continues
drive_on : (job : Job) (step : ℕ) (old new : Progress) → Drives job step old → IsOneStepOn old new → Drives job (step + 1) new
drive_on job step old new drives on = record {
  seed = on.same_seed ∙ drives.seed;
  sheet = on.same_sheet ∙ drives.sheet;
  step_is = on.next_step ∙ ap (λ n. n + 1) drives.step_is;
}

-- the road of the run is that of the job
driven_road : (job : Job) (step : ℕ) (run : Progress) (road : Cells) → Drives job step run → IsRoadAt run.seed run.sheet run.step road
    → IsRoadAt (seed_of job) (sheet_of job) step road
driven_road job step run road drives at = rw (← drives.seed, ← drives.sheet, ← drives.step_is) at

next_text : (shown : ℕ → Bool) (roads : ℕ → Cells) (step left : ℕ) → text_from shown roads step (left + 1) ≡ shown_text shown step (roads step) ++ text_from shown roads (step + 1) left
next_text shown roads step left = rw (add-one left) refl

-- the road at a step is the one that is shown
here : (job : Job) (roads : ℕ → Cells) (step : ℕ) (road : Cells) → Roads job roads → IsRoadAt (seed_of job) (sheet_of job) step road → roads step ≡ road
here job roads step road each at = road_at_is_one (seed_of job) (sheet_of job) step (roads step) road (each step) at

-- the text of a step is written
wrote : (shown : ℕ → Bool) (job : Job) (step left : ℕ) (road : Cells) (old a b : SinkBytes) → Underway shown job step left old a
    → IsRoadAt (seed_of job) (sheet_of job) step road → HasWritten a b (shown_text shown step road) → Written shown job step left old b
wrote shown job step left road old a b u at text = record {
  roads = u.roads;
  each = u.each;
  ends = u.ends;
  owes = owes_less (steps_text shown u.roads (job.steps + 1)) (shown_text shown step (u.roads step)) (text_from shown u.roads (step + 1) left) old a b
      (rw (next_text shown u.roads step left) at u.owes) (rw (here job u.roads step road u.each at) text);
}

-- the next step comes
went_on : (shown : ℕ → Bool) (job : Job) (step left : ℕ) (old now : SinkBytes) → Written shown job step (left + 1) old now → Underway shown job (step + 1) left old now
went_on shown job step left old now w = record { roads = w.roads; each = w.each; ends = omega (arith, w.ends); owes = w.owes }

-- it stops within the text of a step
stop_within : (shown : ℕ → Bool) (job : Job) (step left : ℕ) (road : Cells) (old a b : SinkBytes) → Underway shown job step left old a
    → IsRoadAt (seed_of job) (sheet_of job) step road → AddsPrefix a b (shown_text shown step road) → WrotePrefix (IsOutputForJob shown job) old b
stop_within shown job step left road old a b u at text =
    let whole = steps_text shown u.roads (job.steps + 1) in
    let is : IsOutputForJob shown job false whole = (refl, (u.roads, record { road_at = λ s _. u.each s; pictures = refl })) in
    inr (
      false,
      (
        whole,
        (
          is,
          owes_prefix whole (shown_text shown step (u.roads step)) (text_from shown u.roads (step + 1) left) old a b (rw (next_text shown u.roads step left) at u.owes)
              (rw (here job u.roads step road u.each at) text),
        ),
      ),
    )

-- steps that are not shown have no text
no_text : (shown : ℕ → Bool) (roads : ℕ → Cells) (step count : ℕ) → ((s : ℕ) → step ≤ s → s < step + count → shown s ≡ false) → text_from shown roads step count ≡ []
no_text shown roads step zero none = refl
no_text shown roads step (suc count) none =
    let here = none step (omega arith) (omega arith) in
    let rest = no_text shown roads (step + 1) count (λ s after before. none s (omega arith) (omega arith)) in
    rw (here, rest) refl

-- the text of the last step that is shown is written
all_written : (shown : ℕ → Bool) (job : Job) (step left : ℕ) (road : Cells) (old a b : SinkBytes) → Underway shown job step left old a
    → IsRoadAt (seed_of job) (sheet_of job) step road → HasWritten a b (shown_text shown step road) → ((s : ℕ) → step < s → s ≤ job.steps → shown s ≡ false)
    → WroteAll (IsOutputForJob shown job) false old b
all_written shown job step left road old a b u at text none =
    let w = wrote shown job step left road old a b u at text in
    let whole = steps_text shown w.roads (job.steps + 1) in
    let rest = no_text shown w.roads (step + 1) left (λ s after before. none s (omega (arith, after)) (omega (arith, before, w.ends))) in
    (whole, ((refl, (w.roads, record { road_at = λ s _. w.each s; pictures = refl })), owes_none whole old b (rw rest at w.owes)))

-- the text of a step is written, and the run takes this step
pub step_on : (shown : ℕ → Bool) (steps step left : ℕ) (start run next : Progress) (old a b : SinkBytes) → Writes shown steps start step (left + 1) run old a
    → IsRoadAt run.seed run.sheet run.step run.road → HasWritten a b (shown_text shown step run.road) → IsOneStepOn run next → Writes shown steps start (step + 1) left next old b
step_on shown steps step left start run next old a b writes road text on job begins =
    let here = writes job begins in
    let at = driven_road job step run run.road here.1 road in
    (went_on shown job step left old b (wrote shown job step (left + 1) run.road old a b here.0 at text), drive_on job step run next here.1 on)

-- it stops within the text of a step of the run
pub step_stops : (shown : ℕ → Bool) (steps step left : ℕ) (start run : Progress) (old a b : SinkBytes) → Writes shown steps start step left run old a
    → IsRoadAt run.seed run.sheet run.step run.road → AddsPrefix a b (shown_text shown step run.road) → (job : Job) → Begins job steps start → WrotePrefix (IsOutputForJob shown job) old b
step_stops shown steps step left start run old a b writes road text job begins =
    let here = writes job begins in
    stop_within shown job step left run.road old a b here.0 (driven_road job step run run.road here.1 road) text

-- no step is left before the last one
pub no_step_left : (step last : ℕ) → step ≤ last → last ≤ step → step ≡ last
no_step_left step last inside all = omega arith

-- the text of the last step that is shown was written, or a prefix of it
pub last_wrote : {A E : Type 0} (r : Result A E) (shown : ℕ → Bool) (steps last left : ℕ) (start run : Progress) (road : Cells) (old a b : SinkBytes)
    → Writes shown steps start last left run old a → IsRoadAt run.seed run.sheet run.step road → AddsByResult r a b (shown_text shown last road)
    → ((s : ℕ) → last < s → s ≤ steps → shown s ≡ false) → (job : Job) → Begins job steps start → WroteByResult (IsOutputForJob shown job) r old b
last_wrote (Ok x) shown steps last left start run road old a b writes at text none job begins =
    let here = writes job begins in
    all_written shown job last left road old a b here.0 (driven_road job last run road here.1 at) text (λ s after within. none s after (omega (arith, within, begins.ends)))
last_wrote (Err e) shown steps last left start run road old a b writes at text none job begins =
    let here = writes job begins in
    stop_within shown job last left road old a b here.0 (driven_road job last run road here.1 at) text

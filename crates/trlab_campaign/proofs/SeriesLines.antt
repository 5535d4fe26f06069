-- The lines of a series, written one after another.
use Rattle.std.proofs.Common.{◌≡◌, ◌↔◌, ℕ, ◌+◌, ◌*◌, ◌<◌, ◌≤◌, List, [], ◌++◌, flat_map, map, refl, sym, ap}
use Rattle.std.proofs.Common.{subst, arith, add-one, append-nil, inr, false, Result, Ok, Err}
use Rattle.std.specs.List.{range_with_len}
use Rattle.trlab_diagram.specs.{declared.point.Window.Window, Tables.{series_text, window_text}}
use Rattle.trlab_road.specs.Cells.{Cells}
use Rattle.trlab_step.specs.{declared.tally.StepTally.StepTally, Run.{Progress, at_start}}
use Rattle.trlab_jobs.specs.{Job.{Job, seed_of, sheet_of}, Stored.IsStoredJob}
use Rattle.trlab_campaign.specs.{Ending.{WroteByResult, WrotePrefix}, SeriesOutput.{IsCourse, IsSeries}}
use Rattle.trlab_campaign.specs.SeriesOutput.{IsSeriesOutputForJob, first_windows, nth_window, window_of}
use Rattle.trlab_campaign.specs.Writers.{HasWritten, AddsByResult, AddsPrefix, SinkBytes}
use Rattle.trlab_campaign.proofs.{Courses.course_of, WrittenBytes.adds_more, Sheets.plain_sheet, Owed.Owes}
use Rattle.trlab_campaign.proofs.Owed.{owes_all, owes_prefix, owes_less}

-- the lines of `count` windows from window k on
abbrev pub lines_from : (ℕ → Cells) → (ℕ → StepTally) → ℕ → ℕ → ℕ → ℕ → List ℕ
lines_from roads tallies every from k count = flat_map window_text (map (nth_window roads tallies every from) (range_with_len k count))

-- the line of window k, and those after it
next_line : (roads : ℕ → Cells) (tallies : ℕ → StepTally) (every from k left : ℕ)
    → lines_from roads tallies every from k (left + 1) ≡ window_text (nth_window roads tallies every from k) ++ lines_from roads tallies every from (k + 1) left
next_line roads tallies every from k left = rw (add-one left) refl

-- one line is written
pub line_on : (roads : ℕ → Cells) (tallies : ℕ → StepTally) (every from k left step : ℕ) (whole : List ℕ) (old a b : SinkBytes) → step ≡ from + k * every
    → Owes whole (lines_from roads tallies every from k (left + 1)) old a → HasWritten a b (window_text (window_of roads tallies step every))
    → Owes whole (lines_from roads tallies every from (k + 1) left) old b
line_on roads tallies every from k left step whole old a b is owes text =
    owes_less whole (window_text (nth_window roads tallies every from k)) (lines_from roads tallies every from (k + 1) left) old a b
    (rw (next_line roads tallies every from k left) at owes) (rw is at text)

-- or a prefix of it
pub line_stops : (roads : ℕ → Cells) (tallies : ℕ → StepTally) (every from k left step : ℕ) (whole : List ℕ) (old a b : SinkBytes) → step ≡ from + k * every
    → Owes whole (lines_from roads tallies every from k (left + 1)) old a → AddsPrefix a b (window_text (window_of roads tallies step every)) → AddsPrefix old b whole
line_stops roads tallies every from k left step whole old a b is owes text =
    owes_prefix whole (window_text (nth_window roads tallies every from k)) (lines_from roads tallies every from (k + 1) left) old a b
    (rw (next_line roads tallies every from k left) at owes) (rw is at text)

-- the next window begins at the end of this one
pub next_at : (from k every step next : ℕ) → step ≡ from + k * every → next ≡ step + every → next ≡ from + (k + 1) * every
next_at from k every step next at later = omega (arith, at, later)

-- a prefix of a text is a prefix of every text that begins with it
pub prefix_of_first : (first rest : List ℕ) (old new : SinkBytes) → AddsPrefix old new first → AddsPrefix old new (first ++ rest)
prefix_of_first first rest old new prefix = owes_prefix (first ++ rest) first rest old old new (owes_all (first ++ rest) old) prefix

-- a text was written, and then another text or a prefix of it
pub then_wrote : {A E : Type 0} (r : Result A E) (first rest : List ℕ) (old mid new : SinkBytes) → HasWritten old mid first → AddsByResult r mid new rest
    → AddsByResult r old new (first ++ rest)
then_wrote (Ok x) first rest old mid new a b = adds_more old mid new first rest a b
then_wrote (Err e) first rest old mid new a b =
    owes_prefix (first ++ rest) rest [] old mid new (record { done = first; parts = ap (λ t. first ++ t) (sym (append-nil rest)); wrote = a }) b

-- the series of a job whose run is the run from its start
module _ (job : Job) (every from count steps : ℕ) (run : Progress) (stored : IsStoredJob job) (starts : run ≡ at_start (seed_of job) (sheet_of job)) (ends : steps ≡ job.steps)
    (whole : (k : ℕ) → (k < count) ↔ (from + (k + 1) * every ≤ steps)) where
  job_course : (roads : ℕ → Cells) × (tallies : ℕ → StepTally) × IsCourse (seed_of job) (sheet_of job) roads tallies
  job_course = course_of (seed_of job) (sheet_of job) stored.legal (plain_sheet job stored)

  run_course : IsCourse run.seed run.sheet job_course.0 job_course.1
  run_course = subst (λ (r : Progress). IsCourse r.seed r.sheet job_course.0 job_course.1) (sym starts) job_course.2

  abbrev the_windows : List Window
  the_windows = first_windows job_course.0 job_course.1 every from count

  is_series : IsSeries job every from the_windows
  is_series = record { roads = job_course.0; tallies = job_course.1; course = job_course.2; count = count; whole = rw ends at whole; told = refl }

  is_output : IsSeriesOutputForJob every from job false (series_text the_windows)
  is_output = (refl, (the_windows, (is_series, refl)))

  pub series_stops : (old new : SinkBytes)
      → ((roads : ℕ → Cells) (tallies : ℕ → StepTally) → IsCourse run.seed run.sheet roads tallies → AddsPrefix old new (series_text (first_windows roads tallies every from count)))
      → WrotePrefix (IsSeriesOutputForJob every from job) old new
  series_stops old new told = inr (false, (series_text the_windows, (is_output, told job_course.0 job_course.1 run_course)))

  pub series_wrote : {A E : Type 0} (r : Result A E) (old new : SinkBytes)
      → ((roads : ℕ → Cells) (tallies : ℕ → StepTally) → IsCourse run.seed run.sheet roads tallies → AddsByResult r old new (series_text (first_windows roads tallies every from count)))
      → WroteByResult (IsSeriesOutputForJob every from job) r old new
  series_wrote (Ok x) old new told = (series_text the_windows, (is_output, told job_course.0 job_course.1 run_course))
  series_wrote (Err e) old new told = series_stops old new told

-- A job text has exactly one series.
use Rattle.std.proofs.Common.{◌≡◌, ◌↔◌, ℕ, ◌+◌, ◌-◌, ◌*◌, ◌/◌, ◌<◌, ◌≤◌, Bool, true, false, List, [], ◌∷◌}
use Rattle.std.proofs.Common.{map, refl, sym, ◌∙◌, ap, subst, arith, inl, inr, Result, Ok, Err, IfOk}
use Rattle.std.{proofs.lemmas.Bool.cases_lt, specs.List.range_with_len}
use Rattle.trlab_diagram.specs.{declared.point.Window.Window, Tables.series_text}
use Rattle.trlab_road.specs.Cells.{Cells}
use Rattle.trlab_step.specs.{declared.tally.StepTally.StepTally, Run.{Seed, Sheet}}
use Rattle.trlab_step.proofs.RunLaws.{road_at_is_one}
use Rattle.trlab_texts.specs.Reading.{LocatedFault}
use Rattle.trlab_jobs.specs.{Job.{Job, seed_of, sheet_of}, Stored.IsStoredJob}
use Rattle.trlab_jobs.proofs.OneText.{one_thing, says_plain}
use Rattle.trlab_campaign.specs.{Output.{IsOutputForResult, fault_line}, Laws.SeriesHasAtMostOneOutput}
use Rattle.trlab_campaign.specs.{Laws.SeriesHasSomeOutput, SeriesOutput.{IsCourse, IsSeries}}
use Rattle.trlab_campaign.specs.SeriesOutput.{IsSeriesOutputForJob, first_windows, nth_window, window_of}
use Rattle.trlab_campaign.proofs.{Courses.{course_of, one_tally, whole_windows}, Sheets.plain_sheet}

-- lists of the same values
same_map : {X : Type 0} (f g : ℕ → X) (xs : List ℕ) → ((n : ℕ) → f n ≡ g n) → map f xs ≡ map g xs
same_map f g [] same = refl
same_map f g (x ∷ xs) same =
    let here = same x in
    let rest = same_map f g xs same in
    cc (here, rest)

-- two courses of a run
module _ (seed : Seed) (sheet : Sheet) (roads others : ℕ → Cells) (tallies counts : ℕ → StepTally) (a : IsCourse seed sheet roads tallies) (b : IsCourse seed sheet others counts) where
  same_road : (step : ℕ) → roads step ≡ others step
  same_road step = road_at_is_one seed sheet step (roads step) (others step) (a.road_at step) (b.road_at step)

  same_tally : (step : ℕ) → tallies step ≡ counts step
  same_tally step =
      let here = b.step_at step in
      one_tally seed sheet step (roads step) (roads (step + 1)) (others (step + 1)) (tallies step) (counts step) (a.step_at step) (rw (same_road step) here)

  same_window : (first count : ℕ) → window_of roads tallies first count ≡ window_of others counts first count
  same_window first count =
      let behind = same_map roads others (range_with_len (first + 1) count) same_road in
      let steps = same_map tallies counts (range_with_len first count) same_tally in
      let last = same_road (first + count) in
      rw (behind, steps, last) refl

  pub same_windows : (every from count : ℕ) → first_windows roads tallies every from count ≡ first_windows others counts every from count
  same_windows every from count =
      same_map (nth_window roads tallies every from) (nth_window others counts every from) (range_with_len 0 count) (λ k. same_window (from + k * every) every)

-- this number of windows is complete
same_count : (P : ℕ → Type 0) (m n : ℕ) → ((k : ℕ) → (k < m) ↔ P k) → ((k : ℕ) → (k < n) ↔ P k) → m ≡ n
same_count P m n p q = elim (cases_lt m n) [
  | inl below ↦ let bad : m < m = (p m).1 ((q m).0 below) in absurd (omega (arith, bad))
  | inr past ↦ elim (cases_lt n m) [
    | inl below ↦ let bad : n < n = (q n).1 ((p n).0 below) in absurd (omega (arith, bad))
    | inr also ↦ omega (arith, past, also)
  ]
]

one_series : (job : Job) (every from : ℕ) (windows others : List Window) → IsSeries job every from windows → IsSeries job every from others → windows ≡ others
one_series job every from windows others a b =
    let count = same_count (λ (k : ℕ). from + (k + 1) * every ≤ job.steps) a.count b.count a.whole b.whole in
    a.told ∙ same_windows (seed_of job) (sheet_of job) a.roads b.roads a.tallies b.tallies a.course b.course every from a.count
    ∙ ap (first_windows b.roads b.tallies every from) count ∙ sym b.told

output_one : (every from : ℕ) (says : Result Job LocatedFault) (rejected also : Bool) (out other : List ℕ) → IsOutputForResult (IsSeriesOutputForJob every from) says rejected out
    → IsOutputForResult (IsSeriesOutputForJob every from) says also other → (rejected ≡ also) × (out ≡ other)
output_one every from (Ok said) rejected also out other p q =
    (p.0 ∙ sym q.0, p.1.1.1 ∙ ap series_text (one_series said every from p.1.0 q.1.0 p.1.1.0 q.1.1.0) ∙ sym q.1.1.1)
output_one every from (Err fault) rejected also out other p q = (p.0 ∙ sym q.0, p.1 ∙ sym q.1)

pub one_output : SeriesHasAtMostOneOutput
one_output every from text rejected also out other p q =
    let same = one_thing text p.0 q.0 p.1.0 q.1.0 in
    output_one every from q.0 rejected also out other (subst (λ (says : Result Job LocatedFault). IsOutputForResult (IsSeriesOutputForJob every from) says rejected out) same p.1.1) q.1.1

output_some : (every from : ℕ) → 1 ≤ every → (says : Result Job LocatedFault) → IfOk says IsStoredJob → (rejected : Bool) × (out : List ℕ) × IsOutputForResult (IsSeriesOutputForJob every from) says rejected out
output_some every from some (Ok job) stored =
    let course = course_of (seed_of job) (sheet_of job) stored.legal (plain_sheet job stored) in
    let count = (job.steps - from) / every in
    let windows = first_windows course.0 course.1 every from count in
    (false, series_text windows, (refl, (windows, (record { roads = course.0; tallies = course.1; course = course.2; count = count; whole = whole_windows every from job.steps some; told = refl }, refl))))
output_some every from some (Err fault) stored = (true, fault_line fault, (refl, refl))

pub some_output : SeriesHasSomeOutput
some_output every from some text =
    let found = says_plain text in
    let output = output_some every from some found.0 found.1.1 in
    (output.0, output.1, (found.0, (found.1.0, output.2)))

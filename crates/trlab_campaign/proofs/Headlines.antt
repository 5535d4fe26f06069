-- One worker drives the roads of each text that is not rejected.
use Rattle.std.proofs.Common.{◌∙◌, ℕ, Bool, List, ap, false, true≢false, sym, subst, length, Result, Ok, Err}
use Rattle.std.proofs.Common.{IfOk}
use Rattle.trlab_diagram.specs.{declared.point.Point.Point, Tables.series_text}
use Rattle.trlab_road.{specs.{Cells.{Cells, IsLegal}, Spreading.IsEvenlySpaced}, proofs.EvenRoads.one_even}
use Rattle.trlab_step.{specs.Run.IsRuleFor, proofs.{Driving.runs_are_driven, RunLaws.run_comes_to_road}}
use Rattle.trlab_texts.specs.Reading.{LocatedFault}
use Rattle.trlab_jobs.specs.{Job.{Job, ParsesAsJob, seed_of, sheet_of}, Sweep.{all_steps, Setup, Sweep}}
use Rattle.trlab_jobs.specs.{Sweep.ParsesAsSweep, Stored.{IsStoredJob, IsStoredSweep, CanSpreadOn}}
use Rattle.trlab_jobs.proofs.{OneSweep.says_stored, OneText.says_plain}
use Rattle.trlab_jobs.proofs.OneText as jobs
use Rattle.trlab_jobs.proofs.OneSweep as sweeps
use Rattle.trlab_campaign.specs.Headline.{IsDrivenJob, IsDrivenPoint, IsDrivenSeries, IsDrivenSweep}
use Rattle.trlab_campaign.specs.Headline.{JobTextsAreDriven, SeriesTextsAreDriven, SweepTextsAreDriven}
use Rattle.trlab_campaign.specs.Output.{IsOutputForJob, IsOutputForResult}
use Rattle.trlab_campaign.specs.{SeriesOutput.IsSeriesOutputForJob, SweepOutput.{IsPoint, IsOutputForSweep}}
use Rattle.trlab_campaign.proofs.{Points.suits, Sheets.plain_sheet, SomePoints.even_some}
use Rattle.trlab_campaign.specs.SweepOutput as sweep

drives_job : (shown : ℕ → Bool) (text out : List ℕ) (parsed_as : Result Job LocatedFault) → ParsesAsJob text parsed_as → IfOk parsed_as IsStoredJob → IsOutputForResult (IsOutputForJob shown) parsed_as false out → IsDrivenJob shown text out
drives_job shown text out (Ok job) parsed_as stored output =
    let roads = output.1.0 in
    let is = output.1.1 in
    record {
      job = job;
      parsed_as = parsed_as;
      roads = roads;
      driven = runs_are_driven (seed_of job) (sheet_of job) job.steps roads stored.legal (plain_sheet job stored) is.road_at;
      pictures = is.pictures;
    }
drives_job shown text out (Err fault) parsed_as stored output = absurd (true≢false (sym output.0))

pub job_texts_are_driven : JobTextsAreDriven
job_texts_are_driven shown text out is =
    let found = says_plain text in
    let same = jobs.one_thing text is.0 found.0 is.1.0 found.1.0 in
    drives_job shown text out found.0 found.1.0 found.1.1 (subst (λ (parsed_as : Result Job LocatedFault). IsOutputForResult (IsOutputForJob shown) parsed_as false out) same is.1.1)

drives_series : (every from : ℕ) (text out : List ℕ) (parsed_as : Result Job LocatedFault) → ParsesAsJob text parsed_as → IfOk parsed_as IsStoredJob → IsOutputForResult (IsSeriesOutputForJob every from) parsed_as false out → IsDrivenSeries every from text out
drives_series every from text out (Ok job) parsed_as stored output =
    let windows = output.1.0 in
    let series = output.1.1.0 in
    record {
      job = job;
      parsed_as = parsed_as;
      roads = series.roads;
      tallies = series.tallies;
      driven = runs_are_driven (seed_of job) (sheet_of job) job.steps series.roads stored.legal (plain_sheet job stored) (λ step _. series.course.road_at step);
      tallied = λ step _. series.course.step_at step;
      count = series.count;
      whole = series.whole;
      table = output.1.1.1 ∙ ap series_text series.told;
    }
drives_series every from text out (Err fault) parsed_as stored output = absurd (true≢false (sym output.0))

pub series_texts_are_driven : SeriesTextsAreDriven
series_texts_are_driven every from text out is =
    let found = says_plain text in
    let same = jobs.one_thing text is.0 found.0 is.1.0 found.1.0 in
    drives_series every from text out found.0 found.1.0 found.1.1 (subst (λ (parsed_as : Result Job LocatedFault). IsOutputForResult (IsSeriesOutputForJob every from) parsed_as false out) same is.1.1)

-- the road on which cars are evenly spread is legal
even_is_legal : (setup : Setup) (cars : ℕ) (road : Cells) → CanSpreadOn setup.shape cars → IsEvenlySpaced setup.shape.lanes setup.shape.length setup.shape.limit cars road → IsLegal road
even_is_legal setup cars road fits even =
    let found = even_some setup.shape.lanes setup.shape.length setup.shape.limit cars fits in
    subst IsLegal (one_even setup.shape.lanes setup.shape.length setup.shape.limit cars found.0 road found.1.0 even) found.1.1

drives_point : (setup : Setup) (number cars : ℕ) (point : Point) → IsRuleFor setup.shape.lanes setup.rule → CanSpreadOn setup.shape cars
    → IsPoint setup number cars point → IsDrivenPoint setup number cars point
drives_point setup number cars point rule fits is =
    let seed = sweep.point_seed setup number is.start in
    let sheet = sweep.sweep_sheet setup in
    let legal = even_is_legal setup cars is.start fits is.even in
    let for_lanes = suits (length is.start.lanes) setup (subst (λ (lanes : ℕ). IsRuleFor lanes setup.rule) (sym is.even.same_lanes) rule) in
    let at = λ (step : ℕ). run_comes_to_road seed sheet step legal for_lanes in
    record {
      start = is.start;
      tally = is.tally;
      roads = λ (step : ℕ). (at step).0;
      even = is.even;
      driven = runs_are_driven seed sheet (all_steps setup.span) (λ step. (at step).0) legal for_lanes (λ step _. ((at step).1, (at step).2));
      counted = is.counted;
      told = is.told;
    }

drives_sweep : (text out : List ℕ) (parsed_as : Result Sweep LocatedFault) → ParsesAsSweep text parsed_as → IfOk parsed_as IsStoredSweep → IsOutputForResult IsOutputForSweep parsed_as false out → IsDrivenSweep text out
drives_sweep text out (Ok parsed_sweep) parsed_as stored output =
    let points = output.1.0 in
    let are = output.1.1.0 in
    record {
      parsed_sweep = parsed_sweep;
      parsed_as = parsed_as;
      points = points;
      one_each = are.one_each;
      each = λ i cars point inside. drives_point parsed_sweep.setup i _ _ stored.rule (stored.spreads i cars inside) (are.each i cars point inside);
      table = output.1.1.1;
    }
drives_sweep text out (Err fault) parsed_as stored output = absurd (true≢false (sym output.0))

pub sweep_texts_are_driven : SweepTextsAreDriven
sweep_texts_are_driven text out is =
    let found = says_stored text in
    let same = sweeps.one_thing text is.0 found.0 is.1.0 found.1.0 in
    drives_sweep text out found.0 found.1.0 found.1.1 (subst (λ (parsed_as : Result Sweep LocatedFault). IsOutputForResult IsOutputForSweep parsed_as false out) same is.1.1)

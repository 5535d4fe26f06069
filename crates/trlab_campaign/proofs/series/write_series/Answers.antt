use Rattle.std.proofs.{Common.{flat_map, ◌∙◌, ap, refl}, lemmas.Result.err_from_is_err_and}
use Rattle.trlab_diagram.specs.Tables.{series_heading, window_text, line_text}
use Rattle.trlab_step.specs.Run.{at_start}
use Rattle.trlab_jobs.specs.{Job.{Job, seed_of, sheet_of}, Stored.IsStoredJob}
use Rattle.trlab_campaign.specs.{SeriesOutput.first_windows, Writers.bytes_of}
use Rattle.trlab_campaign.proofs.SeriesLines.{prefix_of_first, series_stops, series_wrote, then_wrote}
use Rattle.trlab_campaign.proofs.series.write_series.Goals as goal

pub returns-in_err-write_line : goal.returns-in_err-write_line
returns-in_err-write_line g c =
    let stored : IsStoredJob c.args.job = rw (← c.job.view_is) c.job.invariant in
    let windows = c.args.windows.now in
    let count = c.count-count.result in
    let fault = err_from_is_err_and c.from_residual.result c.from_residual.ensures.1 in
    let heading = c.in_err-write_line.ensures.wrote (line_text series_heading) c.series_heading.ensures in
    let writer = c.in_err-write_line.ensures.writer in
    record {
      wrote = rw fault.1 (series_stops c.args.job windows.every windows.from count c.job.inside.steps (at_start (seed_of c.args.job) (sheet_of c.args.job)) stored refl (ap (λ (job : Job). job.steps) c.job.view_is) c.count-count.ensures
          (bytes_of g.K.Sink c.args.writer.now) (bytes_of g.K.Sink c.write_line.new.writer) (λ roads tallies course.
          prefix_of_first (line_text series_heading) (flat_map window_text (first_windows roads tallies windows.every windows.from count)) _ _ heading));
      writer = record { works = rw fault.1 tt; fails = rw (fault.1, fault.2) writer.fails; flushed = writer.flushed };
    }

pub returns : goal.returns
returns g c =
    let stored : IsStoredJob c.args.job = rw (← c.job.view_is) c.job.invariant in
    let windows = c.args.windows.now in
    let count = c.count-count.result in
    let heading = c.in_ok-write_line.ensures.wrote (line_text series_heading) c.series_heading.ensures in
    let writer = c.write_windows-written.ensures.writer in
    record {
      wrote = series_wrote c.args.job windows.every windows.from count c.job.inside.steps c.run_of_job-run.result stored c.run_of_job-run.ensures (ap (λ (job : Job). job.steps) c.job.view_is) c.count-count.ensures
          c.write_windows-written.result _ _ (λ roads tallies course.
          then_wrote c.write_windows-written.result (line_text series_heading) (flat_map window_text (first_windows roads tallies windows.every windows.from count)) _ _ _ heading
          (c.write_windows-written.ensures.wrote roads tallies course));
      writer = record { works = writer.works; fails = writer.fails; flushed = writer.flushed ∙ c.in_ok-write_line.ensures.writer.flushed };
    }

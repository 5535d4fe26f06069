use Rattle.std.proofs.{Common.{◌≡◌, ◌∙◌, ◌+◌, ◌-◌, ap, arith}, lemmas.Result.err_from_is_err_and}
use Rattle.trlab_campaign.{specs.SeriesOutput.IsCourse, proofs.Owed.owes_none}
use Rattle.trlab_campaign.proofs.SeriesLines.{line_on, line_stops, lines_from, next_at}
use Rattle.trlab_campaign.proofs.series.write_windows.Goals as goal
use Rattle.trlab_step.specs.Run.{Seed}

pub returns-in_err-write_window : goal.returns-in_err-write_window
returns-in_err-write_window g c =
    let fault = err_from_is_err_and c.from_residual.result c.from_residual.ensures.1 in
    let inv = c.loop.invariant in
    let windows = c.args.windows.now in
    let left : c.args.count - c.loop.counter ≡ c.args.count - (c.loop.counter + 1) + 1 = omega (arith, c.loop-test.true) in
    let writer = c.in_err-write_window.ensures.writer in
    record {
      wrote = λ roads tallies course.
          let here : IsCourse c.loop.run.seed c.loop.run.sheet roads tallies = rw (inv.seed, inv.sheet) course in
          rw fault.1 (line_stops roads tallies windows.every windows.from c.loop.counter (c.args.count - (c.loop.counter + 1)) c.loop.run.step (lines_from roads tallies windows.every windows.from 0 c.args.count) _ _ _ inv.at
          (rw left at (inv.owes roads tallies course)) (c.in_err-write_window.ensures.wrote roads tallies here));
      writer = record { works = rw fault.1 tt; fails = rw (fault.1, fault.2) writer.fails; flushed = writer.flushed ∙ inv.flushed };
    }

pub loop-preserved : goal.loop-preserved
loop-preserved g c =
    let inv = c.loop.invariant in
    let windows = c.args.windows.now in
    let on = c.in_ok-write_window.ensures.on in
    let left : c.args.count - c.loop.counter ≡ c.args.count - (c.loop.counter + 1) + 1 = omega (arith, c.loop-test.true) in
    record {
      seed = on.same_seed ∙ inv.seed;
      sheet = on.same_sheet ∙ inv.sheet;
      at = next_at windows.from c.loop.counter windows.every c.loop.run.step c.write_window.new.run.step inv.at on.later;
      owes = λ roads tallies course. line_on roads tallies windows.every windows.from c.loop.counter (c.args.count - (c.loop.counter + 1)) c.loop.run.step (lines_from roads tallies windows.every windows.from 0 c.args.count) _ _ _ inv.at
          (rw left at (inv.owes roads tallies course)) (c.in_ok-write_window.ensures.wrote roads tallies (rw (inv.seed, inv.sheet) course));
      works = c.in_ok-write_window.ensures.writer.works;
      flushed = c.in_ok-write_window.ensures.writer.flushed ∙ inv.flushed;
    }

pub skip_steps-requires : goal.skip_steps-requires
skip_steps-requires g c = record { ready = c.requires.ready; room = omega (arith, c.requires.start, c.args.windows.now.in_range) }

pub write_window-requires : goal.write_window-requires
write_window-requires g c =
    let inv = c.loop.invariant in
    let windows = c.args.windows.now in
    record {
      ready = c.requires.ready;
      works = inv.works;
      at_least_one_step = windows.at_least_one_step;
      at_most_max_steps = windows.at_most_max_steps;
      room = omega (arith, inv.at, c.requires.room c.loop.counter c.loop-test.true);
      counts = ap (λ (s : Seed). s.warm) inv.seed ∙ c.requires.counts;
    }

pub returns : goal.returns
returns g c =
    let inv = c.loop.invariant in
    let windows = c.args.windows.now in
    let none : c.args.count - c.loop.counter ≡ 0 = omega (arith, c.loop-test.false) in
    record {
      wrote = λ roads tallies course.
          owes_none (lines_from roads tallies windows.every windows.from 0 c.args.count) _ _ (rw none at (inv.owes roads tallies course));
      writer = record { works = inv.works; fails = tt; flushed = inv.flushed };
    }

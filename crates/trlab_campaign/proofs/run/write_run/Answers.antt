use Rattle.std.proofs.Common.{◌≡◌, ℕ, ◌+◌, ◌-◌, ◌<◌, Bool, ◌∙◌, ap, arith, refl}
use Rattle.std.proofs.lemmas.Result.{err_from_is_err_and}
use Rattle.trlab_campaign.specs.Output.{every_from}
use Rattle.trlab_campaign.proofs.Running.{begin_run, step_on, step_stops, no_step_left, last_wrote}
use Rattle.trlab_campaign.proofs.run.write_run.Goals as goal

pub loop-init : goal.loop-init
loop-init g c =
    let all : c.args.steps - 0 ≡ c.args.steps = omega arith in
    let shown = c.args.shown.now in
    record {
      writes = rw all (begin_run (every_from shown.every shown.from) c.args.steps c.args.run.now _);
      at = c.requires.start;
      works = c.requires.works;
      flushed = refl;
    }

pub returns-in_err-show_step : goal.returns-in_err-show_step
returns-in_err-show_step g c =
    let fault = err_from_is_err_and c.from_residual.result c.from_residual.ensures.1 in
    let shown : ℕ → Bool = every_from c.args.shown.now.every c.args.shown.now.from in
    let inv = c.loop.invariant in
    let writer = c.in_err-show_step.ensures.writer in
    let wrote = rw inv.at at c.in_err-show_step.ensures.wrote in
    record {
      wrote = λ job stored starts ends. rw fault.1
          (step_stops shown c.args.steps c.loop.counter _ c.args.run.now c.loop.run _ _ _ inv.writes c.show_step.ensures.road wrote
          job (record { stored = stored; starts = starts; ends = ends }));
      writer = record {
        works = rw fault.1 tt;
        fails = rw (fault.1, fault.2) writer.fails;
        flushed = writer.flushed ∙ inv.flushed;
      };
    }

pub loop-preserved : goal.loop-preserved
loop-preserved g c =
    let inside : c.loop.counter < c.args.steps = omega (arith, c.loop-test.true, c.last-last.ensures.in_range) in
    let left : c.args.steps - c.loop.counter ≡ c.args.steps - (c.loop.counter + 1) + 1 = omega (arith, inside) in
    let shown : ℕ → Bool = every_from c.args.shown.now.every c.args.shown.now.from in
    let inv = c.loop.invariant in
    let writes = rw left at inv.writes in
    let on = c.in_ok-show_step.ensures.on in
    let writer = c.in_ok-show_step.ensures.writer in
    let wrote = rw inv.at at c.in_ok-show_step.ensures.wrote in
    record {
      writes = step_on shown c.args.steps c.loop.counter _ c.args.run.now c.loop.run _ _ _ _ writes c.show_step.ensures.road wrote on;
      at = on.next_step ∙ ap (λ n. n + 1) inv.at;
      works = writer.works;
      flushed = writer.flushed ∙ inv.flushed;
    }

pub returns : goal.returns
returns g c =
    let last = no_step_left c.loop.counter c.last-last.result c.loop.auto.counter-end c.loop-test.false in
    let shown : ℕ → Bool = every_from c.args.shown.now.every c.args.shown.now.from in
    let inv = c.loop.invariant in
    let writes = rw last at inv.writes in
    let wrote = rw (inv.at, last) at c.show_last.ensures.wrote in
    let writer = c.show_last.ensures.writer in
    record {
      wrote = λ job stored starts ends.
          last_wrote c.show_last.result shown c.args.steps c.last-last.result _ c.args.run.now c.loop.run _ _ _ _ writes c.show_last.ensures.road wrote
          c.last-last.ensures.none_later job (record { stored = stored; starts = starts; ends = ends });
      writer = record { works = writer.works; fails = writer.fails; flushed = writer.flushed ∙ inv.flushed };
    }

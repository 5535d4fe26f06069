use Rattle.std.proofs.{lemmas.Result.err_from_is_err_and, Common.refl}
use Rattle.trlab_campaign.proofs.{WrittenBytes.prefix_whole, Faults.by_memory}
use Rattle.trlab_campaign.proofs.run.show_step.Goals as goal

pub returns-in_err-write_step_text : goal.returns-in_err-write_step_text
returns-in_err-write_step_text g c =
    let fault = err_from_is_err_and c.from_residual.result c.from_residual.ensures.1 in
    let writer = c.in_err-write_step_text.ensures.writer in
    let seen = rw (c.has-text.ensures, c.step-text.ensures.value) at c.advance_showing-advanced.ensures.seen in
    record {
      road = c.advance_showing-advanced.ensures.run;
      wrote = rw fault.1 (c.in_err-write_step_text.ensures.wrote _ seen);
      on = rw fault.1 tt;
      writer = record { works = rw fault.1 tt; fails = rw (fault.1, fault.2) writer.fails; flushed = writer.flushed };
    }

pub returns-in-Err : goal.returns-in-Err
returns-in-Err g c =
    let writer = c.in_ok-write_step_text.ensures.writer in
    let seen = rw (c.has-text.ensures, c.step-text.ensures.value) at c.advance_showing-advanced.ensures.seen in
    record {
      road = c.advance_showing-advanced.ensures.run;
      wrote = prefix_whole _ _ _ (c.in_ok-write_step_text.ensures.wrote _ seen);
      on = tt;
      writer = record { works = tt; fails = by_memory _ _ refl writer.works; flushed = writer.flushed };
    }

pub returns-in-Ok : goal.returns-in-Ok
returns-in-Ok g c =
    let writer = c.in_ok-write_step_text.ensures.writer in
    let seen = rw (c.has-text.ensures, c.step-text.ensures.value) at c.advance_showing-advanced.ensures.seen in
    record {
      road = c.advance_showing-advanced.ensures.run;
      wrote = c.in_ok-write_step_text.ensures.wrote _ seen;
      on = c.in-Ok.ensures.on;
      writer = record { works = writer.works; fails = tt; flushed = writer.flushed };
    }

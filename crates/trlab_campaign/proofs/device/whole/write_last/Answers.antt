use Rattle.std.proofs.{Common.{ap, inl, inr, ◌∙◌}, Math.Bool.or-false, lemmas.Result.err_from_is_err_and}
use Rattle.trlab_campaign.{specs.Device.once_more, proofs.WrittenBytes.{adds_kept, prefix_kept}}
use Rattle.trlab_campaign.proofs.device.whole.write_last.Goals as goal

pub returns-in_err-write_text : goal.returns-in_err-write_text
returns-in_err-write_text g c =
    let fault = err_from_is_err_and c.from_residual.result c.from_residual.ensures.1 in
    record {
      wrote = rw fault.1 c.in_err-write_text.ensures.wrote;
      handed = rw fault.1 tt;
      flushed = inl c.in_err-write_text.ensures.flushed;
      fails = rw fault.1 c.in_err-write_text.ensures.fails;
    }

pub returns : goal.returns
returns g c = record {
  wrote = adds_kept _ _ _ _ c.in_ok-write_text.ensures.wrote (record { accepted = c.in_ok-flush.ensures.accepts; told = c.in_ok-flush.ensures.bytes });
  handed = (c.in_ok-flush.ensures.handed, c.in_ok-flush.ensures.flushed ∙ ap once_more c.in_ok-write_text.ensures.flushed);
  flushed = inr (c.in_ok-flush.ensures.flushed ∙ ap once_more c.in_ok-write_text.ensures.flushed);
  fails = c.in_ok-flush.ensures.fails ∙ (or-false _ ∙ c.in_ok-write_text.ensures.fails);
}

pub returns-in_err-flush : goal.returns-in_err-flush
returns-in_err-flush g c =
    let fault = err_from_is_err_and c.from_residual-in_err-flush.result c.from_residual-in_err-flush.ensures.1 in
    record {
      wrote = rw fault.1 (prefix_kept _ _ _ _ c.in_ok-write_text.ensures.wrote (record { accepted = c.in_err-flush.ensures.accepts; told = c.in_err-flush.ensures.bytes }));
      handed = rw fault.1 tt;
      flushed = inr (c.in_err-flush.ensures.flushed ∙ ap once_more c.in_ok-write_text.ensures.flushed);
      fails = rw fault.1 (rw (c.in_ok-write_text.ensures.fails, or-false) at c.in_err-flush.ensures.fails);
    }

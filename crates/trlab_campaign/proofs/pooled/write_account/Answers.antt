use Rattle.std.proofs.Common.{◌∙◌, ap, false, inr, refl}
use Rattle.trlab_campaign.{specs.Device.once_more, proofs.Endings.all_kept}
use Rattle.trlab_campaign.proofs.pooled.write_account.Goals as goal

pub returns-in-Err : goal.returns-in-Err
returns-in-Err g c = record {
  answer = all_kept (g.C.Account.outputs c.args.account.now c.args.job) false _ _ _ c.in-Ok.ensures.wrote (record { accepted = c.in-Err.ensures.accepts; told = c.in-Err.ensures.bytes });
  handed = inr (c.in-Err.ensures.flushed ∙ ap once_more c.in-Ok.ensures.writer.flushed);
  device = (λ _. rw c.in-Ok.ensures.writer.works at c.in-Err.ensures.fails, λ _. refl);
}

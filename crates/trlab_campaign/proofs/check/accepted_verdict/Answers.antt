use Rattle.std.proofs.Common.{refl}
use Rattle.trlab_campaign.proofs.check.accepted_verdict.Goals as goal

pub returns : goal.returns
returns c = (refl, c.in_ok-text.ensures)

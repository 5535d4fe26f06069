use Rattle.trlab_verify.proofs.Judged.{accepted_or_refused}
use Rattle.trlab_verify.proofs.laws.each_is_judged.Goals as goal

pub returns : goal.returns
returns c = accepted_or_refused

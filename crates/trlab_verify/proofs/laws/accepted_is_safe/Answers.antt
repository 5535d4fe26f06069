use Rattle.trlab_verify.proofs.Runs.{sound}
use Rattle.trlab_verify.proofs.laws.accepted_is_safe.Goals as goal

pub returns : goal.returns
returns c = sound

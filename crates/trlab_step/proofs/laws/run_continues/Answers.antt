use Rattle.trlab_step.proofs.RunLaws.{run_continues}
use Rattle.trlab_step.proofs.laws.run_continues.Goals as goal

pub returns : goal.returns
returns c = run_continues

use Rattle.std.proofs.{Common.arith, lemmas.Grind.common_steps}
use Rattle.trlab_jobs.proofs.sweep.next_count.Goals as goal

pub returns-clause-reported : goal.returns-clause-reported
returns-clause-reported c = grind (arith, common_steps)

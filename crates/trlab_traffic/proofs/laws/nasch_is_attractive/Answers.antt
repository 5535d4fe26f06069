use Rattle.trlab_traffic.proofs.Attractiveness.{run_keeps_order, step_keeps_order}
use Rattle.trlab_traffic.proofs.laws.nasch_is_attractive.Goals as goal

pub returns : goal.returns
returns c = record { step = step_keeps_order; run = run_keeps_order }

use Rattle.trlab_traffic.proofs.Exchanging.{rickert_ignores_lane, run_is_symmetric, step_is_symmetric}
use Rattle.trlab_traffic.proofs.laws.lanes_are_symmetric.Goals as goal

pub returns : goal.returns
returns c = record { rickert = rickert_ignores_lane; step = step_is_symmetric; run = run_is_symmetric }

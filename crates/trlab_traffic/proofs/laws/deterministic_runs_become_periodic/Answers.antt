use Rattle.trlab_traffic.proofs.Determinism.{deterministic_runs_become_periodic}
use Rattle.trlab_traffic.proofs.laws.deterministic_runs_become_periodic.Goals as goal

pub returns : goal.returns
returns c = deterministic_runs_become_periodic

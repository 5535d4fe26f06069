use Rattle.trlab_traffic.proofs.Homogeneity.{run_is_homogeneous, step_is_homogeneous}
use Rattle.trlab_traffic.proofs.laws.ring_is_homogeneous.Goals as goal

pub returns : goal.returns
returns c = record { step = step_is_homogeneous; run = run_is_homogeneous }

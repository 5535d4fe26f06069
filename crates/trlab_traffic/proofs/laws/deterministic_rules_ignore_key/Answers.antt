use Rattle.trlab_traffic.proofs.Determinism.{nasch_without_randomization, run_is_deterministic}
use Rattle.trlab_traffic.proofs.Determinism.{step_is_deterministic}
use Rattle.trlab_traffic.proofs.laws.deterministic_rules_ignore_key.Goals as goal

pub returns : goal.returns
returns c = record { nasch = nasch_without_randomization; step = step_is_deterministic; run = run_is_deterministic }

use Rattle.trlab_traffic.proofs.Detecting.{detectors_count_distance, step_is_continuous}
use Rattle.trlab_traffic.proofs.Passages.{detector_counts_one}
use Rattle.trlab_traffic.proofs.laws.detectors_count_flow.Goals as goal

pub returns : goal.returns
returns c = record { distance = detectors_count_distance; one = detector_counts_one; step = step_is_continuous }

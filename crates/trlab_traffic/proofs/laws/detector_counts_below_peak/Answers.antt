use Rattle.trlab_traffic.proofs.Passages.{detector_counts_below_peak}
use Rattle.trlab_traffic.proofs.laws.detector_counts_below_peak.Goals as goal

pub returns : goal.returns
returns c = detector_counts_below_peak

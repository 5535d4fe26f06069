use Rattle.trlab_traffic.proofs.Moving.{run_keeps_below_peak}
use Rattle.trlab_traffic.proofs.laws.run_keeps_below_peak.Goals as goal

pub returns : goal.returns
returns c = run_keeps_below_peak

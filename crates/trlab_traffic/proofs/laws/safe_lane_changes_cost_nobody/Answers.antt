use Rattle.trlab_traffic.proofs.SafeChanges.{rickert_changes_safely, safe_changes_cost_nobody}
use Rattle.trlab_traffic.proofs.SafeChanges.{safe_changes_cost_nobody_in_vdr}
use Rattle.trlab_traffic.proofs.laws.safe_lane_changes_cost_nobody.Goals as goal

pub returns : goal.returns
returns c = record { nasch = safe_changes_cost_nobody; vdr = safe_changes_cost_nobody_in_vdr; rickert = rickert_changes_safely }

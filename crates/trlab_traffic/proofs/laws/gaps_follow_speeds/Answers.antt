use Rattle.trlab_traffic.proofs.Gaps.{gaps_follow_speeds}
use Rattle.trlab_traffic.proofs.laws.gaps_follow_speeds.Goals as goal

pub returns : goal.returns
returns c = gaps_follow_speeds

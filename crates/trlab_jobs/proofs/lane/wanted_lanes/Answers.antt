use Rattle.std.proofs.Common.{rules}
use Rattle.trlab_jobs.proofs.lane.wanted_lanes.Goals as goal

pub returns-in-SpeedAboveLimit : goal.returns-in-SpeedAboveLimit
returns-in-SpeedAboveLimit c = search rules

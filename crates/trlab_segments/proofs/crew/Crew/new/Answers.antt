use Rattle.std.proofs.Common.{rules}
use Rattle.trlab_segments.proofs.crew.Crew.new.Goals as goal

pub returns : goal.returns
returns g c = search rules

use Rattle.std.proofs.Common.{rules}
use Rattle.trlab_segments.proofs.parts.ask_whole.Goals as goal

pub returns : goal.returns
returns g c = search rules

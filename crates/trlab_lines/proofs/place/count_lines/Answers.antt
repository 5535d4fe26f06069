use Rattle.std.proofs.Common.{rules}
use Rattle.trlab_lines.proofs.place.count_lines.Goals as goal

pub loop-rest-preserved : goal.loop-rest-preserved
loop-rest-preserved c = search rules

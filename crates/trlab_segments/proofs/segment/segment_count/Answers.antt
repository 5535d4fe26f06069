use Rattle.std.proofs.Common.{rules}
use Rattle.trlab_segments.proofs.segment.segment_count.Goals as goal

pub returns : goal.returns
returns c = search rules

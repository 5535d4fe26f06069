use Rattle.std.proofs.Common.{rules}
use Rattle.trlab_diagram.proofs.series.SeriesLines.window_text.Goals as goal

pub invariant_of-self-else-len-gt-MAX_WRITER_BYTES : goal.invariant_of-self-else-len-gt-MAX_WRITER_BYTES
invariant_of-self-else-len-gt-MAX_WRITER_BYTES c = search rules

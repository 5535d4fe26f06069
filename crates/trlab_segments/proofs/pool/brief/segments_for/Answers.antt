use Rattle.trlab_segments.proofs.Borders.{no_car_behind}
use Rattle.std.proofs.Common.{arith}
use Rattle.trlab_segments.proofs.pool.brief.segments_for.Goals as goal

pub returns : goal.returns
returns c = no_car_behind c.args.cars c.max.result c.args.workers c.requires.0 (omega (arith, c.segment_count.ensures, c.max.ensures))

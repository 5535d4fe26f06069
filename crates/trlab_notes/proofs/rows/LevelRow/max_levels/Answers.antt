use Rattle.trlab_notes.proofs.Bits.{either_is}
use Rattle.trlab_notes.proofs.rows.LevelRow.max_levels.Goals as goal

pub returns : goal.returns
returns c = either_is c.args.self c.args.other

use Rattle.trlab_notes.proofs.Bits.{ahead_is}
use Rattle.trlab_notes.proofs.rows.LevelRow.known_bits.Goals as goal

pub returns : goal.returns
returns c = ahead_is c.args.self

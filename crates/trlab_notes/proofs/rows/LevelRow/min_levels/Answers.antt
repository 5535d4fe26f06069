use Rattle.trlab_notes.proofs.Bits.{both_is}
use Rattle.trlab_notes.proofs.rows.LevelRow.min_levels.Goals as goal

pub returns : goal.returns
returns c = λ y. both_is c.args.self c.args.other c.known_bits.result c.known_bits-2.result y (c.known_bits.ensures y) (c.known_bits-2.ensures y)

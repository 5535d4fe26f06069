use Rattle.std.proofs.Common.{arith}
use Rattle.trlab_notes.proofs.Bits.{is_below, is_not_below}
use Rattle.trlab_notes.proofs.rows.LevelRow.level.Goals as goal

pub overflow_cast-result : goal.overflow_cast-result
overflow_cast-result c = omega arith

pub returns-then-self-y-eq1 : goal.returns-then-self-y-eq1
returns-then-self-y-eq1 c = is_below c.args.self c.args.y c.if-self-y-eq1.true

pub returns-else-self-y-eq1 : goal.returns-else-self-y-eq1
returns-else-self-y-eq1 c = is_not_below c.args.self c.args.y c.if-self-y-eq1.false

use Rattle.trlab_notes.proofs.Filling.{more_variables}
use Rattle.trlab_notes.proofs.rows.column.Goals as goal

pub loop-x-preserved : goal.loop-x-preserved
loop-x-preserved c =
    more_variables _ c.with-column.result c.loop-x.column c.loop-x.x _ c.with-column.ensures c.loop-x-test.true c.level.ensures c.loop-x.invariant

use Rattle.trlab_notes.proofs.Filling.{more_variables}
use Rattle.trlab_notes.proofs.levels.known_row.Goals as goal

pub loop-y-preserved : goal.loop-y-preserved
loop-y-preserved c =
    more_variables _ c.with-row.result c.loop-y.row c.loop-y.y _ c.with-row.ensures c.loop-y-test.true c.level_between.ensures c.loop-y.invariant

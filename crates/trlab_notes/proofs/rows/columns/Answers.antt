use Rattle.std.proofs.Common.{◌∙◌, arith, length-set}
use Rattle.trlab_notes.proofs.Filling.{more_rows}
use Rattle.trlab_notes.proofs.rows.columns.Goals as goal

pub loop-y-preserved : goal.loop-y-preserved
loop-y-preserved c = let so_far = c.loop-y.invariant in record {
  all = length-set c.loop-y.columns c.loop-y.y c.column.result ∙ so_far.all;
  so_far = more_rows _ c.loop-y.columns c.loop-y.y c.column.result (omega arith) c.column.ensures so_far.so_far;
}

use Rattle.std.proofs.Common.{◌∙◌, arith, length-set}
use Rattle.trlab_notes.proofs.Filling.{more_rows}
use Rattle.trlab_notes.proofs.rows.join_rows.Goals as goal

pub loop-x-preserved : goal.loop-x-preserved
loop-x-preserved c = let so_far = c.loop-x.invariant in record {
  all = length-set c.loop-x.common c.loop-x.x c.min_levels.result ∙ so_far.all;
  so_far = more_rows _ c.loop-x.common c.loop-x.x c.min_levels.result (omega arith) (λ y _. c.min_levels.ensures y) so_far.so_far;
}

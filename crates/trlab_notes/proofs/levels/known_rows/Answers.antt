use Rattle.std.proofs.Common.{◌∙◌, arith, length-set}
use Rattle.trlab_notes.proofs.Filling.{more_rows}
use Rattle.trlab_notes.proofs.levels.known_rows.Goals as goal

pub loop-x-preserved : goal.loop-x-preserved
loop-x-preserved c = let so_far = c.loop-x.invariant in record {
  all = length-set c.loop-x.rows c.loop-x.x c.known_row.result ∙ so_far.all;
  so_far = more_rows _ c.loop-x.rows c.loop-x.x c.known_row.result (omega arith) c.known_row.ensures so_far.so_far;
}

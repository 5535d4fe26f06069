use Rattle.std.proofs.Common.{◌∙◌, arith, length-set}
use Rattle.trlab_notes.proofs.Filling.{more_rows}
use Rattle.trlab_notes.proofs.rows.refine_rows.Goals as goal

pub loop-x-preserved : goal.loop-x-preserved
loop-x-preserved c = let so_far = c.loop-x.invariant in record {
  all = length-set c.loop-x.refined c.loop-x.x c.with.result ∙ so_far.all;
  so_far = more_rows _ c.loop-x.refined c.loop-x.x c.with.result (omega arith) (λ y inside. rw (c.level-in-loop-x.ensures, c.max_levels-more.ensures y, c.chain.ensures y, c.level.ensures) at (c.with.ensures y inside)) so_far.so_far;
}

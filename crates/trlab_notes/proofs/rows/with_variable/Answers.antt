use Rattle.std.proofs.Common.{◌∙◌, arith, length-set, eq-eqb, ne_eqb}
use Rattle.trlab_notes.proofs.{Filling.more_rows, rows.with_variable.Goals.{then-x-variable, else-x-variable}}
use Rattle.trlab_notes.proofs.rows.with_variable.Goals as goal

pub loop-x-preserved : goal.loop-x-preserved
loop-x-preserved c = let so_far = c.loop-x.invariant in record {
  all = length-set c.loop-x.changed c.loop-x.x c.if-x-variable.changed ∙ so_far.all;
  so_far = more_rows _ c.loop-x.changed c.loop-x.x c.if-x-variable.changed (omega arith) (λ y inside. elim c.if-x-variable.branch [ then-x-variable w ↦ rw (w.changed-is, eq-eqb _ _ w.if-x-variable.true) | else-x-variable w ↦ rw (w.changed-is, ne_eqb _ _ w.if-x-variable.false) (rw w.level.ensures at (w.with.ensures y inside)) ]) so_far.so_far;
}

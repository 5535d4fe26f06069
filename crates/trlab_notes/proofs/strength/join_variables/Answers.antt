use Rattle.std.proofs.Common.{◌<◌, ◌≢◌, length, arith, get_or-set_other, get_or-set_same, below_more}
use Rattle.std.proofs.lemmas.Grind.{common_steps}
use Rattle.trlab_notes.proofs.strength.join_variables.Goals as goal

pub loop-x-preserved : goal.loop-x-preserved
loop-x-preserved c = (
  grind (arith, common_steps, c.loop-x.invariant.0),
  below_more _ _
      (λ k h. let ne : k ≢ c.loop-x.x = omega arith in rw get_or-set_other (c.loop-x.invariant.1 k h))
      (let lt : c.loop-x.x < length c.loop-x.values = grind (arith, c.loop-x.invariant.0) in rw get_or-set_same (grind (arith, c.join_values.ensures, c.value_at.ensures, c.value_at-in-loop-x.ensures))),
)

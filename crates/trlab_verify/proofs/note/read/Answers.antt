use Rattle.std.proofs.Common.{◌≡◌, ◌∙◌, sym, Bool, false, IsTrue}
use Rattle.trlab_verify.proofs.Forms.{levels_below, levels_above, read_is}
use Rattle.trlab_verify.proofs.note.read.Goals as goal

both_false : (b : Bool) → IsTrue b → b ≡ false → ⊥
both_false b e f = cc (sym e ∙ f)

pub returns-then-not-has_levels-clause-none : goal.returns-then-not-has_levels-clause-none
returns-then-not-has_levels-clause-none c = λ e h. both_false c.has_levels.result (c.has_levels.ensures.1 (levels_below c.args.kind c.args.form.now c.variables-values.result c.variables-values.ensures h)) c.if-not-has_levels.true

pub returns-clause-some : goal.returns-clause-some
returns-clause-some c = levels_above c.args.kind c.args.form.now c.variables-values.result c.variables-values.ensures (c.has_levels.ensures.0 c.if-not-has_levels.false)

pub returns-clause-stored : goal.returns-clause-stored
returns-clause-stored c = c.new.ensures ∙ read_is c.args.kind c.args.form.now c.variables-values.result c.variables-values.ensures

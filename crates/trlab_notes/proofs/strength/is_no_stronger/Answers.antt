use Rattle.std.proofs.{Common.{◌∙◌, refl, sym}, lemmas.Bool.both_ways}
use Rattle.trlab_notes.proofs.Tables.{no_stronger, no_stronger_said, no_stronger_levels}
use Rattle.trlab_notes.proofs.strength.is_no_stronger.Goals.{then-has_weaker_variables}
use Rattle.trlab_notes.proofs.strength.is_no_stronger.Goals.{else-has_weaker_variables}
use Rattle.trlab_notes.proofs.strength.is_no_stronger.Goals as goal

pub returns-then-not-m : goal.returns-then-not-m
returns-then-not-m c = (
  λ _. elim c.if-has_weaker_variables.branch [
    | then-has_weaker_variables w ↦ no_stronger c.args.m.now c.args.n.now (c.has_weaker_variables.ensures.0 w.if-has_weaker_variables.true) (w.has_smaller_levels.ensures.0 (sym w.value-is ∙ c.if-has_smaller_levels.true)) (λ s. absurd (both_ways _ c.if-not-m.true s))
    | else-has_weaker_variables w ↦ absurd (both_ways _ (w.value-is ∙ w.if-has_weaker_variables.false) c.if-has_smaller_levels.true)
  ],
  λ _. rw c.if-not-m.true refl,
)

pub returns-else-not-m : goal.returns-else-not-m
returns-else-not-m c = (
  λ s. elim c.if-has_weaker_variables.branch [
    | then-has_weaker_variables w ↦ no_stronger c.args.m.now c.args.n.now (c.has_weaker_variables.ensures.0 w.if-has_weaker_variables.true) (w.has_smaller_levels.ensures.0 (sym w.value-is ∙ c.if-has_smaller_levels.true)) (λ _. s)
    | else-has_weaker_variables w ↦ absurd (both_ways _ (w.value-is ∙ w.if-has_weaker_variables.false) c.if-has_smaller_levels.true)
  ],
  λ h. h.beside c.if-not-m.false,
)

pub returns-else-has_smaller_levels : goal.returns-else-has_smaller_levels
returns-else-has_smaller_levels c = (
  λ s. absurd (both_ways _ c.if-has_smaller_levels.false s),
  λ h. elim c.if-has_weaker_variables.branch [
    | then-has_weaker_variables w ↦ w.value-is ∙ w.has_smaller_levels.ensures.1 (no_stronger_levels c.args.m.now c.args.n.now h)
    | else-has_weaker_variables w ↦ w.value-is ∙ c.has_weaker_variables.ensures.1 (no_stronger_said c.args.m.now c.args.n.now h)
  ],
)

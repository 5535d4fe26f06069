use Rattle.std.proofs.Common.{◌≡◌, Bool, refl}
use Rattle.trlab_notes.specs.declared.note.AbstractValue.{AbstractValue, TheVariants.{Unknown, Between}}
use Rattle.trlab_notes.specs.{declared.note.AbstractValue.TheVariants.Implies, Notes.with_side}
use Rattle.trlab_notes.proofs.levels.with_side.Goals as goal

no_flag : (side : Bool) (s : AbstractValue) → ((imp : Bool) → s ≡ Implies imp → ⊥) → s ≡ with_side side s
no_flag side Unknown other = refl
no_flag side (Between lo hi) other = refl
no_flag side (Implies imp) other = absurd (other imp refl)

pub returns-then-imp : goal.returns-then-imp
returns-then-imp c = rw (c.in-Implies.is, c.if-imp.true)

pub returns-else-imp : goal.returns-else-imp
returns-else-imp c = rw (c.in-Implies.is, c.if-imp.false)

pub returns-in_default : goal.returns-in_default
returns-in_default c = no_flag c.args.side _ c.in_default.not-Implies

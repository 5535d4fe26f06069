use Rattle.std.proofs.Common.{◌≡◌, ℕ, ◌<◌, get_or, length}
use Rattle.trlab_bounds.specs.declared.programs.TheConstants.{VARIABLES}
use Rattle.trlab_code.specs.declared.instruction.Input.{Input}
use Rattle.trlab_code.specs.declared.instruction.Variable.TheVariants as variable
use Rattle.trlab_notes.specs.{declared.note.AbstractValue.TheVariants.Unknown, Notes.entry_values}
use Rattle.trlab_notes.specs.Rows.{value_in}
use Rattle.trlab_verify.specs.{declared.note.Mark.TheVariants.Unset, Tables.mark_value}
use Rattle.trlab_verify.proofs.note.variables.Given as goal

abbrev pub invariant-loop-x : goal.invariant-loop-x
invariant-loop-x l = record {
  all : length l.variables ≡ VARIABLES;
  so_far : (k : ℕ) → k < l.x → get_or l.variables k Unknown ≡ mark_value (get_or l.form.regs k Unset);
  rest : (k : Input) → value_in l.variables (variable.Input k) ≡ entry_values l.fn.kind (variable.Input k);
}

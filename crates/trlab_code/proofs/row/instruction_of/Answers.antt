use Rattle.std.proofs.Common.{◌≡◌, Bool, true, false, sym, subst}
use Rattle.trlab_code.specs.Program.{IsInRange, VersionAllows}
use Rattle.trlab_code.proofs.row.instruction_of.Goals.{else-is_row_of-via-then-is_row_of+then-is_in_range+else-is_of_version}
use Rattle.trlab_code.proofs.row.instruction_of.Goals.{else-is_row_of-via-then-is_row_of+else-is_in_range}
use Rattle.trlab_code.proofs.row.instruction_of.Goals.{else-is_row_of-via-else-is_row_of}
use Rattle.trlab_code.proofs.row.instruction_of.Goals as goal

differ : (b : Bool) → b ≡ true → b ≡ false → ⊥
differ b t f = cc

pub returns-then-is_of_version-clause-some : goal.returns-then-is_of_version-clause-some
returns-then-is_of_version-clause-some c = (
  c.is_row_of.ensures.0 c.if-is_row_of.true,
  c.is_in_range.ensures.0 c.if-is_in_range.true,
  c.is_of_version.ensures.0 c.if-is_of_version.true,
)

pub returns-then-is_of_version-clause-none : goal.returns-then-is_of_version-clause-none
returns-then-is_of_version-clause-none c = λ e. absurd cc

pub returns-else-is_row_of-clause-none : goal.returns-else-is_row_of-clause-none
returns-else-is_row_of-clause-none c = λ e instr is range version.
    let it = c.candidate-instr.ensures instr is in
    elim c.else-is_row_of.branch [
      | else-is_row_of-via-then-is_row_of+then-is_in_range+else-is_of_version w ↦
          differ _ (w.is_of_version.ensures.1 (subst (λ i. VersionAllows c.args.version i) (sym it) version)) w.if-is_of_version.false
      | else-is_row_of-via-then-is_row_of+else-is_in_range w ↦ differ _ (w.is_in_range.ensures.1 (subst IsInRange (sym it) range)) w.if-is_in_range.false
      | else-is_row_of-via-else-is_row_of w ↦ differ _ (c.is_row_of.ensures.1 (rw it is)) w.if-is_row_of.false
    ]

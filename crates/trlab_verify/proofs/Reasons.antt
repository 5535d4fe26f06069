-- No reason holds against the note of an instruction without a fault.
use Rattle.std.proofs.Common.{◌≡◌, ℕ, refl, subst, length, Option, Some, None, slice_get, option_map}
use Rattle.trlab_code.specs.{declared.{program.Kind.Kind, instruction.Instr.Instr}, Program.Program}
use Rattle.trlab_notes.specs.{declared.reasons.Reason.Reason, Notes.Note}
use Rattle.trlab_notes.specs.Reasons.{reason_against, reason_number}
use Rattle.trlab_verify.specs.Verdict.{note_at, first_reason_at, reason_number_at}

no_reason : (o : Option Reason) → option_map reason_number o ≡ None → o ≡ None
no_reason None h = refl
no_reason (Some reason) h = absurd (cc h)

noted_reason : (kind own : Kind) (len : ℕ) (note : Option Note) (i : Instr) (pc : ℕ) → first_reason_at kind own len pc note (Some i) ≡ None →
    (m : Note) × (note ≡ Some m) × (reason_against kind own len pc m i ≡ None)
noted_reason kind own len None i pc h = absurd (cc h)
noted_reason kind own len (Some m) i pc h = (m, refl, h)

-- the note of an instruction with no fault
pub noted : (kind : Kind) (program : Program) (pc : ℕ) (i : Instr) → slice_get program.instrs pc ≡ Some i → reason_number_at kind program pc ≡ None →
    (m : Note) × (note_at kind program.instrs pc ≡ Some m) × (reason_against kind program.kind (length program.instrs) pc m i ≡ None)
unfolding reason_number_at
noted kind program pc i e h =
    noted_reason kind program.kind (length program.instrs) (note_at kind program.instrs pc) i pc
    (no_reason _ (subst (λ z. option_map reason_number (first_reason_at kind program.kind (length program.instrs) pc (note_at kind program.instrs pc) z) ≡ None) e h))

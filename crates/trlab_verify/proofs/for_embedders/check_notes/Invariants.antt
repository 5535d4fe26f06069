use Rattle.std.proofs.Common.{◌≡◌, ℕ, ◌<◌, Some, slice_get}
use Rattle.trlab_code.specs.declared.instruction.Instr.{Instr}
use Rattle.trlab_verify.specs.Tables.{meaning_at, ChecksAt}
use Rattle.trlab_verify.proofs.for_embedders.check_notes.Given as goal

abbrev pub invariant-loop-pc : goal.invariant-loop-pc
invariant-loop-pc l = (k : ℕ) → k < l.pc → (i : Instr) → slice_get l.instrs k ≡ Some i → ChecksAt l.kind (record { kind = l.kind; instrs = l.instrs }) (meaning_at l.kind l.table) k i

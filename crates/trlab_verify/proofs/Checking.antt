-- Tables that check, as functions from a pc to its note.
use Rattle.std.proofs.Common.{◌≡◌, ℕ, suc, ◌<◌, subst, List, length, Some, None, slice_get, IfSome}
use Rattle.std.proofs.lemmas.Option.{slice_get_within}
use Rattle.trlab_code.specs.{declared.{program.Kind.Kind, instruction.Instr.Instr}, Program.Program}
use Rattle.trlab_notes.specs.{Notes.{Note, entry, IsNoStronger}, Transfer.{next_note, jump_note}}
use Rattle.trlab_notes.specs.Reasons.{reason_against}
use Rattle.trlab_verify.specs.Tables.{Checks, ChecksAt, note_in}

-- a table that checks, as a function from pcs
pub record ChecksBy (kind : Kind) (program : Program) (note : ℕ → Note) : Type 0 where
  pub first : IsNoStronger (note 0) (entry kind)
  pub each : (pc : ℕ) (i : Instr) → slice_get program.instrs pc ≡ Some i → ChecksAt kind program note pc i

pub by_notes : (kind : Kind) (program : Program) (table : List Note) → Checks kind program table → ChecksBy kind program (note_in table)
by_notes kind program table h = record { first = h.first; each = h.each }

-- two functions that agree on the program's instructions check alike
module _ (kind : Kind) (program : Program) (note other : ℕ → Note) (same : (pc : ℕ) → pc < length program.instrs → note pc ≡ other pc) where
  pub at_same : (pc : ℕ) (i : Instr) → slice_get program.instrs pc ≡ Some i → ChecksAt kind program note pc i → ChecksAt kind program other pc i
  at_same pc i e h =
      let here : note pc ≡ other pc = same pc (slice_get_within program.instrs pc i e) in
      record {
        reached = h.reached;
        clear = subst (λ z. reason_against kind program.kind (length program.instrs) pc z i ≡ None) here h.clear;
        falls = λ lt. subst (λ z. IfSome (next_note z i) (IsNoStronger (other (suc pc)))) here (subst (λ z. IfSome (next_note (note pc) i) (IsNoStronger z)) (same (suc pc) lt) (h.falls lt));
        jumps = λ t et lt. subst (λ z. IsNoStronger (other t) (jump_note z i)) here (subst (λ z. IsNoStronger z (jump_note (note pc) i)) (same t lt) (h.jumps t et lt));
      }

-- a table whose notes are those of a function that checks
pub as_table : (kind : Kind) (program : Program) (table : List Note) (note : ℕ → Note) → ((pc : ℕ) → pc < length program.instrs → note pc ≡ note_in table pc) →
    length table ≡ length program.instrs → IsNoStronger (note_in table 0) (entry kind) → ChecksBy kind program note → Checks kind program table
as_table kind program table note same len first h =
    record { one_each = len; first = first; each = λ pc i e. at_same kind program note (note_in table) same pc i e (h.each pc i e) }

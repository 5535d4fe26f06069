-- Bytes have one first fault.
use Rattle.std.proofs.Common.{◌≡◌, ◌≢◌, ℕ, ◌<◌, ◌⊎◌, List, refl, sym, ap, subst, arith, inl, inr}
use Rattle.std.proofs.lemmas.Bool.{cases_order}
use Rattle.trlab_code.specs.{declared.fault.CodeFault.CodeFault, Faults.{HasOpcode, IsFirstCodeFault, row_at}}
use Rattle.trlab_code.proofs.EncodedCode.{opcode_of_row}
use Rattle.trlab_code.specs.declared.fault.CodeFault.TheVariants as fault

-- the order in which faults are found; faults of rows differ by their rows
rank : CodeFault → ℕ
rank fault.Short = 0
rank fault.Magic = 1
rank fault.Version = 2
rank fault.Kind = 3
rank fault.Count = 4
rank (fault.Opcode pc) = 5
rank (fault.Field pc) = 6
rank fault.NeedlessVersion = 7
rank fault.Trailing = 8
rank fault.Memory = 9

-- an opcode that is no instruction's and a field out of range are not both the first fault
rows_apart : (bytes : List ℕ) (pc qc : ℕ) → IsFirstCodeFault bytes (fault.Opcode pc) → IsFirstCodeFault bytes (fault.Field qc) → ⊥
rows_apart bytes pc qc f g =
    elim (cases_order pc qc) [
      | inl same ↦ f.2 (let P : ℕ → Type 0 = λ k. HasOpcode (row_at bytes k) in subst P (sym same) g.2.0)
      | inr other ↦ elim other [
        | inl below ↦ f.2 (opcode_of_row _ _ (g.1.rows pc below))
        | inr above ↦ g.2.1 (f.1.rows qc above)
      ]
    ]

-- two faults of different ranks are not both first
not_both : (bytes : List ℕ) (f g : CodeFault) → rank f < rank g → IsFirstCodeFault bytes f → IsFirstCodeFault bytes g → g ≡ fault.Memory
unfolding rank
not_both bytes fault.Short fault.Magic lt f g = elim f [ inl short ↦ absurd (short g.0) | inr short ↦ absurd (g.1 short.0.magic) ]
not_both bytes fault.Short fault.Version lt f g = elim f [ inl short ↦ absurd (short g.0) | inr short ↦ absurd (g.2 short.0.version) ]
not_both bytes fault.Short fault.Kind lt f g = elim f [ inl short ↦ absurd (short g.0) | inr short ↦ absurd (g.2.1 short.0.kind) ]
not_both bytes fault.Short fault.Count lt f g = elim f [ inl short ↦ absurd (short g.0) | inr short ↦ absurd (g.2.2 short.0.count) ]
not_both bytes fault.Short (fault.Opcode pc) lt f g = elim f [ inl short ↦ absurd (short g.1.header.whole) | inr short ↦ absurd (short.1 g.1.room) ]
not_both bytes fault.Short (fault.Field pc) lt f g = elim f [ inl short ↦ absurd (short g.1.header.whole) | inr short ↦ absurd (short.1 g.1.room) ]
not_both bytes fault.Short fault.NeedlessVersion lt f g = elim f [ inl short ↦ absurd (short g.0.header.whole) | inr short ↦ absurd (short.1 g.0.room) ]
not_both bytes fault.Short fault.Trailing lt f g = elim f [ inl short ↦ absurd (short g.0.header.whole) | inr short ↦ absurd (short.1 g.0.room) ]
not_both bytes fault.Magic fault.Version lt f g = absurd (f.1 g.1)
not_both bytes fault.Magic fault.Kind lt f g = absurd (f.1 g.1)
not_both bytes fault.Magic fault.Count lt f g = absurd (f.1 g.1)
not_both bytes fault.Magic (fault.Opcode pc) lt f g = absurd (f.1 g.1.header.magic)
not_both bytes fault.Magic (fault.Field pc) lt f g = absurd (f.1 g.1.header.magic)
not_both bytes fault.Magic fault.NeedlessVersion lt f g = absurd (f.1 g.0.header.magic)
not_both bytes fault.Magic fault.Trailing lt f g = absurd (f.1 g.0.header.magic)
not_both bytes fault.Version fault.Kind lt f g = absurd (f.2 g.2.0)
not_both bytes fault.Version fault.Count lt f g = absurd (f.2 g.2.0)
not_both bytes fault.Version (fault.Opcode pc) lt f g = absurd (f.2 g.1.header.version)
not_both bytes fault.Version (fault.Field pc) lt f g = absurd (f.2 g.1.header.version)
not_both bytes fault.Version fault.NeedlessVersion lt f g = absurd (f.2 g.0.header.version)
not_both bytes fault.Version fault.Trailing lt f g = absurd (f.2 g.0.header.version)
not_both bytes fault.Kind fault.Count lt f g = absurd (f.2.1 g.2.1)
not_both bytes fault.Kind (fault.Opcode pc) lt f g = absurd (f.2.1 g.1.header.kind)
not_both bytes fault.Kind (fault.Field pc) lt f g = absurd (f.2.1 g.1.header.kind)
not_both bytes fault.Kind fault.NeedlessVersion lt f g = absurd (f.2.1 g.0.header.kind)
not_both bytes fault.Kind fault.Trailing lt f g = absurd (f.2.1 g.0.header.kind)
not_both bytes fault.Count (fault.Opcode pc) lt f g = absurd (f.2.2 g.1.header.count)
not_both bytes fault.Count (fault.Field pc) lt f g = absurd (f.2.2 g.1.header.count)
not_both bytes fault.Count fault.NeedlessVersion lt f g = absurd (f.2.2 g.0.header.count)
not_both bytes fault.Count fault.Trailing lt f g = absurd (f.2.2 g.0.header.count)
not_both bytes (fault.Opcode pc) (fault.Field qc) lt f g = absurd (rows_apart bytes pc qc f g)
not_both bytes (fault.Opcode pc) fault.NeedlessVersion lt f g = absurd (f.2 (opcode_of_row _ _ (g.0.rows pc f.0)))
not_both bytes (fault.Opcode pc) fault.Trailing lt f g = absurd (f.2 (opcode_of_row _ _ (g.0.rows pc f.0)))
not_both bytes (fault.Field pc) fault.NeedlessVersion lt f g = absurd (f.2.1 (g.0.rows pc f.0))
not_both bytes (fault.Field pc) fault.Trailing lt f g = absurd (f.2.1 (g.0.rows pc f.0))
not_both bytes fault.NeedlessVersion fault.Trailing lt f g = absurd (f.1 g.1.0)
not_both bytes f fault.Memory lt _ _ = refl
not_both _ _ _ lt _ _ = absurd (omega arith)

-- the first fault of a row is in one row
same_opcode : (bytes : List ℕ) (pc qc : ℕ) → IsFirstCodeFault bytes (fault.Opcode pc) → IsFirstCodeFault bytes (fault.Opcode qc) → pc ≡ qc
same_opcode bytes pc qc f g =
    elim (cases_order pc qc) [
      | inl same ↦ same
      | inr other ↦ elim other [
        | inl below ↦ absurd (f.2 (opcode_of_row _ _ (g.1.rows pc below)))
        | inr above ↦ absurd (g.2 (opcode_of_row _ _ (f.1.rows qc above)))
      ]
    ]

same_field : (bytes : List ℕ) (pc qc : ℕ) → IsFirstCodeFault bytes (fault.Field pc) → IsFirstCodeFault bytes (fault.Field qc) → pc ≡ qc
same_field bytes pc qc f g =
    elim (cases_order pc qc) [
      | inl same ↦ same
      | inr other ↦ elim other [ inl below ↦ absurd (f.2.1 (g.1.rows pc below)) | inr above ↦ absurd (g.2.1 (f.1.rows qc above)) ]
    ]

-- two first faults of one rank are equal
same_rank : (bytes : List ℕ) (f g : CodeFault) → rank f ≡ rank g → IsFirstCodeFault bytes f → IsFirstCodeFault bytes g → f ≡ g
unfolding rank
same_rank bytes fault.Short fault.Short e f g = refl
same_rank bytes fault.Magic fault.Magic e f g = refl
same_rank bytes fault.Version fault.Version e f g = refl
same_rank bytes fault.Kind fault.Kind e f g = refl
same_rank bytes fault.Count fault.Count e f g = refl
same_rank bytes (fault.Opcode pc) (fault.Opcode qc) e f g = ap fault.Opcode (same_opcode bytes pc qc f g)
same_rank bytes (fault.Field pc) (fault.Field qc) e f g = ap fault.Field (same_field bytes pc qc f g)
same_rank bytes fault.NeedlessVersion fault.NeedlessVersion e f g = refl
same_rank bytes fault.Trailing fault.Trailing e f g = refl
same_rank bytes fault.Memory fault.Memory e f g = refl
same_rank _ _ _ e _ _ = absurd (omega arith)

-- two first faults are equal, or an allocation failed
pub one_fault : (bytes : List ℕ) (f g : CodeFault) → IsFirstCodeFault bytes f → IsFirstCodeFault bytes g → f ≢ fault.Memory → g ≢ fault.Memory → f ≡ g
one_fault bytes f g first second p q =
    elim (cases_order (rank f) (rank g)) [
      | inl same ↦ same_rank bytes f g same first second
      | inr other ↦ elim other [
        | inl below ↦ absurd (q (not_both bytes f g below first second))
        | inr above ↦ absurd (p (not_both bytes g f above second first))
      ]
    ]

-- whether a fault is a failed allocation
pub cases_memory : (f : CodeFault) → (f ≡ fault.Memory) ⊎ (f ≢ fault.Memory)
cases_memory fault.Memory = inl refl
cases_memory _ = inr (λ e. cc)

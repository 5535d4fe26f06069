-- The verdict: the programs that the verifier rejects, at which instruction and for which reason. It follows from the
-- notes that the paths of a program bring to each instruction, joined, as in abstract interpretation
-- (docs/VERIFIER.md).
use Rattle.std.specs.Prelude.{◌≡◌, ℕ, zero, suc, ◌<◌, ◌≤◌, ◌&&◌, ◌||◌, List, length, IsTrue, Some, nat_eq}
use Rattle.std.specs.Prelude.{slice_get, ◌⊎◌, Bool, true, false, Option, None, option_map}
use Rattle.trlab_code.specs.declared.{instruction.Instr.Instr, program.Kind.Kind}
use Rattle.trlab_code.specs.{Flow.{target, falls, is_end, on_target}, Program.Program}
use Rattle.trlab_notes.specs.{Notes.{Note, entry, join}, Transfer.{next_note, jump_note}}
use Rattle.trlab_notes.specs.declared.reasons.Reason.{Reason, TheVariants.Unreachable}
use Rattle.trlab_notes.specs.Reasons.{reason_against, reason_number}

-- control may go from the instruction at pc to q: q is the next instruction, or the target of its jump
abbrev pub Follows : List Instr → ℕ → ℕ → Type 0
Follows code pc q =
    (instr : Instr) × (slice_get code pc ≡ Some instr)
    × IsTrue ((falls instr && nat_eq q (suc pc)) || on_target (nat_eq q) (target instr))

-- some path from pc to an end of the program has n instructions, those at pc and at the end included
abbrev pub HasPath : List Instr → ℕ → ℕ → Type 0
HasPath code pc zero = ⊥
HasPath code pc (suc zero) = (instr : Instr) × (slice_get code pc ≡ Some instr) × IsTrue (is_end instr)
HasPath code pc (suc (suc n)) = (q : ℕ) × Follows code pc q × HasPath code q (suc n)

-- the longest path from pc to an end of the program has n instructions, those at pc and at the end included
pub record IsLongest (code : List Instr) (pc n : ℕ) : Type 0 where
  pub way : HasPath code pc n
  pub most : (m : ℕ) → HasPath code pc m → m ≤ n

-- control only goes forward, and stays in the code: each instruction is followed only by later ones
abbrev pub IsForward : List Instr → Type 0
IsForward code = (pc q : ℕ) → Follows code pc q → (pc < q) × (q < length code)

-- the join of the incoming notes so far and one more note, either of which may be missing; the first note is
-- joined with itself, so that its levels are its known levels
abbrev pub add_note : Option Note → Option Note → Option Note
add_note so_far None = so_far
add_note None (Some note) = Some (join note note)
add_note (Some so_far) (Some note) = Some (join so_far note)

-- the note that is sent along an edge, if the edge leads here; otherwise `None`
abbrev pub if_here : Bool → Option Note → Option Note
if_here true edge = edge
if_here false edge = None

-- is q the target of an instruction? false if the instruction has no target
abbrev pub is_target : Option ℕ → ℕ → Bool
is_target None q = false
is_target (Some t) q = nat_eq q t

-- the note that the instruction at pc sends to q as the next instruction, from the note before it; `None` if
-- q is not the next instruction, or control does not continue there
abbrev pub next_note_to : ℕ → Note → Instr → ℕ → Option Note
next_note_to pc before instr q = if_here (nat_eq q (suc pc)) (next_note before instr)

-- the note that an instruction sends to q as the target of its jump, from the note before it; `None` if q is
-- not its target
abbrev pub jump_note_to : Note → Instr → ℕ → Option Note
jump_note_to before instr q = if_here (is_target (target instr) q) (Some (jump_note before instr))

-- the join of the incoming notes of q so far and the notes that the instruction at pc sends there; unchanged
-- if there is no such instruction, or it has no note
abbrev pub add_notes : ℕ → Option Note → Option Instr → ℕ → Option Note → Option Note
add_notes pc (Some before) (Some instr) q so_far =
    add_note (add_note so_far (next_note_to pc before instr q)) (jump_note_to before instr q)
add_notes pc _ _ q so_far = so_far

-- the join of the notes that the first n instructions of a program send to q, and of the entry note if q is
-- 0, the first instruction; `None` if there are none
abbrev pub incoming : Kind → List Instr → ℕ → ℕ → Option Note
incoming kind code zero q = if_here (nat_eq q 0) (Some (entry kind))
incoming kind code (suc n) q =
    add_notes n (incoming kind code n n) (slice_get code n) q (incoming kind code n q)

-- the note of the instruction at pc: the join of the notes that earlier instructions send to it, and of the
-- entry note if pc is 0; `None` if there are none, because the instruction is unreachable
abbrev pub note_at : Kind → List Instr → ℕ → Option Note
note_at kind code pc = incoming kind code pc pc

-- the instruction at p sends this note to q, as the next instruction or as the target of its jump
pub record Sends (kind : Kind) (code : List Instr) (p q : ℕ) (note : Note) : Type 0 where
  pub before : Note
  pub instr : Instr
  pub before_is : note_at kind code p ≡ Some before
  pub instr_is : slice_get code p ≡ Some instr
  pub sent : (next_note_to p before instr q ≡ Some note) ⊎ (jump_note_to before instr q ≡ Some note)

-- a note is sent to the instruction at pc: by an earlier instruction; or it is the entry note, and pc is 0
abbrev pub IsSent : Kind → List Instr → ℕ → Note → Type 0
IsSent kind code pc note =
    ((pc ≡ 0) × (note ≡ entry kind))
    ⊎ ((p : ℕ) × (p < pc) × Sends kind code p pc note)

-- the first reason against the instruction at pc, one of len instructions: `Unreachable` if it has no note,
-- otherwise the first of the reasons 2 to 12 that holds; `None` if none holds, or there is a note but no
-- instruction
abbrev pub first_reason_at : Kind → Kind → ℕ → ℕ → Option Note → Option Instr → Option Reason
first_reason_at kind own len pc None instr = Some Unreachable
first_reason_at kind own len pc (Some note) None = None
first_reason_at kind own len pc (Some note) (Some instr) = reason_against kind own len pc note instr

-- the number of the first reason against the instruction of a program at pc, 1 to 12; `None` if no reason
-- holds
unfoldable pub reason_number_at : Kind → Program → ℕ → Option ℕ
reason_number_at kind program pc =
    let note = note_at kind program.instrs pc in
    let instr = slice_get program.instrs pc in
    option_map reason_number (first_reason_at kind program.kind (length program.instrs) pc note instr)

-- the verdict accepts the program as one of kind `kind`: no reason holds against any of its instructions
abbrev pub IsAccepted : Kind → Program → Type 0
IsAccepted kind program = (pc : ℕ) → pc < length program.instrs → reason_number_at kind program pc ≡ None

-- the verdict rejects the program as one of kind `kind`: `at` is its first instruction against which a reason
-- holds, and `reason` is the number of the first reason that holds there
pub record IsRefused (kind : Kind) (program : Program) (at reason : ℕ) : Type 0 where
  pub within : at < length program.instrs
  pub here : reason_number_at kind program at ≡ Some reason
  pub first : (pc : ℕ) → pc < at → reason_number_at kind program pc ≡ None

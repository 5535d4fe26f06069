-- A printed instruction is read back.
use Rattle.std.proofs.Common.{◌≡◌, ℕ, ◌<◌, List, ◌∷◌, ◌++◌, length, refl, arith, false, length-append, None}
use Rattle.std.proofs.Common.{Some, Ok, decimal, ◌==◌, lt-ltb, ne_eqb}
use Rattle.trlab_code.specs.{Program.IsInRange, declared.instruction.Instr.Instr}
use Rattle.trlab_code.specs.declared.instruction.Instr.TheVariants.{Num, Get, Side, Draw, Copy, Add, Sub, Mul}
use Rattle.trlab_code.specs.declared.instruction.Instr.TheVariants.{Div, Min, Max, Not, And, Or, Jump}
use Rattle.trlab_code.specs.declared.instruction.Instr.TheVariants.{JumpLess, JumpAtMost, JumpTrue, JumpFalse}
use Rattle.trlab_code.specs.{declared.instruction.Instr.TheVariants.{Go, Cross, Stay}, Laws.FitsIn32Bits}
use Rattle.trlab_bounds.specs.declared.programs.TheConstants.{MAX_INSTRUCTIONS}
use Rattle.trlab_asm.specs.{Names.{register_text, input_text, mnemonic_text}, Operands.WrittenTarget}
use Rattle.trlab_asm.specs.{Reading.{InstrDraft, draft_of, body}, Canonical.{target_text, ◌comma◌}}
use Rattle.trlab_asm.specs.{Canonical.{with_operands, instr_text}, declared.names.Mnemonic.Mnemonic}
use Rattle.trlab_asm.proofs.{UncutWords.word_and_more, Printed.{goal_of, name_again, register_again}}
use Rattle.trlab_asm.proofs.Printed.{target_again, two_again, three_again, get_again, one_number_again}
use Rattle.trlab_asm.proofs.Printed.{two_number_again, draw_again, one_target_again, two_target_again}
use Rattle.trlab_asm.specs.declared.names.Mnemonic.TheVariants as name

-- the fields are in range, and the number has 32 bits
abbrev pub Fits : Instr → Type 0
Fits instr = IsInRange instr × FitsIn32Bits instr

abbrev pub jump_draft : (ℕ → Instr) → WrittenTarget → InstrDraft
jump_draft instr to = record { instr = instr to.pc; label = to.label }

abbrev plain_draft : Instr → InstrDraft
plain_draft instr = record { instr = instr; label = None }

-- an instruction as it is read from its canonical text
abbrev pub draft_again : ℕ → Instr → InstrDraft
draft_again count (Num d n) = plain_draft (Num d n)
draft_again count (Get d k) = plain_draft (Get d k)
draft_again count (Side d) = plain_draft (Side d)
draft_again count (Draw d k t) = plain_draft (Draw d k t)
draft_again count (Copy d a) = plain_draft (Copy d a)
draft_again count (Add d a b) = plain_draft (Add d a b)
draft_again count (Sub d a b) = plain_draft (Sub d a b)
draft_again count (Mul d a n) = plain_draft (Mul d a n)
draft_again count (Div d a n) = plain_draft (Div d a n)
draft_again count (Min d a b) = plain_draft (Min d a b)
draft_again count (Max d a b) = plain_draft (Max d a b)
draft_again count (Not d a) = plain_draft (Not d a)
draft_again count (And d a b) = plain_draft (And d a b)
draft_again count (Or d a b) = plain_draft (Or d a b)
draft_again count (Jump t) = jump_draft Jump (goal_of count t)
draft_again count (JumpLess a b t) = jump_draft (JumpLess a b) (goal_of count t)
draft_again count (JumpAtMost a b t) = jump_draft (JumpAtMost a b) (goal_of count t)
draft_again count (JumpTrue a t) = jump_draft (JumpTrue a) (goal_of count t)
draft_again count (JumpFalse a t) = jump_draft (JumpFalse a) (goal_of count t)
draft_again count (Go a) = plain_draft (Go a)
draft_again count Cross = plain_draft Cross
draft_again count Stay = plain_draft Stay

not_empty : (text rest : List ℕ) → 0 < length text → (length (text ++ rest) == 0) ≡ false
not_empty text rest some = ne_eqb (length (text ++ rest)) 0 (λ e. absurd (omega (arith, length-append text rest)))

-- a name and its operands give a draft
named_again : (pc : ℕ) (x : Mnemonic) (operands : List ℕ) (draft : InstrDraft) → pc < MAX_INSTRUCTIONS → draft_of x (32 ∷ operands) ≡ Ok draft → body pc (with_operands x operands) ≡ Ok (Some draft)
named_again pc x operands draft room says =
    let known = name_again x in
    rw (not_empty (mnemonic_text x) (32 ∷ operands) known.some, word_and_more (mnemonic_text x) operands known.plain, known.again, lt-ltb pc MAX_INSTRUCTIONS room, says) refl

-- the text of an instruction is read back as the instruction
pub instr_again : (count pc : ℕ) (i : Instr) → pc < MAX_INSTRUCTIONS → Fits i → body pc (instr_text count i) ≡ Ok (Some (draft_again count i))
instr_again count pc (Num d n) room fits = named_again pc name.Num (register_text d comma decimal n) (plain_draft (Num d n)) room (rw (one_number_again d n fits.1) refl)
instr_again count pc (Get d k) room fits = named_again pc name.Get (register_text d comma input_text k) (plain_draft (Get d k)) room (rw (get_again d k) refl)
instr_again count pc (Side d) room fits = named_again pc name.Side (register_text d) (plain_draft (Side d)) room (rw (register_again d) refl)
instr_again count pc (Draw d k t) room fits = named_again pc name.Draw (register_text d comma decimal k comma decimal t) (plain_draft (Draw d k t)) room (rw (draw_again d k t fits.0.0 fits.0.1) refl)
instr_again count pc (Copy d a) room fits = named_again pc name.Copy (register_text d comma register_text a) (plain_draft (Copy d a)) room (rw (two_again d a) refl)
instr_again count pc (Add d a b) room fits = named_again pc name.Add (register_text d comma register_text a comma register_text b) (plain_draft (Add d a b)) room (rw (three_again d a b) refl)
instr_again count pc (Sub d a b) room fits = named_again pc name.Sub (register_text d comma register_text a comma register_text b) (plain_draft (Sub d a b)) room (rw (three_again d a b) refl)
instr_again count pc (Mul d a n) room fits = named_again pc name.Mul (register_text d comma register_text a comma decimal n) (plain_draft (Mul d a n)) room (rw (two_number_again 0 d a n fits.1 (omega arith)) refl)
instr_again count pc (Div d a n) room fits = named_again pc name.Div (register_text d comma register_text a comma decimal n) (plain_draft (Div d a n)) room (rw (two_number_again 1 d a n fits.1 fits.0) refl)
instr_again count pc (Min d a b) room fits = named_again pc name.Min (register_text d comma register_text a comma register_text b) (plain_draft (Min d a b)) room (rw (three_again d a b) refl)
instr_again count pc (Max d a b) room fits = named_again pc name.Max (register_text d comma register_text a comma register_text b) (plain_draft (Max d a b)) room (rw (three_again d a b) refl)
instr_again count pc (Not d a) room fits = named_again pc name.Not (register_text d comma register_text a) (plain_draft (Not d a)) room (rw (two_again d a) refl)
instr_again count pc (And d a b) room fits = named_again pc name.And (register_text d comma register_text a comma register_text b) (plain_draft (And d a b)) room (rw (three_again d a b) refl)
instr_again count pc (Or d a b) room fits = named_again pc name.Or (register_text d comma register_text a comma register_text b) (plain_draft (Or d a b)) room (rw (three_again d a b) refl)
instr_again count pc (Jump t) room fits = named_again pc name.Jump (target_text count t) (jump_draft Jump (goal_of count t)) room (rw (target_again count t fits.1) refl)
instr_again count pc (JumpLess a b t) room fits = named_again pc name.JumpLess (register_text a comma register_text b comma target_text count t) (jump_draft (JumpLess a b) (goal_of count t)) room (rw (two_target_again count a b t fits.1) refl)
instr_again count pc (JumpAtMost a b t) room fits = named_again pc name.JumpAtMost (register_text a comma register_text b comma target_text count t) (jump_draft (JumpAtMost a b) (goal_of count t)) room (rw (two_target_again count a b t fits.1) refl)
instr_again count pc (JumpTrue a t) room fits = named_again pc name.JumpTrue (register_text a comma target_text count t) (jump_draft (JumpTrue a) (goal_of count t)) room (rw (one_target_again count a t fits.1) refl)
instr_again count pc (JumpFalse a t) room fits = named_again pc name.JumpFalse (register_text a comma target_text count t) (jump_draft (JumpFalse a) (goal_of count t)) room (rw (one_target_again count a t fits.1) refl)
instr_again count pc (Go a) room fits = named_again pc name.Go (register_text a) (plain_draft (Go a)) room (rw (register_again a) refl)
instr_again count pc Cross room fits = rw (lt-ltb pc MAX_INSTRUCTIONS room) refl
instr_again count pc Stay room fits = rw (lt-ltb pc MAX_INSTRUCTIONS room) refl

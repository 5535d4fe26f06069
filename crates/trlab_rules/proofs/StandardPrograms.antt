-- The standard programs are valid: they do not have too many instructions, and their fields are in range.
use Rattle.std.proofs.{Common.{ℕ, ◌≤◌, List, [], ◌∷◌, All, arith}, lemmas.List.Elements.{All-cons, All-nil}}
use Rattle.trlab_bounds.specs.declared.programs.TheConstants.{CERTAIN}
use Rattle.trlab_code.specs.{declared.instruction.Instr.Instr, Program.{IsInRange, IsValidProgram}}
use Rattle.trlab_rules.specs.Standard.{nasch_program, vdr_program, rickert_program}

-- the fields of each instruction are in range
abbrev Each : List Instr → Type 0
Each [] = Unit {0}
Each (i ∷ instrs) = IsInRange i × Each instrs

each_all : (instrs : List Instr) → Each instrs → All IsInRange instrs
each_all [] each = All-nil IsInRange
each_all (i ∷ instrs) each = All-cons IsInRange i instrs each.0 (each_all instrs each.1)

pub nasch_is_program : (p : ℕ) → p ≤ CERTAIN → IsValidProgram (nasch_program p)
nasch_is_program p fits = record {
  some = omega arith;
  few = omega arith;
  in_range = each_all (nasch_program p).instrs
      (tt, (tt, (tt, (tt, (tt, (tt, (tt, ((omega arith, fits), (tt, (tt, (tt, (tt, tt))))))))))));
}

pub vdr_is_program : (p p0 : ℕ) → p ≤ CERTAIN → p0 ≤ CERTAIN → IsValidProgram (vdr_program p p0)
vdr_is_program p p0 fits fits0 = record {
  some = omega arith;
  few = omega arith;
  in_range = each_all (vdr_program p p0).instrs
      (tt, (tt, (tt, ((omega arith, fits0), (tt, ((omega arith, fits), (tt, (tt, (tt, (tt, (tt, (tt, (tt, (tt, (tt, tt)))))))))))))));
}

pub rickert_is_program : (c : ℕ) → c ≤ CERTAIN → IsValidProgram (rickert_program c)
rickert_is_program c fits = record {
  some = omega arith;
  few = omega arith;
  in_range = each_all (rickert_program c).instrs
      (tt, (tt, (tt, (tt, (tt, (tt, (tt, (tt, (tt, (tt, (tt, (tt, ((omega arith, fits), (tt, (tt, (tt, tt))))))))))))))));
}

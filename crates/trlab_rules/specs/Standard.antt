-- The programs of the standard rules. The target of a jump is the index of an instruction, counted from 0.
use Rattle.std.specs.Prelude.{ℕ, List, [], ◌∷◌, ◌++◌}
use Rattle.trlab_code.specs.{declared.program.Kind.TheVariants.{Motion, Change}, Program.Program}
use Rattle.trlab_code.specs.declared.instruction.{Register.TheVariants.{R0, R1, R2, R3}, Instr.Instr}
use Rattle.trlab_code.specs.declared.instruction.Input.TheVariants.{Speed, Limit, Gap, SideGap, SideBack}
use Rattle.trlab_code.specs.declared.instruction.Instr.TheVariants.{Num, Get, Side, Draw, Add, Sub, Min, Jump}
use Rattle.trlab_code.specs.declared.instruction.Instr.TheVariants.{JumpAtMost, JumpFalse, Go, Cross, Stay}

-- acceleration: the speed in R0 grows by the 1 in R1, up to the limit
abbrev pub accelerate : List Instr
accelerate = Add R0 R0 R1 ∷ Get R2 Limit ∷ Min R0 R0 R2 ∷ []

-- slowing down: the speed in R0 becomes at most the gap
abbrev pub slow_down : List Instr
slow_down = Get R2 Gap ∷ Min R0 R0 R2 ∷ []

-- randomization: if the flag in R3 is true, the speed in R0 is lowered by the 1 in R1, but not below 0;
-- otherwise a jump to the index `go`
abbrev pub randomize : ℕ → List Instr
randomize go = JumpFalse R3 go ∷ Min R1 R1 R0 ∷ Sub R0 R0 R1 ∷ []

-- slow starts: the flag in R3 is true with probability p0 / 2 ^ 31 if the speed in R0 is 0 (below the 1 in
-- R1), and otherwise with p / 2 ^ 31; these are instructions 2 to 5 of the program
abbrev pub draw_by_speed : ℕ → ℕ → List Instr
draw_by_speed p p0 = JumpAtMost R1 R0 5 ∷ Draw R3 0 p0 ∷ Jump 6 ∷ Draw R3 0 p ∷ []

-- the motion program of the Nagel-Schreckenberg model (1992): a car brakes with probability p / 2 ^ 31;
-- instruction 11 is `Go`
abbrev pub nasch_program : ℕ → Program
nasch_program p = record {
  kind = Motion;
  instrs =
      Get R0 Speed ∷ Num R1 1 ∷ accelerate ++ slow_down ++ Draw R3 0 p ∷ randomize 11 ++ Go R0 ∷ [];
}

-- the motion program of the velocity-dependent-randomization (VDR) model (Barlovic et al. 1998): a stopped
-- car brakes with probability p0 / 2 ^ 31, a moving car with p / 2 ^ 31; instruction 14 is `Go`
abbrev pub vdr_program : ℕ → ℕ → Program
vdr_program p p0 = record {
  kind = Motion;
  instrs =
      Get R0 Speed ∷ Num R1 1 ∷ draw_by_speed p p0 ++ accelerate ++ slow_down ++ randomize 14 ++ Go R0 ∷ [];
}

-- puts speed + 1 into R1, and jumps to the index `stay` if the gap is at least speed + 1
abbrev pub stay_unless_hindered : ℕ → List Instr
stay_unless_hindered stay =
    Get R1 Speed ∷ Num R2 1 ∷ Add R1 R1 R2 ∷ Get R2 Gap ∷ JumpAtMost R1 R2 stay ∷ []

-- jumps to the index `stay` if the sidegap is at most the speed + 1 in R1, or the sideback at most the limit
abbrev pub stay_unless_free : ℕ → List Instr
stay_unless_free stay =
    Get R2 SideGap ∷ JumpAtMost R2 R1 stay ∷ Get R2 SideBack ∷ Get R3 Limit ∷ JumpAtMost R2 R3 stay ∷ []

-- the change program of Rickert et al. (1996), with distances of this project's own: a car that wants to
-- change lanes and may do so changes with probability c / 2 ^ 31; instruction 15 is `Stay`
abbrev pub rickert_program : ℕ → Program
rickert_program c = record {
  kind = Change;
  instrs =
      Side R0 ∷ JumpFalse R0 15 ∷ stay_unless_hindered 15 ++ stay_unless_free 15
      ++ Draw R3 1 c ∷ JumpFalse R3 15 ∷ Cross ∷ Stay ∷ [];
}

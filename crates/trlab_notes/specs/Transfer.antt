-- The abstract semantics of instructions: the note after an instruction on each path, from the note before
-- it.
use Rattle.std.specs.Prelude.{ℕ, zero, suc, ◌+◌, ◌-◌, ◌*◌, ◌/◌, ◌&&◌, ◌||◌, min, max, Bool, true, false}
use Rattle.std.specs.Prelude.{Option, Some, None, nat_le, if◌then◌else◌}
use Rattle.trlab_code.specs.declared.instruction.{Register.Register, Variable.Variable, Instr.Instr}
use Rattle.trlab_code.specs.declared.instruction.Instr.TheVariants.{Num, Get, Side, Draw, Copy, Add, Sub, Mul}
use Rattle.trlab_code.specs.declared.instruction.Instr.TheVariants.{Div, Min, Max, Not, And, Or, Jump}
use Rattle.trlab_code.specs.declared.instruction.Instr.TheVariants.{JumpLess, JumpAtMost, JumpTrue, JumpFalse}
use Rattle.trlab_code.specs.{declared.instruction.Instr.TheVariants.{Go, Cross, Stay}, Machine.update}
use Rattle.trlab_code.specs.Flow.{destination}
use Rattle.trlab_code.specs.declared.instruction.Variable.TheVariants as variable
use Rattle.trlab_bounds.specs.declared.programs.TheConstants.{MAX_NUMBER}
use Rattle.trlab_notes.specs.declared.note.{TheConstants.{AT_MOST, BELOW}, AbstractValue.AbstractValue}
use Rattle.trlab_notes.specs.declared.note.AbstractValue.TheVariants.{Unknown, Between, Implies}
use Rattle.trlab_notes.specs.Notes.{Note, same_variable, value_with_side, low, high, implies, known_level}

-- the abstract value of register a in a note
abbrev pub register_value : Note → Register → AbstractValue
register_value note a = note.values (variable.Register a)

-- the smallest number that register a may hold, by the note; 0 if it is not known to hold a number
abbrev pub least : Note → Register → ℕ
least note a = low (register_value note a)

-- the largest number that register a may hold, by the note; 0 if it is not known to hold a number
abbrev pub most : Note → Register → ℕ
most note a = high (register_value note a)

-- does the flag in register a imply, by the note, that the side cell is empty? false if the register is not
-- known to hold a flag
abbrev pub flag_implies : Note → Register → Bool
flag_implies note a = implies (value_with_side note (variable.Register a))

-- the known level of register a to register b in a note
abbrev pub register_level : Note → Register → Register → ℕ
register_level note a b = known_level note (variable.Register a) (variable.Register b)

-- the known level of register a to variable y in a note
abbrev pub register_to : Note → Register → Variable → ℕ
register_to note a y = known_level note (variable.Register a) y

-- the known level of variable y to register a in a note
abbrev pub to_register : Note → Variable → Register → ℕ
to_register note y a = known_level note y (variable.Register a)

-- the level of x to y + z, or of x - z to y, that follows from the level k of x to y, if z is at least lo: at
-- least BELOW if k and lo are above 0, otherwise k. For example, if x is at most y, it is below y + 3
abbrev pub sharpen : ℕ → ℕ → ℕ
sharpen zero lo = 0
sharpen (suc k) zero = suc k
sharpen (suc k) (suc lo) = max (suc k) BELOW

-- the level of x + z to y that follows from the level k of x to y, if z is at most hi: AT_MOST if k is at
-- least BELOW and hi at most 1, otherwise 0. For example, if x is below y, x + 1 is at most y
abbrev pub slacken : ℕ → ℕ → ℕ
slacken k hi = if nat_le BELOW k && nat_le hi 1 then AT_MOST else 0

-- the smallest difference a - b, if k is the level of b to a: 1 if b is known to be below a, otherwise 0
abbrev pub least_difference : ℕ → ℕ
least_difference k = if nat_le BELOW k then 1 else 0

-- the abstract value of the result of an instruction, from the note before it; `Unknown` if it has no result
abbrev pub result_value : Note → Instr → AbstractValue
result_value note (Num d n) = Between n n
result_value note (Get d k) = value_with_side note (variable.Input k)
result_value note (Side d) = Implies true
result_value note (Draw d k t) = Implies false
result_value note (Copy d a) = value_with_side note (variable.Register a)
result_value note (Add d a b) =
    Between (min (least note a + least note b) MAX_NUMBER) (most note a + most note b)
result_value note (Sub d a b) =
    Between (max (least note a - most note b) (least_difference (register_level note b a)))
    (most note a - least note b)
result_value note (Mul d a n) = Between (min (least note a * n) MAX_NUMBER) (most note a * n)
result_value note (Div d a n) = Between (least note a / n) (most note a / n)
result_value note (Min d a b) = Between (min (least note a) (least note b)) (min (most note a) (most note b))
result_value note (Max d a b) = Between (max (least note a) (least note b)) (max (most note a) (most note b))
result_value note (Not d a) = Implies false
result_value note (And d a b) = Implies (flag_implies note a || flag_implies note b)
result_value note (Or d a b) = Implies (flag_implies note a && flag_implies note b)
result_value note (Jump t) = Unknown
result_value note (JumpLess a b t) = Unknown
result_value note (JumpAtMost a b t) = Unknown
result_value note (JumpTrue a t) = Unknown
result_value note (JumpFalse a t) = Unknown
result_value note (Go a) = Unknown
result_value note Cross = Unknown
result_value note Stay = Unknown

-- the level of an instruction's result to variable y, from the note before it; 0 if nothing is known of it,
-- or the result is a flag
abbrev pub result_to : Note → Instr → Variable → ℕ
result_to note (Get d k) y = known_level note (variable.Input k) y
result_to note (Copy d a) y = register_to note a y
result_to note (Add d a b) y =
    max (slacken (register_to note a y) (most note b)) (slacken (register_to note b y) (most note a))
result_to note (Sub d a b) y = sharpen (register_to note a y) (least note b)
result_to note (Div d a n) y = register_to note a y
result_to note (Min d a b) y = max (register_to note a y) (register_to note b y)
result_to note (Max d a b) y = min (register_to note a y) (register_to note b y)
result_to note _ y = 0

-- the level of variable y to an instruction's result, from the note before it; 0 if nothing is known of it,
-- or the result is a flag
abbrev pub to_result : Note → Instr → Variable → ℕ
to_result note (Get d k) y = known_level note y (variable.Input k)
to_result note (Copy d a) y = to_register note y a
to_result note (Add d a b) y =
    max (sharpen (to_register note y a) (least note b)) (sharpen (to_register note y b) (least note a))
to_result note (Min d a b) y = min (to_register note y a) (to_register note y b)
to_result note (Max d a b) y = max (to_register note y a) (to_register note y b)
to_result note _ y = 0

-- the note after register d gets a new value: `value` is its abstract value, `to` has its levels to all
-- variables, and `from` has the levels of all variables to it; all other knowledge stays
unfoldable pub assign : Note → Register → AbstractValue → (Variable → ℕ) → (Variable → ℕ) → Note
assign note d value to from = record {
  values = update note.values (variable.Register d) value;
  level = λ x y.
      if same_variable x (variable.Register d) then to y
      else (if same_variable y (variable.Register d) then from x else note.level x y);
  side = note.side;
}

-- the note after an instruction has written its result to register d, from the note before it
abbrev pub assign_result : Note → Register → Instr → Note
assign_result note d instr =
    assign note d (result_value note instr) (result_to note instr) (to_result note instr)

-- the level of x to y that follows from the levels i of x to p, k of p to q, and j of q to y, for k of
-- AT_MOST or BELOW: 0 if i or j is 0, otherwise the largest of the three. For example, x at most p, p below
-- q and q at most y give x below y
abbrev pub chain : ℕ → ℕ → ℕ → ℕ
chain zero k j = 0
chain (suc i) k zero = 0
chain (suc i) k (suc j) = max (suc i) (max k (suc j))

-- the note refined by a comparison, with its consequences for all variables: p is at most q if k is AT_MOST,
-- and below q if k is BELOW
unfoldable pub refine_order : Note → Variable → Variable → ℕ → Note
refine_order note p q k = record note {
  level = λ x y. max (note.level x y) (chain (known_level note x p) k (known_level note q y));
}

-- the note refined by the knowledge that the flag in register a is true: if the flag implies an empty side
-- cell, that cell is empty
unfoldable pub refine_flag : Note → Register → Note
refine_flag note a = record note { side = note.side || implies (register_value note a) }

-- the note after an instruction has written its result to its destination, from the note before it; `None` if
-- it has no destination
abbrev pub assign_destination : Note → Instr → Option Register → Option Note
assign_destination note instr None = None
assign_destination note instr (Some d) = Some (assign_result note d instr)

-- the note that an instruction sends to the next one, from the note before it: a conditional jump refines it
-- by its false condition, and other instructions write their result; `None` if control does not continue
-- there
abbrev pub next_note : Note → Instr → Option Note
next_note note (JumpLess a b t) = Some (refine_order note (variable.Register b) (variable.Register a) AT_MOST)
next_note note (JumpAtMost a b t) = Some (refine_order note (variable.Register b) (variable.Register a) BELOW)
next_note note (JumpTrue a t) = Some note
next_note note (JumpFalse a t) = Some (refine_flag note a)
next_note note instr = assign_destination note instr (destination instr)

-- the note that a jump sends to its target, from the note before it: a conditional jump refines it by its
-- true condition
abbrev pub jump_note : Note → Instr → Note
jump_note note (JumpLess a b t) = refine_order note (variable.Register a) (variable.Register b) BELOW
jump_note note (JumpAtMost a b t) = refine_order note (variable.Register a) (variable.Register b) AT_MOST
jump_note note (JumpTrue a t) = refine_flag note a
jump_note note _ = note

-- The operands of an instruction as they are read, and results in sequence.
use Rattle.std.specs.Prelude.{Result, Ok, Err, ℕ, ◌-◌, ◌==◌, ◌&&◌, ◌||◌, not, Bool, List, length, codes}
use Rattle.std.specs.Prelude.{nat_le, nat_lt, Option, None, Some, ok_or, slice_index, if◌then◌else◌}
use Rattle.std.specs.{List.list_all, Char.{is_ascii_digit, is_ascii_alphanumeric}, Str.Parse.digits_value}
use Rattle.trlab_code.specs.declared.instruction.{Register.Register, Input.Input}
use Rattle.trlab_bounds.specs.declared.programs.TheConstants.{WORDS, CERTAIN, MAX_NUMBER, MAX_DIGITS}
use Rattle.trlab_bounds.specs.declared.programs.TheConstants.{LONGEST_LABEL}
use Rattle.trlab_lines.specs.Lines.{without_prefix, cut, only_word, is_numeral}
use Rattle.trlab_asm.specs.{Names.{register_named, input_named}, declared.fault.Why.Why}
use Rattle.trlab_asm.specs.declared.fault.Why.TheVariants.{Operand, Number}

-- Results in sequence: the first fault is the result.

infixl 10 ◌>>=◌
-- the function f applied to the value of a result, which gives a new result; a fault stays (Rust's
-- `and_then`)
abbrev pub ◌>>=◌ : {A B E : Type 0} → Result A E → (A → Result B E) → Result B E
(Ok x) >>= f = f x
(Err e) >>= f = Err e

-- a result with `convert` applied to its value; a fault stays (Rust's `map`)
abbrev pub map_ok : {A B E : Type 0} → (A → B) → Result A E → Result B E
map_ok convert (Ok x) = Ok (convert x)
map_ok convert (Err e) = Err e

-- The operands of an instruction as they are read. Commas separate them, and each may have blanks around it.

-- the only word of an operand, empty if the operand is blank; the fault `Operand` if it has two words or more
abbrev pub word : List ℕ → Result (List ℕ) Why
word text = ok_or (only_word text) Operand

-- the register that an operand names, for example ` r0 `; the fault `Operand` if it names none
abbrev pub register : List ℕ → Result Register Why
register text = word text >>= λ name. ok_or (register_named name) Operand

-- the input that an operand names, for example ` gap `; the fault `Operand` if it names none
abbrev pub input : List ℕ → Result Input Why
input text = word text >>= λ name. ok_or (input_named name) Operand

-- the word itself if it consists of decimal digits, otherwise the fault `Operand`
abbrev pub digits_of : List ℕ → Result (List ℕ) Why
digits_of text = if is_numeral text then Ok text else Err Operand

-- the digits of an operand that is a number of any size; the fault `Operand` if it is not a number
abbrev pub numeral : List ℕ → Result (List ℕ) Why
numeral text = word text >>= digits_of

-- the value of decimal digits, which must be from low to high; the fault `Number` if it is not, or if there
-- are more than MAX_DIGITS digits
abbrev pub value_within : ℕ → ℕ → List ℕ → Result ℕ Why
value_within low high digits =
    if nat_le (length digits) MAX_DIGITS
    && (nat_le low (digits_value 10 digits) && nat_le (digits_value 10 digits) high)
    then Ok (digits_value 10 digits) else Err Number

-- the value of an operand that must be a number from low to high; otherwise the fault `Operand` or `Number`
abbrev pub number : ℕ → ℕ → List ℕ → Result ℕ Why
number low high text = numeral text >>= value_within low high

-- the target of a jump as it is written: a pc, and no label; or a label, and pc 0, because the label's pc is
-- not known yet
pub record WrittenTarget : Type 0 where
  pub pc : ℕ
  pub label : Option (List ℕ)

-- are all bytes of the text letters, digits or `_`? true for the empty text
abbrev pub all_label_bytes : List ℕ → Bool
all_label_bytes text = list_all (λ c. is_ascii_alphanumeric c || c == 95) text

-- is the text a label: 1 to LONGEST_LABEL letters, digits and `_`, of which the first is not a digit?
abbrev pub is_label : List ℕ → Bool
is_label text =
    (nat_lt 0 (length text) && nat_le (length text) LONGEST_LABEL)
    && (not (is_ascii_digit (slice_index text 0)) && all_label_bytes text)

-- the target that `@` and the digits of a pc name, for example `@12`; the fault `Operand` for other words,
-- and `Number` if the pc is above MAX_NUMBER or has more than MAX_DIGITS digits, as in `@00000000012`
abbrev pub pc_named : List ℕ → Result WrittenTarget Why
pc_named text = do
  digits ← ok_or (without_prefix (codes "@") text) Operand
  digits ← digits_of digits
  pc ← value_within 0 MAX_NUMBER digits
  Ok (record { pc = pc; label = None })

-- the target that a word names: a label, for example `slow`, or `@` and a pc, for example `@12`
abbrev pub target_named : List ℕ → Result WrittenTarget Why
target_named text = if is_label text then Ok (record { pc = 0; label = Some text }) else pc_named text

-- the target that a jump's operand names; the fault `Operand` or `Number` if it names none
abbrev pub jump_target : List ℕ → Result WrittenTarget Why
jump_target text = word text >>= target_named

infixr 15 ◌then◌
-- reads the text before the first comma with `first`, and then the text after it with `rest`, to the pair of
-- their results; the fault `Operand` if there is no comma
abbrev pub ◌then◌ : {A B : Type 0} → (List ℕ → Result A Why) → (List ℕ → Result B Why)
    → List ℕ → Result (A × B) Why
(first then rest) text = do
  parts ← ok_or (cut 44 text) Operand
  x ← first parts.0
  y ← rest parts.1
  Ok (x, y)

-- the shapes of operands, besides `register` and `jump_target`

-- the operands of an instruction without operands: the text is blank, otherwise the fault `Operand`
abbrev pub no_operand : List ℕ → Result (Unit {0}) Why
no_operand text = word text >>= λ found. if length found == 0 then Ok tt else Err Operand

-- two registers, separated by a comma
abbrev pub two_registers : List ℕ → Result (Register × Register) Why
two_registers = register then register

-- three registers, separated by commas
abbrev pub three_registers : List ℕ → Result (Register × (Register × Register)) Why
three_registers = register then two_registers

-- a register and an input, separated by a comma
abbrev pub register_input : List ℕ → Result (Register × Input) Why
register_input = register then input

-- a register and a number from low to MAX_NUMBER, separated by a comma
abbrev pub register_and_number : ℕ → List ℕ → Result (Register × ℕ) Why
register_and_number low = register then number low MAX_NUMBER

-- two registers and a number from low to MAX_NUMBER, separated by commas
abbrev pub two_registers_number : ℕ → List ℕ → Result (Register × (Register × ℕ)) Why
two_registers_number low = register then register_and_number low

-- the digits of two numbers of any size, separated by a comma
abbrev pub two_numerals : List ℕ → Result (List ℕ × List ℕ) Why
two_numerals = numeral then numeral

-- the number of a random word and a chance, which is a probability times 2 ^ 31, separated by a comma; both
-- must be numbers before the range of either is checked
abbrev pub word_chance : List ℕ → Result (ℕ × ℕ) Why
word_chance text = do
  digits ← two_numerals text
  k ← value_within 0 (WORDS - 1) digits.0
  chance ← value_within 0 CERTAIN digits.1
  Ok (k, chance)

-- a register, the number of a random word and a chance, separated by commas
abbrev pub register_word_chance : List ℕ → Result (Register × (ℕ × ℕ)) Why
register_word_chance = register then word_chance

-- a register and a jump's target, separated by a comma
abbrev pub register_target : List ℕ → Result (Register × WrittenTarget) Why
register_target = register then jump_target

-- two registers and a jump's target, separated by commas
abbrev pub two_registers_target : List ℕ → Result (Register × (Register × WrittenTarget)) Why
two_registers_target = register then register_target

-- A printed operand is read back.
use Rattle.std.proofs.Common.{◌≡◌, ◌||◌, ◌&&◌, ◌==◌, ℕ, ◌-◌, ◌<◌, ◌≤◌, ◌^◌, List, [], ◌∷◌, length, refl}
use Rattle.std.proofs.Common.{arith, Bool, true, false, cond, None, Some, Ok, nat_lt, nat_le, decimal, lt-ltb}
use Rattle.std.proofs.{Common.le-leb, lemmas.Fmt.{decimal_nonempty, digits_decimal, digits_value-decimal}}
use Rattle.std.{proofs.lemmas.{Fmt.length-decimal-le, Bool.Decides.nat_tests}, specs.Char.is_ascii_digit}
use Rattle.std.specs.{Char.is_ascii_alphanumeric, Str.Parse.digits_value}
use Rattle.trlab_code.specs.declared.instruction.Register.{Register, TheVariants.{R0, R1, R2, R3, R4, R5, R6}}
use Rattle.trlab_code.specs.declared.instruction.{Register.TheVariants.R7, Input.{Input, TheVariants.Speed}}
use Rattle.trlab_code.specs.declared.instruction.Input.TheVariants.{Limit, Gap, SideGap, SideBack, Lane}
use Rattle.trlab_code.specs.declared.instruction.Input.TheVariants.{Headspeed}
use Rattle.trlab_bounds.specs.declared.programs.TheConstants.{WORDS, CERTAIN, MAX_NUMBER}
use Rattle.trlab_asm.specs.Names.{register_text, input_text, mnemonic_text, mnemonic_named}
use Rattle.trlab_asm.specs.Operands.{register, input, digits_of, numeral, value_within, number, WrittenTarget}
use Rattle.trlab_asm.specs.Operands.{jump_target, target_named, is_label, all_label_bytes, two_registers}
use Rattle.trlab_asm.specs.Operands.{three_registers, register_input, register_and_number}
use Rattle.trlab_asm.specs.Operands.{two_registers_number, word_chance, register_word_chance, register_target}
use Rattle.trlab_asm.{specs.Operands.{two_registers_target, ◌then◌}, proofs.UncutWords.then_again}
use Rattle.trlab_asm.specs.{Canonical.{label_text, target_text, ◌comma◌}, declared.names.Mnemonic.Mnemonic}
use Rattle.trlab_asm.proofs.UncutWords.{is_plain, plain_word, and_parts, and_both, alone_behind_blank}
use Rattle.trlab_asm.specs.declared.names.Mnemonic.TheVariants as name
use Rattle.trlab_lines.{specs.Lines.all_digits, proofs.Digits.own}

pub register_plain : (r : Register) → plain_word (register_text r) ≡ true
register_plain R0 = refl
register_plain R1 = refl
register_plain R2 = refl
register_plain R3 = refl
register_plain R4 = refl
register_plain R5 = refl
register_plain R6 = refl
register_plain R7 = refl

pub register_again : (r : Register) → register (32 ∷ register_text r) ≡ Ok r
register_again R0 = refl
register_again R1 = refl
register_again R2 = refl
register_again R3 = refl
register_again R4 = refl
register_again R5 = refl
register_again R6 = refl
register_again R7 = refl

pub input_plain : (k : Input) → plain_word (input_text k) ≡ true
input_plain Speed = refl
input_plain Limit = refl
input_plain Gap = refl
input_plain SideGap = refl
input_plain SideBack = refl
input_plain Lane = refl
input_plain Headspeed = refl

input_again : (k : Input) → input (32 ∷ input_text k) ≡ Ok k
input_again Speed = refl
input_again Limit = refl
input_again Gap = refl
input_again SideGap = refl
input_again SideBack = refl
input_again Lane = refl
input_again Headspeed = refl

-- the text of a name is one plain word, which is read back as this name
pub record IsName (x : Mnemonic) : Type 0 where
  pub plain : plain_word (mnemonic_text x) ≡ true
  pub some : 0 < length (mnemonic_text x)
  pub again : mnemonic_named (mnemonic_text x) ≡ Some x

pub name_again : (x : Mnemonic) → IsName x
name_again name.Num = record { plain = refl; some = omega arith; again = refl }
name_again name.Get = record { plain = refl; some = omega arith; again = refl }
name_again name.Side = record { plain = refl; some = omega arith; again = refl }
name_again name.Draw = record { plain = refl; some = omega arith; again = refl }
name_again name.Copy = record { plain = refl; some = omega arith; again = refl }
name_again name.Add = record { plain = refl; some = omega arith; again = refl }
name_again name.Sub = record { plain = refl; some = omega arith; again = refl }
name_again name.Mul = record { plain = refl; some = omega arith; again = refl }
name_again name.Div = record { plain = refl; some = omega arith; again = refl }
name_again name.Min = record { plain = refl; some = omega arith; again = refl }
name_again name.Max = record { plain = refl; some = omega arith; again = refl }
name_again name.Not = record { plain = refl; some = omega arith; again = refl }
name_again name.And = record { plain = refl; some = omega arith; again = refl }
name_again name.Or = record { plain = refl; some = omega arith; again = refl }
name_again name.Jump = record { plain = refl; some = omega arith; again = refl }
name_again name.JumpLess = record { plain = refl; some = omega arith; again = refl }
name_again name.JumpAtMost = record { plain = refl; some = omega arith; again = refl }
name_again name.JumpTrue = record { plain = refl; some = omega arith; again = refl }
name_again name.JumpFalse = record { plain = refl; some = omega arith; again = refl }
name_again name.Go = record { plain = refl; some = omega arith; again = refl }
name_again name.Cross = record { plain = refl; some = omega arith; again = refl }
name_again name.Stay = record { plain = refl; some = omega arith; again = refl }

decimal_digits : (n : ℕ) → n < 2 ^ 32 → all_digits (decimal n) ≡ true
decimal_digits n small = digits_decimal own n (omega arith)

digit_plain : (c : ℕ) → is_ascii_digit c ≡ true → is_plain c ≡ true
digit_plain c digit = grind (arith, nat_tests)

digits_plain : (w : List ℕ) → all_digits w ≡ true → plain_word w ≡ true
digits_plain [] all = refl
digits_plain (c ∷ w) all = let both = and_parts (is_ascii_digit c) (all_digits w) all in and_both (is_plain c) (plain_word w) (digit_plain c both.0) (digits_plain w both.1)

pub decimal_plain : (n : ℕ) → n < 2 ^ 32 → plain_word (decimal n) ≡ true
decimal_plain n small = digits_plain (decimal n) (decimal_digits n small)

decimal_number : (n : ℕ) → n < 2 ^ 32 → digits_of (decimal n) ≡ Ok (decimal n)
decimal_number n small = rw (lt-ltb 0 (length (decimal n)) (decimal_nonempty n (omega arith)), decimal_digits n small) refl

numeral_again : (n : ℕ) → n < 2 ^ 32 → numeral (32 ∷ decimal n) ≡ Ok (decimal n)
numeral_again n small = rw (alone_behind_blank (decimal n) (decimal_plain n small) (decimal_nonempty n (omega arith))) (decimal_number n small)

ranged_again : (low high n : ℕ) → n < 2 ^ 32 → low ≤ n → n ≤ high → value_within low high (decimal n) ≡ Ok n
ranged_again low high n small above below =
    let value : digits_value 10 (decimal n) ≡ n = digits_value-decimal own n (omega arith) in
    let short : length (decimal n) ≤ 10 = length-decimal-le 10 n (omega arith) (omega arith) (omega arith) in
    rw (value, le-leb (length (decimal n)) 10 short, le-leb low n above, le-leb n high below) refl

number_again : (low n : ℕ) → n < 2 ^ 32 → low ≤ n → number low MAX_NUMBER (32 ∷ decimal n) ≡ Ok n
number_again low n small above = rw (numeral_again n small) (ranged_again low MAX_NUMBER n small above (omega arith))

digit_in_label : (c : ℕ) → is_ascii_digit c ≡ true → (is_ascii_alphanumeric c || c == 95) ≡ true
digit_in_label c digit = grind (arith, nat_tests)

digits_of_label : (w : List ℕ) → all_digits w ≡ true → all_label_bytes w ≡ true
digits_of_label [] all = refl
digits_of_label (c ∷ w) all = let both = and_parts (is_ascii_digit c) (all_digits w) all in and_both (is_ascii_alphanumeric c || c == 95) (all_label_bytes w) (digit_in_label c both.0) (digits_of_label w both.1)

pub label_again : (pc : ℕ) → pc < 2 ^ 32 → is_label (label_text pc) ≡ true
label_again pc small =
    let short : length (decimal pc) ≤ 10 = length-decimal-le 10 pc (omega arith) (omega arith) (omega arith) in
    rw (lt-ltb 0 (length (label_text pc)) (omega arith), le-leb (length (label_text pc)) 32 (omega arith), digits_of_label (decimal pc) (decimal_digits pc small)) refl

and_false : (b : Bool) → (b && false) ≡ false
and_false true = refl
and_false false = refl

-- the target of a printed jump
abbrev pub goal_of : ℕ → ℕ → WrittenTarget
goal_of count pc = cond (nat_lt pc count) (record { pc = 0; label = Some (label_text pc) }) (record { pc = pc; label = None })

at_sign : (pc : ℕ) → pc < 2 ^ 32 → target_named (64 ∷ decimal pc) ≡ Ok (record { pc = pc; label = None })
at_sign pc small =
    let no_label : is_label (64 ∷ decimal pc) ≡ false = and_false (nat_lt 0 (length (64 ∷ decimal pc)) && nat_le (length (64 ∷ decimal pc)) 32) in
    rw (no_label, decimal_number pc small, ranged_again 0 MAX_NUMBER pc small (omega arith) (omega arith)) refl

pub target_plain : (count pc : ℕ) → pc < 2 ^ 32 → plain_word (target_text count pc) ≡ true
target_plain count pc small = by_cases (nat_lt pc count)
  where
    by_cases : (b : Bool) → plain_word (cond b (label_text pc) (64 ∷ decimal pc)) ≡ true
    by_cases true = decimal_plain pc small
    by_cases false = decimal_plain pc small

pub target_again : (count pc : ℕ) → pc < 2 ^ 32 → jump_target (32 ∷ target_text count pc) ≡ Ok (goal_of count pc)
target_again count pc small = by_cases (nat_lt pc count)
  where
    by_cases : (b : Bool) → jump_target (32 ∷ cond b (label_text pc) (64 ∷ decimal pc)) ≡ Ok (cond b (record { pc = 0; label = Some (label_text pc) }) (record { pc = pc; label = None }))
    by_cases true = rw (alone_behind_blank (label_text pc) (decimal_plain pc small) (omega arith), label_again pc small) refl
    by_cases false = rw (alone_behind_blank (64 ∷ decimal pc) (decimal_plain pc small) (omega arith)) (at_sign pc small)

-- the operands of each shape

pub two_again : (d a : Register) → two_registers (32 ∷ (register_text d comma register_text a)) ≡ Ok (d, a)
two_again d a = then_again register register (register_text d) (register_text a) d a (register_plain d) (register_again d) (register_again a)

pub three_again : (d a b : Register) → three_registers (32 ∷ (register_text d comma register_text a comma register_text b)) ≡ Ok (d, (a, b))
three_again d a b = then_again register two_registers (register_text d) (register_text a comma register_text b) d (a, b) (register_plain d) (register_again d) (two_again a b)

pub get_again : (d : Register) (k : Input) → register_input (32 ∷ (register_text d comma input_text k)) ≡ Ok (d, k)
get_again d k = then_again register input (register_text d) (input_text k) d k (register_plain d) (register_again d) (input_again k)

pub one_number_again : (d : Register) (n : ℕ) → n < 2 ^ 32 → register_and_number 0 (32 ∷ (register_text d comma decimal n)) ≡ Ok (d, n)
one_number_again d n small = then_again register (number 0 MAX_NUMBER) (register_text d) (decimal n) d n (register_plain d) (register_again d) (number_again 0 n small (omega arith))

pub two_number_again : (low : ℕ) (d a : Register) (n : ℕ) → n < 2 ^ 32 → low ≤ n → two_registers_number low (32 ∷ (register_text d comma register_text a comma decimal n)) ≡ Ok (d, (a, n))
two_number_again low d a n small above =
    then_again register (register then number low MAX_NUMBER) (register_text d) (register_text a comma decimal n) d (a, n) (register_plain d) (register_again d)
    (then_again register (number low MAX_NUMBER) (register_text a) (decimal n) a n (register_plain a) (register_again a) (number_again low n small above))

word_chance_again : (k t : ℕ) → k < WORDS → t ≤ CERTAIN → word_chance (32 ∷ (decimal k comma decimal t)) ≡ Ok (k, t)
word_chance_again k t low less =
    let small : k < 2 ^ 32 = omega arith in
    let small_too : t < 2 ^ 32 = omega arith in
    rw (
      then_again numeral numeral (decimal k) (decimal t) (decimal k) (decimal t) (decimal_plain k small) (numeral_again k small) (numeral_again t small_too),
      ranged_again 0 (WORDS - 1) k small (omega arith) (omega arith),
      ranged_again 0 CERTAIN t small_too (omega arith) less,
    ) refl

pub draw_again : (d : Register) (k t : ℕ) → k < WORDS → t ≤ CERTAIN → register_word_chance (32 ∷ (register_text d comma decimal k comma decimal t)) ≡ Ok (d, (k, t))
draw_again d k t low less = then_again register word_chance (register_text d) (decimal k comma decimal t) d (k, t) (register_plain d) (register_again d) (word_chance_again k t low less)

pub one_target_again : (count : ℕ) (a : Register) (t : ℕ) → t < 2 ^ 32 → register_target (32 ∷ (register_text a comma target_text count t)) ≡ Ok (a, goal_of count t)
one_target_again count a t small = then_again register jump_target (register_text a) (target_text count t) a (goal_of count t) (register_plain a) (register_again a) (target_again count t small)

pub two_target_again : (count : ℕ) (a b : Register) (t : ℕ) → t < 2 ^ 32 → two_registers_target (32 ∷ (register_text a comma register_text b comma target_text count t)) ≡ Ok (a, (b, goal_of count t))
two_target_again count a b t small = then_again register register_target (register_text a) (register_text b comma target_text count t) a (b, goal_of count t) (register_plain a) (register_again a) (one_target_again count b t small)

-- The kinds of operands of each instruction, and the ranges and the forms of these kinds.
use Rattle.std.specs.Prelude.{ℕ, ◌-◌, Bool, List, [], ◌∷◌, codes, Option, None, Some, is_some}
use Rattle.trlab_bounds.specs.declared.programs.TheConstants.{CERTAIN, MAX_NUMBER, WORDS}
use Rattle.trlab_lines.specs.Lines.{without_prefix, is_numeral}
use Rattle.trlab_asm.specs.{Names.{register_named, input_named}, Operands.is_label}
use Rattle.trlab_asm.specs.declared.{names.Mnemonic.Mnemonic, operands.OperandKind.OperandKind}
use Rattle.trlab_asm.specs.declared.operands.OperandKind.TheVariants.{Register, Result, Number, Divisor, Word}
use Rattle.trlab_asm.specs.declared.operands.OperandKind.TheVariants.{Chance, Input, Target}
use Rattle.trlab_asm.specs.declared.names.Mnemonic.TheVariants as name

-- the kinds of an instruction's operands, from left to right
abbrev pub kinds_of : Mnemonic → List OperandKind
kinds_of name.Num = Result ∷ Number ∷ []
kinds_of name.Get = Result ∷ Input ∷ []
kinds_of name.Side = Result ∷ []
kinds_of name.Draw = Result ∷ Word ∷ Chance ∷ []
kinds_of name.Copy = Result ∷ Register ∷ []
kinds_of name.Add = Result ∷ Register ∷ Register ∷ []
kinds_of name.Sub = Result ∷ Register ∷ Register ∷ []
kinds_of name.Mul = Result ∷ Register ∷ Number ∷ []
kinds_of name.Div = Result ∷ Register ∷ Divisor ∷ []
kinds_of name.Min = Result ∷ Register ∷ Register ∷ []
kinds_of name.Max = Result ∷ Register ∷ Register ∷ []
kinds_of name.Not = Result ∷ Register ∷ []
kinds_of name.And = Result ∷ Register ∷ Register ∷ []
kinds_of name.Or = Result ∷ Register ∷ Register ∷ []
kinds_of name.Jump = Target ∷ []
kinds_of name.JumpLess = Register ∷ Register ∷ Target ∷ []
kinds_of name.JumpAtMost = Register ∷ Register ∷ Target ∷ []
kinds_of name.JumpTrue = Register ∷ Target ∷ []
kinds_of name.JumpFalse = Register ∷ Target ∷ []
kinds_of name.Go = Register ∷ []
kinds_of name.Cross = []
kinds_of name.Stay = []

-- the smallest and the largest number that an operand of a kind may be; `None` for kinds that are not numbers
abbrev pub range_of : OperandKind → Option (ℕ × ℕ)
range_of Number = Some (0, MAX_NUMBER)
range_of Divisor = Some (1, MAX_NUMBER)
range_of Word = Some (0, WORDS - 1)
range_of Chance = Some (0, CERTAIN)
range_of other = None

-- does a word have the form of a jump's target? `digits` is the word after `@`, if it begins with `@`: it
-- must be a number; otherwise the word must be a label
abbrev pub is_target_after : List ℕ → Option (List ℕ) → Bool
is_target_after word None = is_label word
is_target_after word (Some digits) = is_numeral digits

-- does a word have the form of an operand of a kind? A number may be outside the range of the kind; for
-- example, `0` has the form of a divisor
abbrev pub has_form : OperandKind → List ℕ → Bool
has_form Register word = is_some (register_named word)
has_form Result word = is_some (register_named word)
has_form Input word = is_some (input_named word)
has_form Target word = is_target_after word (without_prefix (codes "@") word)
has_form other word = is_numeral word

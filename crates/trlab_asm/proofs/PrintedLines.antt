-- A printed line is read back.
use Rattle.std.proofs.Common.{◌≡◌, ◌==◌, ℕ, ◌<◌, ◌≤◌, ◌^◌, List, [], ◌∷◌, ◌++◌, get_or, refl, sym, ◌∙◌, arith}
use Rattle.std.proofs.Common.{Bool, true, false, cond, not, Option, None, Some, Ok, decimal, eq-eqb}
use Rattle.std.proofs.lemmas.List.Elements.{All-cons}
use Rattle.trlab_code.specs.declared.instruction.{Register.Register, Instr.Instr}
use Rattle.trlab_code.specs.declared.instruction.Instr.TheVariants.{Num, Get, Side, Draw, Copy, Add, Sub, Mul}
use Rattle.trlab_code.specs.declared.instruction.Instr.TheVariants.{Div, Min, Max, Not, And, Or, Jump}
use Rattle.trlab_code.specs.declared.instruction.Instr.TheVariants.{JumpLess, JumpAtMost, JumpTrue, JumpFalse}
use Rattle.trlab_code.specs.declared.instruction.Instr.TheVariants.{Go, Cross, Stay}
use Rattle.trlab_bounds.specs.declared.programs.TheConstants.{MAX_INSTRUCTIONS, WORDS, CERTAIN}
use Rattle.trlab_lines.specs.Lines.{HasNoLineFeed, without_indent}
use Rattle.trlab_asm.specs.{Names.{register_text, input_text, mnemonic_text}, Reading.{Labels, line_content}}
use Rattle.trlab_asm.specs.Canonical.{label_text, target_text, ◌comma◌, with_operands, instr_text, instr_line}
use Rattle.trlab_asm.specs.declared.names.Mnemonic.{Mnemonic}
use Rattle.trlab_asm.proofs.UncutWords.{is_plain, plain_word, and_parts, and_both, not_true, none_of}
use Rattle.trlab_asm.proofs.UncutWords.{none_in_plain, alone_at_front, without_blank, behind_blank, cut_here}
use Rattle.trlab_asm.proofs.UncutWords.{cut_nowhere, no_colon, no_semicolon, no_line_end}
use Rattle.trlab_asm.proofs.Printed.{name_again, register_plain, input_plain, decimal_plain, target_plain}
use Rattle.trlab_asm.proofs.{Printed.label_again, PrintedInstrs.{Fits, draft_again, instr_again}}
use Rattle.trlab_asm.specs.declared.names.Mnemonic.TheVariants as name

-- a test that passes none of the bytes of words, no space and no comma
record IsAside (p : ℕ → Bool) : Type 0 where
  pub word : (c : ℕ) → is_plain c ≡ true → p c ≡ false
  pub space : p 32 ≡ false
  pub behind : p 44 ≡ false

comma_none : (p : ℕ → Bool) (a b : List ℕ) → IsAside p → plain_word a ≡ true → none_of p b ≡ true → none_of p (a comma b) ≡ true
comma_none p [] b aside plain none = rw (aside.behind, aside.space) none
comma_none p (c ∷ a) b aside plain none = let both = and_parts (is_plain c) (plain_word a) plain in rw (aside.word c both.0) (comma_none p a b aside both.1 none)

register_none : (p : ℕ → Bool) (r : Register) → IsAside p → none_of p (register_text r) ≡ true
register_none p r aside = none_in_plain p (register_text r) aside.word (register_plain r)

decimal_none : (p : ℕ → Bool) (n : ℕ) → IsAside p → n < 2 ^ 32 → none_of p (decimal n) ≡ true
decimal_none p n aside small = none_in_plain p (decimal n) aside.word (decimal_plain n small)

target_none : (p : ℕ → Bool) (count t : ℕ) → IsAside p → t < 2 ^ 32 → none_of p (target_text count t) ≡ true
target_none p count t aside small = none_in_plain p (target_text count t) aside.word (target_plain count t small)

spaced_none : (p : ℕ → Bool) (word rest : List ℕ) → IsAside p → plain_word word ≡ true → none_of p rest ≡ true → none_of p (word ++ (32 ∷ rest)) ≡ true
spaced_none p [] rest aside plain none = rw aside.space none
spaced_none p (c ∷ word) rest aside plain none = let both = and_parts (is_plain c) (plain_word word) plain in rw (aside.word c both.0) (spaced_none p word rest aside both.1 none)

-- a name and operands
named_none : (p : ℕ → Bool) (x : Mnemonic) (operands : List ℕ) → IsAside p → none_of p operands ≡ true → none_of p (with_operands x operands) ≡ true
named_none p x operands aside none = spaced_none p (mnemonic_text x) operands aside (name_again x).plain none

one_none : (p : ℕ → Bool) (x : Mnemonic) (d : Register) (rest : List ℕ) → IsAside p → none_of p rest ≡ true → none_of p (with_operands x (register_text d comma rest)) ≡ true
one_none p x d rest aside none = named_none p x (register_text d comma rest) aside (comma_none p (register_text d) rest aside (register_plain d) none)

two_none : (p : ℕ → Bool) (x : Mnemonic) (d a : Register) (rest : List ℕ) → IsAside p → none_of p rest ≡ true → none_of p (with_operands x (register_text d comma register_text a comma rest)) ≡ true
two_none p x d a rest aside none = one_none p x d (register_text a comma rest) aside (comma_none p (register_text a) rest aside (register_plain a) none)

draw_none : (p : ℕ → Bool) (d : Register) (k t : ℕ) → IsAside p → k < WORDS → t ≤ CERTAIN → none_of p (with_operands name.Draw (register_text d comma decimal k comma decimal t)) ≡ true
draw_none p d k t aside low less =
    one_none p name.Draw d (decimal k comma decimal t) aside (comma_none p (decimal k) (decimal t) aside (decimal_plain k (omega arith)) (decimal_none p t aside (omega arith)))

-- such a test passes no byte of an instruction's text
instr_none : (p : ℕ → Bool) (count : ℕ) (i : Instr) → IsAside p → Fits i → none_of p (instr_text count i) ≡ true
instr_none p count (Num d n) aside fits = one_none p name.Num d (decimal n) aside (decimal_none p n aside fits.1)
instr_none p count (Get d k) aside fits = one_none p name.Get d (input_text k) aside (none_in_plain p (input_text k) aside.word (input_plain k))
instr_none p count (Side d) aside fits = named_none p name.Side (register_text d) aside (register_none p d aside)
instr_none p count (Draw d k t) aside fits = draw_none p d k t aside fits.0.0 fits.0.1
instr_none p count (Copy d a) aside fits = one_none p name.Copy d (register_text a) aside (register_none p a aside)
instr_none p count (Add d a b) aside fits = two_none p name.Add d a (register_text b) aside (register_none p b aside)
instr_none p count (Sub d a b) aside fits = two_none p name.Sub d a (register_text b) aside (register_none p b aside)
instr_none p count (Mul d a n) aside fits = two_none p name.Mul d a (decimal n) aside (decimal_none p n aside fits.1)
instr_none p count (Div d a n) aside fits = two_none p name.Div d a (decimal n) aside (decimal_none p n aside fits.1)
instr_none p count (Min d a b) aside fits = two_none p name.Min d a (register_text b) aside (register_none p b aside)
instr_none p count (Max d a b) aside fits = two_none p name.Max d a (register_text b) aside (register_none p b aside)
instr_none p count (Not d a) aside fits = one_none p name.Not d (register_text a) aside (register_none p a aside)
instr_none p count (And d a b) aside fits = two_none p name.And d a (register_text b) aside (register_none p b aside)
instr_none p count (Or d a b) aside fits = two_none p name.Or d a (register_text b) aside (register_none p b aside)
instr_none p count (Jump t) aside fits = named_none p name.Jump (target_text count t) aside (target_none p count t aside fits.1)
instr_none p count (JumpLess a b t) aside fits = two_none p name.JumpLess a b (target_text count t) aside (target_none p count t aside fits.1)
instr_none p count (JumpAtMost a b t) aside fits = two_none p name.JumpAtMost a b (target_text count t) aside (target_none p count t aside fits.1)
instr_none p count (JumpTrue a t) aside fits = one_none p name.JumpTrue a (target_text count t) aside (target_none p count t aside fits.1)
instr_none p count (JumpFalse a t) aside fits = one_none p name.JumpFalse a (target_text count t) aside (target_none p count t aside fits.1)
instr_none p count (Go a) aside fits = named_none p name.Go (register_text a) aside (register_none p a aside)
instr_none p count Cross aside fits = none_in_plain p (mnemonic_text name.Cross) aside.word refl
instr_none p count Stay aside fits = none_in_plain p (mnemonic_text name.Stay) aside.word refl

-- the text does not begin with a space
begins_plain : (count : ℕ) (i : Instr) → is_plain (get_or (instr_text count i) 0 0) ≡ true
begins_plain count (Num d n) = refl
begins_plain count (Get d k) = refl
begins_plain count (Side d) = refl
begins_plain count (Draw d k t) = refl
begins_plain count (Copy d a) = refl
begins_plain count (Add d a b) = refl
begins_plain count (Sub d a b) = refl
begins_plain count (Mul d a n) = refl
begins_plain count (Div d a n) = refl
begins_plain count (Min d a b) = refl
begins_plain count (Max d a b) = refl
begins_plain count (Not d a) = refl
begins_plain count (And d a b) = refl
begins_plain count (Or d a b) = refl
begins_plain count (Jump t) = refl
begins_plain count (JumpLess a b t) = refl
begins_plain count (JumpAtMost a b t) = refl
begins_plain count (JumpTrue a t) = refl
begins_plain count (JumpFalse a t) = refl
begins_plain count (Go a) = refl
begins_plain count Cross = refl
begins_plain count Stay = refl

unindented_is : (text : List ℕ) → is_plain (get_or text 0 0) ≡ true → without_indent text ≡ text
unindented_is [] plain = refl
unindented_is (c ∷ cs) plain = without_blank c cs plain

spaced_is : (text : List ℕ) → is_plain (get_or text 0 0) ≡ true → without_indent (32 ∷ text) ≡ text
spaced_is [] plain = refl
spaced_is (c ∷ cs) plain = behind_blank c cs plain

semicolon_aside : IsAside (λ b. b == 59)
semicolon_aside = record { word = no_semicolon; space = refl; behind = refl }

colon_aside : IsAside (λ b. b == 58)
colon_aside = record { word = no_colon; space = refl; behind = refl }

end_aside : IsAside (λ b. b == 10)
end_aside = record { word = no_line_end; space = refl; behind = refl }

none_append : (p : ℕ → Bool) (a b : List ℕ) → none_of p a ≡ true → none_of p b ≡ true → none_of p (a ++ b) ≡ true
none_append p [] b first second = second
none_append p (c ∷ a) b first second = let both = and_parts (not (p c)) (none_of p a) first in and_both (not (p c)) (none_of p (a ++ b)) both.0 (none_append p a b both.1 second)

-- no byte of a printed label with its instruction passes such a test
marked_none : (p : ℕ → Bool) (count pc : ℕ) (i : Instr) → IsAside p → p 58 ≡ false → pc < MAX_INSTRUCTIONS → Fits i → none_of p (label_text pc ++ (58 ∷ 32 ∷ instr_text count i)) ≡ true
marked_none p count pc i aside colon room fits =
    none_append p (label_text pc) (58 ∷ 32 ∷ instr_text count i)
    (none_in_plain p (label_text pc) aside.word (decimal_plain pc (omega arith)))
    (rw (colon, aside.space) (instr_none p count i aside fits))

line_none : (count pc : ℕ) (marked : Bool) (i : Instr) → pc < MAX_INSTRUCTIONS → Fits i → none_of (λ b. b == 10) (instr_line count marked pc i) ≡ true
line_none count pc true i room fits = marked_none (λ b. b == 10) count pc i end_aside refl room fits
line_none count pc false i room fits = instr_none (λ b. b == 10) count i end_aside fits

is_no_end : (c : ℕ) → (c == 10) ≡ false → c ≡ 10 → ⊥
is_no_end c other same = let both : true ≡ false = sym (eq-eqb c 10 same) ∙ other in cc

none_is_end : (line : List ℕ) → none_of (λ b. b == 10) line ≡ true → HasNoLineFeed line
none_is_end [] none = λ k d inside. absurd (omega arith)
none_is_end (c ∷ line) none =
    let both = and_parts (not (c == 10)) (none_of (λ b. b == 10) line) none in
    All-cons (λ byte. byte ≡ 10 → ⊥) c line (is_no_end c (not_true (c == 10) both.0)) (none_is_end line both.1)

-- a printed line contains no LF
pub line_has_no_end : (count pc : ℕ) (marked : Bool) (i : Instr) → pc < MAX_INSTRUCTIONS → Fits i → HasNoLineFeed (instr_line count marked pc i)
line_has_no_end count pc marked i room fits = none_is_end (instr_line count marked pc i) (line_none count pc marked i room fits)

-- the label of a line that has one
abbrev pub mark : Bool → ℕ → Option (List ℕ)
mark marked pc = cond marked (Some (label_text pc)) None

-- a printed line is read back as its instruction and its label
pub line_again : (labels : Labels) (count pc : ℕ) (marked : Bool) (i : Instr) → pc < MAX_INSTRUCTIONS → Fits i → labels (label_text pc) ≡ None
    → line_content labels pc (instr_line count marked pc i) ≡ Ok (record { label = mark marked pc; draft = Some (draft_again count i) })
line_again labels count pc true i room fits free =
    rw (
      cut_nowhere 59 (label_text pc ++ (58 ∷ 32 ∷ instr_text count i)) (marked_none (λ b. b == 59) count pc i semicolon_aside refl room fits),
      cut_here 58 (label_text pc) (32 ∷ instr_text count i) (none_in_plain (λ b. b == 58) (label_text pc) no_colon (decimal_plain pc (omega arith))) refl,
      alone_at_front (label_text pc) (decimal_plain pc (omega arith)) (omega arith),
      label_again pc (omega arith),
      free,
      spaced_is (instr_text count i) (begins_plain count i),
      instr_again count pc i room fits,
    ) refl
line_again labels count pc false i room fits free =
    rw (
      cut_nowhere 59 (instr_text count i) (instr_none (λ b. b == 59) count i semicolon_aside fits),
      cut_nowhere 58 (instr_text count i) (instr_none (λ b. b == 58) count i colon_aside fits),
      unindented_is (instr_text count i) (begins_plain count i),
      instr_again count pc i room fits,
    ) refl

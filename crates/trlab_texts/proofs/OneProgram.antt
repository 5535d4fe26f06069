-- The lines of a program have exactly one meaning.
use Rattle.std.proofs.Common.{◌≡◌, ℕ, ◌+◌, ◌<◌, ◌≤◌, ◌^◌, Bool, true, false, List, [], ◌∷◌, length, refl, sym}
use Rattle.std.proofs.Common.{◌∙◌, ap, subst, inl, inr, arith, ◌≢◌, Option, Some, None, Result, Ok, Err}
use Rattle.std.proofs.{Common.{MatchResult, codes, bytes_eq}, lemmas.Bool.cases_order}
use Rattle.std.proofs.lemmas.List.Elements.{All-from_get_or}
use Rattle.hex.specs.{Hex.decode_of, declared.error.FromHexError.FromHexError}
use Rattle.hex.proofs.HexLemmas.{decode_of-ok}
use Rattle.trlab_code.specs.{declared.program.Kind.Kind, Program.{Program, IsValidProgram}}
use Rattle.trlab_code.specs.declared.{program.Kind.TheVariants.{Motion, Change}, instruction.Instr.Instr}
use Rattle.trlab_code.specs.declared.fault.CodeFault.{CodeFault, TheVariants.Kind as OtherKind}
use Rattle.trlab_code.{specs.Laws.{AreBytes, BytesMean}, proofs.{Readable.something, Said.one_thing}}
use Rattle.trlab_asm.specs.{declared.fault.{AsmFault.AsmFault, Why.TheVariants.Memory}, Assembly.code_of}
use Rattle.trlab_asm.proofs.Said.{lines_say}
use Rattle.trlab_verify.specs.Verified.{CheckedProgram, IsChecked}
use Rattle.trlab_verify.specs.Verdict.{IsLongest, IsAccepted, IsRefused, reason_number_at}
use Rattle.trlab_verify.proofs.Judged.{accepted_or_refused, some_budget}
use Rattle.trlab_texts.specs.declared.fault.Cause.{Cause, TheVariants.{Line, Hex, Code, Verdict}}
use Rattle.trlab_texts.specs.{Reading.{Rest, LocatedFault, before}, Words.word_after, Programs.BytesDecodeTo}
use Rattle.trlab_texts.specs.Programs.{DigitsDecodeTo, CodeParsesTo, code_line, as_kind, of_kind}
use Rattle.trlab_texts.specs.Programs.{code_line_of, with_line_offset, program_after, EndSplit, split_at_end}
use Rattle.trlab_texts.specs.Programs.{heading_line, block, HeadingParsesTo, PartParsesTo, program_part}
use Rattle.trlab_texts.{specs.Programs.{IsVerdict, verdict, part}, proofs.Fine.{Anything, Fine, FineText}}
use Rattle.trlab_texts.proofs.Fine.{code_other, hex_other, line_other, program_other, verdict_other}
use Rattle.trlab_texts.proofs.{Fine.word_fine, OneAnswer.{OneLine, OneText, OnePart, OneRule, OneReading}}
use Rattle.trlab_texts.proofs.OneAnswer.{exact, made, next_one, then_one, before_fine, before_one}

-- the result for bytes, with the cause of a text
abbrev with_cause : Result Program CodeFault → Result Program Cause
with_cause (Ok program) = Ok program
with_cause (Err fault) = Err (Code fault)

said_with_cause : (bytes : List ℕ) (said : Result Program CodeFault) → BytesMean bytes said → BytesDecodeTo bytes (with_cause said) × Fine IsValidProgram (with_cause said)
said_with_cause bytes (Ok program) says = ((says.1, says.0), says.1)
said_with_cause bytes (Err fault) says = (says, code_other fault)

without_cause : (bytes : List ℕ) (says : Result Program Cause) → BytesDecodeTo bytes says → (said : Result Program CodeFault) × (BytesMean bytes said × (says ≡ with_cause said))
without_cause bytes (Ok program) p = (Ok program, ((p.1, p.0), refl))
without_cause bytes (Err (Code fault)) p = (Err fault, (p, refl))
without_cause bytes (Err _) p = absurd p

bytes_one : (bytes : List ℕ) → AreBytes bytes → OneLine IsValidProgram (BytesDecodeTo bytes)
bytes_one bytes are =
    let found = something bytes are in
    let said = said_with_cause bytes found.0 found.1 in
    record {
      answer = with_cause found.0;
      says = said.0;
      keeps = said.1;
      only = λ other p. let also = without_cause bytes other p in also.1.1 ∙ ap with_cause (one_thing bytes also.0 found.0 also.1.0 found.1);
    }

-- decoded digits are bytes
decoded : (digits bytes : List ℕ) → decode_of digits ≡ Ok bytes → AreBytes bytes
decoded digits bytes is = All-from_get_or (λ byte. byte < 2 ^ 8) bytes 0 (λ i below. (decode_of-ok digits bytes is).3 i)

digits_one : (digits : List ℕ) (bytes : Result (List ℕ) FromHexError) → decode_of digits ≡ bytes → OneLine IsValidProgram (DigitsDecodeTo bytes)
digits_one digits (Ok bytes) is = bytes_one bytes (decoded digits bytes is)
digits_one digits (Err fault) is = exact (Err Hex) hex_other

word_one : (word : Result (List ℕ) Cause) → Fine Anything word → OneLine IsValidProgram (CodeParsesTo word)
word_one (Ok digits) fine = digits_one digits (decode_of digits) refl
word_one (Err cause) fine = exact (Err cause) fine

-- each line is one program in hexadecimal digits, or has a fault
pub code_one : OneRule IsValidProgram code_line
code_one text = word_one (word_after (codes "code ") text) (word_fine (codes "code ") text)

as_kind_fine : (kind own : Kind) (program : Program) → IsValidProgram program → Fine IsValidProgram (as_kind kind own program)
as_kind_fine Motion Motion program is = is
as_kind_fine Motion Change program is = code_other OtherKind
as_kind_fine Change Motion program is = code_other OtherKind
as_kind_fine Change Change program is = is

of_kind_fine : (kind : Kind) (says : Result Program Cause) → Fine IsValidProgram says → Fine IsValidProgram (of_kind kind says)
of_kind_fine kind (Ok program) is = as_kind_fine kind program.kind program is
of_kind_fine kind (Err cause) fine = fine

code_of_one : (kind : Kind) → OneRule IsValidProgram (code_line_of kind)
code_of_one kind text = made (of_kind kind) (code_one text) (of_kind_fine kind)

after_line_fine : (first : ℕ) (says : Result Program AsmFault) → MatchResult says IsValidProgram (λ fault. fault.why ≢ Memory) → FineText IsValidProgram (with_line_offset first says)
after_line_fine first (Ok program) is = is
after_line_fine first (Err fault) is = program_other fault.why

-- the lines of a program are one program, or have a fault
pub program_after_fine : (kind : Kind) (first : ℕ) (lines : List (List ℕ)) → FineText IsValidProgram (program_after kind first lines)
program_after_fine kind first lines = after_line_fine first (code_of kind lines) (lines_say kind lines)

block_fine : (kind : Kind) (first : ℕ) (left : List (List ℕ)) (parts : Option EndSplit) → FineText (λ (found : Program × Rest). IsValidProgram found.0) (block kind first left parts)
block_fine kind first left None = line_other
block_fine kind first left (Some parts) =
    before_fine IsValidProgram (record { number = first + length parts.0 + 2; left = parts.1 }) (program_after kind first parts.0) (program_after_fine kind first parts.0)

headed_one : (kind : Kind) (headed : Bool) (number : ℕ) (text : List ℕ) (left : List (List ℕ)) → OnePart IsValidProgram (HeadingParsesTo kind headed number text left)
headed_one kind true number text left = record { one = exact (block kind number left (split_at_end left)) (block_fine kind number left (split_at_end left)) }
headed_one kind false number text left = next_one (code_line_of kind) number (text ∷ left) (code_of_one kind)

next_program_one : (kind : Kind) (number : ℕ) (left : List (List ℕ)) → OnePart IsValidProgram (PartParsesTo kind number left)
next_program_one kind number [] = record { one = exact (Err (record { line = number; cause = Line })) line_other }
next_program_one kind number (text ∷ left) = headed_one kind (bytes_eq text (heading_line kind)) number text left

program_one : (kind : Kind) → OneReading IsValidProgram (program_part kind)
program_one kind place = next_program_one kind place.number place.left

-- only one longest path
pub one_longest : (code : List Instr) (n m : ℕ) → IsLongest code 0 n → IsLongest code 0 m → n ≡ m
one_longest code n m p q =
    let up : n ≤ m = q.most n p.way in
    let down : m ≤ n = p.most m q.way in
    omega arith

pub checked_one : (checked other : CheckedProgram) → checked.program ≡ other.program → (kind : Kind) → IsChecked kind checked → IsChecked kind other → checked ≡ other
checked_one checked other same kind c d =
    let long = subst (λ (p : Program). IsLongest p.instrs 0 checked.budget) same c.longest in
    let budget = one_longest other.program.instrs checked.budget other.budget long d.longest in
    let make : Program → ℕ → CheckedProgram = λ p n. record { program = p; budget = n } in
    ap (λ p. make p checked.budget) same ∙ ap (make other.program) budget

one_fault_at : {a b : ℕ} → Some a ≡ Some b → a ≡ b
one_fault_at e = cc

none_some : {a : ℕ} (o : Option ℕ) → o ≡ None → o ≡ Some a → ⊥
none_some o e f = cc

-- an accepted program is not rejected
pub not_refused : (kind : Kind) (program : Program) (at reason : ℕ) → IsAccepted kind program → IsRefused kind program at reason → ⊥
not_refused kind program at reason accepted refused = none_some (reason_number_at kind program at) (accepted at refused.within) refused.here

-- a program is rejected at only one instruction
pub refused_at_one : (kind : Kind) (program : Program) (at reason place other : ℕ) → IsRefused kind program at reason → IsRefused kind program place other → at ≡ place
refused_at_one kind program at reason place other p q = elim (cases_order at place) [
  | inl same ↦ same
  | inr rest ↦ elim rest [
    | inl before ↦ absurd (none_some (reason_number_at kind program at) (q.first at before) p.here)
    | inr behind ↦ absurd (none_some (reason_number_at kind program place) (p.first place behind) q.here)
  ]
]

-- and for only one reason
pub refused_one : (kind : Kind) (program : Program) (at reason place other : ℕ) → IsRefused kind program at reason → IsRefused kind program place other → reason ≡ other
refused_one kind program at reason place other p q =
    one_fault_at (sym p.here ∙ ap (reason_number_at kind program) (refused_at_one kind program at reason place other p q) ∙ q.here)

accepted_only : (kind : Kind) (first : ℕ) (checked : CheckedProgram) → IsAccepted kind checked.program → IsChecked kind checked
    → (other : Result CheckedProgram LocatedFault) → IsVerdict kind first checked.program other → other ≡ Ok checked
accepted_only kind first checked accepted is (Ok other) p = ap Ok (checked_one other checked p.0 kind p.1.1 is)
accepted_only kind first checked accepted is (Err fault) p = absurd (not_refused kind checked.program p.0 p.1 accepted p.2.0)

refused_only : (kind : Kind) (first : ℕ) (program : Program) (at reason : ℕ) → IsRefused kind program at reason
    → (other : Result CheckedProgram LocatedFault) → IsVerdict kind first program other → other ≡ Err (record { line = first; cause = Verdict reason })
refused_only kind first program at reason refused (Ok checked) p = absurd (not_refused kind program at reason p.1.0 refused)
refused_only kind first program at reason refused (Err fault) p =
    ap Err (p.2.1 ∙ ap (λ n. record { line = first; cause = Verdict n }) (refused_one kind program p.0 p.1 at reason p.2.0 refused))

-- the verifier has only one verdict on each program
verdict_one : (kind : Kind) (first : ℕ) (program : Program) → IsValidProgram program → OneText (IsChecked kind) (IsVerdict kind first program)
verdict_one kind first program is = elim (accepted_or_refused kind program) [
  | inl accepted ↦
      let found = some_budget kind program is accepted in
      let checked : CheckedProgram = record { program = program; budget = found.0 } in
      record { answer = Ok checked; says = (refl, (accepted, found.1)); keeps = found.1; only = accepted_only kind first checked accepted found.1 }
  | inr refused ↦ record {
    answer = Err (record { line = first; cause = Verdict refused.1 });
    says = (refused.0, refused.1, (refused.2, refl));
    keeps = verdict_other kind program refused.0 refused.1 refused.2;
    only = refused_only kind first program refused.0 refused.1 refused.2;
  }
]

-- each part is one checked program, or has one first fault
pub part_one : (kind : Kind) → OneReading (IsChecked kind) (part kind)
part_one kind place =
    then_one (program_part kind) (verdict kind place.number) (program_one kind)
    (λ program is behind. before_one behind (verdict_one kind place.number program is)) place

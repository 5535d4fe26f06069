-- Programs in texts: their bytes in hexadecimal digits on one line, or a block of lines.
use Rattle.std.specs.Prelude.{◌≡◌, ◌≢◌, ℕ, ◌+◌, Bool, true, false, List, [], ◌∷◌, length, codes, Option, None}
use Rattle.std.specs.Prelude.{Some, Result, Ok, Err, if◌then◌else◌, bytes_eq}
use Rattle.hex.specs.{Hex.decode_of, declared.error.FromHexError.FromHexError}
use Rattle.trlab_code.specs.{declared.program.Kind.{Kind, TheVariants.{Motion, Change}}, Encoding.encoding}
use Rattle.trlab_code.specs.declared.fault.CodeFault.TheVariants.{Kind as OtherKind, Memory as CodeMemory}
use Rattle.trlab_code.specs.{Program.{Program, IsValidProgram}, Faults.IsFirstCodeFault as FirstCodeFault}
use Rattle.trlab_asm.specs.{declared.fault.AsmFault.AsmFault, Assembly.code_of}
use Rattle.trlab_verify.specs.{Verified.{CheckedProgram, IsChecked}, Verdict.{IsAccepted, IsRefused}}
use Rattle.trlab_texts.specs.declared.fault.Cause.{Cause, TheVariants.{Line, Hex, Program as InProgram, Code}}
use Rattle.trlab_texts.specs.{declared.fault.Cause.TheVariants.Verdict, Reading.{Rest, LocatedFault}}
use Rattle.trlab_texts.specs.{Reading.{LineRule, Reading, ◌>>=◌, LineParsesTo, before}, Words.word_after}

-- `bytes` are the encoding of `program`, which is a valid program
abbrev pub IsEncodingOf : List ℕ → Program → Type 0
IsEncodingOf bytes program = IsValidProgram program × (bytes ≡ encoding program)

-- the result for a program's bytes: the program that they encode, or the first fault in them, which is never
-- a failed allocation; no other cause is possible
abbrev pub BytesDecodeTo : List ℕ → Result Program Cause → Type 0
BytesDecodeTo bytes (Ok program) = IsEncodingOf bytes program
BytesDecodeTo bytes (Err (Code fault)) = FirstCodeFault bytes fault × (fault ≢ CodeMemory)
BytesDecodeTo bytes (Err other) = ⊥

-- the result for a program in hexadecimal digits, which are decoded already: the cause `Hex` if that failed,
-- and otherwise the result for the decoded bytes
abbrev pub DigitsDecodeTo : Result (List ℕ) FromHexError → Result Program Cause → Type 0
DigitsDecodeTo (Err fault) result = result ≡ Err Hex
DigitsDecodeTo (Ok bytes) result = BytesDecodeTo bytes result

-- the result for the line `code X`, from its word X: the result for the hexadecimal digits X, or the cause
-- that is given instead of a word if there is none
abbrev pub CodeParsesTo : Result (List ℕ) Cause → Result Program Cause → Type 0
CodeParsesTo (Err cause) result = result ≡ Err cause
CodeParsesTo (Ok digits) result = DigitsDecodeTo (decode_of digits) result

-- the rule for the line `code X`, where X is the bytes of a program of either kind, in hexadecimal digits
abbrev pub code_line : LineRule Program
code_line text result = CodeParsesTo (word_after (codes "code ") text) result

-- the program, if its own kind (second) is the needed kind (first); otherwise the cause `Code OtherKind`
abbrev pub as_kind : Kind → Kind → Program → Result Program Cause
as_kind Motion Motion program = Ok program
as_kind Motion Change program = Err (Code OtherKind)
as_kind Change Motion program = Err (Code OtherKind)
as_kind Change Change program = Ok program

-- the result if a program of this kind is needed: a program of the other kind becomes the cause
-- `Code OtherKind`, and a cause stays
abbrev pub of_kind : Kind → Result Program Cause → Result Program Cause
of_kind kind (Err cause) = Err cause
of_kind kind (Ok program) = as_kind kind program.kind program

-- the rule for the line `code X`, where X is the bytes of a program of this kind, in hexadecimal digits
abbrev pub code_line_of : Kind → LineRule Program
code_line_of kind text result =
    (decoded : Result Program Cause) × (code_line text decoded × (result ≡ of_kind kind decoded))

-- the assembler's result for the lines after line `first` of a text, with the fault's line counted in the
-- text: after line 5, a fault in line 2 of the program is in line 7. A fault without a line (line 0), as in a
-- program without instructions, is at the line `first`
abbrev pub with_line_offset : ℕ → Result Program AsmFault → Result Program LocatedFault
with_line_offset first (Ok program) = Ok program
with_line_offset first (Err fault) = Err (record { line = first + fault.line; cause = InProgram fault.why })

-- the result for `lines` as a program of this kind; in their text, they come after the line `first`
abbrev pub program_after : Kind → ℕ → List (List ℕ) → Result Program LocatedFault
program_after kind first lines = with_line_offset first (code_of kind lines)

-- lines that are split at a line `end`: the lines before it, and the lines after it
abbrev pub EndSplit : Type 0
EndSplit = List (List ℕ) × List (List ℕ)

-- a split with the line `text` in front of the lines before `end`; none if there is no split
abbrev pub with_first_line : List ℕ → Option EndSplit → Option EndSplit
with_first_line text None = None
with_first_line text (Some parts) = Some (text ∷ parts.0, parts.1)

-- lines split at the first line `end`: the lines before it, and the lines after it; none if no line is `end`
unfoldable pub split_at_end : List (List ℕ) → Option EndSplit
split_at_end [] = None
split_at_end (text ∷ left) =
    if bytes_eq text (codes "end") then Some ([], left) else with_first_line text (split_at_end left)

-- `lines` are the lines of `rest` before its first line `end`, and `after` is the rest after this line
abbrev pub SplitsAtEnd : Rest → List (List ℕ) → Rest → Type 0
SplitsAtEnd rest lines after =
    (split_at_end rest.left ≡ Some (lines, after.left)) × (after.number ≡ rest.number + length lines + 1)

-- the first line of the block of a program of this kind: `motion` or `change`
abbrev pub heading_line : Kind → List ℕ
heading_line Motion = codes "motion"
heading_line Change = codes "change"

-- the result for a block of this kind whose heading is the line `first`: the program before its line `end`
-- and the rest after it, or the program's first fault. `left` are the lines after the heading, and the last
-- argument is their split at `end`; without a split, a line is missing after the last line of the text
abbrev pub block : Kind → ℕ → List (List ℕ) → Option EndSplit → Result (Program × Rest) LocatedFault
block kind first left None = Err (record { line = first + 1 + length left; cause = Line })
block kind first left (Some parts) =
    before (record { number = first + length parts.0 + 2; left = parts.1 })
    (program_after kind first parts.0)

-- the result for a program of this kind whose first line is `text`, with this number: the result for a block
-- if the line is a heading (`true`), and otherwise the result for the line `code X`; `left` are the lines
-- after it
abbrev pub HeadingParsesTo : Kind → Bool → ℕ → List ℕ → List (List ℕ)
    → Result (Program × Rest) LocatedFault → Type 0
HeadingParsesTo kind true number text left out = out ≡ block kind number left (split_at_end left)
HeadingParsesTo kind false number text left out = LineParsesTo (code_line_of kind) number (text ∷ left) out

-- the result for a program of this kind in the lines that are left, the first of which has this number; if no
-- line is left, that line is missing
abbrev pub PartParsesTo : Kind → ℕ → List (List ℕ) → Result (Program × Rest) LocatedFault → Type 0
PartParsesTo kind number [] out = out ≡ Err (record { line = number; cause = Line })
PartParsesTo kind number (text ∷ left) out =
    HeadingParsesTo kind (bytes_eq text (heading_line kind)) number text left out

-- reads a program of this kind, which may be rejected by the verifier: a block, or the line `code X`
abbrev pub program_part : Kind → Reading Program
program_part kind rest out = PartParsesTo kind rest.number rest.left out

-- the verifier's result for a program as one of this kind: the accepted program with its budget, or a fault
-- at the program's first line, `first`, with the verifier's reason
abbrev pub IsVerdict : Kind → ℕ → Program → Result CheckedProgram LocatedFault → Type 0
IsVerdict kind first program (Ok checked) =
    (checked.program ≡ program) × (IsAccepted kind program × IsChecked kind checked)
IsVerdict kind first program (Err fault) = (at reason : ℕ)
    × (IsRefused kind program at reason × (fault ≡ record { line = first; cause = Verdict reason }))

-- gives the verifier's result for a program that was read already, from the line `first` on
abbrev pub verdict : Kind → ℕ → Program → Reading CheckedProgram
verdict kind first program rest out =
    (result : Result CheckedProgram LocatedFault)
    × (IsVerdict kind first program result × (out ≡ before rest result))

-- reads a program part of this kind; the verifier must accept its program
abbrev pub part : Kind → Reading CheckedProgram
part kind rest out = (program_part kind >>= verdict kind rest.number) rest out

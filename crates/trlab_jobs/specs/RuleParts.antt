-- Rules in texts: a standard rule on one line or own programs on the lines after; rules of later steps.
use Rattle.std.specs.Prelude.{◌≡◌, ℕ, ◌+◌, ◌||◌, Bool, true, false, List, [], ◌∷◌, length, codes, nat_eq}
use Rattle.std.specs.Prelude.{Option, None, Some, MatchOption, Result, Ok, Err, bytes_eq, zero, suc}
use Rattle.hex.specs.{Hex.decode_of, declared.error.FromHexError.FromHexError}
use Rattle.trlab_code.specs.{declared.program.Kind.{Kind, TheVariants.{Motion, Change}}, Program.Program}
use Rattle.trlab_verify.specs.{Verified.{CheckedProgram, IsChecked}, Verdict.IsAccepted}
use Rattle.trlab_rules.specs.{Rules.Programs, Standard.{nasch_program, vdr_program, rickert_program}}
use Rattle.trlab_texts.specs.declared.fault.Cause.{Cause, TheVariants.{Line, Hex, OneLane}}
use Rattle.trlab_texts.specs.Words.{word_after, next_word_is}
use Rattle.trlab_texts.specs.Reading.{LocatedFault, Reading, give, ◌>>=◌, line, exactly, read_if}
use Rattle.trlab_texts.specs.{Reading.result_of_line, Programs.{EndSplit, part, split_at_end, heading_line}}
use Rattle.trlab_jobs.specs.declared.rule_line.RuleLine.{RuleLine, TheVariants.{Nasch, Vdr, Rickert, Own}}
use Rattle.trlab_jobs.specs.Lines.{rule_line, later_line}
use Rattle.trlab_step.specs.Run.{Sheet}
use Rattle.trlab_bounds.specs.declared.runs.TheConstants.{MAX_LATER}

-- Rules in texts: a standard rule on one line, or own programs on the lines after.

-- the verifier accepts `program` as one of this kind, and `checked` is the program with its budget
abbrev pub VerifiesAs : Kind → Program → CheckedProgram → Type 0
VerifiesAs kind program checked =
    (checked.program ≡ program) × (IsAccepted kind program × IsChecked kind checked)

-- the result for a rule with this standard motion program and no change program: always a rule whose program
-- the verifier accepts, and never a fault
abbrev pub IsMotionRule : Program → Result Programs Cause → Type 0
IsMotionRule motion (Ok rule) = VerifiesAs Motion motion rule.motion × (rule.change ≡ None)
IsMotionRule motion (Err cause) = ⊥

-- the result for a rule with these standard programs: always a rule whose two programs the verifier accepts,
-- and never a fault
abbrev pub IsTwoProgramRule : Program → Program → Result Programs Cause → Type 0
IsTwoProgramRule motion change (Ok rule) =
    VerifiesAs Motion motion rule.motion × MatchOption rule.change ⊥ (VerifiesAs Change change)
IsTwoProgramRule motion change (Err cause) = ⊥

-- the result for a rule with these standard programs: the cause `OneLane` if the road has one lane (`true`),
-- and otherwise the rule
abbrev pub IsTwoLaneRule : Bool → Program → Program → Result Programs Cause → Type 0
IsTwoLaneRule true motion change result = result ≡ Err OneLane
IsTwoLaneRule false motion change result = IsTwoProgramRule motion change result

-- the cause for a change program in hexadecimal digits on a road with one lane, by the decoded digits: `Hex`
-- if they are invalid, and otherwise `OneLane`, also for bytes that are not a program
abbrev pub digits_misplacement : Result (List ℕ) FromHexError → Cause
digits_misplacement (Ok bytes) = OneLane
digits_misplacement (Err fault) = Hex

-- the cause for the line `code X` of a change program on a road with one lane, from its word X: the cause for
-- the hexadecimal digits X, or the cause that is given instead of a word if there is none
abbrev pub code_misplacement : Result (List ℕ) Cause → Cause
code_misplacement (Ok digits) = digits_misplacement (decode_of digits)
code_misplacement (Err cause) = cause

-- the fault of a change program's block on a road with one lane, by its split at `end`: `OneLane` at its
-- first line, `first`; without a line `end`, a line is missing after the last line of the text
abbrev pub block_misplacement : ℕ → List (List ℕ) → Option EndSplit → LocatedFault
block_misplacement first left None = record { line = first + 1 + length left; cause = Line }
block_misplacement first left (Some parts) = record { line = first; cause = OneLane }

-- the fault of a change part on a road with one lane, whose first line is `text`, with the number `first`:
-- the fault of a block if the line is a heading (`true`), and otherwise the fault of the line `code X`
abbrev pub part_misplacement : Bool → ℕ → List ℕ → List (List ℕ) → LocatedFault
part_misplacement true first text left = block_misplacement first left (split_at_end left)
part_misplacement false first text left =
    record { line = first; cause = code_misplacement (word_after (codes "code ") text) }

-- the fault of a change part on a road with one lane, from the line `first` on: wrong words, a missing line
-- or invalid hexadecimal digits, and otherwise the missing lane, even if the program is wrong too
abbrev pub misplacement : ℕ → List (List ℕ) → LocatedFault
misplacement first [] = record { line = first; cause = Line }
misplacement first (text ∷ left) = part_misplacement (bytes_eq text (heading_line Change)) first text left

-- reads a change part; on a road with one lane (`true`) it is a fault
abbrev pub change_if_two_lanes : Bool → Reading CheckedProgram
change_if_two_lanes true rest out = out ≡ Err (misplacement rest.number rest.left)
change_if_two_lanes false rest out = part Change rest out

-- whether the next line begins a change part: its first word is `change` or `code`
abbrev pub next_is_change : List (List ℕ) → Bool
next_is_change left = next_word_is (codes "change") left || next_word_is (codes "code") left

-- reads a change part for a road with `lanes` lanes if the next line begins one; otherwise reads no line and
-- gives none
abbrev pub change_part : ℕ → Reading (Option CheckedProgram)
change_part lanes rest out = read_if (next_is_change rest.left) (change_if_two_lanes (nat_eq lanes 1)) rest out

-- reads the programs of `rule own` for a road with `lanes` lanes: a motion part, and a change part if one
-- follows
abbrev pub own_rule : ℕ → Reading Programs
own_rule lanes = do
  motion ← part Motion
  change ← change_part lanes
  give (record { motion = motion; change = change })

-- reads the rest of a rule for a road with `lanes` lanes after its line, which has the number `number`: the
-- programs of `rule own`, and no lines for any other rule
abbrev pub rule_from : ℕ → ℕ → RuleLine ℕ → Reading Programs
rule_from lanes number (Nasch p) = result_of_line number (IsMotionRule (nasch_program p))
rule_from lanes number (Vdr p p0) = result_of_line number (IsMotionRule (vdr_program p p0))
rule_from lanes number (Rickert p c) =
    result_of_line number (IsTwoLaneRule (nat_eq lanes 1) (nasch_program p) (rickert_program c))
rule_from lanes number Own = own_rule lanes

-- reads a rule for a road with `lanes` lanes: a line `rule ..`, and after `rule own` its programs
abbrev pub rule : ℕ → Reading Programs
rule lanes rest out = (line (exactly rule_line) >>= rule_from lanes rest.number) rest out

-- The rules of later steps: the lines `at s rule ..` of a job text.

-- reads a line `at s rule ..`, and the programs after `rule own`, for a road with `lanes` lanes; gives s,
-- which is at least `least` and below `steps`, and the rule. `room` is the number of later rules that may
-- still come, including this one
abbrev pub later_rule : ℕ → ℕ → ℕ → ℕ → Reading (ℕ × Programs)
later_rule room lanes steps least rest out =
    (line (exactly (later_line room steps least)) >>= λ stated.
    rule_from lanes rest.number stated.1 >>= λ rule. give (stated.0, rule)) rest out

-- reads rules by `reading` if a line is left; at the end of the text, gives no rules
abbrev pub to_the_end : List (List ℕ) → Reading Sheet → Reading Sheet
to_the_end [] reading = give []
to_the_end (text ∷ left) reading = reading

-- reads the later rules up to the end of a text, at most `room`, for a road with `lanes` lanes; their steps
-- increase, the first is at least `least`, and all are below `steps`. With room for none, a line that is left
-- is a fault
unfoldable pub later_rules_from : ℕ → ℕ → ℕ → ℕ → Reading Sheet
later_rules_from zero lanes steps least = λ rest out.
    to_the_end rest.left (later_rule 0 lanes steps least >>= λ entry. give (entry ∷ [])) rest out
later_rules_from (suc room) lanes steps least = λ rest out.
    to_the_end rest.left (later_rule (suc room) lanes steps least >>= λ entry.
    later_rules_from room lanes steps (entry.0 + 1) >>= λ later. give (entry ∷ later)) rest out

-- reads the lines `at s rule ..` up to the end of the text, for a road with `lanes` lanes: at most MAX_LATER
-- rules, with steps s that strictly increase and are below `steps`, the number of steps of the run
abbrev pub later_rules : ℕ → ℕ → Reading Sheet
later_rules lanes steps = later_rules_from MAX_LATER lanes steps 0

-- Explanations of inputs and of numbers: how the text form begins, and how the JSON form ends.
use Rattle.std.specs.Prelude.{ℕ, ◌&&◌, Bool, List, [], ◌∷◌, nat_le, ◌++◌, codes, decimal, Option, None, Some}
use Rattle.std.specs.Prelude.{◌≡◌, ◌≤◌, nat_eq, MatchOption, ◌-◌, ◌==◌, ⊤, All, length, take, if◌then◌else◌}
use Rattle.std.specs.{Prelude.{true, false, not, ◌||◌, Result, Ok, Err, find, map}, List.list_any, Option.unwrap_or}
use Rattle.trlab_explain.specs.declared.topics.Topic.{Topic, TheVariants.{Cause, Reason}}
use Rattle.trlab_explain.specs.declared.{explanation.Head.Head, explain.Form.{Form, TheVariants.{Text, Json}}}
use Rattle.trlab_lines.specs.{Plain.{quoted, IsPlain}, Lines.{first_word, lines_of, line_at, without_prefix}}
use Rattle.strsim.specs.Edits.{damerau}
use Rattle.trlab_texts.specs.Reading.{LocatedFault, Reports}
use Rattle.trlab_texts.specs.declared.fault.TextFault.{TextFault}
use Rattle.trlab_jobs.specs.{Subjects.subject_named, Sweep.{Sweep as AbstractSweep, ParsesAsSweep}}
use Rattle.trlab_jobs.specs.declared.subject.Subject.{Subject, TheVariants.{Job, Sweep, Check}}
use Rattle.trlab_jobs.specs.{Job.{Job as AbstractJob, ParsesAsJob}, Check.{Check as AbstractCheck, ParsesAsCheck}}
use Rattle.json.specs.{Print.print, Token.{Token, begin_object, end_object, begin_array, end_array, key}}
use Rattle.json.specs.Token.{string, number as number_token, boolean, null, bad}
use Rattle.trlab_verify.specs.Verdict.{IsLongest, IsAccepted, IsRefused}
use Rattle.trlab_campaign.specs.{CheckOutput.rejected_line, Output.{Outputs, fault_line}}

-- The numbers that can be explained.

-- is `number` in the range from `range.0` to `range.1`, both included?
abbrev pub is_within : ℕ → ℕ × ℕ → Bool
is_within number range = nat_le range.0 number && nat_le number range.1

-- the numbers of the causes that can be explained, as ranges: 1 to 9 for an input's words, lines and size,
-- 11 to 17 for the text of a program, 21 to 28 and 30 for its bytes, 32, 34, 35 and 37 for roads, 40 for a
-- rejected standard rule (no input has this cause), and 41 to 52 for the verifier's reasons 1 to 12
abbrev pub cause_ranges : List (ℕ × ℕ)
cause_ranges =
    (1, 9) ∷ (11, 17) ∷ (21, 28) ∷ (30, 30) ∷ (32, 32) ∷ (34, 35) ∷ (37, 37) ∷ (40, 52) ∷ []

-- the numbers of the verifier's reasons to reject a program, as ranges: 1 to 12
abbrev pub reason_ranges : List (ℕ × ℕ)
reason_ranges = (1, 12) ∷ []

-- can this number be explained, as the number of a cause or of a reason, depending on the topic?
abbrev pub is_known : Topic → ℕ → Bool
is_known Cause number = list_any (is_within number) cause_ranges
is_known Reason number = list_any (is_within number) reason_ranges

-- Lines of a text, as they are quoted.

-- the quote of a line with its number and an LF, for example `line 2: key 0`; empty if there is no line
abbrev pub quote_line : ℕ → Option (List ℕ) → List ℕ
quote_line number None = []
quote_line number (Some line) =
    codes "line " ++ (decimal number ++ (codes ": " ++ (quoted line ++ (10 ∷ []))))

-- The kind of input that a text is meant to be.

-- a text without a byte order mark (the bytes 239, 187 and 191) at its beginning
abbrev pub without_mark : List ℕ → List ℕ
without_mark text = unwrap_or (without_prefix (239 ∷ 187 ∷ 191 ∷ []) text) text

-- is a line with this first word neither blank nor a comment? Comments begin with `;` (59) or `#` (35), and a
-- carriage return (13) is all that an empty line of a Windows file has
abbrev pub has_content : List ℕ → Bool
has_content [] = false
has_content (byte ∷ more) = not (byte == 59 || byte == 35 || byte == 13)

-- the first word of a text's first line that is neither blank nor a comment; `None` if there is no such line
abbrev pub leading_word : List (List ℕ) → Option (List ℕ)
leading_word lines = find has_content (map (λ line. (first_word line).0) lines)

-- a word is at most one edit away from a name: a byte is inserted, deleted or replaced, or two neighbouring
-- bytes are swapped. For example, `raod` and `roads` are one edit away from `road`
abbrev pub IsWithinOneEdit : List ℕ → List ℕ → Type 0
IsWithinOneEdit word name = damerau nat_eq word name ≤ 1

-- the kinds of input that a text with the unknown leading word `word` may be meant as: a job or a sweep if the
-- word is at most one edit away from `road` or `sweep`, and always a check
abbrev pub MayBeMeantAs : List ℕ → Subject → Type 0
MayBeMeantAs word Job = IsWithinOneEdit word (codes "road")
MayBeMeantAs word Sweep = IsWithinOneEdit word (codes "sweep")
MayBeMeantAs word Check = Unit {0}

-- a text with these lines may be meant as `subject`: the kind of input that its leading word names, or if that
-- names none, a kind that `MayBeMeantAs` allows; a text without a leading word is meant as a check
abbrev pub IsMeant : List (List ℕ) → Subject → Type 0
IsMeant lines subject =
    MatchOption (leading_word lines) (subject ≡ Check)
    (λ word. MatchOption (subject_named word) (MayBeMeantAs word subject) (λ named. subject ≡ named))

-- The JSON form of explanations.

-- the text of a token is printable ASCII or LF; only keys, strings and numbers have a text
abbrev pub HasPlainText : Token → Type 0
HasPlainText begin_object = ⊤
HasPlainText end_object = ⊤
HasPlainText begin_array = ⊤
HasPlainText end_array = ⊤
HasPlainText (key s) = All IsPlain s
HasPlainText (string s) = All IsPlain s
HasPlainText (number_token s) = All IsPlain s
HasPlainText (boolean b) = ⊤
HasPlainText null = ⊤
HasPlainText bad = ⊤

-- the JSON string for a printed line, without the LF that ends it; null if no line is printed (`line` is
-- empty)
abbrev pub answer_token : List ℕ → Token
answer_token line = if length line == 0 then null else string (take (length line - 1) line)

-- the last tokens of an explanation's object: the member `status`, the exit status (1 if the input is
-- rejected, otherwise 0); the member `answer`, the line that the command prints; and the end of the object
abbrev pub object_end : Bool → List ℕ → List Token
object_end rejected answer =
    key (codes "status") ∷ number_token (decimal (if rejected then 1 else 0))
    ∷ key (codes "answer") ∷ answer_token answer ∷ end_object ∷ []

-- `text` is the JSON text of a list of tokens that ends with `object_end`, and an LF
abbrev pub EndsObject : Bool → List ℕ → List ℕ → Type 0
EndsObject rejected answer text =
    (first : List Token) × (text ≡ print (first ++ object_end rejected answer) ++ 10 ∷ [])

-- Explanations: whether an input is rejected, and how the text form begins and the JSON form ends.

-- the blank head: not rejected, with no printed line, no quote and no sentence on a budget
abbrev pub IsBlankHead : Head → Type 0
IsBlankHead head = (head.is_rejected ≡ false) × (head.answer ≡ []) × (head.quote ≡ []) × (head.budget ≡ [])

-- the text `out` begins with the text `front`
abbrev pub BeginsWith : List ℕ → List ℕ → Type 0
BeginsWith front out = (more : List ℕ) × (out ≡ front ++ more)

-- the head for a text whose first fault is `fault`: rejected, with the line `fault line N cause K` and the
-- quote of line N, which is empty if the text has no line N
abbrev pub IsFaultHead : List ℕ → LocatedFault → Head → Type 0
IsFaultHead text fault head = (head.is_rejected ≡ true) × (head.answer ≡ fault_line fault)
    × (head.quote ≡ quote_line fault.line (line_at fault.line (lines_of text)))

-- the head for the text of a job or a sweep, given the result of reading it: for a valid text, the blank
-- head; for an invalid text, the head for its fault
abbrev pub IsTextHead : {A : Type 0} → List ℕ → Result A LocatedFault → Head → Type 0
IsTextHead text (Ok x) head = IsBlankHead head
IsTextHead text (Err fault) head = IsFaultHead text fault head

-- the line for an accepted program with its LF, for example `accepted budget 8`
abbrev pub accepted_line : ℕ → List ℕ
accepted_line budget = codes "accepted budget " ++ (decimal budget ++ (10 ∷ []))

-- the sentence on the budget of an accepted program with its LF, for example `Accepted: a car runs at most 8
-- instructions per step.`
abbrev pub budget_sentence : ℕ → List ℕ
budget_sentence budget = codes "Accepted: a car runs at most " ++ (decimal budget
    ++ (codes " instructions per step." ++ (10 ∷ [])))

-- the head for the program of a check. If the verifier accepts it (`false`): the line `accepted budget B` and
-- the sentence on this budget, where B is the number of instructions on the program's longest path. If the
-- verifier rejects it (`true`): the line `refused at N reason R`, and no quote
abbrev pub IsProgramHeadIf : Bool → AbstractCheck → Head → Type 0
IsProgramHeadIf false check head = IsAccepted check.program.kind check.program × ((budget : ℕ)
    × IsLongest check.program.instrs 0 budget × (head.answer ≡ accepted_line budget)
    × (head.budget ≡ budget_sentence budget))
IsProgramHeadIf true check head =
    (at reason : ℕ) × IsRefused check.program.kind check.program at reason
    × (head.answer ≡ rejected_line at reason) × (head.quote ≡ [])

-- the head for the program of a check, given the verdict of the verifier
abbrev pub IsProgramHead : AbstractCheck → Head → Type 0
IsProgramHead check head = IsProgramHeadIf head.is_rejected check head

-- the head for the text of a check, given the result of reading it: for a valid text, the head for its
-- program; for an invalid text, the head for its fault
abbrev pub IsCheckHead : List ℕ → Result AbstractCheck LocatedFault → Head → Type 0
IsCheckHead text (Ok check) head = IsProgramHead check head
IsCheckHead text (Err fault) head = IsFaultHead text fault head

-- the head for a text that is read as a job, a sweep or a check
abbrev pub IsHeadAs : Subject → List ℕ → Head → Type 0
IsHeadAs Job text head =
    (result : Result AbstractJob LocatedFault) × ParsesAsJob text result
    × IsTextHead text result head
IsHeadAs Sweep text head =
    (result : Result AbstractSweep LocatedFault) × ParsesAsSweep text result
    × IsTextHead text result head
IsHeadAs Check text head =
    (result : Result AbstractCheck LocatedFault) × ParsesAsCheck text result
    × IsCheckHead text result head

-- a text that is read as a job, a sweep or a check is rejected with `fault`: its first fault, or a
-- failed allocation
abbrev pub IsRejectedWith : Subject → List ℕ → TextFault → Type 0
IsRejectedWith Job text fault = Reports (ParsesAsJob text) (Err fault)
IsRejectedWith Sweep text fault = Reports (ParsesAsSweep text) (Err fault)
IsRejectedWith Check text fault = Reports (ParsesAsCheck text) (Err fault)

-- a text is read as `subject`: the wanted kind of input, or if none is wanted, a kind that `IsMeant` allows for
-- the text without a byte order mark
abbrev pub IsReadAs : Option Subject → List ℕ → Subject → Type 0
IsReadAs (Some wanted) text subject = subject ≡ wanted
IsReadAs None text subject = IsMeant (lines_of (without_mark text)) subject

-- the head for a text that is read as the wanted kind of input, or if none is wanted, as a kind that
-- `IsMeant` allows
abbrev pub IsHead : Option Subject → List ℕ → Head → Type 0
IsHead wanted text head = (subject : Subject) × IsReadAs wanted text subject × IsHeadAs subject text head

-- the beginning of an explanation in text form: for a rejected input the printed line and then the quote, for
-- an accepted program the sentence on its budget, and for a valid job or sweep nothing
abbrev pub text_front : Head → List ℕ
text_front head = if head.is_rejected then head.answer ++ head.quote else head.budget

-- the explanation `out` has this head: in text form it begins with `text_front`; in JSON form its object ends
-- with the exit status and the printed line, and the quote is not fixed
abbrev pub HasHead : Form → Head → List ℕ → Type 0
HasHead Text head out = BeginsWith (text_front head) out
HasHead Json head out = EndsObject head.is_rejected head.answer out

-- `out` is an explanation of the text, and `rejected` is true exactly if the text or its program is rejected;
-- all bytes of `out` are printable ASCII or LF, even if the text has other bytes
abbrev pub Explains : Form → Option Subject → List ℕ → Outputs
Explains form wanted text rejected out = (head : Head) × (rejected ≡ head.is_rejected)
    × IsHead wanted text head × HasHead form head out × All IsPlain out

-- the beginning of the page on the number of a cause or a reason, for example `Cause 5: `
abbrev pub topic_front : Topic → ℕ → List ℕ
topic_front Cause number = codes "Cause " ++ (decimal number ++ codes ": ")
topic_front Reason number = codes "Reason " ++ (decimal number ++ codes ": ")

-- `out` is a page on the number of a cause or a reason: it begins with the topic and the number, and all its
-- bytes are printable ASCII or LF; `rejected` is true exactly if the number is unknown
abbrev pub IsNumberPage : Topic → ℕ → Outputs
IsNumberPage topic number rejected out =
    (rejected ≡ not (is_known topic number)) × BeginsWith (topic_front topic number) out × All IsPlain out

-- Readings: the lines that are left of a text, and their value or the first fault in them.
use Rattle.std.specs.Prelude.{◌≡◌, ℕ, ◌+◌, List, ◌∷◌, ◌++◌, length, Bool, true, false, [], nat_lt, Option}
use Rattle.std.specs.Prelude.{None, Some, Result, Ok, Err}
use Rattle.trlab_lines.specs.Lines.{lines_of}
use Rattle.trlab_texts.specs.declared.fault.{Cause.{Cause, TheVariants.{Line, TooBig}}, TextFault.TextFault}
use Rattle.trlab_texts.specs.declared.fault.TextFault.TheVariants.{At, Memory}
use Rattle.trlab_bounds.specs.declared.texts.TheConstants.{TEXT_LIMIT}

-- The rest of a text that is read line by line.

-- the unread rest of a text: the number of the next line, counted from 1 in the whole text, and the lines
-- that are left, from that line on
pub record Rest : Type 0 where
  pub number : ℕ
  pub left : List (List ℕ)

-- the rest of a text of which nothing has been read: all its lines, and the number 1
abbrev pub all_lines : List ℕ → Rest
all_lines text = record { number = 1; left = lines_of text }

-- the next line of `rest` is `text`, and `after` is the rest after this line
abbrev pub IsNextLine : Rest → List ℕ → Rest → Type 0
IsNextLine rest text after = (rest.left ≡ text ∷ after.left) × (after.number ≡ rest.number + 1)

-- Positions of bytes in a line.

-- `line` contains `bytes` at the position `at`, counted from 0: for example, `key 0f` contains `0f` at 4
pub record HasBytesAt (line : List ℕ) (at : ℕ) (bytes : List ℕ) : Type 0 where
  pub before : List ℕ
  pub after : List ℕ
  pub parts : line ≡ before ++ (bytes ++ after)
  pub place : length before ≡ at

-- Readings: the value of the lines that are left of a text, or the first fault in them.

-- a fault of a text: its cause, and the number of its line, which is 0 for the whole text
pub record LocatedFault : Type 0 where
  pub line : ℕ
  pub cause : Cause

-- the rule by which a line is read: it relates the line to its value, or to the cause of its fault
abbrev pub LineRule : Type 0 → Type 1
LineRule A = List ℕ → Result A Cause → Type 0

-- a reading relates the rest of a text to a value and the rest after it, or to the first fault
abbrev pub Reading : Type 0 → Type 1
Reading A = Rest → Result (A × Rest) LocatedFault → Type 0

-- gives the value x and reads no line
abbrev pub give : {A : Type 0} → A → Reading A
give x rest out = out ≡ Ok (x, rest)

-- `out` is a result after a first reading and then `next`: that of `next`, which uses the value of the first,
-- or the fault of the first
abbrev pub Continues : {A B : Type 0} → (A → Reading B) → Result (A × Rest) LocatedFault
    → Result (B × Rest) LocatedFault → Type 0
Continues next (Ok found) out = next found.0 found.1 out
Continues next (Err fault) out = out ≡ Err fault

-- the reading `first`, and then the reading that `next` gives for its value, like Rust's `and_then`; a fault
-- of the first is the result
infixl 10 ◌>>=◌
abbrev pub ◌>>=◌ : {A B : Type 0} → Reading A → (A → Reading B) → Reading B
◌>>=◌ {A} first next rest out =
    (found : Result (A × Rest) LocatedFault) × (first rest found × Continues next found out)

-- the reading `first`, and then the reading `next`, which does not use the value of the first
infixl 10 ◌>>◌
abbrev pub ◌>>◌ : {A B : Type 0} → Reading A → Reading B → Reading B
first >> next = first >>= λ _. next

-- the result of reading the line `number`, after which the lines `left` follow: its value and the rest after
-- it, or a fault at this line
abbrev pub line_with_rest : {A : Type 0} → ℕ → List (List ℕ) → Result A Cause → Result (A × Rest) LocatedFault
line_with_rest number left (Ok x) = Ok (x, record { number = number + 1; left = left })
line_with_rest number left (Err cause) = Err (record { line = number; cause = cause })

-- the result of reading the next line, which has this number, by a rule; if no line is left, that line is
-- missing
abbrev pub LineParsesTo : {A : Type 0} → LineRule A → ℕ → List (List ℕ)
    → Result (A × Rest) LocatedFault → Type 0
LineParsesTo rule number [] out = out ≡ Err (record { line = number; cause = Line })
LineParsesTo {A} rule number (text ∷ left) out =
    (result : Result A Cause) × (rule text result × (out ≡ line_with_rest number left result))

-- reads the next line by this rule
abbrev pub line : {A : Type 0} → LineRule A → Reading A
line rule rest out = LineParsesTo rule rest.number rest.left out

-- the rule by which each line has the one result that the function `parse` computes
abbrev pub exactly : {A : Type 0} → (List ℕ → Result A Cause) → LineRule A
exactly parse text result = result ≡ parse text

-- the result for a text: the fault `TooBig` at line 0 if it is too long (`true`), and otherwise a result that
-- `IsResult` allows
abbrev pub SizedTextParsesTo : {A : Type 0} → (List ℕ → Result A LocatedFault → Type 0) → Bool → List ℕ
    → Result A LocatedFault → Type 0
SizedTextParsesTo IsResult true text result = result ≡ Err (record { line = 0; cause = TooBig })
SizedTextParsesTo IsResult false text result = IsResult text result

-- the result for a text: the fault `TooBig` at line 0 if it has more than TEXT_LIMIT bytes, and otherwise a
-- result that `IsResult` allows
abbrev pub TextParsesTo : {A : Type 0} → (List ℕ → Result A LocatedFault → Type 0) → List ℕ
    → Result A LocatedFault → Type 0
TextParsesTo IsResult text result = SizedTextParsesTo IsResult (nat_lt TEXT_LIMIT (length text)) text result

-- the result of reading a text is one that `IsResult` allows, or `Memory`: an allocation may always fail
abbrev pub Reports : {A : Type 0} → (Result A LocatedFault → Type 0) → Result A TextFault → Type 0
Reports IsResult (Ok x) = IsResult (Ok x)
Reports IsResult (Err (At line cause)) = IsResult (Err (record { line = line; cause = cause }))
Reports IsResult (Err Memory) = Unit {0}

-- reads a value by `reading` if the condition is true; otherwise gives `None` and reads no line
abbrev pub read_if : {A : Type 0} → Bool → Reading A → Reading (Option A)
read_if true reading = reading >>= λ x. give (Some x)
read_if false reading = give None

-- a result for the lines before `rest`: a value is paired with this rest, and a fault stays
abbrev pub before : {A : Type 0} → Rest → Result A LocatedFault → Result (A × Rest) LocatedFault
before rest (Ok x) = Ok (x, rest)
before rest (Err fault) = Err fault

-- a result with its line: a cause becomes a fault at the line `number`, and a value stays
abbrev pub at_line : {A : Type 0} → ℕ → Result A Cause → Result A LocatedFault
at_line number (Ok x) = Ok x
at_line number (Err cause) = Err (record { line = number; cause = cause })

-- gives a result that `IsResult` allows for the line `number`, which was read already
abbrev pub result_of_line : {A : Type 0} → ℕ → (Result A Cause → Type 0) → Reading A
result_of_line {A} number IsResult rest out =
    (result : Result A Cause) × (IsResult result × (out ≡ before rest (at_line number result)))

-- a function reports this fault of a text, or that an allocation failed
abbrev pub ReportsFault : LocatedFault → TextFault → Type 0
ReportsFault fault (At line cause) = record { line = line; cause = cause } ≡ fault
ReportsFault fault Memory = Unit {0}

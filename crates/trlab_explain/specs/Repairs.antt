-- Repairs: edits that help a text, because the edited text gets further.
use Rattle.std.specs.Prelude.{◌≡◌, ℕ, ◌+◌, ◌<◌, List, ◌++◌, drop, length, take, Option, None, Some, Result}
use Rattle.std.specs.Prelude.{Ok, Err, ◌≤◌}
use Rattle.trlab_lines.specs.Lines.{lines_of}
use Rattle.trlab_texts.specs.Reading.{LocatedFault}
use Rattle.trlab_jobs.specs.{Job.{Job as AbstractJob, ParsesAsJob}, Sweep.{Sweep as AbstractSweep, ParsesAsSweep}}
use Rattle.trlab_jobs.specs.{Check.{Check as AbstractCheck, ParsesAsCheck}, declared.subject.Subject.Subject}
use Rattle.trlab_jobs.specs.declared.subject.Subject.TheVariants.{Job, Sweep, Check}
use Rattle.trlab_messages.specs.declared.repairs.Change.{Change, TheVariants.{Edited, ReadAs}}

-- Edits of texts, and whether an edited text gets further.

-- a text with `removed` bytes from the position `at` on, counted from 0, replaced by `inserted`: with `r` for
-- the byte at 0, `Road 1` becomes `road 1`
abbrev pub edited : ℕ → ℕ → List ℕ → List ℕ → List ℕ
edited at removed inserted text = take at text ++ (inserted ++ drop (at + removed) text)

-- the line of the first fault, from the result of reading a text; none if the text is valid
abbrev pub first_fault_line : {A : Type 0} → Result A LocatedFault → Option ℕ
first_fault_line (Ok x) = None
first_fault_line (Err fault) = Some fault.line

-- `line` is the line of the first fault of a text that is read as a job, a sweep or a check; none if the text
-- is valid
abbrev pub HasFirstFault : Subject → List ℕ → Option ℕ → Type 0
HasFirstFault Job text line =
    (result : Result AbstractJob LocatedFault) × ParsesAsJob text result × (line ≡ first_fault_line result)
HasFirstFault Sweep text line =
    (result : Result AbstractSweep LocatedFault) × ParsesAsSweep text result × (line ≡ first_fault_line result)
HasFirstFault Check text line =
    (result : Result AbstractCheck LocatedFault) × ParsesAsCheck text result × (line ≡ first_fault_line result)

-- a text with the lines `changed` has no fault; or its first fault is after the line `number`, and fewer
-- lines come after it than after the line `number` in a text with the lines `lines`. For example, line 4 of
-- 9 is later than line 3 of 9, but not later than line 3 of 8
abbrev pub IsLaterOrNone : List (List ℕ) → ℕ → List (List ℕ) → Option ℕ → Type 0
IsLaterOrNone lines number changed None = Unit {0}
IsLaterOrNone lines number changed (Some line) =
    (number < line) × (length changed + number < length lines + line)

-- the text `changed`, read as `subject`, gets further than `text`, whose first fault is at the line `number`:
-- it is valid, or its first fault is later in the sense of `IsLaterOrNone`
abbrev pub GetsFurther : List ℕ → ℕ → Subject → List ℕ → Type 0
GetsFurther text number subject changed = (line : Option ℕ)
    × HasFirstFault subject changed line × IsLaterOrNone (lines_of text) number (lines_of changed) line

-- Repairs that help a text.

-- a change helps a text that is read as `subject` and has its first fault at the line `number`: the edit is
-- inside the text, and the edited text gets further; or the text gets further if it is read as `other`
abbrev pub Helps : Subject → List ℕ → ℕ → Change → Type 0
Helps subject text number (Edited edit) = (edit.at + edit.removed ≤ length text)
    × GetsFurther text number subject (edited edit.at edit.removed edit.inserted.items text)
Helps subject text number (ReadAs other) = GetsFurther text number other text

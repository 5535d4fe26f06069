-- How explanations end, by the output that was written.
use Rattle.std.proofs.Common.{◌≡◌, ◌<◌, ℕ, List, [], length, refl, subst, Bool, true, inl, inr, lt-ltb}
use Rattle.std.proofs.Common.{Option, None, Some, Result, Ok, Err, IfOk, MatchOption, MatchResult}
use Rattle.trlab_lines.specs.Lines.{lines_of}
use Rattle.trlab_bounds.specs.declared.texts.TheConstants.{TEXT_LIMIT}
use Rattle.trlab_texts.specs.{Reading.LocatedFault, declared.fault.Cause.TheVariants.TooBig}
use Rattle.trlab_jobs.specs.{Job.Job as AbstractJob, Check.Check as AbstractCheck, Sweep.Sweep as AbstractSweep}
use Rattle.trlab_jobs.specs.{Subjects.subject_named, declared.subject.Subject.Subject}
use Rattle.trlab_jobs.specs.declared.subject.Subject.TheVariants.{Job, Sweep, Check}
use Rattle.trlab_campaign.specs.{declared.end.End.End, Device.IsInputOrTooLong, Output.{Outputs, fault_line}}
use Rattle.trlab_campaign.specs.{declared.end.End.TheVariants.Memory, Ending.{WroteAtEnd, WroteOutputAtEnd}}
use Rattle.trlab_campaign.{specs.Writers.{SinkBytes, AddsNone}, proofs.Endings.{output_ends, kept_at_memory}}
use Rattle.trlab_explain.specs.Explanations.{leading_word, without_mark, MayBeMeantAs, Explains, IsReadAs, IsHeadAs}
use Rattle.trlab_explain.specs.{Explanations.{IsCheckHead, IsTextHead}, declared.{explanation.Head.Head, explain.Form.Form}}

-- the end of a written output
pub output_ends_so : {A E : Type 0} (told : Result A E) (rejected : A → Bool) (bytes : A → List ℕ) (IsWhole : Outputs) (e : End) (old new : SinkBytes)
    → IfOk told (λ t. IsWhole (rejected t) (bytes t))
    → MatchResult told (λ t. WroteOutputAtEnd (rejected t) (bytes t) e old new) (λ _. (e ≡ Memory) × AddsNone old new)
    → WroteAtEnd IsWhole e old new
output_ends_so (Ok t) rejected bytes IsWhole e old new whole ends = output_ends IsWhole (rejected t) (bytes t) e old new whole ends
output_ends_so (Err x) rejected bytes IsWhole e old new whole ends = rw ends.0 (inl ends.1)

-- each text has a subject, as which it is explained
meant_by : (word : List ℕ) (named : Option Subject) → (subject : Subject) × MatchOption named (MayBeMeantAs word subject) (λ s. subject ≡ s)
meant_by word None = (Check, tt)
meant_by word (Some named) = (named, refl)

some_meant : (leading : Option (List ℕ))
    → (subject : Subject) × MatchOption leading (subject ≡ Check) (λ word. MatchOption (subject_named word) (MayBeMeantAs word subject) (λ s. subject ≡ s))
some_meant None = (Check, refl)
some_meant (Some word) = meant_by word (subject_named word)

some_read : (wanted : Option Subject) (text : List ℕ) → (subject : Subject) × IsReadAs wanted text subject
some_read (Some wanted) text = (wanted, refl)
some_read None text = some_meant (leading_word (lines_of (without_mark text)))

-- the fault of a text that is too long, and the line of its rejection
abbrev too_big : LocatedFault
too_big = record { line = 0; cause = TooBig }

abbrev too_big_line : List ℕ
too_big_line = fault_line too_big

-- the only head for a text that is too long, for any subject
abbrev IsBigHead : Head → Type 0
IsBigHead head = (head.is_rejected ≡ true) × (head.answer ≡ too_big_line) × (head.quote ≡ [])

big_as : (subject : Subject) (text : List ℕ) (head : Head) → TEXT_LIMIT < length text → IsBigHead head → IsHeadAs subject text head
big_as Job text head big is = (Err too_big, rw (lt-ltb TEXT_LIMIT (length text) big) refl, is)
big_as Sweep text head big is = (Err too_big, rw (lt-ltb TEXT_LIMIT (length text) big) refl, is)
big_as Check text head big is = (Err too_big, rw (lt-ltb TEXT_LIMIT (length text) big) refl, is)

big_head : (subject : Subject) (text : List ℕ) (head : Head) → TEXT_LIMIT < length text → IsHeadAs subject text head → IsBigHead head
big_head Job text head big told =
    subst (λ (says : Result AbstractJob LocatedFault). IsTextHead text says head) (rw (lt-ltb TEXT_LIMIT (length text) big) at told.1) told.2
big_head Sweep text head big told =
    subst (λ (says : Result AbstractSweep LocatedFault). IsTextHead text says head) (rw (lt-ltb TEXT_LIMIT (length text) big) at told.1) told.2
big_head Check text head big told =
    subst (λ (says : Result AbstractCheck LocatedFault). IsCheckHead text says head) (rw (lt-ltb TEXT_LIMIT (length text) big) at told.1) told.2

-- an explanation of the bytes that were read is an explanation of the input
read_explains : (form : Form) (wanted : Option Subject) (text input : List ℕ) (refused : Bool) (out : List ℕ) → IsInputOrTooLong text input
    → Explains form wanted text refused out → Explains form wanted input refused out
read_explains form wanted text input refused out (inl same) explains = subst (λ (t : List ℕ). Explains form wanted t refused out) same explains
read_explains form wanted text input refused out (inr long) explains =
    let read = some_read wanted input in
    let big = big_head explains.2.0 text explains.0 long.0 explains.2.2 in
    (explains.0, explains.1, (read.0, read.1, big_as read.0 input explains.0 long.1 big), explains.3, explains.4)

pub reads : {A E : Type 0} (told : Result A E) (rejected : A → Bool) (bytes : A → List ℕ) (form : Form) (wanted : Option Subject) (text input : List ℕ) → IsInputOrTooLong text input
    → IfOk told (λ t. Explains form wanted text (rejected t) (bytes t)) → IfOk told (λ t. Explains form wanted input (rejected t) (bytes t))
reads (Ok t) rejected bytes form wanted text input read explains = read_explains form wanted text input (rejected t) (bytes t) read explains
reads (Err x) rejected bytes form wanted text input read explains = tt

-- if an allocation fails, nothing was written
pub nothing_written : {A E : Type 0} (told : Result A E) (rejected : A → Bool) (bytes : A → List ℕ) (e : End) (old new : SinkBytes)
    → MatchResult told (λ t. WroteOutputAtEnd (rejected t) (bytes t) e old new) (λ _. (e ≡ Memory) × AddsNone old new) → e ≡ Memory → AddsNone old new
nothing_written (Ok t) rejected bytes e old new ends is = kept_at_memory (rejected t) (bytes t) e old new ends is
nothing_written (Err x) rejected bytes e old new ends is = ends.1

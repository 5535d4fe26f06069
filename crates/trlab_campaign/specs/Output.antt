-- Outputs: those for a text that is rejected and for a job text.
use Rattle.std.specs.Prelude.{◌≡◌, ℕ, Bool, true, List, [], ◌∷◌, ◌++◌, decimal, codes, Result, Ok, Err, ◌+◌}
use Rattle.std.specs.Prelude.{◌-◌, ◌%◌, ◌≤◌, ◌&&◌, false, nat_eq, nat_le, if◌then◌else◌, flat_map}
use Rattle.std.specs.List.{range_with_len}
use Rattle.trlab_texts.specs.{Causes.cause_number, Reading.LocatedFault}
use Rattle.trlab_road.specs.{Cells.Cells, Pictures.picture}
use Rattle.trlab_step.specs.Run.{IsRoadAt}
use Rattle.trlab_jobs.specs.Job.{Job, ParsesAsJob, seed_of, sheet_of}

-- Outputs, and the output for a text that is rejected.

-- the line for a text that is rejected for this fault: `fault line N cause K`, and the LF that ends it
abbrev pub fault_line : LocatedFault → List ℕ
fault_line fault =
    codes "fault line " ++ (decimal fault.line
    ++ (codes " cause " ++ (decimal (cause_number fault.cause) ++ (10 ∷ []))))

-- a set of complete outputs, each marked as a rejection (`true`) or not
abbrev pub Outputs : Type 1
Outputs = Bool → List ℕ → Type 0

-- the outputs for the result of reading a text: those that `Output` allows for its value, or as a rejection
-- the line of its fault
abbrev pub IsOutputForResult : {A : Type 0} → (A → Outputs) → Result A LocatedFault → Outputs
IsOutputForResult Output (Ok x) rejected out = Output x rejected out
IsOutputForResult Output (Err fault) rejected out = (rejected ≡ true) × (out ≡ fault_line fault)

-- the outputs for a text, of which `IsResult` gives the result: those that `Output` allows for its value, or
-- as a rejection the line of its first fault
abbrev pub IsOutputForText : {A : Type 0} → (List ℕ → Result A LocatedFault → Type 0) → (A → Outputs)
    → List ℕ → Outputs
IsOutputForText {A} IsResult Output text rejected out =
    (result : Result A LocatedFault) × (IsResult text result × IsOutputForResult Output result rejected out)

-- The output for a job text.

-- the picture of a lane, one character per cell, and the LF that ends its line
abbrev pub picture_line : List ℕ → List ℕ
picture_line characters = characters ++ (10 ∷ [])

-- the text of a step: the line `step N`, and then the picture of each lane of the road on a line of its own
abbrev pub step_text : ℕ → Cells → List ℕ
step_text step road =
    codes "step " ++ (decimal step ++ (10 ∷ flat_map (λ lane. picture_line (picture lane)) road.lanes))

-- every step is shown
abbrev pub each_step : ℕ → Bool
each_step step = true

-- whether a step is one of `from`, `from + every`, `from + 2 * every` and so on; for example, with `every` 10
-- and `from` 3, the steps 3, 13, 23 and so on
abbrev pub every_from : ℕ → ℕ → ℕ → Bool
every_from every from step = nat_le from step && nat_eq ((step - from) % every) 0

-- the text of a step if it is shown, and otherwise nothing
abbrev pub shown_text : (ℕ → Bool) → ℕ → Cells → List ℕ
shown_text shown step road = if shown step then step_text step road else []

-- the text of the shown steps among the first `count` steps, from 0 on; `roads` gives the road at each step
abbrev pub steps_text : (ℕ → Bool) → (ℕ → Cells) → ℕ → List ℕ
steps_text shown roads count = flat_map (λ step. shown_text shown step (roads step)) (range_with_len 0 count)

-- `out` is the text of a job's run: the pictures of its road at each step that is shown, from step 0 to the
-- last
pub record IsRunText (job : Job) (shown : ℕ → Bool) (roads : ℕ → Cells) (out : List ℕ) : Type 0 where
  pub road_at : (step : ℕ) → step ≤ job.steps
      → IsRoadAt (seed_of job) (sheet_of job) step (roads step)
  pub pictures : out ≡ steps_text shown roads (job.steps + 1)

-- a complete output for a job: the text of its run at the steps that are shown, which is not a rejection
abbrev pub IsOutputForJob : (ℕ → Bool) → Job → Outputs
IsOutputForJob shown job rejected out =
    (rejected ≡ false) × ((roads : ℕ → Cells) × IsRunText job shown roads out)

-- a complete output for a job text, marked as a rejection or not: an output that `Output` allows for its job,
-- or, as a rejection, the line of its first fault
abbrev pub IsOutputForJobText : (Job → Outputs) → List ℕ → Outputs
IsOutputForJobText Output text rejected out = IsOutputForText ParsesAsJob Output text rejected out

-- a complete output of `run` for a job text, marked as a rejection or not: the pictures at the steps that are
-- shown, or, as a rejection, the line of the text's first fault
abbrev pub IsShownOutput : (ℕ → Bool) → List ℕ → Outputs
IsShownOutput shown text rejected out = IsOutputForJobText (IsOutputForJob shown) text rejected out

-- a complete output of `run` for a job text, marked as a rejection or not: the pictures at all steps, or, as
-- a rejection, the line of the text's first fault
abbrev pub IsOutput : List ℕ → Outputs
IsOutput text rejected out = IsShownOutput each_step text rejected out

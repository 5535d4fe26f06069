-- The sheet of a job.
use Rattle.std.proofs.Common.{ℕ, zero, suc, ◌+◌, ◌∷◌, [], arith, All, length}
use Rattle.trlab_rules.specs.Rules.{Programs}
use Rattle.trlab_step.specs.Run.{IsRuleFor, IsSheetFor, Sheet, StepsIncreaseFrom}
use Rattle.trlab_step.proofs.Sheets.{with_is_sheet, with_all}
use Rattle.trlab_jobs.specs.{Job.{Job, sheet_of}, Stored.{AreLaterRules, IsStoredJob}}

-- the steps of later rules rise
pub later_rise : (lanes steps least : ℕ) (later : Sheet) → AreLaterRules lanes steps least later → StepsIncreaseFrom least later
later_rise lanes steps least [] kept = tt
later_rise lanes steps least (entry ∷ later) kept = (kept.0, later_rise lanes steps (entry.0 + 1) later kept.1.1.1)

-- each later rule is one for the lanes
all_suit : (lanes steps least : ℕ) (later : Sheet) → AreLaterRules lanes steps least later → All (λ (entry : ℕ × Programs). IsRuleFor lanes entry.1) later
all_suit lanes steps least [] kept k d below = absurd (omega arith)
all_suit lanes steps least (entry ∷ later) kept zero d below = kept.1.1.0
all_suit lanes steps least (entry ∷ later) kept (suc k) d below = all_suit lanes steps (entry.0 + 1) later kept.1.1.1 k d (omega arith)

-- the sheet of a job that was read is one for the lanes of its road
pub plain_sheet : (job : Job) → IsStoredJob job → IsSheetFor (length job.road.lanes) (sheet_of job)
plain_sheet job plain = record {
  is_sheet = with_is_sheet job.first job.later (later_rise (length job.road.lanes) job.steps 0 job.later plain.later);
  rules = with_all (IsRuleFor (length job.road.lanes)) job.first job.later plain.first (all_suit (length job.road.lanes) job.steps 0 job.later plain.later);
}

-- Sheets of the book: which entry is in force at a step, and how a new rule enters.
use Rattle.std.specs.Prelude.{◌≡◌, ℕ, ◌+◌, ◌≤◌, ◌<◌, nat_le, ltb, List, [], ◌∷◌, ◌++◌, filter, length}
use Rattle.std.specs.Prelude.{slice_get, Option, Some, None, unwrap_or, if◌then◌else◌}
use Rattle.trlab_rules.specs.Rules.{Programs}
use Rattle.trlab_step.specs.Run.{Sheet, IsSheet, in_force}
use Rattle.trlab_sequential_book.specs.declared.sheet.TheConstants.{MAX_ENTRIES}
use Rattle.trlab_sequential_book.specs.declared.{lease.ExecutedStep.ExecutedStep, fault.BookFault.BookFault}
use Rattle.trlab_sequential_book.specs.declared.fault.BookFault.TheVariants.{Memory, SheetFull}

-- the entry in force at a step of a sheet whose steps rise: the last one that begins at this step or before;
-- `None` if there is none. For example, in the sheet [(0, a), (5, b)] it is (0, a) at step 4 and (5, b) at
-- step 5
abbrev pub entry_in_force : Sheet → ℕ → Option (ℕ × Programs)
entry_in_force [] step = None
entry_in_force (entry ∷ sheet) step =
    if nat_le entry.0 step then Some (unwrap_or (entry_in_force sheet step) entry) else None

-- the step at which the entry in force at `step` begins; 0 if there is none
abbrev pub begin_in_force : Sheet → ℕ → ℕ
begin_in_force sheet step = elim (entry_in_force sheet step) [ None ↦ 0 | Some entry ↦ entry.0 ]

-- the sheet with `rule` in force from step `from` on; the new entry replaces those that begin at this step or
-- later. For example, c from step 5 on makes [(0, a), (5, b)] into [(0, a), (5, c)], and from step 3 on into
-- [(0, a), (3, c)]
abbrev pub with_rule_from : Sheet → ℕ → Programs → Sheet
with_rule_from sheet from rule =
    filter (λ (entry : ℕ × Programs). ltb entry.0 from) sheet ++ (from, rule) ∷ []

-- each entry of the sheet begins at step `step` or before
abbrev pub BeginBy : ℕ → Sheet → Type 0
BeginBy step [] = Unit {0}
BeginBy step (entry ∷ sheet) = (entry.0 ≤ step) × BeginBy step sheet

-- a sheet that the book can keep: it has at most MAX_ENTRIES entries
pub record IsBookSheet (sheet : Sheet) : Type 0 where
  pub is_sheet : IsSheet sheet
  pub at_most_max : length sheet ≤ MAX_ENTRIES

-- `applied` are the steps `first`, `first + 1` and so on; each was run under the rule that the sheet has in
-- force then
abbrev pub RanUnderSheet : Sheet → ℕ → List ExecutedStep → Type 0
RanUnderSheet sheet first applied =
    (k : ℕ) (ran : ExecutedStep) → slice_get applied k ≡ Some ran → in_force sheet (first + k) ≡ Some ran.rule

-- a new rule, with which the sheet would be this one, may be refused with this fault: `Memory` is always
-- possible, `SheetFull` only if the sheet would have more than MAX_ENTRIES entries, and no other fault is
abbrev pub MayRefuse : BookFault → Sheet → Type 0
MayRefuse Memory sheet = Unit {0}
MayRefuse SheetFull sheet = MAX_ENTRIES < length sheet
MayRefuse _ sheet = ⊥

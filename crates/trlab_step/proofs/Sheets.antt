-- A rule from step 0 on, and later rules whose steps rise, are a sheet.
use Rattle.std.proofs.Common.{◌≡◌, ℕ, zero, suc, ◌+◌, Bool, true, false, [], ◌∷◌, refl, subst, arith, ◌==◌}
use Rattle.std.proofs.{Common.{All, if◌then◌else◌, eqb-true}, lemmas.Bool.eqb-false}
use Rattle.trlab_rules.specs.Rules.{Programs}
use Rattle.trlab_step.specs.Run.{Sheet, StepsIncreaseFrom, IsSheet, sheet_with}

-- a later rule from step 0 on, or another one
sheet_by : (b : Bool) (first : Programs) (entry : ℕ × Programs) (later : Sheet) → (entry.0 == 0) ≡ b → StepsIncreaseFrom 0 (entry ∷ later)
    → IsSheet (if b then entry ∷ later else (0, first) ∷ entry ∷ later)
sheet_by true first entry later begins rises =
    let start = eqb-true entry.0 0 begins in
    (start, subst (λ (n : ℕ). StepsIncreaseFrom (n + 1) later) start rises.1)
sheet_by false first entry later begins rises =
    let behind = eqb-false entry.0 0 begins in
    (refl, (omega arith, rises.1))

pub with_is_sheet : (first : Programs) (later : Sheet) → StepsIncreaseFrom 0 later → IsSheet (sheet_with first later)
with_is_sheet first [] rises = (refl, tt)
with_is_sheet first (entry ∷ later) rises = sheet_by (entry.0 == 0) first entry later refl rises

-- a property of the rule and of each later one
abbrev pub AllRules : (Programs → Type 0) → Sheet → Type 0
AllRules P sheet = All (λ (entry : ℕ × Programs). P entry.1) sheet

with_first : (P : Programs → Type 0) (first : Programs) (later : Sheet) → P first → AllRules P later → AllRules P ((0, first) ∷ later)
with_first P first later is all zero d below = is
with_first P first later is all (suc k) d below = all k d (omega arith)

all_by : (b : Bool) (P : Programs → Type 0) (first : Programs) (entry : ℕ × Programs) (later : Sheet) → P first → AllRules P (entry ∷ later)
    → AllRules P (if b then entry ∷ later else (0, first) ∷ entry ∷ later)
all_by true P first entry later is all = all
all_by false P first entry later is all = with_first P first (entry ∷ later) is all

-- is a property of each rule of their sheet
pub with_all : (P : Programs → Type 0) (first : Programs) (later : Sheet) → P first → AllRules P later → AllRules P (sheet_with first later)
with_all P first [] is all = with_first P first [] is all
with_all P first (entry ∷ later) is all = all_by (entry.0 == 0) P first entry later is all

-- Runs under a sheet of rules: each step has exactly one road.
use Rattle.std.proofs.Common.{◌≡◌, ℕ, zero, suc, Bool, true, false, Option, Some, None, [], ◌∷◌, refl, sym}
use Rattle.std.proofs.Common.{◌∙◌, ap, subst, inl, inr, ◌⊎◌, length, arith, le-leb, All, nat_le, unwrap_or}
use Rattle.std.proofs.Common.{if◌then◌else◌}
use Rattle.trlab_road.specs.Cells.{Cells}
use Rattle.trlab_rules.specs.Rules.{Programs}
use Rattle.trlab_step.specs.{declared.tally.StepTally.StepTally, Next.IsNext}
use Rattle.trlab_step.specs.Run.{Seed, Sheet, IsSheet, in_force, no_tally, tally_sum, dice_at, IsRoadAt}
use Rattle.trlab_step.specs.{Run.IsRuleFor, Laws.{IsLegalLike, RoadExists, RoadIsUnique, RunContinues}}
use Rattle.trlab_step.proofs.NextLaws.{like_itself, like_next, next_road_exists, next_road_is_unique}

-- the rule in force is that of the first entry, or the one in force by the others
of_entry : (b : Bool) (others : Option Programs) (first rule : Programs) → (if b then Some (unwrap_or others first) else None) ≡ Some rule → (first ≡ rule) ⊎ (others ≡ Some rule)
of_entry true None first rule h = inl cc
of_entry true (Some other) first rule h = inr h
of_entry false others first rule h = absurd cc

-- the rule in force is one of the sheet
pub force_all : (P : Programs → Type 0) (sheet : Sheet) (step : ℕ) (rule : Programs) → All (λ (entry : ℕ × Programs). P entry.1) sheet → in_force sheet step ≡ Some rule → P rule
force_all P [] step rule all h = absurd cc
force_all P (entry ∷ sheet) step rule all h =
    elim (of_entry (nat_le entry.0 step) (in_force sheet step) entry.1 rule h) [
      | inl first ↦ subst P first (all 0 entry (omega arith))
      | inr later ↦ force_all P sheet step rule (λ k d below. all (suc k) d (omega arith)) later
    ]

-- a sheet has a rule in force at each step
pub some_force : (sheet : Sheet) (step : ℕ) → IsSheet sheet → (rule : Programs) × (in_force sheet step ≡ Some rule)
some_force [] step is = absurd is
some_force (entry ∷ later) step is =
    let begins = is.0 in
    (unwrap_or (in_force later step) entry.1, rw (le-leb entry.0 step (omega arith)) refl)

-- a run continues from its road at a step to the next road under the rule in force
pub run_continues : RunContinues
run_continues seed sheet step road next sum tally rule comes under is =
    (road, sum, rule, tally, comes, record { under = under; next = is; counted = refl })

-- a rule for the lanes of a road is one for those of a road like it
pub rule_for_like : (old new : Cells) (rule : Programs) → IsLegalLike old new → IsRuleFor (length old.lanes) rule → IsRuleFor (length new.lanes) rule
rule_for_like old new rule like is = subst (λ lanes. IsRuleFor lanes rule) (sym like.same_lanes) is

-- a run under a sheet for its lanes comes to a road at each step
pub run_comes_to_road : RoadExists
run_comes_to_road seed sheet zero legal is = (seed.road, no_tally, (is.is_sheet, refl, refl), like_itself seed.road legal)
run_comes_to_road seed sheet (suc step) legal is =
    let before = run_comes_to_road seed sheet step legal is in
    let rule = some_force sheet step is.is_sheet in
    let of_sheet = force_all (IsRuleFor (length seed.road.lanes)) sheet step rule.0 is.rules rule.1 in
    let next = next_road_exists rule.0 (dice_at seed step) before.0 (rule_for_like seed.road before.0 rule.0 before.3 of_sheet) before.3.legal in
    let sum = if nat_le seed.warm step then tally_sum before.1 next.1 else before.1 in
    (next.0, sum, run_continues seed sheet step before.0 next.0 before.1 next.1 rule.0 before.2 rule.1 (next.2.0, next.2.1.step), like_next seed.road before.0 next.0 before.3 next.3)

one_rule : {a b : Programs} → Some a ≡ Some b → a ≡ b
one_rule h = cc

pub road_is_unique : RoadIsUnique
road_is_unique seed sheet zero road other sum count a b = (a.1 ∙ sym b.1, a.2 ∙ sym b.2)
road_is_unique seed sheet (suc step) road other sum count a b =
    let before = road_is_unique seed sheet step a.0 b.0 a.1 b.1 a.4 b.4 in
    let rule = one_rule (sym a.5.under ∙ b.5.under) in
    let ruled = subst (λ (r : Programs). IsNext r (dice_at seed step) a.0 road a.3) rule a.5.next in
    let next = subst (λ (c : Cells). IsNext b.2 (dice_at seed step) c road a.3) before.0 ruled in
    let same = next_road_is_unique b.2 (dice_at seed step) b.0 road other a.3 b.3 next b.5.next in
    let total : StepTally → StepTally → StepTally = λ s t. if nat_le seed.warm step then tally_sum s t else s in
    (same.0, a.5.counted ∙ ap (λ s. total s a.3) before.1 ∙ ap (total b.1) same.1 ∙ sym b.5.counted)

-- a run has only one road at each step, for any counts
pub road_at_is_one : (seed : Seed) (sheet : Sheet) (step : ℕ) (road other : Cells) → IsRoadAt seed sheet step road → IsRoadAt seed sheet step other → road ≡ other
road_at_is_one seed sheet step road other a b = (road_is_unique seed sheet step road other a.0 b.0 a.1 b.1).0

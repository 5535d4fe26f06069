-- A run on its way: its road is legal, and its counts are small enough.
use Rattle.std.proofs.Common.{◌≡◌, ℕ, zero, suc, ◌+◌, ◌*◌, ◌^◌, ◌<◌, ◌≤◌, length, refl, sym, subst, arith}
use Rattle.std.proofs.Common.{Bool, true, false, Some, nat_le, if◌then◌else◌}
use Rattle.trlab_bounds.specs.declared.roads.TheConstants.{MAX_LIMIT}
use Rattle.trlab_road.specs.Cells.{Cells, IsLegal}
use Rattle.trlab_rules.specs.Rules.{Programs}
use Rattle.trlab_step.specs.Run.{IsRuleFor, IsSheetFor, Seed, Sheet, in_force, tally_sum, dice_at, ComesTo}
use Rattle.trlab_step.specs.{Run.{Progress, IsReachedByRun}, Laws.IsLegalLike, Next.IsNext}
use Rattle.trlab_step.{specs.declared.tally.StepTally.StepTally, proofs.RunLaws.force_all}
use Rattle.trlab_step.proofs.{RunLaws.{run_comes_to_road, road_is_unique}, Counts.{IsSmall, small_tally}}

-- each road of a run is like its first road
pub like_start : (seed : Seed) (sheet : Sheet) (step : ℕ) (road : Cells) (sum : StepTally) → IsLegal seed.road → IsSheetFor (length seed.road.lanes) sheet
    → ComesTo seed sheet step road sum → IsLegalLike seed.road road
like_start seed sheet step road sum legal suits comes =
    let at = run_comes_to_road seed sheet step legal suits in
    subst (λ (r : Cells). IsLegalLike seed.road r) (road_is_unique seed sheet step at.0 road at.1 sum at.2 comes).0 at.3

-- the rule in force is one for the lanes of the current road
pub rule_here : (run : Progress) (rule : Programs) → IsReachedByRun run → in_force run.sheet run.step ≡ Some rule → IsRuleFor (length run.road.lanes) rule
rule_here run rule on under =
    let like = like_start run.seed run.sheet run.step run.road run.sum on.legal on.suits on.comes in
    subst (λ lanes. IsRuleFor lanes rule) (sym like.same_lanes)
    (force_all (IsRuleFor (length run.seed.road.lanes)) run.sheet run.step rule on.suits.rules under)

-- a sum of this number of small tallies
pub record IsSmallSum (steps : ℕ) (sum : StepTally) : Type 0 where
  pub distance : sum.distance ≤ MAX_LIMIT * 200000 * steps
  pub stopped : sum.stopped ≤ 200000 * steps
  pub changes : sum.changes ≤ 200000 * steps

one_more : (counts : Bool) (step : ℕ) (before sum tally : StepTally) → IsSmallSum step before → IsSmall tally
    → sum ≡ (if counts then tally_sum before tally else before) → IsSmallSum (suc step) sum
one_more true step before sum tally small few is =
    let a = small.distance in let b = small.stopped in let c = small.changes in
    let d = few.distance in let e = few.stopped in let f = few.changes in
    rw is (record { distance = omega arith; stopped = omega arith; changes = omega arith })
one_more false step before sum tally small few is =
    let a = small.distance in let b = small.stopped in let c = small.changes in
    rw is (record { distance = omega arith; stopped = omega arith; changes = omega arith })

-- so are the counts of a run
pub small_sum : (seed : Seed) (sheet : Sheet) (step : ℕ) (road : Cells) (sum : StepTally) → IsLegal seed.road → IsSheetFor (length seed.road.lanes) sheet
    → ComesTo seed sheet step road sum → IsSmallSum step sum
small_sum seed sheet zero road sum legal suits comes = rw comes.2 (record { distance = omega arith; stopped = omega arith; changes = omega arith })
small_sum seed sheet (suc step) road sum legal suits comes =
    let before = like_start seed sheet step comes.0 comes.1 legal suits comes.4 in
    let after = like_start seed sheet (suc step) road sum legal suits comes in
    one_more (nat_le seed.warm step) step comes.1 sum comes.3 (small_sum seed sheet step comes.0 comes.1 legal suits comes.4)
    (small_tally comes.2 (dice_at seed step) comes.0 road comes.3 before.legal after.legal comes.5.next) comes.5.counted

-- and these counts plus the tally of the next step
pub room_for : (run : Progress) (rule : Programs) (next : Cells) (tally : StepTally) → IsReachedByRun run → IsLegal next → IsNext rule (dice_at run.seed run.step) run.road next tally
    → IsSmallSum (suc run.step) (tally_sum run.sum tally)
room_for run rule next tally on legal is =
    let like = like_start run.seed run.sheet run.step run.road run.sum on.legal on.suits on.comes in
    one_more true run.step run.sum (tally_sum run.sum tally) tally (small_sum run.seed run.sheet run.step run.road run.sum on.legal on.suits on.comes)
    (small_tally rule (dice_at run.seed run.step) run.road next tally like.legal legal is) refl

-- in fewer than 2 ^ 32 steps the sum stays below 2 ^ 64
pub counts_fit : (step begun : ℕ) (sum : StepTally) → IsSmallSum (suc step) sum → step ≡ begun → begun + 1 < 2 ^ 32 → (sum.distance < 2 ^ 64) × (sum.stopped < 2 ^ 64) × (sum.changes < 2 ^ 64)
counts_fit step begun sum small same early =
    let a = small.distance in let b = small.stopped in let d = small.changes in
    (omega (arith, a, same, early), omega (arith, b, same, early), omega (arith, d, same, early))

-- The views of the cars of a legal road are in range, so the calls of accepted programs are safe.
use Rattle.std.proofs.Common.{◌≡◌, ◌≤◌, ℕ, Option, Some, None, length, refl, subst, IfSome, IsSome}
use Rattle.trlab_words.proofs.RandomWords.{length-random_words}
use Rattle.trlab_code.specs.{declared.program.Kind.{Kind, TheVariants.{Motion, Change}}, Machine.Goes}
use Rattle.trlab_verify.specs.Verified.{CheckedProgram, IsChecked}
use Rattle.trlab_machine.specs.{declared.dice.Dice.Dice, Blocks.words_of, Answers.crossing_answer}
use Rattle.trlab_machine.proofs.Answers.{one_answer}
use Rattle.trlab_road.specs.Cells.{Cells, IsLegal}
use Rattle.trlab_rules.specs.Rules.{IsRule, Programs}
use Rattle.trlab_step.specs.Answers.{change_view_of, motion_view_of, view_for_kind, AreSafeCalls}
use Rattle.trlab_step.specs.Answers.{StepCallsAreSafe}
use Rattle.trlab_step.specs.Laws.{CrossingsComeWithinBudget, SpeedsComeWithinBudget, ViewsAreInRange}
use Rattle.trlab_step.proofs.AnswersExist.{change_view_is_view, motion_view_is_view}

not_change : Motion ≡ Change → ⊥
not_change h = cc

-- the view of a car of a legal road is in range
pub views_in_range : ViewsAreInRange
views_in_range Motion road car legal two here = motion_view_is_view road car legal here
views_in_range Change road car legal two here = change_view_is_view road car legal (two refl) here

-- the calls of an accepted program for the cars of a legal road are safe
calls_safe : (kind : Kind) (checked : CheckedProgram) (dice : Dice) (road : Cells) → IsChecked kind checked → IsLegal road → (kind ≡ Change → length road.lanes ≡ 2) → AreSafeCalls kind checked dice road
calls_safe kind checked dice road is legal two car here =
    let seen = views_in_range kind road car legal two here in
    record { in_range = seen; ends = is.safe (view_for_kind kind road car) (words_of dice car.number) seen (length-random_words dice.key dice.road car.number dice.step) }

-- a program ends only once, so its answer comes within its budget
pub speeds_in_time : SpeedsComeWithinBudget
speeds_in_time motion dice road car speed is legal here answer =
    let safe = (calls_safe Motion motion dice road is legal (λ e. absurd (not_change e)) car here).ends in
    let same = (one_answer Motion motion.program.instrs (motion_view_of road car) (words_of dice car.number) safe.0 (Goes speed) safe.1 answer.0 safe.3 answer.1).1 in
    subst (λ (n : ℕ). n ≤ motion.budget) same safe.2

pub crossings_in_time : CrossingsComeWithinBudget
crossings_in_time change dice road car crosses is legal two here answer =
    let safe = (calls_safe Change change dice road is legal (λ e. two) car here).ends in
    let same = (one_answer Change change.program.instrs (change_view_of road car) (words_of dice car.number) safe.0 (crossing_answer crosses) safe.1 answer.0 safe.3 answer.1).1 in
    subst (λ (n : ℕ). n ≤ change.budget) same safe.2

changes_safe : (change : Option CheckedProgram) (dice : Dice) (road : Cells) → IfSome change (λ c. IsChecked Change c) → (IsSome change → length road.lanes ≡ 2) → IsLegal road → IfSome change (λ c. AreSafeCalls Change c dice road)
changes_safe None dice road is two legal = tt
changes_safe (Some change) dice road is two legal = calls_safe Change change dice road is legal (λ e. two refl)

-- so are the calls of both phases of a step
pub step_calls_safe : (rule : Programs) (dice : Dice) (road middle : Cells) → IsRule rule → (IsSome rule.change → length road.lanes ≡ 2) → IsLegal road → IsLegal middle → StepCallsAreSafe rule dice road middle
step_calls_safe rule dice road middle is two legal after = record {
  lane_change = changes_safe rule.change dice road is.change two legal;
  motion = calls_safe Motion rule.motion dice middle is.motion after (λ e. absurd (not_change e));
}

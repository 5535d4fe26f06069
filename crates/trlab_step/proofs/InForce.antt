-- The rule in force is that of the last entry whose step has come.
use Rattle.std.proofs.Common.{◌≡◌, ℕ, zero, suc, ◌+◌, ◌<◌, ◌≤◌, [], ◌∷◌, length, get_or, refl, arith, true}
use Rattle.std.{proofs.Common.{false, le-leb, Some, None, nat_le}, specs.List.AllWithin}
use Rattle.std.specs.List.Sorted.{IsNonDecreasingBy}
use Rattle.trlab_rules.specs.Rules.{Programs}
use Rattle.trlab_step.specs.Run.{Sheet, StepsIncreaseFrom, in_force}

-- no later rule is before the first of them
all_late : (least : ℕ) (later : Sheet) (k : ℕ) (d : ℕ × Programs) → StepsIncreaseFrom least later → k < length later → least ≤ (get_or later k d).0
all_late least [] k d rises below = absurd (omega arith)
all_late least (entry ∷ later) zero d rises below = rises.0
all_late least (entry ∷ later) (suc k) d rises below =
    let here = rises.0 in
    let there = all_late (entry.0 + 1) later k d rises.1 (omega arith) in
    omega arith

-- the steps of later rules rise
pub steps_rise : (least : ℕ) (later : Sheet) → StepsIncreaseFrom least later → IsNonDecreasingBy (λ (entry : ℕ × Programs). entry.0) later
steps_rise least [] rises i j d up below = absurd (omega arith)
steps_rise least (entry ∷ later) rises zero zero d up below = omega arith
steps_rise least (entry ∷ later) rises zero (suc j) d up below =
    let there = all_late (entry.0 + 1) later j d rises.1 (omega arith) in
    omega arith
steps_rise least (entry ∷ later) rises (suc i) zero d up below = absurd (omega arith)
steps_rise least (entry ∷ later) rises (suc i) (suc j) d up below = steps_rise (entry.0 + 1) later rises.1 i j d (omega arith) (omega arith)

-- if no later rule has begun, none is in force
none_begun : (later : Sheet) (step : ℕ) → AllWithin (λ (entry : ℕ × Programs). nat_le entry.0 step ≡ false) later 0 (length later) → in_force later step ≡ None
none_begun [] step late = refl
none_begun (entry ∷ later) step late = rw (late 0 entry (omega arith) (omega arith)) refl

-- if the later rules up to one have begun, and no more, that one is in force
some_begun : (later : Sheet) (step k : ℕ) (d : ℕ × Programs) → k < length later
    → AllWithin (λ (entry : ℕ × Programs). nat_le entry.0 step ≡ true) later 0 (k + 1)
    → AllWithin (λ (entry : ℕ × Programs). nat_le entry.0 step ≡ false) later (k + 1) (length later)
    → in_force later step ≡ Some (get_or later k d).1
some_begun [] step k d below come late = absurd (omega arith)
some_begun (entry ∷ later) step zero d below come late =
    rw (come 0 entry (omega arith) (omega arith), none_begun later step (λ i e low high. late (suc i) e (omega arith) (omega arith))) refl
some_begun (entry ∷ later) step (suc k) d below come late =
    rw (
      come 0 entry (omega arith) (omega arith),
      some_begun later step k d (omega arith)
          (λ i e low high. come (suc i) e (omega arith) (omega arith)) (λ i e low high. late (suc i) e (omega arith) (omega arith)),
    ) refl

-- the first rule is in force if no later rule is
pub first_in_force : (first : Programs) (later : Sheet) (step : ℕ)
    → AllWithin (λ (entry : ℕ × Programs). nat_le entry.0 step ≡ false) later 0 (length later)
    → in_force ((0, first) ∷ later) step ≡ Some first
first_in_force first later step late = rw (le-leb 0 step (omega arith), none_begun later step late) refl

-- otherwise the last one that has begun
pub later_in_force : (first : Programs) (later : Sheet) (step k : ℕ) (d : ℕ × Programs) → k < length later
    → AllWithin (λ (entry : ℕ × Programs). nat_le entry.0 step ≡ true) later 0 (k + 1)
    → AllWithin (λ (entry : ℕ × Programs). nat_le entry.0 step ≡ false) later (k + 1) (length later)
    → in_force ((0, first) ∷ later) step ≡ Some (get_or later k d).1
later_in_force first later step k d below come late = rw (le-leb 0 step (omega arith), some_begun later step k d below come late) refl

-- The entry in force is the last one that has begun.
use Rattle.std.proofs.Common.{◌≡◌, ℕ, zero, suc, ◌+◌, ◌<◌, ◌≤◌, Bool, List, [], ◌∷◌, subst, inl, inr, length}
use Rattle.std.proofs.Common.{get_or, refl, sym, ap, ◌∙◌, arith, true, false, le-leb, eq-or-lt_of_le, All}
use Rattle.std.proofs.Common.{slice_get, Option, Some, None, nat_le, unwrap_or, option_map, if◌then◌else◌}
use Rattle.std.{proofs.lemmas.{Bool.{lt-leb, false≢true}, Option.slice_get-get_or}, specs.List.AllWithin}
use Rattle.trlab_rules.specs.Rules.{Programs}
use Rattle.trlab_step.specs.Run.{Sheet, StepsIncreaseFrom, IsSheet, in_force}
use Rattle.trlab_sequential_book.specs.{declared.lease.ExecutedStep.ExecutedStep, Leases.IsSteady}
use Rattle.trlab_sequential_book.specs.Sheets.{RanUnderSheet, entry_in_force}

-- the steps of a sheet rise from 0 on
pub rises_from_0 : (sheet : Sheet) → IsSheet sheet → StepsIncreaseFrom 0 sheet
rises_from_0 [] is = absurd is
rises_from_0 (first ∷ later) is = (omega arith, rw is.0 is.1)

-- if no entry has begun, none is in force
none_begun : (sheet : Sheet) (step : ℕ) → AllWithin (λ (entry : ℕ × Programs). nat_le entry.0 step ≡ false) sheet 0 (length sheet) → entry_in_force sheet step ≡ None
none_begun [] step late = refl
none_begun (entry ∷ sheet) step late = rw (late 0 entry (omega arith) (omega arith)) refl

-- if the entries up to one have begun, and no more, this one is in force
pub some_begun : (sheet : Sheet) (step k : ℕ) (d : ℕ × Programs) → k < length sheet
    → AllWithin (λ (entry : ℕ × Programs). nat_le entry.0 step ≡ true) sheet 0 (k + 1)
    → AllWithin (λ (entry : ℕ × Programs). nat_le entry.0 step ≡ false) sheet (k + 1) (length sheet)
    → entry_in_force sheet step ≡ Some (get_or sheet k d)
some_begun [] step k d below come late = absurd (omega arith)
some_begun (entry ∷ sheet) step zero d below come late =
    rw (come 0 entry (omega arith) (omega arith), none_begun sheet step (λ i e low high. late (suc i) e (omega arith) (omega arith))) refl
some_begun (entry ∷ sheet) step (suc k) d below come late =
    rw (
      come 0 entry (omega arith) (omega arith),
      some_begun sheet step k d (omega arith)
          (λ i e low high. come (suc i) e (omega arith) (omega arith)) (λ i e low high. late (suc i) e (omega arith) (omega arith)),
    ) refl

-- the first entry has always begun
pub first_begun : (sheet : Sheet) (step n : ℕ) → IsSheet sheet
    → AllWithin (λ (entry : ℕ × Programs). nat_le entry.0 step ≡ false) sheet n (length sheet) → 1 ≤ n
first_begun [] step n is late = absurd is
first_begun (first ∷ later) step zero is late =
    let begins = is.0 in
    let begun = le-leb first.0 step (omega arith) in
    absurd (false≢true (sym (late 0 first (omega arith) (omega arith)) ∙ begun))
first_begun (first ∷ later) step (suc n) is late = omega arith

rule_of : (begun : Bool) (others : Option (ℕ × Programs)) (entry : ℕ × Programs) → option_map (λ (e : ℕ × Programs). e.1) (if begun then Some (unwrap_or others entry) else None) ≡ (if begun then Some (unwrap_or (option_map (λ (e : ℕ × Programs). e.1) others) entry.1) else None)
rule_of true None entry = refl
rule_of true (Some other) entry = refl
rule_of false others entry = refl

-- the rule in force is that of the entry in force
pub rule_in_force : (sheet : Sheet) (step : ℕ) → option_map (λ (entry : ℕ × Programs). entry.1) (entry_in_force sheet step) ≡ in_force sheet step
rule_in_force [] step = refl
rule_in_force (entry ∷ sheet) step =
    rule_of (nat_le entry.0 step) (entry_in_force sheet step) entry
    ∙ ap (λ (others : Option Programs). if nat_le entry.0 step then Some (unwrap_or others entry.1) else None) (rule_in_force sheet step)

-- below the steps of a sheet no rule is in force
pub none_in_force : (sheet : Sheet) (least step : ℕ) → StepsIncreaseFrom least sheet → step < least → in_force sheet step ≡ None
none_in_force [] least step rises below = refl
none_in_force (entry ∷ sheet) least step rises below =
    let here = rises.0 in
    rw (lt-leb entry.0 step (omega arith)) refl

-- the rules that were applied in the first steps are those in force
pub record FirstInForce (sheet : Sheet) (step : ℕ) (applied : List ExecutedStep) (count : ℕ) : Type 0 where
  pub each : (k : ℕ) (ran : ExecutedStep) → k < count → slice_get applied k ≡ Some ran → in_force sheet (step + k) ≡ Some ran.rule

one_ran : {a b : ExecutedStep} → Some a ≡ Some b → a ≡ b
one_ran e = cc

-- one more of them
pub one_more_in_force : (sheet : Sheet) (step : ℕ) (applied : List ExecutedStep) (i : ℕ) (item : ExecutedStep) → FirstInForce sheet step applied i → i < length applied → item ≡ get_or applied i item
    → in_force sheet (step + i) ≡ Some item.rule → FirstInForce sheet step applied (i + 1)
one_more_in_force sheet step applied i item before h e here = record {
  each = λ k ran below at. (
      let by : k ≤ i = omega arith in
      elim (eq-or-lt_of_le by) [
        | inl same ↦ (
            let found : slice_get applied i ≡ Some item = slice_get-get_or applied i item h ∙ sym (ap Some e) in
            let is : item ≡ ran = one_ran (sym found ∙ subst (λ n. slice_get applied n ≡ Some ran) same at) in
            rw same (here ∙ ap (λ (r : ExecutedStep). Some r.rule) is))
        | inr less ↦ before.each k ran less at
      ]);
}

-- all of them
pub all_in_force : (sheet : Sheet) (step : ℕ) (applied : List ExecutedStep) (count : ℕ) → FirstInForce sheet step applied count → length applied ≤ count → RanUnderSheet sheet step applied
all_in_force sheet step applied count first all k ran at = first.each k ran (within applied k ran count at all) at
  where
    within : (applied : List ExecutedStep) (k : ℕ) (ran : ExecutedStep) (count : ℕ) → slice_get applied k ≡ Some ran → length applied ≤ count → k < count
    within [] k ran count at all = absurd cc
    within (x ∷ xs) zero ran count at all = omega arith
    within (x ∷ xs) (suc k) ran zero at all = absurd (omega arith)
    within (x ∷ xs) (suc k) ran (suc count) at all = let rest = within xs k ran count at (omega arith) in omega arith

-- an entry begins no later than the last one; if the last one has begun, its rule is in force
pub record IsLastIn (least : ℕ) (sheet : Sheet) (step : ℕ) (entry : ℕ × Programs) : Type 0 where
  pub above : least ≤ entry.0
  pub in_force_there : entry.0 ≤ step → in_force sheet step ≡ Some entry.1

one_entry : {a b : ℕ × Programs} → Some a ≡ Some b → a ≡ b
one_entry e = cc

pub last_in_force : (least : ℕ) (sheet : Sheet) (step n : ℕ) (entry : ℕ × Programs) → StepsIncreaseFrom least sheet
    → slice_get sheet n ≡ Some entry → length sheet ≡ suc n → IsLastIn least sheet step entry
last_in_force least [] step n entry rises at long = absurd cc
last_in_force least (x ∷ []) step zero entry rises at long =
    let same : x ≡ entry = one_entry at in
    subst (λ e. IsLastIn least (x ∷ []) step e) same
    (record { above = rises.0; in_force_there = λ come. rw (le-leb x.0 step come) refl })
last_in_force least (x ∷ []) step (suc n) entry rises at long = absurd cc
last_in_force least (x ∷ y ∷ more) step zero entry rises at long = absurd (omega arith)
last_in_force least (x ∷ y ∷ more) step (suc n) entry rises at long =
    let later = last_in_force (x.0 + 1) (y ∷ more) step n entry rises.1 at (omega arith) in
    let here = rises.0 in
    let above = later.above in
    record {
      above = omega arith;
      in_force_there = λ come. (
          let begun : x.0 ≤ step = omega arith in
          rw (le-leb x.0 step begun, later.in_force_there come) refl);
    }

-- one rule is in force from a step on, and all steps have one rule: all are in force if the first is
pub steady_in_force : (sheet : Sheet) (step n : ℕ) (entry : ℕ × Programs) (ran : ExecutedStep) (applied : List ExecutedStep) → IsSheet sheet
    → slice_get sheet n ≡ Some entry → length sheet ≡ suc n → entry.0 ≤ step → IsSteady applied
    → slice_get applied 0 ≡ Some ran → entry.1 ≡ ran.rule → RanUnderSheet sheet step applied
steady_in_force sheet step n entry ran [] is at long come steady begins same k other found = absurd cc
steady_in_force sheet step n entry ran (x ∷ more) is at long come steady begins same zero other found =
    let here : other ≡ ran = one_ran (sym found ∙ begins) in
    (last_in_force 0 sheet (step + 0) n entry (rises_from_0 sheet is) at long).in_force_there (omega arith)
    ∙ ap Some (same ∙ ap (λ (r : ExecutedStep). r.rule) (sym here))
steady_in_force sheet step n entry ran (x ∷ more) is at long come steady begins same (suc k) other found =
    let first : x ≡ ran = one_ran begins in
    (last_in_force 0 sheet (step + suc k) n entry (rises_from_0 sheet is) at long).in_force_there (omega arith)
    ∙ ap Some (same ∙ ap (λ (r : ExecutedStep). r.rule) (sym first) ∙ sym (one_of more k other (λ r. r.rule ≡ x.rule) steady found))
  where
    one_of : (more : List ExecutedStep) (k : ℕ) (other : ExecutedStep) (P : ExecutedStep → Type 0) → All P more → slice_get more k ≡ Some other → P other
    one_of [] k other P all at = absurd cc
    one_of (y ∷ more) zero other P all at = subst P (one_ran at) (all 0 y (omega arith))
    one_of (y ∷ more) (suc k) other P all at = one_of more k other P (λ i d h. all (suc i) d (omega arith)) at

-- the converse
pub first_in_force : (sheet : Sheet) (step n : ℕ) (entry : ℕ × Programs) (ran : ExecutedStep) (applied : List ExecutedStep) → IsSheet sheet
    → slice_get sheet n ≡ Some entry → length sheet ≡ suc n → entry.0 ≤ step
    → slice_get applied 0 ≡ Some ran → RanUnderSheet sheet step applied → entry.1 ≡ ran.rule
first_in_force sheet step n entry ran applied is at long come begins all =
    let here = (last_in_force 0 sheet (step + 0) n entry (rises_from_0 sheet is) at long).in_force_there (omega arith) in
    one_rule (sym here ∙ all 0 ran begins)
  where
    one_rule : {a b : Programs} → Some a ≡ Some b → a ≡ b
    one_rule e = cc

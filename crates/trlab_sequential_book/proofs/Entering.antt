-- A rule that enters a sheet: the result is a sheet, and earlier steps keep their rules.
use Rattle.std.proofs.Common.{◌≡◌, ℕ, zero, suc, ◌+◌, ◌<◌, ◌≤◌, Bool, [], ◌∷◌, ◌++◌, ap, sym, ◌∙◌, refl}
use Rattle.std.proofs.Common.{arith, length, ltb, length-append, append-nil, ◌≢◌, ◌==◌, ◌||◌, not, true}
use Rattle.std.proofs.Common.{false, subst, ltb-true, lt-ltb, le-ltb, ltb-false, Option, Some, None, All}
use Rattle.std.proofs.Common.{filter, nat_le, unwrap_or, if◌then◌else◌}
use Rattle.std.proofs.lemmas.Bool.{lt-leb, cond_both, cond-true, cond-false}
use Rattle.std.proofs.lemmas.List.Elements.{filter-append, All-filter, All-append}
use Rattle.trlab_rules.specs.Rules.{Programs}
use Rattle.trlab_road.specs.Cells.{Cells}
use Rattle.trlab_step.specs.{declared.tally.StepTally.StepTally, Run.{Seed, Sheet, IsSheet}}
use Rattle.trlab_step.specs.Run.{StepsIncreaseFrom, in_force, ComesTo, IsRuleFor, IsReachedByRun, suits}
use Rattle.trlab_sequential_book.specs.Sheets.{BeginBy, IsBookSheet, with_rule_from}
use Rattle.trlab_sequential_book.specs.Machine.{JobState, JobOutcome, refusal, replace_outcome}
use Rattle.trlab_sequential_book.specs.declared.sheet.TheConstants.{MAX_ENTRIES}
use Rattle.trlab_sequential_book.specs.declared.event.Reply.TheVariants.{Number}
use Rattle.trlab_sequential_book.specs.declared.fault.BookFault.TheVariants.{Ended, LanesMismatch, SheetFull}
use Rattle.trlab_sequential_book.proofs.InForce.{rises_from_0, none_in_force}

begin_last : (from : ℕ) (xs : Sheet) (last : ℕ × Programs) → BeginBy from (xs ++ last ∷ []) → last.0 ≤ from
begin_last from [] last begin = begin.0
begin_last from (x ∷ xs) last begin = begin_last from xs last begin.1

rises_last : (low : ℕ) (xs : Sheet) (last : ℕ × Programs) → StepsIncreaseFrom low (xs ++ last ∷ []) → low ≤ last.0
rises_last low [] last rises = rises.0
rises_last low (x ∷ xs) last rises =
    let here = rises.0 in
    let there = rises_last (x.0 + 1) xs last rises.1 in
    omega arith

all_below : (low : ℕ) (xs : Sheet) (last : ℕ × Programs) (from : ℕ) → StepsIncreaseFrom low (xs ++ last ∷ []) → last.0 ≤ from → filter (λ (entry : ℕ × Programs). ltb entry.0 from) xs ≡ xs
all_below low [] last from rises by = refl
all_below low (x ∷ xs) last from rises by =
    let there = rises_last (x.0 + 1) xs last rises.1 in
    let one = lt-ltb x.0 from (omega arith) in
    let rest = filter (λ (entry : ℕ × Programs). ltb entry.0 from) xs in
    cond-true (ltb x.0 from) (x ∷ rest) rest one ∙ ap (λ v. x ∷ v) (all_below (x.0 + 1) xs last from rises.1 by)

-- a sheet whose last entry begins there
pub entered_at : (xs : Sheet) (last : ℕ × Programs) (from : ℕ) (rule : Programs) → IsSheet (xs ++ last ∷ []) → last.0 ≡ from → with_rule_from (xs ++ last ∷ []) from rule ≡ xs ++ (from, rule) ∷ []
entered_at xs last from rule is e =
    let before : ℕ × Programs → Bool = λ (entry : ℕ × Programs). ltb entry.0 from in
    let none : filter before (last ∷ []) ≡ [] = cond-false (ltb last.0 from) (last ∷ []) [] (le-ltb last.0 from (omega arith)) in
    ap (λ v. v ++ (from, rule) ∷ []) (filter-append before xs (last ∷ []) ∙ ap (λ v. v ++ filter before (last ∷ [])) (all_below 0 xs last from (rises_from_0 (xs ++ last ∷ []) is) (omega arith)) ∙ ap (λ v. xs ++ v) none ∙ append-nil xs)

-- a sheet whose last entry begins before
pub entered_after : (xs : Sheet) (last : ℕ × Programs) (from : ℕ) (rule : Programs) → IsSheet (xs ++ last ∷ []) → last.0 < from → with_rule_from (xs ++ last ∷ []) from rule ≡ (xs ++ last ∷ []) ++ (from, rule) ∷ []
entered_after xs last from rule is e =
    let before : ℕ × Programs → Bool = λ (entry : ℕ × Programs). ltb entry.0 from in
    let one : filter before (last ∷ []) ≡ last ∷ [] = cond-true (ltb last.0 from) (last ∷ []) [] (lt-ltb last.0 from e) in
    ap (λ v. v ++ (from, rule) ∷ []) (filter-append before xs (last ∷ []) ∙ ap (λ v. v ++ filter before (last ∷ [])) (all_below 0 xs last from (rises_from_0 (xs ++ last ∷ []) is) (omega arith)) ∙ ap (λ v. xs ++ v) one)

rises_at : (low : ℕ) (xs : Sheet) (a b : ℕ × Programs) → a.0 ≡ b.0 → StepsIncreaseFrom low (xs ++ a ∷ []) → StepsIncreaseFrom low (xs ++ b ∷ [])
rises_at low [] a b e rises = let here = rises.0 in (omega arith, tt)
rises_at low (x ∷ xs) a b e rises = (rises.0, rises_at (x.0 + 1) xs a b e rises.1)

rises_after : (low : ℕ) (xs : Sheet) (a b : ℕ × Programs) → a.0 < b.0 → StepsIncreaseFrom low (xs ++ a ∷ []) → StepsIncreaseFrom low ((xs ++ a ∷ []) ++ b ∷ [])
rises_after low [] a b e rises = (rises.0, (omega arith, tt))
rises_after low (x ∷ xs) a b e rises = (rises.0, rises_after (x.0 + 1) xs a b e rises.1)

is_sheet_at : (xs : Sheet) (a b : ℕ × Programs) → a.0 ≡ b.0 → IsSheet (xs ++ a ∷ []) → IsSheet (xs ++ b ∷ [])
is_sheet_at [] a b e is = (sym e ∙ is.0, tt)
is_sheet_at (x ∷ xs) a b e is = (is.0, rises_at 1 xs a b e is.1)

is_sheet_after : (xs : Sheet) (a b : ℕ × Programs) → a.0 < b.0 → IsSheet (xs ++ a ∷ []) → IsSheet ((xs ++ a ∷ []) ++ b ∷ [])
is_sheet_after [] a b e is = (is.0, (omega arith, tt))
is_sheet_after (x ∷ xs) a b e is = (is.0, rises_after 1 xs a b e is.1)

pub sheet_at : (xs : Sheet) (last : ℕ × Programs) (from : ℕ) (rule : Programs) → IsBookSheet (xs ++ last ∷ []) → last.0 ≡ from → IsBookSheet (xs ++ (from, rule) ∷ [])
sheet_at xs last from rule is e =
    let a = length-append xs (last ∷ []) in
    let b = length-append xs ((from, rule) ∷ []) in
    let few = is.at_most_max in
    record { is_sheet = is_sheet_at xs last (from, rule) e is.is_sheet; at_most_max = omega arith }

pub sheet_after : (xs : Sheet) (last : ℕ × Programs) (from : ℕ) (rule : Programs) → IsBookSheet (xs ++ last ∷ []) → last.0 < from → length (xs ++ last ∷ []) < MAX_ENTRIES → IsBookSheet ((xs ++ last ∷ []) ++ (from, rule) ∷ [])
sheet_after xs last from rule is e few =
    let b = length-append (xs ++ last ∷ []) ((from, rule) ∷ []) in
    record { is_sheet = is_sheet_after xs last (from, rule) e is.is_sheet; at_most_max = omega arith }

pub begin_before : (from : ℕ) (xs : Sheet) (last : ℕ × Programs) → BeginBy from (xs ++ last ∷ []) → last.0 ≢ from → last.0 < from
begin_before from xs last begin other =
    let by = begin_last from xs last begin in
    omega arith

-- after a rule has entered, all entries begin at its step or before
pub begin_entered : (from : ℕ) (rule : Programs) (sheet : Sheet) → BeginBy from (with_rule_from sheet from rule)
begin_entered from rule [] = (omega arith, tt)
begin_entered from rule (x ∷ sheet) =
    let rest = filter (λ (entry : ℕ × Programs). ltb entry.0 from) sheet in
    let P : Sheet → Type 0 = λ v. BeginBy from (v ++ (from, rule) ∷ []) in
    cond_both (ltb x.0 from) (x ∷ rest) rest P
    (λ h. let low = ltb-true x.0 from h in (omega arith, begin_entered from rule sheet))
    (λ _. begin_entered from rule sheet)

pub begin_more : (a b : ℕ) (sheet : Sheet) → a ≤ b → BeginBy a sheet → BeginBy b sheet
begin_more a b [] h begin = tt
begin_more a b (x ∷ sheet) h begin = let here = begin.0 in (omega arith, begin_more a b sheet h begin.1)

-- below its step a rule that was entered changes nothing
pub in_force_entered : (sheet : Sheet) (least from step : ℕ) (rule : Programs) → StepsIncreaseFrom least sheet → step < from → in_force (with_rule_from sheet from rule) step ≡ in_force sheet step
in_force_entered [] least from step rule rises h = rw (lt-leb from step h) refl
in_force_entered (x ∷ sheet) least from step rule rises h =
    let rest = filter (λ (entry : ℕ × Programs). ltb entry.0 from) sheet in
    let same = in_force_entered sheet (x.0 + 1) from step rule rises.1 h in
    let P : Sheet → Type 0 = λ v. in_force (v ++ (from, rule) ∷ []) step ≡ in_force (x ∷ sheet) step in
    cond_both (ltb x.0 from) (x ∷ rest) rest P
    (λ _. ap (λ (others : Option Programs). if nat_le x.0 step then Some (unwrap_or others x.1) else None) same)
    (λ late. let high = ltb-false x.0 from late in
    same ∙ none_in_force sheet (x.0 + 1) step rises.1 (omega arith) ∙ sym (rw (lt-leb x.0 step (omega arith)) refl))

pub comes_entered : (seed : Seed) (sheet : Sheet) (from : ℕ) (rule : Programs) (step : ℕ) (road : Cells) (sum : StepTally) → step ≤ from → StepsIncreaseFrom 0 sheet → IsSheet (with_rule_from sheet from rule)
    → ComesTo seed sheet step road sum → ComesTo seed (with_rule_from sheet from rule) step road sum
comes_entered seed sheet from rule zero road sum h rises is comes = (is, comes.1, comes.2)
comes_entered seed sheet from rule (suc step) road sum h rises is comes = (
  comes.0,
  comes.1,
  comes.2,
  comes.3,
  comes_entered seed sheet from rule step comes.0 comes.1 (omega arith) rises is comes.4,
  record {
    under = in_force_entered sheet 0 from step rule rises (omega arith) ∙ comes.5.under;
    next = comes.5.next;
    counted = comes.5.counted;
  },
)

-- a rule for the lanes that enters at the steps done or later does not change the run
pub underway_entered : (seed : Seed) (sheet : Sheet) (from : ℕ) (rule : Programs) (step : ℕ) (road : Cells) (sum : StepTally) → step ≤ from → IsRuleFor (length seed.road.lanes) rule → IsSheet (with_rule_from sheet from rule)
    → IsReachedByRun (record { seed = seed; sheet = sheet; step = step; road = road; sum = sum })
    → IsReachedByRun (record { seed = seed; sheet = with_rule_from sheet from rule; step = step; road = road; sum = sum })
underway_entered seed sheet from rule step road sum h suits is on =
    let before : ℕ × Programs → Bool = λ (entry : ℕ × Programs). ltb entry.0 from in
    let P : ℕ × Programs → Type 0 = λ (entry : ℕ × Programs). IsRuleFor (length seed.road.lanes) entry.1 in
    let one : All P ((from, rule) ∷ []) = λ k d below. (let first : k ≡ 0 = omega arith in rw first suits) in
    record {
      legal = on.legal;
      suits = record {
        is_sheet = is;
        rules = All-append P (filter before sheet) ((from, rule) ∷ []) (All-filter before P sheet on.suits.rules) one;
      };
      comes = comes_entered seed sheet from rule step road sum h (rises_from_0 sheet on.suits.is_sheet) is on.comes;
    }

-- the reply to a replacement, and the job after it
pub rule_taken : (job now : JobState) (rule : Programs) (sheet : Sheet) → job ≡ now → (now.cancelled || (now.high == now.steps)) ≡ false → suits rule now.seed.road ≡ true → sheet ≡ with_rule_from job.sheet job.high rule → length sheet ≤ MAX_ENTRIES
    → record { reply = Number job.high; job = record job { sheet = sheet } } ≡ replace_outcome rule now
rule_taken job now rule sheet view under suit put few =
    let P : JobState → Type 0 = λ s. (s.cancelled || (s.high == s.steps)) ≡ false → suits rule s.seed.road ≡ true → record { reply = Number job.high; job = record job { sheet = sheet } } ≡ replace_outcome rule s in
    subst P view (λ a b. taken a b) under suit
  where
    taken : (job.cancelled || (job.high == job.steps)) ≡ false → suits rule job.seed.road ≡ true → record { reply = Number job.high; job = record job { sheet = sheet } } ≡ replace_outcome rule job
    taken a b =
        let most = ap length put in
        let made : JobOutcome = record { reply = Number job.high; job = record job { sheet = with_rule_from job.sheet job.high rule } } in
        let full : JobOutcome = if ltb MAX_ENTRIES (length (with_rule_from job.sheet job.high rule)) then refusal SheetFull job else made in
        let lanes : JobOutcome = if not (suits rule job.seed.road) then refusal LanesMismatch job else full in
        ap (λ (v : Sheet). (record { reply = Number job.high; job = record job { sheet = v } })) put
        ∙ sym (cond-false (job.cancelled || (job.high == job.steps)) (refusal Ended job) lanes a
        ∙ cond-false (not (suits rule job.seed.road)) (refusal LanesMismatch job) full (ap not b)
        ∙ cond-false (ltb MAX_ENTRIES (length (with_rule_from job.sheet job.high rule))) (refusal SheetFull job) made (le-ltb MAX_ENTRIES (length (with_rule_from job.sheet job.high rule)) (omega (arith, most, few))))

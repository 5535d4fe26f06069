-- The later rules of a text, line after line.
use Rattle.std.proofs.Common.{◌≡◌, ◌≢◌, ℕ, zero, suc, ◌+◌, ◌<◌, ◌≤◌, List, [], ◌∷◌, ◌++◌, refl, sym, ap, Err}
use Rattle.std.proofs.Common.{subst, append_assoc, append-nil, ◌↔◌, IsTrue, Bool, true, false, Result, Ok}
use Rattle.trlab_step.specs.Run.{IsRuleFor, Sheet}
use Rattle.trlab_rules.specs.Rules.{Programs}
use Rattle.trlab_texts.specs.declared.fault.TextFault.{TextFault, TheVariants.{At, Memory}}
use Rattle.trlab_texts.{specs.Reading.{Rest, Reading, give, ◌>>=◌, Reports}, proofs.Readings.{goes_on, stops}}
use Rattle.trlab_jobs.specs.RuleParts.{later_rule, to_the_end, later_rules_from, later_rules}
use Rattle.trlab_jobs.specs.Stored.{AreLaterRules}

-- later rules after others
abbrev pub behind : Sheet → Result (Sheet × Rest) TextFault → Result (Sheet × Rest) TextFault
behind first (Ok found) = Ok (first ++ found.0, found.1)
behind first (Err fault) = Err fault

-- the result for the remaining lines, after the later rules that were read, is the result for all lines
pub record ReadSoFar (lanes steps : ℕ) (start : Rest) (later : Sheet) (room least : ℕ) (place : Rest) : Type 0 where
  pub goes_on : (out : Result (Sheet × Rest) TextFault) → Reports (later_rules_from room lanes steps least place) out
      → Reports (later_rules lanes steps start) (behind later out)
  pub kept : (rest : Sheet) → AreLaterRules lanes steps least rest → AreLaterRules lanes steps 0 (later ++ rest)

behind_more : (later : Sheet) (entry : ℕ × Programs) (out : Result (Sheet × Rest) TextFault) → behind later (behind (entry ∷ []) out) ≡ behind (later ++ (entry ∷ [])) out
behind_more later entry (Ok found) = ap (λ t. Ok (t, found.1)) (sym (append_assoc later (entry ∷ []) found.0))
behind_more later entry (Err fault) = refl

-- a reading whose result has one more entry before the following ones
said_before : (reading : Reading Sheet) (entry : ℕ × Programs) (place : Rest) (out : Result (Sheet × Rest) TextFault)
    → Reports (reading place) out → Reports ((reading >>= λ later. give (entry ∷ later)) place) (behind (entry ∷ []) out)
said_before reading entry place (Ok found) told = (Ok found, (told, refl))
said_before reading entry place (Err (At line cause)) told = (Err (record { line = line; cause = cause }), (told, refl))
said_before reading entry place (Err Memory) told = tt

-- if a line is left, it is read
open_line : (reading : Reading Sheet) (place : Rest) (left : List (List ℕ)) (out : Result (Sheet × Rest) TextFault) → left ≢ []
    → Reports (reading place) out → Reports (to_the_end left reading place) out
open_line reading place [] out some told = absurd (some refl)
open_line reading place (text ∷ left) out some told = told

-- reading a later rule, and those after it
abbrev one_and_more : ℕ → ℕ → ℕ → ℕ → Reading Sheet
one_and_more room lanes steps least = later_rule (suc room) lanes steps least >>= λ entry.
    later_rules_from room lanes steps (entry.0 + 1) >>= λ later. give (entry ∷ later)

-- a later rule was read, and others may follow
line_more : (lanes steps room least : ℕ) (place after : Rest) (entry : ℕ × Programs) (out : Result (Sheet × Rest) TextFault) → place.left ≢ []
    → later_rule (suc room) lanes steps least place (Ok (entry, after)) → Reports (later_rules_from room lanes steps (entry.0 + 1) after) out
    → Reports (later_rules_from (suc room) lanes steps least place) (behind (entry ∷ []) out)
unfolding later_rules_from
line_more lanes steps room least place after entry out some one told =
    open_line (one_and_more room lanes steps least) place place.left (behind (entry ∷ []) out) some
    (goes_on (later_rule (suc room) lanes steps least) (λ entry. later_rules_from room lanes steps (entry.0 + 1) >>= λ later. give (entry ∷ later)) place after entry (behind (entry ∷ []) out) one
    (said_before (later_rules_from room lanes steps (entry.0 + 1)) entry after out told))

-- a later rule with a fault
line_fault : (lanes steps room least : ℕ) (place : Rest) (fault : TextFault) → place.left ≢ []
    → Reports {A = (ℕ × Programs) × Rest} (later_rule room lanes steps least place) (Err fault)
    → Reports {A = Sheet × Rest} (later_rules_from room lanes steps least place) (Err fault)
unfolding later_rules_from
line_fault lanes steps zero least place fault some told =
    open_line (later_rule 0 lanes steps least >>= λ entry. give (entry ∷ [])) place place.left (Err fault) some
    (stops (later_rule 0 lanes steps least) (λ entry. give (entry ∷ [])) place fault told)
line_fault lanes steps (suc room) least place fault some told =
    open_line (one_and_more room lanes steps least) place place.left (Err fault) some
    (stops (later_rule (suc room) lanes steps least) (λ entry. later_rules_from room lanes steps (entry.0 + 1) >>= λ later. give (entry ∷ later)) place fault told)

no_line : (reading : Reading Sheet) (place : Rest) (left : List (List ℕ)) → left ≡ [] → to_the_end left reading place (Ok ([], place))
no_line reading place [] none = refl
no_line reading place (text ∷ left) none = absurd (cc none)

-- no line is left
line_none : (lanes steps room least : ℕ) (place : Rest) → place.left ≡ [] → later_rules_from room lanes steps least place (Ok ([], place))
unfolding later_rules_from
line_none lanes steps zero least place none = no_line (later_rule 0 lanes steps least >>= λ entry. give (entry ∷ [])) place place.left none
line_none lanes steps (suc room) least place none = no_line (one_and_more room lanes steps least) place place.left none

-- one more was read
pub one_more : (lanes steps : ℕ) (start : Rest) (later : Sheet) (room left least : ℕ) (place after : Rest) (from : ℕ) (rule : Programs)
    → ReadSoFar lanes steps start later room least place → place.left ≢ [] → room ≡ suc left
    → later_rule room lanes steps least place (Ok ((from, rule), after)) → least ≤ from → from < steps → IsRuleFor lanes rule
    → ReadSoFar lanes steps start (later ++ ((from, rule) ∷ [])) left (from + 1) after
one_more lanes steps start later room left least place after from rule s some e one rises within suits =
    let entry : ℕ × Programs = (from, rule) in
    record {
      goes_on = λ out told. subst (λ o. Reports (later_rules lanes steps start) o) (behind_more later entry out)
          (s.goes_on (behind (entry ∷ []) out) (subst (λ n. Reports (later_rules_from n lanes steps least place) (behind (entry ∷ []) out)) (sym e)
          (line_more lanes steps left least place after entry out some (rw e at one) told)));
      kept = λ rest more. subst (λ sheet. AreLaterRules lanes steps 0 sheet) (sym (append_assoc later (entry ∷ []) rest))
          (s.kept (entry ∷ rest) (rises, (within, (suits, more))));
    }

-- reading stops at a fault
pub stopped : (lanes steps : ℕ) (start : Rest) (later : Sheet) (room least : ℕ) (place : Rest) (fault : TextFault)
    → ReadSoFar lanes steps start later room least place → place.left ≢ []
    → Reports {A = (ℕ × Programs) × Rest} (later_rule room lanes steps least place) (Err fault)
    → Reports {A = Sheet × Rest} (later_rules lanes steps start) (Err fault)
stopped lanes steps start later room least place fault s some told = s.goes_on (Err fault) (line_fault lanes steps room least place fault some told)

-- all were read
pub all_read : (lanes steps : ℕ) (start : Rest) (later : Sheet) (room least : ℕ) (place : Rest) → ReadSoFar lanes steps start later room least place
    → place.left ≡ [] → later_rules lanes steps start (Ok (later, place))
all_read lanes steps start later room least place s none =
    subst (λ sheet. later_rules lanes steps start (Ok (sheet, place))) (append-nil later)
    (s.goes_on (Ok ([], place)) (line_none lanes steps room least place none))

-- and are kept
pub all_kept : (lanes steps : ℕ) (start : Rest) (later : Sheet) (room least : ℕ) (place : Rest) → ReadSoFar lanes steps start later room least place
    → AreLaterRules lanes steps 0 later
all_kept lanes steps start later room least place s = subst (λ sheet. AreLaterRules lanes steps 0 sheet) (append-nil later) (s.kept [] tt)

-- a place that is not at the end has a line
pub some_left : (place : Rest) (end : Bool) → end ≡ false → IsTrue end ↔ (place.left ≡ []) → place.left ≢ []
some_left place end going tells none = let at : end ≡ true = tells.1 none in cc

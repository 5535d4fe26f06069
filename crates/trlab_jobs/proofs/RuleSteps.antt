-- The result for a rule, from its line and the lines after it.
use Rattle.std.proofs.Common.{◌≡◌, ◌≤◌, ℕ, Bool, true, false, List, Option, None, Some, arith, ap, refl}
use Rattle.std.proofs.Common.{subst, Result, Ok, Err, IfOk, IfSome, MatchOption, MatchResult, IsSome, nat_eq}
use Rattle.std.proofs.lemmas.Bool.{eqb-false}
use Rattle.trlab_code.specs.declared.{program.Kind.TheVariants.{Motion, Change}, view.View.View}
use Rattle.trlab_code.specs.Program.{Program}
use Rattle.trlab_rules.specs.{declared.standard.StandardFault.StandardFault, Published.nasch_speed}
use Rattle.trlab_rules.specs.{Published.{vdr_speed, rickert_crosses}, Rules.{IsRule, Programs}}
use Rattle.trlab_rules.specs.Rules.{IsChangeComputing, IsMotionComputing, IsNasch, IsRickert, IsVdr}
use Rattle.trlab_rules.specs.Standard.{nasch_program, vdr_program, rickert_program}
use Rattle.trlab_step.specs.Run.{IsRuleFor}
use Rattle.trlab_verify.specs.Verified.{CheckedProgram, IsChecked}
use Rattle.trlab_texts.specs.declared.fault.{Cause.TheVariants.OneLane, TextFault.TextFault}
use Rattle.trlab_texts.specs.declared.fault.TextFault.TheVariants.{At, Memory}
use Rattle.trlab_texts.specs.Reading.{Rest, LocatedFault, Reading, line, exactly, give, ◌>>=◌, result_of_line}
use Rattle.trlab_texts.{specs.Reading.{read_if, Reports}, proofs.Readings.{goes_on, stops}}
use Rattle.trlab_jobs.specs.{declared.rule_line.RuleLine.RuleLine, Lines.{later_line, rule_line}}
use Rattle.trlab_jobs.specs.RuleParts.{IsMotionRule, IsTwoLaneRule, VerifiesAs, change_if_two_lanes}
use Rattle.trlab_jobs.specs.RuleParts.{next_is_change, change_part, rule, rule_from, later_rule}

verified : (speed : View → List ℕ → ℕ) (program : Program) (motion : CheckedProgram) → IsMotionComputing speed program motion → IsChecked Motion motion → VerifiesAs Motion program motion
verified speed program motion is checked = (is.same, (is.accepted, checked))

verified_change : (crosses : View → List ℕ → Bool) (program : Program) (change : Option CheckedProgram) → MatchOption change ⊥ (IsChangeComputing crosses program)
    → IfSome change (IsChecked Change) → MatchOption change ⊥ (VerifiesAs Change program)
verified_change crosses program None is checked = is
verified_change crosses program (Some change) is checked = (is.same, (is.accepted, checked))

-- a rule with no change program suits each road
no_change : (change : Option CheckedProgram) → change ≡ None → IsSome change → ⊥
no_change None none some = cc some
no_change (Some change) none some = cc none

suits_each : (lanes : ℕ) (rule : Programs) → rule.change ≡ None → IsRule rule → IsRuleFor lanes rule
suits_each lanes rule none own = record { motion = own.motion; change = own.change; two_lanes = λ some. absurd (no_change rule.change none some) }

-- the standard rule of a line before a place, or a failed allocation; it suits the road
pub nasch_read : (p lanes number : ℕ) (place : Rest) (found : Result Programs StandardFault) (out : Result (Programs × Rest) TextFault)
    → IfOk found (IsNasch p) → IfOk found IsRule → MatchResult found (λ rule. out ≡ Ok (rule, place)) (λ _. out ≡ Err Memory)
    → Reports (result_of_line number (IsMotionRule (nasch_program p)) place) out × IfOk out (λ at. IsRuleFor lanes at.0)
nasch_read p lanes number place (Ok rule) out is own end =
    rw end ((Ok rule, ((verified (nasch_speed p) (nasch_program p) rule.motion is.motion own.motion, is.change), refl)), suits_each lanes rule is.change own)
nasch_read p lanes number place (Err fault) out is own end = rw end (tt, tt)

pub vdr_read : (p p0 lanes number : ℕ) (place : Rest) (found : Result Programs StandardFault) (out : Result (Programs × Rest) TextFault)
    → IfOk found (IsVdr p p0) → IfOk found IsRule → MatchResult found (λ rule. out ≡ Ok (rule, place)) (λ _. out ≡ Err Memory)
    → Reports (result_of_line number (IsMotionRule (vdr_program p p0)) place) out × IfOk out (λ at. IsRuleFor lanes at.0)
vdr_read p p0 lanes number place (Ok rule) out is own end =
    rw end ((Ok rule, ((verified (vdr_speed p p0) (vdr_program p p0) rule.motion is.motion own.motion, is.change), refl)), suits_each lanes rule is.change own)
vdr_read p p0 lanes number place (Err fault) out is own end = rw end (tt, tt)

pub rickert_read : (p c lanes number : ℕ) (place : Rest) (found : Result Programs StandardFault) (out : Result (Programs × Rest) TextFault) → lanes ≡ 2
    → IfOk found (IsRickert p c) → IfOk found IsRule → MatchResult found (λ rule. out ≡ Ok (rule, place)) (λ _. out ≡ Err Memory)
    → Reports (result_of_line number (IsTwoLaneRule (nat_eq lanes 1) (nasch_program p) (rickert_program c)) place) out × IfOk out (λ at. IsRuleFor lanes at.0)
rickert_read p c lanes number place (Ok rule) out two is own end = rw (end, two) (
  (Ok rule, ((verified (nasch_speed p) (nasch_program p) rule.motion is.motion own.motion, verified_change (rickert_crosses c) (rickert_program c) rule.change is.change own.change), refl)),
  record { motion = own.motion; change = own.change; two_lanes = λ some. refl },
)
rickert_read p c lanes number place (Err fault) out two is own end = rw end (tt, tt)

-- a rule with lane changes on a road of one lane
pub no_second_lane : (p c lanes number : ℕ) (place : Rest) → lanes ≡ 1
    → Reports {A = Programs × Rest} (result_of_line number (IsTwoLaneRule (nat_eq lanes 1) (nasch_program p) (rickert_program c)) place) (Err (At number OneLane))
no_second_lane p c lanes number place one = rw one (Err OneLane, (refl, refl))

-- the line of a rule has a fault
pub rule_line_fails : (lanes : ℕ) (place : Rest) (fault : TextFault) → Reports {A = RuleLine ℕ × Rest} (line (exactly rule_line) place) (Err fault)
    → Reports {A = Programs × Rest} (rule lanes place) (Err fault)
rule_line_fails lanes place fault told = stops (line (exactly rule_line)) (rule_from lanes place.number) place fault told

-- the line was read, and the programs of the rule follow it
pub behind_rule_line : (lanes number : ℕ) (place after : Rest) (at : RuleLine ℕ) (out : Result (Programs × Rest) TextFault) → number ≡ place.number
    → line (exactly rule_line) place (Ok (at, after)) → Reports (rule_from lanes number at after) out → Reports (rule lanes place) out
behind_rule_line lanes number place after at out here one told =
    goes_on (line (exactly rule_line)) (rule_from lanes place.number) place after at out one
    (subst (λ n. Reports (rule_from lanes n at after) out) here told)

-- the part that is read after the line of a later rule
abbrev after_line : ℕ → ℕ → ℕ × RuleLine ℕ → Reading (ℕ × Programs)
after_line lanes number at = rule_from lanes number at.1 >>= λ rule. give (at.0, rule)

-- the line of a later rule has a fault
pub later_line_fails : (room lanes steps least : ℕ) (place : Rest) (fault : TextFault)
    → Reports {A = (ℕ × RuleLine ℕ) × Rest} (line (exactly (later_line room steps least)) place) (Err fault)
    → Reports {A = (ℕ × Programs) × Rest} (later_rule room lanes steps least place) (Err fault)
later_line_fails room lanes steps least place fault told =
    stops (line (exactly (later_line room steps least))) (after_line lanes place.number) place fault told

-- its programs have a fault
pub later_programs_fail : (room lanes steps least number : ℕ) (place after : Rest) (at : ℕ × RuleLine ℕ) (fault : TextFault) → number ≡ place.number
    → line (exactly (later_line room steps least)) place (Ok (at, after))
    → Reports {A = Programs × Rest} (rule_from lanes number at.1 after) (Err fault)
    → Reports {A = (ℕ × Programs) × Rest} (later_rule room lanes steps least place) (Err fault)
later_programs_fail room lanes steps least number place after at fault here one told =
    goes_on (line (exactly (later_line room steps least))) (after_line lanes place.number) place after at (Err fault) one
    (stops (rule_from lanes place.number at.1) (λ rule. give (at.0, rule)) after fault
    (subst (λ n. Reports {A = Programs × Rest} (rule_from lanes n at.1 after) (Err fault)) here told))

-- a later rule was read
pub later_says : (room lanes steps least number : ℕ) (place after behind : Rest) (at : ℕ × RuleLine ℕ) (rule : Programs) → number ≡ place.number
    → line (exactly (later_line room steps least)) place (Ok (at, after)) → rule_from lanes number at.1 after (Ok (rule, behind))
    → later_rule room lanes steps least place (Ok ((at.0, rule), behind))
later_says room lanes steps least number place after behind at rule here one two =
    (Ok (at, after), (one, (Ok (rule, behind), (rw here at two, refl))))

-- if a change part was read, the road has two lanes
change_on_two : (one_lane : Bool) (lanes : ℕ) (place after : Rest) (change : CheckedProgram) → (one_lane ≡ false → lanes ≡ 2) → change_if_two_lanes one_lane place (Ok (change, after)) → lanes ≡ 2
change_on_two true lanes place after change two says = absurd cc
change_on_two false lanes place after change two says = two refl

-- the change program that was read, if there is one
abbrev read_of : Result (Option CheckedProgram × Rest) LocatedFault → Option CheckedProgram
read_of (Ok found) = found.0
read_of (Err fault) = None

-- a change part was read, if there is one
perhaps_on_two : (next one_lane : Bool) (lanes : ℕ) (place after : Rest) (change : Option CheckedProgram) → (one_lane ≡ false → lanes ≡ 2)
    → read_if next (change_if_two_lanes one_lane) place (Ok (change, after)) → IsSome change → lanes ≡ 2
perhaps_on_two next one_lane lanes place after None two says some = absurd (cc some)
perhaps_on_two true one_lane lanes place after (Some change) two (Ok (found, behind), (one, is)) some = change_on_two one_lane lanes place behind found two one
perhaps_on_two true one_lane lanes place after (Some change) two (Err fault, (one, is)) some = absurd (cc is)
perhaps_on_two false one_lane lanes place after (Some change) two is some =
    let none : ◌≡◌ {A = Option CheckedProgram} (Some change) None = ap read_of is in
    absurd cc

-- so on a road of one lane or two
pub on_two_lanes : (lanes : ℕ) (place after : Rest) (change : Option CheckedProgram) → 1 ≤ lanes → lanes ≤ 2 → change_part lanes place (Ok (change, after)) → IsSome change → lanes ≡ 2
on_two_lanes lanes place after change some few says =
    perhaps_on_two (next_is_change place.left) (nat_eq lanes 1) lanes place after change (λ e. omega (arith, eqb-false lanes 1 e)) says

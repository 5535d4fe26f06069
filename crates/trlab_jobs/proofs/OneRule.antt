-- Rules of texts have exactly one meaning: a rule for the lanes of the road, or a first fault.
use Rattle.std.proofs.Common.{◌≡◌, ◌≢◌, ℕ, zero, suc, ◌+◌, ◌<◌, ◌≤◌, Bool, true, false, List, [], ◌∷◌, length}
use Rattle.std.proofs.Common.{refl, sym, ◌∙◌, ap, arith, Option, None, Some, IfSome, MatchOption, Result, Ok}
use Rattle.std.proofs.{Common.{Err, codes, nat_eq, bytes_eq}, lemmas.Bool.eqb-false}
use Rattle.hex.specs.{Hex.decode_of, declared.error.FromHexError.FromHexError}
use Rattle.trlab_code.specs.declared.program.Kind.{Kind, TheVariants.{Motion, Change}}
use Rattle.trlab_code.specs.Program.{Program, IsValidProgram}
use Rattle.trlab_verify.specs.{Verified.{CheckedProgram, IsChecked}, Verdict.IsAccepted}
use Rattle.trlab_verify.proofs.Judged.{some_budget}
use Rattle.trlab_rules.specs.{Rules.Programs, Standard.{nasch_program, vdr_program, rickert_program}}
use Rattle.trlab_rules.proofs.StandardPrograms.{nasch_is_program, vdr_is_program, rickert_is_program}
use Rattle.trlab_rules.proofs.Accepted.{nasch_accepted, vdr_accepted, rickert_accepted}
use Rattle.trlab_step.specs.Run.{IsRuleFor, Sheet}
use Rattle.trlab_bounds.specs.declared.runs.TheConstants.{MAX_LATER}
use Rattle.trlab_texts.specs.{declared.fault.Cause.{Cause, TheVariants.OneLane}, Causes.IsNotStandardRefused}
use Rattle.trlab_texts.specs.{Words.word_after, Reading.{Reading, line, exactly, give, ◌>>=◌}}
use Rattle.trlab_texts.{specs.Programs.{EndSplit, part, split_at_end, heading_line}, proofs.Fine.Anything}
use Rattle.trlab_texts.proofs.Fine.{Fine, IsOtherFault, line_other, one_lane_other, hex_other, word_fine}
use Rattle.trlab_texts.proofs.OneAnswer.{OneLine, OneReading, exact, exact_line, then_one, said_one}
use Rattle.trlab_texts.proofs.{OneAnswer.{perhaps_one, of_line_one, part_with}, OneProgram.checked_one}
use Rattle.trlab_texts.proofs.OneProgram.{part_one}
use Rattle.trlab_jobs.specs.declared.rule_line.RuleLine.{RuleLine, TheVariants.{Nasch, Vdr, Rickert, Own}}
use Rattle.trlab_jobs.specs.Lines.{rule_line, later_line}
use Rattle.trlab_jobs.specs.RuleParts.{VerifiesAs, IsMotionRule, IsTwoProgramRule, IsTwoLaneRule}
use Rattle.trlab_jobs.specs.RuleParts.{digits_misplacement, code_misplacement, block_misplacement}
use Rattle.trlab_jobs.specs.RuleParts.{part_misplacement, misplacement, change_if_two_lanes, next_is_change}
use Rattle.trlab_jobs.specs.RuleParts.{change_part, own_rule, rule_from, rule, later_rule, to_the_end}
use Rattle.trlab_jobs.specs.{RuleParts.{later_rules_from, later_rules}, Stored.AreLaterRules}
use Rattle.trlab_jobs.proofs.FineLines.{Chances, rule_line_fine, later_line_fine}

-- a program that the verifier accepts
record IsGood (kind : Kind) (program : Program) : Type 0 where
  pub is : IsValidProgram program
  pub accepted : IsAccepted kind program

-- an accepted program has a budget
budgeted : (kind : Kind) (program : Program) → IsGood kind program → (checked : CheckedProgram) × VerifiesAs kind program checked
budgeted kind program good =
    let found = some_budget kind program good.is good.accepted in
    (record { program = program; budget = found.0 }, (refl, (good.accepted, found.1)))

-- and only one
accepts_one : (kind : Kind) (program : Program) (checked other : CheckedProgram) → VerifiesAs kind program checked → VerifiesAs kind program other → checked ≡ other
accepts_one kind program checked other p q = checked_one checked other (p.0 ∙ sym q.0) kind p.1.1 q.1.1

-- rules with the same programs are equal
programs_are : (rule other : Programs) → rule.motion ≡ other.motion → rule.change ≡ other.change → rule ≡ other
programs_are rule other motion change =
    let make : CheckedProgram → Option CheckedProgram → Programs = λ m c. record { motion = m; change = c } in
    ap (λ m. make m rule.change) motion ∙ ap (make other.motion) change

-- a rule without a change program is one for any road
motion_alone : (lanes : ℕ) (motion : CheckedProgram) → IsChecked Motion motion → IsRuleFor lanes (record { motion = motion; change = None })
motion_alone lanes motion is = record { motion = is; change = tt; two_lanes = λ some. absurd (cc some) }

-- and one with a change program for a road of two lanes
with_change : (lanes : ℕ) (motion change : CheckedProgram) → IsChecked Motion motion → IsChecked Change change → lanes ≡ 2
    → IsRuleFor lanes (record { motion = motion; change = Some change })
with_change lanes motion change is changes two = record { motion = is; change = changes; two_lanes = λ some. two }

motion_only : (motion : Program) (checked : CheckedProgram) → VerifiesAs Motion motion checked
    → (other : Result Programs Cause) → IsMotionRule motion other → other ≡ Ok (record { motion = checked; change = None })
motion_only motion checked is (Ok rule) p =
    ap Ok (programs_are rule (record { motion = checked; change = None }) (accepts_one Motion motion rule.motion checked p.0 is) p.1)
motion_only motion checked is (Err cause) p = absurd p

motion_one : (lanes : ℕ) (motion : Program) → IsGood Motion motion → OneLine (IsRuleFor lanes) (IsMotionRule motion)
motion_one lanes motion good =
    let found = budgeted Motion motion good in
    record {
      answer = Ok (record { motion = found.0; change = None });
      says = (found.1, refl);
      keeps = motion_alone lanes found.0 found.1.1.1;
      only = motion_only motion found.0 found.1;
    }

-- a change program that must exist
change_is : (change : Program) (found : Option CheckedProgram) (checked : CheckedProgram) → MatchOption found ⊥ (VerifiesAs Change change) → VerifiesAs Change change checked → found ≡ Some checked
change_is change None checked p is = absurd p
change_is change (Some other) checked p is = ap Some (accepts_one Change change other checked p is)

both_only : (motion change : Program) (checked other : CheckedProgram) → VerifiesAs Motion motion checked → VerifiesAs Change change other
    → (says : Result Programs Cause) → IsTwoProgramRule motion change says → says ≡ Ok (record { motion = checked; change = Some other })
both_only motion change checked other is changes (Ok rule) p =
    ap Ok (programs_are rule (record { motion = checked; change = Some other }) (accepts_one Motion motion rule.motion checked p.0 is) (change_is change rule.change other p.1 changes))
both_only motion change checked other is changes (Err cause) p = absurd p

exchange_one : (one_lane : Bool) (lanes : ℕ) (motion change : Program) → IsGood Motion motion → IsGood Change change → (one_lane ≡ false → lanes ≡ 2)
    → OneLine (IsRuleFor lanes) (IsTwoLaneRule one_lane motion change)
exchange_one true lanes motion change good also two = exact (Err OneLane) one_lane_other
exchange_one false lanes motion change good also two =
    let found = budgeted Motion motion good in
    let other = budgeted Change change also in
    record {
      answer = Ok (record { motion = found.0; change = Some other.0 });
      says = (found.1, other.1);
      keeps = with_change lanes found.0 other.0 found.1.1.1 other.1.1.1 (two refl);
      only = both_only motion change found.0 other.0 found.1 other.1;
    }

-- change parts on a road of one lane
digits_misplaced : (found : Result (List ℕ) FromHexError) → IsNotStandardRefused (digits_misplacement found)
digits_misplaced (Ok bytes) = one_lane_other
digits_misplaced (Err fault) = hex_other

code_misplaced : (word : Result (List ℕ) Cause) → Fine Anything word → IsNotStandardRefused (code_misplacement word)
code_misplaced (Ok digits) fine = digits_misplaced (decode_of digits)
code_misplaced (Err cause) fine = fine

block_misplaced : (first : ℕ) (left : List (List ℕ)) (found : Option EndSplit) → IsOtherFault (block_misplacement first left found)
block_misplaced first left None = line_other
block_misplaced first left (Some parts) = one_lane_other

part_misplaced : (headed : Bool) (first : ℕ) (text : List ℕ) (left : List (List ℕ)) → IsOtherFault (part_misplacement headed first text left)
part_misplaced true first text left = block_misplaced first left (split_at_end left)
part_misplaced false first text left = code_misplaced (word_after (codes "code ") text) (word_fine (codes "code ") text)

misplaced : (first : ℕ) (left : List (List ℕ)) → IsOtherFault (misplacement first left)
misplaced first [] = line_other
misplaced first (text ∷ left) = part_misplaced (bytes_eq text (heading_line Change)) first text left

-- a change program for a road with this number of lanes
abbrev Changes : ℕ → CheckedProgram → Type 0
Changes lanes change = IsChecked Change change × (lanes ≡ 2)

-- a road has one lane or two
pub record FewLanes (lanes : ℕ) : Type 0 where
  pub some : 1 ≤ lanes
  pub few : lanes ≤ 2

-- a road that does not have one lane has two
not_one : (lanes : ℕ) → FewLanes lanes → nat_eq lanes 1 ≡ false → lanes ≡ 2
not_one lanes few other = let apart : lanes ≢ 1 = eqb-false lanes 1 other in omega arith

change_if_two_lanes_one : (one_lane : Bool) (lanes : ℕ) → (one_lane ≡ false → lanes ≡ 2) → OneReading (Changes lanes) (change_if_two_lanes one_lane)
change_if_two_lanes_one true lanes two place = record { one = exact (Err (misplacement place.number place.left)) (misplaced place.number place.left) }
change_if_two_lanes_one false lanes two place = part_with (λ checked is. (is, two refl)) (part_one Change place)

change_part_one : (lanes : ℕ) → FewLanes lanes → OneReading (λ (o : Option CheckedProgram). IfSome o (Changes lanes)) (change_part lanes)
change_part_one lanes few place =
    perhaps_one (next_is_change place.left) (change_if_two_lanes (nat_eq lanes 1)) (change_if_two_lanes_one (nat_eq lanes 1) lanes (not_one lanes few)) place

own_suits : (lanes : ℕ) (motion : CheckedProgram) (change : Option CheckedProgram) → IsChecked Motion motion → IfSome change (Changes lanes)
    → IsRuleFor lanes (record { motion = motion; change = change })
own_suits lanes motion None is changes = motion_alone lanes motion is
own_suits lanes motion (Some change) is changes = with_change lanes motion change is changes.0 changes.1

own_rule_one : (lanes : ℕ) → FewLanes lanes → OneReading (IsRuleFor lanes) (own_rule lanes)
own_rule_one lanes few =
    then_one (part Motion) _ (part_one Motion) (λ motion is.
    then_one (change_part lanes) _ (change_part_one lanes few) (λ change changes.
    said_one (record { motion = motion; change = change }) (own_suits lanes motion change is changes)))

rule_from_one : (lanes number : ℕ) (words : RuleLine ℕ) → FewLanes lanes → Chances words → OneReading (IsRuleFor lanes) (rule_from lanes number words)
rule_from_one lanes number (Nasch p) few fit =
    of_line_one number (motion_one lanes (nasch_program p) (record { is = nasch_is_program p fit; accepted = nasch_accepted p }))
rule_from_one lanes number (Vdr p p0) few fit =
    of_line_one number (motion_one lanes (vdr_program p p0) (record { is = vdr_is_program p p0 fit.0 fit.1; accepted = vdr_accepted p p0 }))
rule_from_one lanes number (Rickert p c) few fit =
    let motion : IsGood Motion (nasch_program p) = record { is = nasch_is_program p fit.0; accepted = nasch_accepted p } in
    let change : IsGood Change (rickert_program c) = record { is = rickert_is_program c fit.1; accepted = rickert_accepted c } in
    of_line_one number (exchange_one (nat_eq lanes 1) lanes (nasch_program p) (rickert_program c) motion change (not_one lanes few))
rule_from_one lanes number Own few fit = own_rule_one lanes few

pub rule_one : (lanes : ℕ) → FewLanes lanes → OneReading (IsRuleFor lanes) (rule lanes)
rule_one lanes few place =
    then_one (line (exactly rule_line)) (rule_from lanes place.number) (exact_line rule_line rule_line_fine)
    (λ words fit. rule_from_one lanes place.number words few fit) place

-- a later rule for the lanes of the road, from a step on that is in order, and for which there is room
abbrev Later : ℕ → ℕ → ℕ → ℕ → ℕ × Programs → Type 0
Later room lanes steps least entry = (0 < room) × ((least ≤ entry.0) × ((entry.0 < steps) × IsRuleFor lanes entry.1))

-- later rules, for which there is room
abbrev pub FitRoom : ℕ → ℕ → ℕ → ℕ → Sheet → Type 0
FitRoom room lanes steps least later = AreLaterRules lanes steps least later × (length later ≤ room)

later_rule_one : (room lanes steps least : ℕ) → FewLanes lanes → OneReading (Later room lanes steps least) (later_rule room lanes steps least)
later_rule_one room lanes steps least few place =
    then_one (line (exactly (later_line room steps least))) _ (exact_line (later_line room steps least) (later_line_fine room steps least)) (λ at in_order.
    then_one (rule_from lanes place.number at.1) _ (rule_from_one lanes place.number at.1 few in_order.chances) (λ rule suits.
    said_one (at.0, rule) (in_order.room_left, (in_order.rises, (in_order.below, suits))))) place

to_the_end_one : {P : Sheet → Type 0} (left : List (List ℕ)) (reading : Reading Sheet) → P [] → OneReading P reading → OneReading P (to_the_end left reading)
to_the_end_one [] reading none one = said_one [] none
to_the_end_one (text ∷ left) reading none one = one

later_from_one : (room lanes steps least : ℕ) → FewLanes lanes → OneReading (FitRoom room lanes steps least) (later_rules_from room lanes steps least)
unfolding later_rules_from
later_from_one zero lanes steps least few place =
    to_the_end_one place.left (later_rule 0 lanes steps least >>= λ entry. give (entry ∷ [])) (tt, omega arith)
    (then_one (later_rule 0 lanes steps least) (λ entry. give (entry ∷ [])) (later_rule_one 0 lanes steps least few)
    (λ entry is. absurd (omega (arith, is.0)))) place
later_from_one (suc room) lanes steps least few place =
    to_the_end_one place.left (later_rule (suc room) lanes steps least >>= λ entry. later_rules_from room lanes steps (entry.0 + 1) >>= λ later. give (entry ∷ later)) (tt, omega arith)
    (then_one (later_rule (suc room) lanes steps least) (λ entry. later_rules_from room lanes steps (entry.0 + 1) >>= λ later. give (entry ∷ later)) (later_rule_one (suc room) lanes steps least few) (λ entry is.
    then_one (later_rules_from room lanes steps (entry.0 + 1)) (λ later. give (entry ∷ later)) (later_from_one room lanes steps (entry.0 + 1) few) (λ later more.
    said_one (entry ∷ later) ((is.1.0, (is.1.1.0, (is.1.1.1, more.0))), (let few = more.1 in omega (arith, few)))))) place

pub later_rules_one : (lanes steps : ℕ) → FewLanes lanes → OneReading (FitRoom MAX_LATER lanes steps 0) (later_rules lanes steps)
later_rules_one lanes steps few = later_from_one MAX_LATER lanes steps 0 few

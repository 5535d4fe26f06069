-- Rules, which are the accepted programs that drive the cars of a road; programs that compute the rule given
-- by a function; and the standard rules, which compute the published models.
use Rattle.std.specs.Prelude.{Option, IfSome, ◌≡◌, ℕ, ◌&&◌, ◌||◌, nat_lt, Bool, false, List, slice_index}
use Rattle.std.specs.{Prelude.{if◌then◌else◌, None, Some, MatchOption}, List.list_any}
use Rattle.trlab_bounds.specs.declared.programs.TheConstants.{CERTAIN}
use Rattle.trlab_code.specs.declared.program.Kind.TheVariants.{Motion, Change}
use Rattle.trlab_code.specs.declared.instruction.{Register.Register, Instr.{Instr, TheVariants.Draw}}
use Rattle.trlab_code.specs.{declared.view.View.View, Program.Program, Views.IsViewInRange}
use Rattle.trlab_code.specs.Machine.{Flag, Goes, Crosses, Stays, Store, Writes, EndsWith, effect}
use Rattle.trlab_verify.specs.{Verified.{CheckedProgram, IsChecked}, Verdict.IsAccepted}
use Rattle.trlab_words.specs.Words.{happens_on}
use Rattle.trlab_rules.specs.Published.{nasch_speed, vdr_speed, rickert_crosses}
use Rattle.trlab_rules.specs.Standard.{nasch_program, vdr_program, rickert_program}

-- the programs of a rule: a motion program, and possibly a change program
pub record Programs : Type 0 where
  pub motion : CheckedProgram
  pub change : Option CheckedProgram

-- the programs of the rule are valid programs of their kind, and safe within their budgets
pub record IsRule (rule : Programs) : Type 0 where
  pub motion : IsChecked Motion rule.motion
  pub change : IfSome rule.change (IsChecked Change)

-- does the instruction draw a random number? A draw of probability 0 or 1 needs none
abbrev pub draws_randomly : Instr → Bool
draws_randomly (Draw d k chance) = nat_lt 0 chance && nat_lt chance CERTAIN
draws_randomly _ = false

-- does a change program, if there is one, draw random numbers?
abbrev pub change_draws : Option CheckedProgram → Bool
change_draws None = false
change_draws (Some change) = list_any draws_randomly change.program.instrs

-- does a program of the rule draw random numbers?
abbrev pub rule_draws : Programs → Bool
rule_draws rule = list_any draws_randomly rule.motion.program.instrs || change_draws rule.change

-- for every view in range and any random words, the motion program ends with the speed `speed view words`
abbrev pub ComputesSpeed : (View → List ℕ → ℕ) → Program → Type 0
ComputesSpeed speed program = (view : View) (words : List ℕ) → IsViewInRange view
    → (steps : ℕ) × EndsWith Motion program.instrs view words (Goes (speed view words)) steps

-- for every view in range and any random words, the change program ends with the answer to cross if
-- `crosses view words` is true, otherwise with the answer to stay
abbrev pub ComputesCrossing : (View → List ℕ → Bool) → Program → Type 0
ComputesCrossing crosses program = (view : View) (words : List ℕ) → IsViewInRange view
    → (steps : ℕ)
    × EndsWith Change program.instrs view words (if crosses view words then Crosses else Stays) steps

-- the instruction `draw` writes the flag true if an event of probability chance / 2 ^ 31 happens on random
-- word k, otherwise the flag false
abbrev pub DrawsMatchChances : Type 0
DrawsMatchChances = (view : View) (words : List ℕ) (values : Store) (d : Register) (k chance : ℕ)
    → effect view words values (Draw d k chance)
    ≡ Writes d (Flag (happens_on chance (slice_index words k)))

-- `motion` is the accepted motion program `program`, and for every view in range and any random words it ends
-- with the speed `speed view words`
pub record IsMotionComputing (speed : View → List ℕ → ℕ) (program : Program) (motion : CheckedProgram)
    : Type 0 where
  pub same : motion.program ≡ program
  pub accepted : IsAccepted Motion program
  pub moves : ComputesSpeed speed motion.program

-- `change` is the accepted change program `program`, and for every view in range and any random words the car
-- crosses exactly if `crosses view words` is true
pub record IsChangeComputing (crosses : View → List ℕ → Bool) (program : Program) (change : CheckedProgram)
    : Type 0 where
  pub same : change.program ≡ program
  pub accepted : IsAccepted Change program
  pub changes : ComputesCrossing crosses change.program

-- the rule of the Nagel-Schreckenberg model (1992), with braking probability p / 2 ^ 31 and no change program
pub record IsNasch (p : ℕ) (rule : Programs) : Type 0 where
  pub motion : IsMotionComputing (nasch_speed p) (nasch_program p) rule.motion
  pub change : rule.change ≡ None

-- the rule of the VDR model (Barlovic et al. 1998), with braking probability p0 / 2 ^ 31 for stopped cars and
-- p / 2 ^ 31 for moving cars, and no change program
pub record IsVdr (p p0 : ℕ) (rule : Programs) : Type 0 where
  pub motion : IsMotionComputing (vdr_speed p p0) (vdr_program p p0) rule.motion
  pub change : rule.change ≡ None

-- the rule of Rickert et al. (1996): the motion of the Nagel-Schreckenberg model, with braking probability
-- p / 2 ^ 31, and lane changes with probability c / 2 ^ 31
pub record IsRickert (p c : ℕ) (rule : Programs) : Type 0 where
  pub motion : IsMotionComputing (nasch_speed p) (nasch_program p) rule.motion
  pub change : MatchOption rule.change ⊥ (IsChangeComputing (rickert_crosses c) (rickert_program c))

-- Accepted programs that are the standard ones.
use Rattle.std.proofs.Common.{◌≡◌, ℕ, List, Bool, sym, ap, subst, ◌∙◌, Result, IfOk}
use Rattle.std.proofs.lemmas.Result.{IfOk-weaker}
use Rattle.trlab_code.specs.declared.program.Kind.{Kind, TheVariants.{Motion, Change}}
use Rattle.trlab_code.specs.{declared.{instruction.Instr.Instr, view.View.View}, Program.Program}
use Rattle.trlab_verify.specs.{Verified.CheckedProgram, Verdict.IsAccepted}
use Rattle.trlab_rules.specs.Rules.{ComputesSpeed, ComputesCrossing, IsMotionComputing, IsChangeComputing}

-- a program of these instructions
abbrev pub program_of : Kind → List Instr → Program
program_of kind instrs = record { kind = kind; instrs = instrs }

module _ {E : Type 0} (result : Result CheckedProgram E) (instrs list : List Instr) (same : instrs ≡ list) where
  -- an accepted program with these instructions is a motion program that computes a rule's speed, if the
  -- program of the list does
  pub motion_given : (speed : View → List ℕ → ℕ) → ComputesSpeed speed (program_of Motion list) →
      IfOk result (λ motion. (motion.program ≡ program_of Motion instrs) × IsAccepted Motion (program_of Motion instrs)) → IfOk result (IsMotionComputing speed (program_of Motion list))
  motion_given speed moves =
      IfOk-weaker result _ _
      (λ motion is. let program : motion.program ≡ program_of Motion list = is.0 ∙ ap (program_of Motion) same in
      record { same = program; accepted = subst (λ z. IsAccepted Motion (program_of Motion z)) same is.1; moves = subst (ComputesSpeed speed) (sym program) moves })

  -- the same for a change program and its lane changes
  pub change_given : (crosses : View → List ℕ → Bool) → ComputesCrossing crosses (program_of Change list) →
      IfOk result (λ change. (change.program ≡ program_of Change instrs) × IsAccepted Change (program_of Change instrs)) → IfOk result (IsChangeComputing crosses (program_of Change list))
  change_given crosses changes =
      IfOk-weaker result _ _
      (λ change is. let program : change.program ≡ program_of Change list = is.0 ∙ ap (program_of Change) same in
      record { same = program; accepted = subst (λ z. IsAccepted Change (program_of Change z)) same is.1; changes = subst (ComputesCrossing crosses) (sym program) changes })

-- The motion program of Barlovic et al. (1998) computes the published speed.
use Rattle.std.proofs.Common.{◌≡◌, ℕ, ◌+◌, ◌-◌, min, refl, subst, arith, List, Bool, true, false, nat_eq}
use Rattle.std.proofs.{Common.eqb-true, lemmas.Bool.lt-leb}
use Rattle.trlab_code.specs.declared.program.Kind.TheVariants.{Motion}
use Rattle.trlab_code.specs.declared.instruction.Register.TheVariants.{R0, R1, R2, R3}
use Rattle.trlab_code.specs.declared.{instruction.Input.TheVariants.{Speed, Limit, Gap}, view.View.View}
use Rattle.trlab_code.specs.{Views.IsViewInRange, Machine.{Store, Number, Flag, At, Goes, start, update}}
use Rattle.trlab_code.specs.declared.instruction.Variable.TheVariants as variable
use Rattle.trlab_rules.specs.Published.{safe_speed, brake, happens_at, vdr_braking_chance, vdr_speed}
use Rattle.trlab_rules.{specs.{Standard.vdr_program, Rules.ComputesSpeed}, proofs.Rows.{Run, num, get, draw}}
use Rattle.trlab_rules.proofs.Rows.{add, sub, smaller, jump, at_most-jumps, at_most-falls, if_false-jumps}
use Rattle.trlab_rules.proofs.{Rows.{if_false-falls, go}, NaschRuns.{one_more, one_off}}

module _ (p p0 : ℕ) (view : View) (words : List ℕ) (seen : IsViewInRange view) where
  abbrev safe : ℕ
  safe = safe_speed view.speed view.limit view.gap

  -- the values after the draw
  abbrev drawn : Bool → Store
  drawn h = update (update (update (start Motion view) (variable.Register R0) (Number view.speed)) (variable.Register R1) (Number 1)) (variable.Register R3) (Flag h)

  -- after the draw the car moves as by the program of 1992
  behind : (h : Bool) → Run Motion (vdr_program p p0).instrs view words (At 6 (drawn h)) (Goes (brake h safe))
  unfolding start update
  behind true =
      subst (λ (v : ℕ). Run Motion (vdr_program p p0).instrs view words (At 6 (drawn true)) (Goes v)) (one_off safe)
      (add R0 R0 R1 view.speed 1 refl refl refl (one_more view seen)
      (get R2 Limit view.limit refl refl refl
      (smaller R0 R0 R2 (view.speed + 1) view.limit refl refl refl
      (get R2 Gap view.gap refl refl refl
      (smaller R0 R0 R2 (min (view.speed + 1) view.limit) view.gap refl refl refl
      (if_false-falls R3 14 refl refl
      (smaller R1 R1 R0 1 safe refl refl refl
      (sub R0 R0 R1 safe (min 1 safe) refl refl refl (omega arith)
      (go R0 (safe - min 1 safe) refl refl (omega arith) (omega arith))))))))))
  behind false =
      add R0 R0 R1 view.speed 1 refl refl refl (one_more view seen)
      (get R2 Limit view.limit refl refl refl
      (smaller R0 R0 R2 (view.speed + 1) view.limit refl refl refl
      (get R2 Gap view.gap refl refl refl
      (smaller R0 R0 R2 (min (view.speed + 1) view.limit) view.gap refl refl refl
      (if_false-jumps R3 14 refl refl
      (go R0 safe refl refl (omega arith) (omega arith)))))))

  -- before the draw the program tests whether the car is stopped
  runs : (stands : Bool) (h : Bool) → nat_eq view.speed 0 ≡ stands → happens_at (vdr_braking_chance p p0 view.speed) words 0 ≡ h →
      Run Motion (vdr_program p p0).instrs view words (At 0 (start Motion view)) (Goes (brake h safe))
  unfolding start update
  runs true h stands happens =
      let none : view.speed ≡ 0 = eqb-true view.speed 0 stands in
      get R0 Speed view.speed refl refl refl
      (num R1 1 refl
      (at_most-falls R1 R0 5 1 view.speed refl refl refl (lt-leb 1 view.speed (omega (arith, none)))
      (draw R3 0 p0 h refl (rw stands at happens)
      (jump 6 refl (behind h)))))
  runs false h stands happens =
      get R0 Speed view.speed refl refl refl
      (num R1 1 refl
      (at_most-jumps R1 R0 5 1 view.speed refl refl refl (grind (arith, stands))
      (draw R3 0 p h refl (rw stands at happens)
      (behind h))))

-- it computes the speed of Barlovic, Santen, Schadschneider and Schreckenberg
pub vdr_moves : (p p0 : ℕ) → ComputesSpeed (vdr_speed p p0) (vdr_program p p0)
vdr_moves p p0 view words seen =
    let run = runs p p0 view words seen (nat_eq view.speed 0) (happens_at (vdr_braking_chance p p0 view.speed) words 0) refl refl in
    (run.steps, run.ends)

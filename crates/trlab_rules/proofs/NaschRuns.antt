-- The motion program of Nagel and Schreckenberg (1992) computes the published speed.
use Rattle.std.proofs.Common.{◌≡◌, ℕ, ◌+◌, ◌-◌, ◌<◌, ◌^◌, min, refl, subst, arith, List, Bool, true, false}
use Rattle.trlab_code.specs.{declared.program.Kind.TheVariants.Motion, Machine.{At, Goes, start, update}}
use Rattle.trlab_code.specs.declared.{instruction.Register.TheVariants.{R0, R1, R2, R3}, view.View.View}
use Rattle.trlab_code.specs.{declared.instruction.Input.TheVariants.{Speed, Limit, Gap}, Views.IsViewInRange}
use Rattle.trlab_rules.specs.{Published.{safe_speed, brake, happens_at, nasch_speed}, Standard.nasch_program}
use Rattle.trlab_rules.{specs.Rules.ComputesSpeed, proofs.Rows.{Run, num, get, draw, add, sub, smaller}}
use Rattle.trlab_rules.proofs.Rows.{if_false-jumps, if_false-falls, go}

-- a speed that the car sees can be increased by one
pub one_more : (view : View) → IsViewInRange view → view.speed + 1 < 2 ^ 32
one_more view seen = omega (arith, seen.speed, seen.limit)

-- the smaller of 1 and a speed is no more than the speed, which is one less without it
pub one_off : (v : ℕ) → v - min 1 v ≡ v - 1
one_off v = omega arith

module _ (p : ℕ) (view : View) (words : List ℕ) (seen : IsViewInRange view) where
  abbrev safe : ℕ
  safe = safe_speed view.speed view.limit view.gap

  runs : (h : Bool) → happens_at p words 0 ≡ h → Run Motion (nasch_program p).instrs view words (At 0 (start Motion view)) (Goes (brake h safe))
  unfolding start update
  runs true happens =
      subst (λ (v : ℕ). Run Motion (nasch_program p).instrs view words (At 0 (start Motion view)) (Goes v)) (one_off safe)
      (get R0 Speed view.speed refl refl refl
      (num R1 1 refl
      (add R0 R0 R1 view.speed 1 refl refl refl (one_more view seen)
      (get R2 Limit view.limit refl refl refl
      (smaller R0 R0 R2 (view.speed + 1) view.limit refl refl refl
      (get R2 Gap view.gap refl refl refl
      (smaller R0 R0 R2 (min (view.speed + 1) view.limit) view.gap refl refl refl
      (draw R3 0 p true refl happens
      (if_false-falls R3 11 refl refl
      (smaller R1 R1 R0 1 safe refl refl refl
      (sub R0 R0 R1 safe (min 1 safe) refl refl refl (omega arith)
      (go R0 (safe - min 1 safe) refl refl (omega arith) (omega arith)))))))))))))
  runs false happens =
      get R0 Speed view.speed refl refl refl
      (num R1 1 refl
      (add R0 R0 R1 view.speed 1 refl refl refl (one_more view seen)
      (get R2 Limit view.limit refl refl refl
      (smaller R0 R0 R2 (view.speed + 1) view.limit refl refl refl
      (get R2 Gap view.gap refl refl refl
      (smaller R0 R0 R2 (min (view.speed + 1) view.limit) view.gap refl refl refl
      (draw R3 0 p false refl happens
      (if_false-jumps R3 11 refl refl
      (go R0 safe refl refl (omega arith) (omega arith))))))))))

-- it computes the speed of Nagel and Schreckenberg
pub nasch_moves : (p : ℕ) → ComputesSpeed (nasch_speed p) (nasch_program p)
nasch_moves p view words seen =
    let run = runs p view words seen (happens_at p words 0) refl in
    (run.steps, run.ends)

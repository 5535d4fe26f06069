-- The change program of Rickert et al. (1996) computes which cars change lanes.
use Rattle.std.proofs.Common.{◌≡◌, ℕ, ◌+◌, ◌&&◌, refl, List, Bool, true, false, nat_lt, nat_le, cond}
use Rattle.std.proofs.{Common.{ltb-true, ltb-false, le-leb}, lemmas.Bool.lt-leb}
use Rattle.trlab_code.specs.{declared.program.Kind.TheVariants.Change, Views.IsViewInRange}
use Rattle.trlab_code.specs.declared.{instruction.Register.TheVariants.{R0, R1, R2, R3}, view.View.View}
use Rattle.trlab_code.specs.declared.instruction.Input.TheVariants.{Speed, Limit, Gap, SideGap, SideBack}
use Rattle.trlab_code.specs.Machine.{Store, Number, Flag, Answer, Crosses, Stays, At, start, update}
use Rattle.trlab_code.specs.declared.instruction.Variable.TheVariants as variable
use Rattle.trlab_rules.specs.{Published.{happens_at, rickert_crosses}, Standard.rickert_program}
use Rattle.trlab_rules.specs.Rules.{ComputesCrossing}
use Rattle.trlab_rules.proofs.Rows.{Run, num, get, side, draw, add, at_most-jumps, at_most-falls}
use Rattle.trlab_rules.proofs.{Rows.{if_false-jumps, if_false-falls, cross, stay}, NaschRuns.one_more}

-- a number below another is not at least that number
not_least : (m n : ℕ) → nat_lt m n ≡ true → nat_le n m ≡ false
not_least m n below = lt-leb n m (ltb-true m n below)

-- a number that is not below another is at least that number
least : (m n : ℕ) → nat_lt m n ≡ false → nat_le n m ≡ true
least m n not_below = le-leb n m (ltb-false m n not_below)

module _ (c : ℕ) (view : View) (words : List ℕ) (seen : IsViewInRange view) where
  -- from an instruction with these values the program comes to an end with this answer
  abbrev Ends : ℕ → Store → Answer → Type 0
  Ends pc s answer = Run Change (rickert_program c).instrs view words (At pc s) answer

  abbrev more : ℕ
  more = view.speed + 1

  -- the values before each test
  abbrev at_side : Store
  at_side = update (start Change view) (variable.Register R0) (Flag view.side)

  abbrev at_gap : Store
  at_gap = update (update (update (update at_side (variable.Register R1) (Number view.speed)) (variable.Register R2) (Number 1)) (variable.Register R1) (Number more)) (variable.Register R2) (Number view.gap)

  abbrev at_sidegap : Store
  at_sidegap = update at_gap (variable.Register R2) (Number view.sidegap)

  abbrev at_sideback : Store
  at_sideback = update (update at_sidegap (variable.Register R2) (Number view.sideback)) (variable.Register R3) (Number view.limit)

  stays : (s : Store) → Ends 15 s Stays
  stays s = stay refl

  -- each test in turn: if it fails the car stays, otherwise the next test follows
  by_draw : (h : Bool) → view.side ≡ true → happens_at c words 1 ≡ h → Ends 12 at_sideback (cond h Crosses Stays)
  unfolding update
  by_draw true empty happens = draw R3 1 c true refl happens (if_false-falls R3 15 refl refl (cross refl empty))
  by_draw false empty happens = draw R3 1 c false refl happens (if_false-jumps R3 15 refl refl (stays _))

  by_sideback : (back h : Bool) → view.side ≡ true → nat_lt view.limit view.sideback ≡ back → happens_at c words 1 ≡ h →
      Ends 9 at_sidegap (cond (back && h) Crosses Stays)
  unfolding start update
  by_sideback true h empty wide happens =
      get R2 SideBack view.sideback refl refl refl (get R3 Limit view.limit refl refl refl
      (at_most-falls R2 R3 15 view.sideback view.limit refl refl refl (not_least view.limit view.sideback wide) (by_draw h empty happens)))
  by_sideback false h empty narrow happens =
      get R2 SideBack view.sideback refl refl refl (get R3 Limit view.limit refl refl refl
      (at_most-jumps R2 R3 15 view.sideback view.limit refl refl refl (least view.limit view.sideback narrow) (stays _)))

  by_sidegap : (ahead back h : Bool) → view.side ≡ true → nat_lt more view.sidegap ≡ ahead → nat_lt view.limit view.sideback ≡ back →
      happens_at c words 1 ≡ h → Ends 7 at_gap (cond (ahead && back && h) Crosses Stays)
  unfolding start update
  by_sidegap true back h empty wide e f =
      get R2 SideGap view.sidegap refl refl refl
      (at_most-falls R2 R1 15 view.sidegap more refl refl refl (not_least more view.sidegap wide) (by_sideback back h empty e f))
  by_sidegap false back h empty narrow e f =
      get R2 SideGap view.sidegap refl refl refl
      (at_most-jumps R2 R1 15 view.sidegap more refl refl refl (least more view.sidegap narrow) (stays _))

  by_gap : (near ahead back h : Bool) → view.side ≡ true → nat_lt view.gap more ≡ near → nat_lt more view.sidegap ≡ ahead →
      nat_lt view.limit view.sideback ≡ back → happens_at c words 1 ≡ h → Ends 2 at_side (cond (near && ahead && back && h) Crosses Stays)
  unfolding start update
  by_gap true ahead back h empty near d e f =
      get R1 Speed view.speed refl refl refl (num R2 1 refl
      (add R1 R1 R2 view.speed 1 refl refl refl (one_more view seen)
      (get R2 Gap view.gap refl refl refl
      (at_most-falls R1 R2 15 more view.gap refl refl refl (not_least view.gap more near) (by_sidegap ahead back h empty d e f)))))
  by_gap false ahead back h empty far d e f =
      get R1 Speed view.speed refl refl refl (num R2 1 refl
      (add R1 R1 R2 view.speed 1 refl refl refl (one_more view seen)
      (get R2 Gap view.gap refl refl refl
      (at_most-jumps R1 R2 15 more view.gap refl refl refl (least view.gap more far) (stays _)))))

  by_side : (empty near ahead back h : Bool) → view.side ≡ empty → nat_lt view.gap more ≡ near → nat_lt more view.sidegap ≡ ahead →
      nat_lt view.limit view.sideback ≡ back → happens_at c words 1 ≡ h →
      Ends 0 (start Change view) (cond (empty && near && ahead && back && h) Crosses Stays)
  unfolding start update
  by_side true near ahead back h empty d e f g = side R0 refl refl (if_false-falls R0 15 refl (rw empty) (by_gap near ahead back h empty d e f g))
  by_side false near ahead back h taken d e f g = side R0 refl refl (if_false-jumps R0 15 refl (rw taken) (stays _))

-- it computes the lane changes of the published rule
pub rickert_changes : (c : ℕ) → ComputesCrossing (rickert_crosses c) (rickert_program c)
rickert_changes c view words seen =
    let run = by_side c view words seen view.side (nat_lt view.gap (view.speed + 1)) (nat_lt (view.speed + 1) view.sidegap) (nat_lt view.limit view.sideback) (happens_at c words 1) refl refl refl refl refl in
    (run.steps, run.ends)

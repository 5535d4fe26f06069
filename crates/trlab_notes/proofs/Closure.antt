-- The closure of a note is as strong as the note: every result that is computed from it is the same.
use Rattle.std.proofs.Common.{◌≡◌, ◌∙◌, ℕ, ◌-◌, ◌&&◌, refl, sym, ap, subst, arith, min, max, [], ◌∷◌, ◌++◌}
use Rattle.std.proofs.Common.{Bool, true, false, Option, Some, None, nat_eq, cond}
use mathlib.Core.Path.{fun_ext}
use Rattle.trlab_code.specs.declared.{program.Kind.Kind, instruction.Input.{Input, TheVariants.{Limit, Gap}}}
use Rattle.trlab_code.specs.declared.instruction.Instr.{Instr, TheVariants.{Get, Copy, Add, Sub, Div, Min}}
use Rattle.trlab_code.specs.declared.instruction.Instr.TheVariants.{Max, JumpLess, JumpAtMost, JumpTrue}
use Rattle.trlab_code.specs.declared.instruction.{Instr.TheVariants.{JumpFalse, Go}, Register.Register}
use Rattle.trlab_code.specs.{declared.instruction.Variable.Variable, Machine.update, Flow.destination}
use Rattle.trlab_code.specs.declared.instruction.Variable.TheVariants as variable
use Rattle.trlab_notes.specs.declared.note.AbstractValue.{AbstractValue, TheVariants.{Unknown, Between}}
use Rattle.trlab_notes.specs.{declared.note.AbstractValue.TheVariants.Implies, Notes.{Note, same_variable}}
use Rattle.trlab_notes.specs.Notes.{low, high, value_with_side, level_between, known_level, closure}
use Rattle.trlab_notes.specs.Notes.{maybe_closure, join, join_values, IsNoStronger, IsNoMorePrecise}
use Rattle.trlab_notes.specs.Transfer.{assign_destination, sharpen, slacken, least_difference, assign}
use Rattle.trlab_notes.specs.Transfer.{assign_result, result_value, result_to, to_result, chain, refine_order}
use Rattle.trlab_notes.specs.{Transfer.{refine_flag, next_note, jump_note}, Reasons.form_checks}
use Rattle.trlab_notes.specs.Reasons.{first_reason, reason_against, may_be_too_large, may_be_below_zero}
use Rattle.trlab_notes.{specs.Reasons.{may_be_above, may_be_occupied}, proofs.Order.same_note}
use Rattle.trlab_notes.proofs.Tables.{note_same, level_same, known_twice, both_known, known_unfolds}
use Rattle.trlab_notes.specs.declared.reasons.Reason.TheVariants as why

pub known_settled : (m : Note) (x y : Variable) → known_level (closure m) x y ≡ known_level m x y
unfolding known_level closure
known_settled m x y = known_twice (m.values x) (m.values y) (same_variable x y) (m.level x y)

pub told_settled : (m : Note) (x : Variable) → value_with_side (closure m) x ≡ value_with_side m x
unfolding value_with_side closure
told_settled m x = refl

pub said_same : (m : Note) → (closure m).values ≡ m.values
unfolding closure
said_same m = refl

pub side_same : (m : Note) → (closure m).side ≡ m.side
unfolding closure
side_same m = refl

settled_same : (m n : Note) → m.values ≡ n.values → ((x y : Variable) → known_level m x y ≡ known_level n x y) → m.side ≡ n.side → closure m ≡ closure n
unfolding closure
settled_same m n s h e = note_same _ _ s (level_same _ _ h) e

pub settled_twice : (m : Note) → closure (closure m) ≡ closure m
settled_twice m = settled_same (closure m) m (said_same m) (known_settled m) (side_same m)

-- neither is stronger than the other
pub settled_less : (m : Note) → IsNoStronger (closure m) m
settled_less m = let f = same_note m in record {
  values = λ x. subst (λ s. IsNoMorePrecise s (value_with_side m x)) (sym (told_settled m x)) (f.values x);
  order = λ x y. let e = known_settled m x y in omega (arith, e);
  beside = λ h. sym (side_same m) ∙ h;
}

pub settled_more : (m : Note) → IsNoStronger m (closure m)
settled_more m = let f = same_note m in record {
  values = λ x. subst (λ s. IsNoMorePrecise (value_with_side m x) s) (sym (told_settled m x)) (f.values x);
  order = λ x y. let e = known_settled m x y in omega (arith, e);
  beside = λ h. side_same m ∙ h;
}

-- a join uses only the known levels of a note
pub joined_settled : (m n : Note) → join m (closure n) ≡ join m n
unfolding join
joined_settled m n =
    note_same _ _ (fun_ext (λ x. ap (join_values (value_with_side m x)) (told_settled n x))) (level_same _ _ (λ x y. ap (min (known_level m x y)) (known_settled n x y))) (ap (λ b. m.side && b) (side_same n))

pub settled_joins : (m n : Note) → join (closure m) n ≡ join m n
unfolding join
settled_joins m n =
    note_same _ _ (fun_ext (λ x. ap (λ s. join_values s (value_with_side n x)) (told_settled m x))) (level_same _ _ (λ x y. ap (λ k. min k (known_level n x y)) (known_settled m x y))) (ap (λ b. b && n.side) (side_same m))

-- a join has all its known levels as levels
pub join_is_settled : (m n : Note) → closure (join m n) ≡ join m n
unfolding join closure value_with_side known_level
join_is_settled m n =
    note_same _ _ refl (level_same _ _ (λ x y. (both_known (m.values x) (n.values x) (m.values y) (n.values y) m.side n.side (same_variable x y) (level_between (m.values x) (m.values y) (same_variable x y) (m.level x y)) (level_between (n.values x) (n.values y) (same_variable x y) (n.level x y)) (known_twice (m.values x) (m.values y) (same_variable x y) (m.level x y)) (known_twice (n.values x) (n.values y) (same_variable x y) (n.level x y))))) refl

-- an instruction makes notes of both that have the same closure
module _ (m : Note) where
  written_settled : (d : Register) (s t : AbstractValue) (to below from above : Variable → ℕ) → s ≡ t → ((y : Variable) → to y ≡ below y) →
      ((x : Variable) → from x ≡ above x) → closure (assign (closure m) d s to from) ≡ closure (assign m d t below above)
  unfolding assign closure known_level update
  written_settled d s t to below from above es et ef =
      note_same _ _ (λ i x. cond (same_variable x (variable.Register d)) (es i) (m.values x)) (level_same _ _ (λ x y. (at x y (same_variable x (variable.Register d)) (same_variable y (variable.Register d))))) refl
    where
      at : (x y : Variable) → (b c : Bool) →
          level_between (cond b s (m.values x)) (cond c s (m.values y)) (same_variable x y) (cond b (to y) (cond c (from x) (level_between (m.values x) (m.values y) (same_variable x y) (m.level x y))))
          ≡ level_between (cond b t (m.values x)) (cond c t (m.values y)) (same_variable x y) (cond b (below y) (cond c (above x) (m.level x y)))
      at x y true c = λ i. level_between (es i) (cond c (es i) (m.values y)) (same_variable x y) (et y i)
      at x y false true = λ i. level_between (m.values x) (es i) (same_variable x y) (ef x i)
      at x y false false = known_twice (m.values x) (m.values y) (same_variable x y) (m.level x y)

  known_more : (s t : AbstractValue) (same : Bool) (l c : ℕ) → level_between s t same (max (level_between s t same l) c) ≡ level_between s t same (max l c)
  known_more (Between a b) (Between u v) true l c = refl
  known_more (Between a b) (Between u v) false l c = omega arith
  known_more (Between a b) Unknown same l c = refl
  known_more (Between a b) (Implies i) same l c = refl
  known_more Unknown t same l c = refl
  known_more (Implies i) t same l c = refl

  learnt_settled : (p q : Variable) (k : ℕ) → closure (refine_order (closure m) p q k) ≡ closure (refine_order m p q k)
  unfolding refine_order closure
  learnt_settled p q k =
      settled_same (refine_order (closure m) p q k) (refine_order m p q k) (said_same m) (λ x y. known_unfolds (refine_order (closure m) p q k) x y ∙ (at x y) ∙ sym (known_unfolds (refine_order m p q k) x y)) (side_same m)
    where
      at : (x y : Variable) →
          level_between (m.values x) (m.values y) (same_variable x y) (max (known_level m x y) (chain (known_level (closure m) x p) k (known_level (closure m) q y)))
          ≡ level_between (m.values x) (m.values y) (same_variable x y) (max (m.level x y) (chain (known_level m x p) k (known_level m q y)))
      at x y =
          ap (λ l. level_between (m.values x) (m.values y) (same_variable x y) (max l (chain (known_level (closure m) x p) k (known_level (closure m) q y)))) (known_unfolds m x y)
          ∙ known_more (m.values x) (m.values y) (same_variable x y) (m.level x y) _
          ∙ (λ i. level_between (m.values x) (m.values y) (same_variable x y) (max (m.level x y) (chain (known_settled m x p i) k (known_settled m q y i))))

  trusted_settled : (a : Register) → closure (refine_flag (closure m) a) ≡ closure (refine_flag m a)
  unfolding refine_flag closure known_level
  trusted_settled a = note_same _ _ refl (level_same _ _ (λ x y. (known_twice (m.values x) (m.values y) (same_variable x y) (m.level x y)))) refl

  same : (x y : Variable) → known_level (closure m) x y ≡ known_level m x y
  same = known_settled m

  said_of_result : (i : Instr) → result_value (closure m) i ≡ result_value m i
  unfolding closure value_with_side
  said_of_result (Sub d a b) = λ z. Between (max (low (m.values (variable.Register a)) - high (m.values (variable.Register b))) (least_difference (same (variable.Register b) (variable.Register a) z))) (high (m.values (variable.Register a)) - low (m.values (variable.Register b)))
  said_of_result i = refl

  from_result : (i : Instr) (y : Variable) → result_to (closure m) i y ≡ result_to m i y
  unfolding closure
  from_result (Get d k) y = same (variable.Input k) y
  from_result (Copy d a) y = same (variable.Register a) y
  from_result (Div d a n) y = same (variable.Register a) y
  from_result (Add d a b) y = λ z. max (slacken (same (variable.Register a) y z) (high (m.values (variable.Register b)))) (slacken (same (variable.Register b) y z) (high (m.values (variable.Register a))))
  from_result (Sub d a b) y = λ z. sharpen (same (variable.Register a) y z) (low (m.values (variable.Register b)))
  from_result (Min d a b) y = λ z. max (same (variable.Register a) y z) (same (variable.Register b) y z)
  from_result (Max d a b) y = λ z. min (same (variable.Register a) y z) (same (variable.Register b) y z)
  from_result i y = refl

  into_result : (i : Instr) (y : Variable) → to_result (closure m) i y ≡ to_result m i y
  unfolding closure
  into_result (Get d k) y = same y (variable.Input k)
  into_result (Copy d a) y = same y (variable.Register a)
  into_result (Add d a b) y = λ z. max (sharpen (same y (variable.Register a) z) (low (m.values (variable.Register b)))) (sharpen (same y (variable.Register b) z) (low (m.values (variable.Register a))))
  into_result (Min d a b) y = λ z. min (same y (variable.Register a) z) (same y (variable.Register b) z)
  into_result (Max d a b) y = λ z. max (same y (variable.Register a) z) (same y (variable.Register b) z)
  into_result i y = refl

  after_settled : (d : Register) (i : Instr) → Some (closure (assign_result (closure m) d i)) ≡ Some (closure (assign_result m d i))
  after_settled d i = ap Some (written_settled d _ _ _ _ _ _ (said_of_result i) (from_result i) (into_result i))

  any_settled : (o : Option Register) (i : Instr) → maybe_closure (assign_destination (closure m) i o) ≡ maybe_closure (assign_destination m i o)
  any_settled None i = refl
  any_settled (Some d) i = after_settled d i

  pub fall_settled : (i : Instr) → maybe_closure (next_note (closure m) i) ≡ maybe_closure (next_note m i)
  fall_settled (JumpLess a b t) = ap Some (learnt_settled (variable.Register b) (variable.Register a) 1)
  fall_settled (JumpAtMost a b t) = ap Some (learnt_settled (variable.Register b) (variable.Register a) 2)
  fall_settled (JumpTrue a t) = ap Some (settled_twice m)
  fall_settled (JumpFalse a t) = ap Some (trusted_settled a)
  fall_settled i = any_settled (destination i) i

  pub jump_settled : (i : Instr) → closure (jump_note (closure m) i) ≡ closure (jump_note m i)
  jump_settled (JumpLess a b t) = learnt_settled (variable.Register a) (variable.Register b) 2
  jump_settled (JumpAtMost a b t) = learnt_settled (variable.Register a) (variable.Register b) 1
  jump_settled (JumpTrue a t) = trusted_settled a
  jump_settled i = settled_twice m

  -- and the same reasons hold against it
  below_same : (i : Instr) → may_be_below_zero (closure m) i ≡ may_be_below_zero m i
  below_same (Sub d a b) = ap (λ k. nat_eq k 0) (same (variable.Register b) (variable.Register a))
  below_same i = refl

  pass_same : (k : Input) (i : Instr) → may_be_above k (closure m) i ≡ may_be_above k m i
  pass_same k (Go a) = ap (λ l. nat_eq l 0) (same (variable.Register a) (variable.Input k))
  pass_same k i = refl

  pub reason_settled : (kind own : Kind) (len pc : ℕ) (i : Instr) → reason_against kind own len pc (closure m) i ≡ reason_against kind own len pc m i
  unfolding closure
  reason_settled kind own len pc i = λ z. first_reason (form_checks kind own len pc m i ++ (
      record { reason = why.MaybeTooLarge; holds = may_be_too_large m i }
      ∷ record { reason = why.MaybeBelowZero; holds = below_same i z }
      ∷ record { reason = why.MaybeAboveGap; holds = pass_same Gap i z }
      ∷ record { reason = why.MaybeAboveLimit; holds = pass_same Limit i z }
      ∷ record { reason = why.MaybeOccupied; holds = may_be_occupied m i }
      ∷ []))

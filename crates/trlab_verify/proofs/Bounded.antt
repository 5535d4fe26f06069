-- No level above 2 is ever known.
use Rattle.std.proofs.Common.{ℕ, zero, suc, ◌<◌, ◌≤◌, max, subst, arith, List, length, Bool, true, false}
use Rattle.std.proofs.Common.{Option, Some, None, nat_eq, cond, slice_get, IfSome}
use Rattle.trlab_code.specs.declared.{program.Kind.Kind, instruction.{Variable.Variable, Register.Register}}
use Rattle.trlab_code.specs.declared.instruction.{Input.TheVariants.{Speed, Limit, Headspeed}, Instr.Instr}
use Rattle.trlab_code.specs.declared.instruction.Instr.TheVariants.{Get, Copy, Add, Sub, Div, Min, Max}
use Rattle.trlab_code.specs.declared.instruction.Instr.TheVariants.{JumpLess, JumpAtMost, JumpTrue, JumpFalse}
use Rattle.trlab_code.specs.{Machine.update, Program.Program, Flow.{target, destination}}
use Rattle.trlab_code.specs.declared.instruction.Variable.TheVariants as variable
use Rattle.trlab_notes.specs.declared.note.AbstractValue.{AbstractValue, TheVariants.{Unknown, Between}}
use Rattle.trlab_notes.specs.{declared.note.AbstractValue.TheVariants.Implies, Notes.{Note, known_level}}
use Rattle.trlab_notes.specs.Notes.{level_between, same_variable, entry, entry_level, entry_values, join}
use Rattle.trlab_notes.specs.Transfer.{sharpen, slacken, chain, least, most, result_value, result_to}
use Rattle.trlab_notes.specs.Transfer.{to_result, register_to, assign, assign_destination, refine_order}
use Rattle.trlab_notes.specs.Transfer.{refine_flag, next_note, jump_note}
use Rattle.trlab_verify.specs.Verdict.{add_note, add_notes, if_here, next_note_to, jump_note_to, is_target}
use Rattle.trlab_verify.{specs.{Verdict.incoming, Tables.HasValidLevels}, proofs.Checking.ChecksBy}
use Rattle.trlab_verify.proofs.Best.{best}

known_two : (s t : AbstractValue) (same : Bool) (k : ℕ) → k ≤ 2 → level_between s t same k ≤ 2
known_two (Between a b) (Between c d) true k h = omega arith
known_two (Between a b) (Between c d) false k h = grind arith
known_two (Between a b) Unknown same k h = omega arith
known_two (Between a b) (Implies i) same k h = omega arith
known_two Unknown t same k h = omega arith
known_two (Implies i) t same k h = omega arith

-- the larger of two levels, one of which is known
known_max : (s t : AbstractValue) (same : Bool) (j k : ℕ) → level_between s t same j ≤ 2 → k ≤ 2 → level_between s t same (max j k) ≤ 2
known_max (Between a b) (Between c d) true j k h l = omega arith
known_max (Between a b) (Between c d) false j k h l = grind arith
known_max (Between a b) Unknown same j k h l = omega arith
known_max (Between a b) (Implies i) same j k h l = omega arith
known_max Unknown t same j k h l = omega arith
known_max (Implies i) t same j k h l = omega arith

sharpen_two : (k lo : ℕ) → k ≤ 2 → sharpen k lo ≤ 2
sharpen_two zero lo h = omega arith
sharpen_two (suc k) zero h = h
sharpen_two (suc k) (suc lo) h = omega arith

slacken_two : (k hi : ℕ) → slacken k hi ≤ 2
slacken_two k hi = grind arith

chain_two : (i k j : ℕ) → i ≤ 2 → k ≤ 2 → j ≤ 2 → chain i k j ≤ 2
chain_two zero k j p q r = omega arith
chain_two (suc i) k zero p q r = omega arith
chain_two (suc i) k (suc j) p q r = omega arith

module _ (m : Note) (f : HasValidLevels m) where
  assign_two : (d : Register) (s : AbstractValue) (to from : Variable → ℕ) → ((y : Variable) → to y ≤ 2) → ((y : Variable) → from y ≤ 2) → HasValidLevels (assign m d s to from)
  unfolding assign known_level update
  assign_two d s to from p q x y = at (same_variable x (variable.Register d)) (same_variable y (variable.Register d))
    where
      at : (b c : Bool) → level_between (cond b s (m.values x)) (cond c s (m.values y)) (same_variable x y) (cond b (to y) (cond c (from x) (m.level x y))) ≤ 2
      at true c = known_two _ _ (same_variable x y) (to y) (p y)
      at false true = known_two _ _ (same_variable x y) (from x) (q x)
      at false false = f x y

  refine_two : (p q : Variable) (k : ℕ) → k ≤ 2 → HasValidLevels (refine_order m p q k)
  unfolding refine_order known_level
  refine_two p q k l x y = known_max (m.values x) (m.values y) (same_variable x y) (m.level x y) _ (f x y) (chain_two _ k _ (f x p) l (f q y))

  flag_two : (a : Register) → HasValidLevels (refine_flag m a)
  unfolding refine_flag known_level
  flag_two a = f

  to_two : (i : Instr) (y : Variable) → result_to m i y ≤ 2
  to_two (Get d k) y = f (variable.Input k) y
  to_two (Copy d a) y = f (variable.Register a) y
  to_two (Div d a v) y = f (variable.Register a) y
  to_two (Add d a b) y = omega (arith, slacken_two (register_to m a y) (most m b), slacken_two (register_to m b y) (most m a))
  to_two (Sub d a b) y = sharpen_two _ _ (f (variable.Register a) y)
  to_two (Min d a b) y = omega (arith, f (variable.Register a) y, f (variable.Register b) y)
  to_two (Max d a b) y = omega (arith, f (variable.Register a) y, f (variable.Register b) y)
  to_two i y = omega arith

  from_two : (i : Instr) (y : Variable) → to_result m i y ≤ 2
  from_two (Get d k) y = f y (variable.Input k)
  from_two (Copy d a) y = f y (variable.Register a)
  from_two (Add d a b) y = omega (arith, sharpen_two _ (least m b) (f y (variable.Register a)), sharpen_two _ (least m a) (f y (variable.Register b)))
  from_two (Min d a b) y = omega (arith, f y (variable.Register a), f y (variable.Register b))
  from_two (Max d a b) y = omega (arith, f y (variable.Register a), f y (variable.Register b))
  from_two i y = omega arith

  any_two : (i : Instr) (d : Option Register) → IfSome (assign_destination m i d) HasValidLevels
  any_two i None = tt
  any_two i (Some d) = assign_two d (result_value m i) (result_to m i) (to_result m i) (to_two i) (from_two i)

  next_two : (i : Instr) → IfSome (next_note m i) HasValidLevels
  next_two (JumpLess a b t) = refine_two (variable.Register b) (variable.Register a) 1 (omega arith)
  next_two (JumpAtMost a b t) = refine_two (variable.Register b) (variable.Register a) 2 (omega arith)
  next_two (JumpTrue a t) = f
  next_two (JumpFalse a t) = flag_two a
  next_two i = any_two i (destination i)

  jump_two : (i : Instr) → HasValidLevels (jump_note m i)
  jump_two (JumpLess a b t) = refine_two (variable.Register a) (variable.Register b) 2 (omega arith)
  jump_two (JumpAtMost a b t) = refine_two (variable.Register a) (variable.Register b) 1 (omega arith)
  jump_two (JumpTrue a t) = flag_two a
  jump_two i = f

join_two : (m n : Note) → HasValidLevels m → HasValidLevels (join m n)
unfolding join known_level
join_two m n f x y = known_two _ _ (same_variable x y) _ (omega (arith, f x y))

entry_two : (kind : Kind) → HasValidLevels (entry kind)
unfolding entry known_level
entry_two kind x y = known_two (entry_values kind x) (entry_values kind y) (same_variable x y) (entry_level x y) (levels x y)
  where
    levels : (x y : Variable) → entry_level x y ≤ 2
    levels (variable.Input Speed) (variable.Input Limit) = omega arith
    levels (variable.Input Headspeed) (variable.Input Limit) = omega arith
    levels x y = omega arith

edge_two : (old new : Option Note) → IfSome old HasValidLevels → IfSome new HasValidLevels → IfSome (add_note old new) HasValidLevels
edge_two old None f g = f
edge_two None (Some n) f g = join_two n n g
edge_two (Some m) (Some n) f g = join_two m n f

here_two : (b : Bool) (o : Option Note) → IfSome o HasValidLevels → IfSome (if_here b o) HasValidLevels
here_two true o f = f
here_two false o f = tt

edges_two : (pc q : ℕ) (note : Option Note) (i : Option Instr) (old : Option Note) → IfSome note HasValidLevels → IfSome old HasValidLevels →
    IfSome (add_notes pc note i q old) HasValidLevels
edges_two pc q (Some m) (Some i) old f g =
    edge_two (add_note old (next_note_to pc m i q)) (jump_note_to m i q) (edge_two old (next_note_to pc m i q) g (here_two (nat_eq q (suc pc)) (next_note m i) (next_two m f i))) (here_two (is_target (target i) q) (Some (jump_note m i)) (jump_two m f i))
edges_two pc q None i old f g = g
edges_two pc q (Some m) None old f g = g

incoming_two : (kind : Kind) (code : List Instr) (n q : ℕ) → IfSome (incoming kind code n q) HasValidLevels
incoming_two kind code zero q = here_two (nat_eq q 0) (Some (entry kind)) (entry_two kind)
incoming_two kind code (suc n) q = edges_two n q (incoming kind code n n) (slice_get code n) (incoming kind code n q) (incoming_two kind code n n) (incoming_two kind code n q)

-- a table that checks has levels of 2 at most
pub checked_two : (kind : Kind) (program : Program) (note : ℕ → Note) → ChecksBy kind program note → (pc : ℕ) → pc < length program.instrs → HasValidLevels (note pc)
checked_two kind program note checks pc lt x y =
    let (n, e, f) = best kind program note checks pc lt in
    let b : HasValidLevels n = subst (λ z. IfSome z HasValidLevels) e (incoming_two kind program.instrs pc pc) in
    omega (arith, f.order x y, b x y)

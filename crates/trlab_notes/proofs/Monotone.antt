-- Conclusions from a note also follow from each note that is at least as strong.
use Rattle.std.proofs.Common.{◌≡◌, ℕ, ◌≤◌, ◌||◌, not, refl, arith, List, [], ◌∷◌, Bool, true, false, IsTrue}
use Rattle.std.proofs.{Common.{Option, Some, None, cond, mul-le-mul_right}, lemmas.Bool.or_parts}
use Rattle.trlab_code.specs.declared.{program.Kind.Kind, instruction.Input.{Input, TheVariants.{Limit, Gap}}}
use Rattle.trlab_code.specs.declared.instruction.Instr.{Instr, TheVariants.{Num, Get, Side, Draw, Copy, Add}}
use Rattle.trlab_code.specs.declared.instruction.Instr.TheVariants.{Sub, Mul, Div, Min, Max, Not, And, Or}
use Rattle.trlab_code.specs.declared.instruction.Instr.TheVariants.{JumpLess, JumpAtMost, JumpTrue, JumpFalse}
use Rattle.trlab_code.specs.declared.instruction.{Instr.TheVariants.{Go, Cross}, Register.Register}
use Rattle.trlab_code.specs.{declared.instruction.Variable.Variable, Machine.update, Flow.destination}
use Rattle.trlab_code.specs.declared.instruction.Variable.TheVariants as variable
use Rattle.trlab_notes.specs.{declared.{note.AbstractValue.AbstractValue, reasons.Reason.Reason}, Notes.Note}
use Rattle.trlab_notes.specs.Notes.{same_variable, with_side, value_with_side, low, high, implies}
use Rattle.trlab_notes.specs.Notes.{level_between, known_level, IsNoMorePrecise, IsNoStronger, AreNoStronger}
use Rattle.trlab_notes.specs.Transfer.{assign_destination, assign, assign_result, result_value, result_to}
use Rattle.trlab_notes.specs.Transfer.{to_result, refine_order, refine_flag, next_note, jump_note}
use Rattle.trlab_notes.specs.Reasons.{any_register, is_unknown, is_range, is_flag, numbers_of, operands_of}
use Rattle.trlab_notes.specs.Reasons.{some_unset, some_of_wrong_type, may_be_too_large, may_be_below_zero}
use Rattle.trlab_notes.specs.Reasons.{may_be_above, may_be_occupied, flags_of, values_of, reason_against}
use Rattle.trlab_notes.proofs.{Steps.IsClear, Order.{Wider, wider, known_up, Closed, On}, Growth.sharper_up}
use Rattle.trlab_notes.proofs.Growth.{just_below_up, least_gap_up, chained_up, low_up, high_down, told_twice}
use Rattle.trlab_notes.proofs.Growth.{learnt_level, implies_up, trust_side, more_side, div_mono, or_up}
use Rattle.trlab_notes.proofs.Growth.{and_up, still_set, still_range, still_flag, both_false, still_positive}

module _ (V : Variable → Type 0) (closed : Closed V) where
  -- a write: if its abstract value and levels are weaker, so is the note
  written_up : (m n : Note) (d : Register) (s t : AbstractValue) (to to' from from' : Variable → ℕ) → On V m n →
      IsNoMorePrecise (with_side m.side s) (with_side n.side t) → ((y : Variable) → V y → to y ≤ to' y) → ((x : Variable) → V x → from x ≤ from' x) →
      On V (assign m d s to from) (assign n d t to' from')
  unfolding assign update value_with_side known_level
  written_up m n d s t to to' from from' f h below above = record {
    values = λ x lx. value_at x lx (same_variable x (variable.Register d));
    order = λ x y lx ly. (level_at x y lx ly (same_variable x (variable.Register d)) (same_variable y (variable.Register d)));
    beside = f.beside;
  }
    where
      value_at : (x : Variable) → V x → (b : Bool) → IsNoMorePrecise (with_side m.side (cond b s (m.values x))) (with_side n.side (cond b t (n.values x)))
      value_at x lx true = h
      value_at x lx false = f.values x lx

      wide : (x : Variable) → V x → (b : Bool) → Wider (cond b s (m.values x)) (cond b t (n.values x))
      wide x lx b = wider m.side n.side _ _ (value_at x lx b)

      level_at : (x y : Variable) → V x → V y → (b c : Bool) →
          level_between (cond b s (m.values x)) (cond c s (m.values y)) (same_variable x y) (cond b (to y) (cond c (from x) (m.level x y)))
          ≤ level_between (cond b t (n.values x)) (cond c t (n.values y)) (same_variable x y) (cond b (to' y) (cond c (from' x) (n.level x y)))
      level_at x y lx ly true c = known_up _ _ _ _ (same_variable x y) _ _ (wide x lx true) (wide y ly c) (below y ly)
      level_at x y lx ly false true = known_up _ _ _ _ (same_variable x y) _ _ (wide x lx false) (wide y ly true) (above x lx)
      level_at x y lx ly false false = f.order x y lx ly

  pub learnt_up : (m n : Note) (p q : Variable) (k : ℕ) → V p → V q → On V m n → On V (refine_order m p q k) (refine_order n p q k)
  unfolding refine_order value_with_side known_level
  learnt_up m n p q k lp lq f = record {
    values = f.values;
    order = λ x y lx ly. (learnt_level (m.values x) (m.values y) (n.values x) (n.values y) (same_variable x y) (m.level x y) (n.level x y) _ _
        (wider m.side n.side _ _ (f.values x lx)) (wider m.side n.side _ _ (f.values y ly)) (f.order x y lx ly)
        (chained_up _ _ k _ _ (f.order x p lx lp) (f.order q y lq ly)));
    beside = f.beside;
  }

  at_reg : (r : Register) → V (variable.Register r)
  at_reg = closed.regs

  pub trusted_up : (m n : Note) (a : Register) → On V m n → On V (refine_flag m a) (refine_flag n a)
  unfolding refine_flag value_with_side known_level
  trusted_up m n a f = record {
    values = λ x lx. more_side m.side n.side _ _ (m.values x) (n.values x) grows (or_left n.side (implies (n.values (variable.Register a)))) (f.values x lx);
    order = f.order;
    beside = grows;
  }
    where
      or_left : (p q : Bool) → IsTrue p → IsTrue (p || q)
      or_left true q e = refl
      or_left false q e = absurd (cc e)

      grows : IsTrue (m.side || implies (m.values (variable.Register a))) → IsTrue (n.side || implies (n.values (variable.Register a)))
      grows = trust_side m.side n.side (m.values (variable.Register a)) (n.values (variable.Register a)) f.beside (f.values (variable.Register a) (at_reg a))

  -- the inputs that an instruction reads
  abbrev pub Reaches : Instr → Type 0
  Reaches (Get d j) = V (variable.Input j)
  Reaches i = Unit {0}

  abbrev pub BothOn : Option Note → Option Note → Type 0
  BothOn None None = Unit {0}
  BothOn (Some m) (Some n) = On V m n
  BothOn _ _ = ⊥

  none_true : (b : Bool) (r : Reason) (rest : Option Reason) → b ≡ false → rest ≡ None → cond b (Some r) rest ≡ None
  none_true true r rest e h = absurd (cc e)
  none_true false r rest e h = h

  -- an instruction that passes each test has no fault
  pub passes : (kind own : Kind) (len pc : ℕ) (m : Note) (i : Instr) → IsClear kind own len pc m i →
      reason_against kind own len pc m i ≡ None
  passes kind own len pc m i c =
      none_true _ _ _ c.allowed (none_true _ _ _ c.set (none_true _ _ _ c.kinds (none_true _ _ _ c.forward (none_true _ _ _ c.within (none_true _ _ _ c.follows (none_true _ _ _ c.fits (none_true _ _ _ c.positive (none_true _ _ _ c.gap (none_true _ _ _ c.limit (none_true _ _ _ c.beside refl))))))))))

  module _ (m n : Note) (f : On V m n) where
    wide_at : (x : Variable) → V x → Wider (m.values x) (n.values x)
    unfolding value_with_side
    wide_at x h = wider m.side n.side (m.values x) (n.values x) (f.values x h)

    -- a number that an instruction reads
    record Reads (a : Register) : Type 0 where
      lo : low (m.values (variable.Register a)) ≤ low (n.values (variable.Register a))
      hi : high (n.values (variable.Register a)) ≤ high (m.values (variable.Register a))

    reads : (r : Register) → is_unknown (m.values (variable.Register r)) ≡ false → is_flag (m.values (variable.Register r)) ≡ false → Reads r
    reads r p q = record { lo = low_up _ _ (wide_at (variable.Register r) (at_reg r)); hi = high_down _ _ p q (wide_at (variable.Register r) (at_reg r)) }

    two_numbers : (a b : Register) (rest : Bool) → (any_register is_unknown m (a ∷ b ∷ []) || rest) ≡ false →
        (any_register is_flag m (a ∷ b ∷ []) || false) ≡ false → Reads a × Reads b
    two_numbers a b rest h k =
        let h1 = or_parts _ _ (or_parts _ _ h).0 in
        let k1 = or_parts _ _ (or_parts _ _ k).0 in
        (reads a h1.0 k1.0, reads b (or_parts _ _ h1.1).0 (or_parts _ _ k1.1).0)

    one_number : (a : Register) (rest : Bool) → (any_register is_unknown m (a ∷ []) || rest) ≡ false →
        (any_register is_flag m (a ∷ []) || false) ≡ false → Reads a
    one_number a rest h k = reads a (or_parts _ _ (or_parts _ _ h).0).0 (or_parts _ _ (or_parts _ _ k).0).0

    flag_up : (a : Register) → IsTrue (implies (value_with_side m (variable.Register a))) → IsTrue (implies (value_with_side n (variable.Register a)))
    unfolding value_with_side
    flag_up a = implies_up m.side n.side (m.values (variable.Register a)) (n.values (variable.Register a)) (f.values (variable.Register a) (at_reg a))

    -- the abstract value of a result
    said_up : (i : Instr) → Reaches i → some_unset m i ≡ false → some_of_wrong_type m i ≡ false →
        IsNoMorePrecise (with_side m.side (result_value m i)) (with_side n.side (result_value n i))
    unfolding value_with_side
    said_up (Num d v) w h k = (omega arith, omega arith)
    said_up (Get d j) w h k = told_twice m.side n.side _ _ (f.values (variable.Input j) w)
    said_up (Side d) w h k = λ e. refl
    said_up (Draw d j t) w h k = f.beside
    said_up (Copy d a) w h k = told_twice m.side n.side _ _ (f.values (variable.Register a) (at_reg a))
    said_up (Add d a b) w h k = let o = two_numbers a b _ h k in (omega (arith, o.0.lo, o.1.lo), omega (arith, o.0.hi, o.1.hi))
    said_up (Sub d a b) w h k =
        let o = two_numbers a b _ h k in
        let g = least_gap_up _ _ (f.order (variable.Register b) (variable.Register a) (at_reg b) (at_reg a)) in
        (omega (arith, g, o.0.lo, o.1.hi), omega (arith, o.0.hi, o.1.lo))
    said_up (Mul d a v) w h k = let o = one_number a _ h k in (omega (arith, mul-le-mul_right v o.lo), mul-le-mul_right v o.hi)
    said_up (Div d a v) w h k = let o = one_number a _ h k in (div_mono _ _ v o.lo, div_mono _ _ v o.hi)
    said_up (Min d a b) w h k = let o = two_numbers a b _ h k in (omega (arith, o.0.lo, o.1.lo), omega (arith, o.0.hi, o.1.hi))
    said_up (Max d a b) w h k = let o = two_numbers a b _ h k in (omega (arith, o.0.lo, o.1.lo), omega (arith, o.0.hi, o.1.hi))
    said_up (Not d a) w h k = f.beside
    said_up (And d a b) w h k = or_up _ _ _ _ (or_up _ _ _ _ (flag_up a) (flag_up b)) f.beside
    said_up (Or d a b) w h k = or_up _ _ _ _ (and_up _ _ _ _ (flag_up a) (flag_up b)) f.beside
    said_up i w h k = tt

    to_up : (i : Instr) → Reaches i → some_unset m i ≡ false → some_of_wrong_type m i ≡ false → (y : Variable) → V y →
        result_to m i y ≤ result_to n i y
    to_up (Get d j) w h k y l = f.order (variable.Input j) y w l
    to_up (Copy d a) w h k y l = f.order (variable.Register a) y (at_reg a) l
    to_up (Div d a v) w h k y l = f.order (variable.Register a) y (at_reg a) l
    to_up (Add d a b) w h k y l =
        let o = two_numbers a b _ h k in
        let p = just_below_up _ _ _ _ (f.order (variable.Register a) y (at_reg a) l) o.1.hi in
        let q = just_below_up _ _ _ _ (f.order (variable.Register b) y (at_reg b) l) o.0.hi in
        omega (arith, p, q)
    to_up (Sub d a b) w h k y l = let o = two_numbers a b _ h k in sharper_up _ _ _ _ (f.order (variable.Register a) y (at_reg a) l) o.1.lo
    to_up (Min d a b) w h k y l = omega (arith, f.order (variable.Register a) y (at_reg a) l, f.order (variable.Register b) y (at_reg b) l)
    to_up (Max d a b) w h k y l = omega (arith, f.order (variable.Register a) y (at_reg a) l, f.order (variable.Register b) y (at_reg b) l)
    to_up i w h k y l = omega arith

    from_up : (i : Instr) → Reaches i → some_unset m i ≡ false → some_of_wrong_type m i ≡ false → (y : Variable) → V y →
        to_result m i y ≤ to_result n i y
    from_up (Get d j) w h k y l = f.order y (variable.Input j) l w
    from_up (Copy d a) w h k y l = f.order y (variable.Register a) l (at_reg a)
    from_up (Add d a b) w h k y l =
        let o = two_numbers a b _ h k in
        let p = sharper_up _ _ _ _ (f.order y (variable.Register a) l (at_reg a)) o.1.lo in
        let q = sharper_up _ _ _ _ (f.order y (variable.Register b) l (at_reg b)) o.0.lo in
        omega (arith, p, q)
    from_up (Min d a b) w h k y l = omega (arith, f.order y (variable.Register a) l (at_reg a), f.order y (variable.Register b) l (at_reg b))
    from_up (Max d a b) w h k y l = omega (arith, f.order y (variable.Register a) l (at_reg a), f.order y (variable.Register b) l (at_reg b))
    from_up i w h k y l = omega arith

    after_up : (d : Register) (i : Instr) → Reaches i → some_unset m i ≡ false → some_of_wrong_type m i ≡ false →
        On V (assign_result m d i) (assign_result n d i)
    after_up d i w h k = written_up m n d (result_value m i) (result_value n i) (result_to m i) (result_to n i) (to_result m i) (to_result n i) f (said_up i w h k) (to_up i w h k) (from_up i w h k)

    any_up : (o : Option Register) (i : Instr) → Reaches i → some_unset m i ≡ false → some_of_wrong_type m i ≡ false →
        BothOn (assign_destination m i o) (assign_destination n i o)
    any_up None i w h k = tt
    any_up (Some d) i w h k = after_up d i w h k

    -- the notes that an instruction without a fault sends on
    pub fall_up : (i : Instr) → Reaches i → some_unset m i ≡ false → some_of_wrong_type m i ≡ false → BothOn (next_note m i) (next_note n i)
    fall_up (JumpLess a b t) w h k = learnt_up m n (variable.Register b) (variable.Register a) 1 (at_reg b) (at_reg a) f
    fall_up (JumpAtMost a b t) w h k = learnt_up m n (variable.Register b) (variable.Register a) 2 (at_reg b) (at_reg a) f
    fall_up (JumpTrue a t) w h k = f
    fall_up (JumpFalse a t) w h k = trusted_up m n a f
    fall_up i w h k = any_up (destination i) i w h k

    pub jump_up : (i : Instr) → On V (jump_note m i) (jump_note n i)
    jump_up (JumpLess a b t) = learnt_up m n (variable.Register a) (variable.Register b) 2 (at_reg a) (at_reg b) f
    jump_up (JumpAtMost a b t) = learnt_up m n (variable.Register a) (variable.Register b) 1 (at_reg a) (at_reg b) f
    jump_up (JumpTrue a t) = trusted_up m n a f
    jump_up i = f

    sets : (xs : List Register) → any_register is_unknown m xs ≡ false → any_register is_unknown n xs ≡ false
    unfolding value_with_side
    sets [] h = refl
    sets (x ∷ xs) h = let e = or_parts _ _ h in both_false _ _ (still_set m.side n.side _ _ (f.values (variable.Register x) (at_reg x)) e.0) (sets xs e.1)

    ranges_stay : (xs : List Register) → any_register is_unknown m xs ≡ false → any_register is_flag m xs ≡ false → any_register is_flag n xs ≡ false
    unfolding value_with_side
    ranges_stay [] h g = refl
    ranges_stay (x ∷ xs) h g =
        let e = or_parts _ _ h in
        let d = or_parts _ _ g in
        both_false _ _ (still_range m.side n.side _ _ (f.values (variable.Register x) (at_reg x)) e.0 d.0) (ranges_stay xs e.1 d.1)

    flags_stay : (xs : List Register) → any_register is_unknown m xs ≡ false → any_register is_range m xs ≡ false → any_register is_range n xs ≡ false
    unfolding value_with_side
    flags_stay [] h g = refl
    flags_stay (x ∷ xs) h g =
        let e = or_parts _ _ h in
        let d = or_parts _ _ g in
        both_false _ _ (still_flag m.side n.side _ _ (f.values (variable.Register x) (at_reg x)) e.0 d.0) (flags_stay xs e.1 d.1)

    set_up : (i : Instr) → some_unset m i ≡ false → some_unset n i ≡ false
    set_up i h =
        let a = or_parts _ _ h in
        let b = or_parts _ _ a.1 in
        both_false _ _ (sets (numbers_of (operands_of i)) a.0) (both_false _ _ (sets (flags_of (operands_of i)) b.0) (sets (values_of (operands_of i)) b.1))

    kinds_up : (i : Instr) → some_unset m i ≡ false → some_of_wrong_type m i ≡ false → some_of_wrong_type n i ≡ false
    kinds_up i h g =
        let a = or_parts _ _ h in
        let b = or_parts _ _ a.1 in
        let c = or_parts _ _ g in
        both_false _ _ (ranges_stay (numbers_of (operands_of i)) a.0 c.0) (flags_stay (flags_of (operands_of i)) b.0 c.1)

    size_up : (i : Instr) → some_unset m i ≡ false → some_of_wrong_type m i ≡ false → may_be_too_large m i ≡ false → may_be_too_large n i ≡ false
    size_up (Add d a b) h k e = let o = two_numbers a b _ h k in grind (arith, e, o.0.hi, o.1.hi)
    size_up (Mul d a v) h k e = let o = one_number a _ h k in grind (arith, e, mul-le-mul_right v o.hi)
    size_up i h k e = refl

    positive_up : (i : Instr) → may_be_below_zero m i ≡ false → may_be_below_zero n i ≡ false
    positive_up (Sub d a b) e = still_positive _ _ (f.order (variable.Register b) (variable.Register a) (at_reg b) (at_reg a)) e
    positive_up i e = refl

    pass_up : (k : Input) → V (variable.Input k) → (i : Instr) → may_be_above k m i ≡ false → may_be_above k n i ≡ false
    pass_up k l (Go a) e = still_positive _ _ (f.order (variable.Register a) (variable.Input k) (at_reg a) l) e
    pass_up k l i e = refl

    beside_up : (i : Instr) → may_be_occupied m i ≡ false → may_be_occupied n i ≡ false
    beside_up Cross e = not_up m.side n.side f.beside e
      where
        not_up : (p q : Bool) → (IsTrue p → IsTrue q) → not p ≡ false → not q ≡ false
        not_up p true g h = refl
        not_up true false g h = absurd (cc (g refl))
        not_up false false g h = h
    beside_up i e = refl

    -- an instruction without a fault
    pub clear_up : (kind own : Kind) (len pc : ℕ) (i : Instr) → IsClear kind own len pc m i → IsClear kind own len pc n i
    clear_up kind own len pc i c = record {
      allowed = c.allowed;
      set = set_up i c.set;
      kinds = kinds_up i c.set c.kinds;
      forward = c.forward;
      within = c.within;
      follows = c.follows;
      fits = size_up i c.set c.kinds c.fits;
      positive = positive_up i c.positive;
      gap = pass_up Gap closed.gap i c.gap;
      limit = pass_up Limit closed.limit i c.limit;
      beside = beside_up i c.beside;
    }

-- all variables
abbrev pub All_variables : Variable → Type 0
All_variables x = Unit {0}

pub all_closed : Closed All_variables
all_closed = record { regs = λ r. tt; limit = tt; gap = tt }

pub reaches_all : (i : Instr) → Reaches All_variables all_closed i
reaches_all (Get d j) = tt
reaches_all i = tt

pub on_all : (m n : Note) → IsNoStronger m n → On All_variables m n
on_all m n f = record { values = λ x h. f.values x; order = λ x y h k. f.order x y; beside = f.beside }

pub all_on : (m n : Note) → On All_variables m n → IsNoStronger m n
all_on m n f = record { values = λ x. f.values x tt; order = λ x y. f.order x y tt tt; beside = f.beside }

pub both_all : (o p : Option Note) → BothOn All_variables all_closed o p → AreNoStronger o p
both_all None None h = tt
both_all (Some m) (Some n) h = all_on m n h
both_all None (Some n) h = absurd h
both_all (Some m) None h = absurd h

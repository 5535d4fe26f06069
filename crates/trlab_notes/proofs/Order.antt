-- The order of notes is reflexive and transitive, and a join is the strongest note that is no stronger than
-- two.
use Rattle.std.proofs.Common.{rules, ℕ, ◌≤◌, ◌&&◌, ◌||◌, refl, arith, Bool, true, false, IsTrue}
use Rattle.trlab_code.specs.declared.instruction.{Register.Register, Input.TheVariants.{Limit, Gap}}
use Rattle.trlab_code.specs.declared.instruction.Variable.{Variable}
use Rattle.trlab_code.specs.declared.instruction.Variable.TheVariants as variable
use Rattle.trlab_notes.specs.declared.note.AbstractValue.{AbstractValue, TheVariants.{Unknown, Between}}
use Rattle.trlab_notes.specs.{declared.note.AbstractValue.TheVariants.Implies, Notes.{Note, same_variable}}
use Rattle.trlab_notes.specs.Notes.{with_side, value_with_side, level_between, known_level, join_values, join}
use Rattle.trlab_notes.{specs.Notes.{IsNoMorePrecise, IsNoStronger}, proofs.Fits.{and_left, and_right}}

-- if the first value has a range, the second has a range within it
abbrev pub Wider : AbstractValue → AbstractValue → Type 0
Wider (Between lo hi) (Between least most) = (lo ≤ least) × (most ≤ hi)
Wider (Between lo hi) _ = ⊥
Wider _ _ = Unit {0}

pub wider : (p q : Bool) (s t : AbstractValue) → IsNoMorePrecise (with_side p s) (with_side q t) → Wider s t
wider p q Unknown t h = tt
wider p q (Implies i) t h = tt
wider p q (Between a b) (Between c d) h = h
wider p q (Between a b) Unknown h = h
wider p q (Between a b) (Implies i) h = h

-- wider ranges and a smaller level mean less knowledge
pub known_up : (sx sy tx ty : AbstractValue) (same : Bool) (j k : ℕ) → Wider sx tx → Wider sy ty → j ≤ k →
    level_between sx sy same j ≤ level_between tx ty same k
known_up (Between a b) (Between c d) (Between e f) (Between g h) true j k p q l = omega arith
known_up (Between a b) (Between c d) (Between e f) (Between g h) false j k p q l = grind arith
known_up (Between a b) (Between c d) Unknown ty same j k p q l = absurd p
known_up (Between a b) (Between c d) (Implies i) ty same j k p q l = absurd p
known_up (Between a b) (Between c d) (Between e f) Unknown same j k p q l = absurd q
known_up (Between a b) (Between c d) (Between e f) (Implies i) same j k p q l = absurd q
known_up (Between a b) Unknown tx ty same j k p q l = omega arith
known_up (Between a b) (Implies i) tx ty same j k p q l = omega arith
known_up Unknown sy tx ty same j k p q l = omega arith
known_up (Implies i) sy tx ty same j k p q l = omega arith

-- the same if the level is at most the known level
pub known_from : (sx sy tx ty : AbstractValue) (same : Bool) (j k : ℕ) → Wider sx tx → Wider sy ty → j ≤ level_between tx ty same k →
    level_between sx sy same j ≤ level_between tx ty same k
known_from (Between a b) (Between c d) (Between e f) (Between g h) true j k p q l = omega arith
known_from (Between a b) (Between c d) (Between e f) (Between g h) false j k p q l = grind arith
known_from (Between a b) (Between c d) Unknown ty same j k p q l = absurd p
known_from (Between a b) (Between c d) (Implies i) ty same j k p q l = absurd p
known_from (Between a b) (Between c d) (Between e f) Unknown same j k p q l = absurd q
known_from (Between a b) (Between c d) (Between e f) (Implies i) same j k p q l = absurd q
known_from (Between a b) Unknown tx ty same j k p q l = omega arith
known_from (Between a b) (Implies i) tx ty same j k p q l = omega arith
known_from Unknown sy tx ty same j k p q l = omega arith
known_from (Implies i) sy tx ty same j k p q l = omega arith

no_more_same : (s : AbstractValue) → IsNoMorePrecise s s
no_more_same Unknown = tt
no_more_same (Between a b) = (omega arith, omega arith)
no_more_same (Implies i) = λ h. h

no_more_twice : (r s t : AbstractValue) → IsNoMorePrecise r s → IsNoMorePrecise s t → IsNoMorePrecise r t
no_more_twice Unknown s t p q = tt
no_more_twice (Between a b) (Between c d) (Between e f) p q = (omega arith, omega arith)
no_more_twice (Between a b) (Between c d) Unknown p q = q
no_more_twice (Between a b) (Between c d) (Implies i) p q = q
no_more_twice (Between a b) Unknown t p q = absurd p
no_more_twice (Between a b) (Implies i) t p q = absurd p
no_more_twice (Implies i) (Implies j) (Implies k) p q = λ h. q (p h)
no_more_twice (Implies i) (Implies j) Unknown p q = q
no_more_twice (Implies i) (Implies j) (Between c d) p q = q
no_more_twice (Implies i) Unknown t p q = absurd p
no_more_twice (Implies i) (Between c d) t p q = absurd p

pub same_note : (m : Note) → IsNoStronger m m
same_note m = record { values = λ x. no_more_same (value_with_side m x); order = λ x y. omega arith; beside = λ h. h }

pub through : (l m n : Note) → IsNoStronger l m → IsNoStronger m n → IsNoStronger l n
through l m n f g = record {
  values = λ x. no_more_twice (value_with_side l x) (value_with_side m x) (value_with_side n x) (f.values x) (g.values x);
  order = λ x y. omega (arith, f.order x y, g.order x y);
  beside = λ h. g.beside (f.beside h);
}

-- a join is no stronger than either note
both_first : (p q : Bool) (s t : AbstractValue) → IsNoMorePrecise (with_side (p && q) (join_values (with_side p s) (with_side q t))) (with_side p s)
both_first p q Unknown t = tt
both_first p q (Between a b) (Between c d) = (omega arith, omega arith)
both_first p q (Between a b) Unknown = tt
both_first p q (Between a b) (Implies j) = tt
both_first p q (Implies i) Unknown = tt
both_first p q (Implies i) (Between c d) = tt
both_first p q (Implies true) (Implies j) = λ h. refl
both_first true q (Implies false) (Implies j) = λ h. refl
both_first false q (Implies false) (Implies j) = λ h. h

both_second : (p q : Bool) (s t : AbstractValue) → IsNoMorePrecise (with_side (p && q) (join_values (with_side p s) (with_side q t))) (with_side q t)
both_second p q Unknown t = tt
both_second p q (Between a b) (Between c d) = (omega arith, omega arith)
both_second p q (Between a b) Unknown = tt
both_second p q (Between a b) (Implies j) = tt
both_second p q (Implies i) Unknown = tt
both_second p q (Implies i) (Between c d) = tt
both_second p q (Implies i) (Implies true) = λ h. refl
both_second true true (Implies i) (Implies false) = λ h. refl
both_second p q (Implies i) (Implies false) = λ h. search (rules, h)

-- and as strong as each note that is no stronger than the two
both_most : (r p q : Bool) (u s t : AbstractValue) → (IsTrue r → IsTrue p) → (IsTrue r → IsTrue q) → IsNoMorePrecise (with_side r u) (with_side p s) →
    IsNoMorePrecise (with_side r u) (with_side q t) → IsNoMorePrecise (with_side r u) (with_side (p && q) (join_values (with_side p s) (with_side q t)))
both_most r p q Unknown s t f g h k = tt
both_most r p q (Between a b) (Between c d) (Between e f) _ _ h k = (omega arith, omega arith)
both_most r p q (Between a b) Unknown t f g h k = absurd h
both_most r p q (Between a b) (Implies i) t f g h k = absurd h
both_most r p q (Between a b) (Between c d) Unknown f g h k = absurd k
both_most r p q (Between a b) (Between c d) (Implies i) f g h k = absurd k
both_most r p q (Implies i) (Implies j) (Implies l) f g h k = λ e. and_or _ _ (p && q) (h e) (k e)
  where
    and_or : (a b c : Bool) → IsTrue a → IsTrue b → IsTrue ((a && b) || c)
    and_or true true c x y = refl
    and_or true false c x y = absurd (cc y)
    and_or false b c x y = absurd (cc x)
both_most r p q (Implies i) Unknown t f g h k = absurd h
both_most r p q (Implies i) (Between c d) t f g h k = absurd h
both_most r p q (Implies i) (Implies j) Unknown f g h k = absurd k
both_most r p q (Implies i) (Implies j) (Between c d) f g h k = absurd k

and_both : (p q : Bool) → IsTrue p → IsTrue q → IsTrue (p && q)
and_both true q h k = k
and_both false q h k = h

pub join_first : (m n : Note) → IsNoStronger (join m n) m
unfolding join value_with_side known_level
join_first m n = record {
  values = λ x. both_first m.side n.side (m.values x) (n.values x);
  order = λ x y. (known_from (join_values (with_side m.side (m.values x)) (with_side n.side (n.values x))) (join_values (with_side m.side (m.values y)) (with_side n.side (n.values y))) (m.values x) (m.values y) (same_variable x y) _ (m.level x y)
      (wider (m.side && n.side) m.side _ (m.values x) (both_first m.side n.side (m.values x) (n.values x)))
      (wider (m.side && n.side) m.side _ (m.values y) (both_first m.side n.side (m.values y) (n.values y)))
      (omega arith));
  beside = λ h. and_left m.side n.side h;
}

pub join_second : (m n : Note) → IsNoStronger (join m n) n
unfolding join value_with_side known_level
join_second m n = record {
  values = λ x. both_second m.side n.side (m.values x) (n.values x);
  order = λ x y. (known_from (join_values (with_side m.side (m.values x)) (with_side n.side (n.values x))) (join_values (with_side m.side (m.values y)) (with_side n.side (n.values y))) (n.values x) (n.values y) (same_variable x y) _ (n.level x y)
      (wider (m.side && n.side) n.side _ (n.values x) (both_second m.side n.side (m.values x) (n.values x)))
      (wider (m.side && n.side) n.side _ (n.values y) (both_second m.side n.side (m.values y) (n.values y)))
      (omega arith));
  beside = λ h. and_right m.side n.side h;
}

-- the known level, if both variables are numbers whenever a level is known
level_known : (sx sy tx ty : AbstractValue) (same : Bool) (j k : ℕ) → Wider sx tx → Wider sy ty → level_between sx sy same j ≤ k →
    level_between sx sy same j ≤ level_between tx ty same k
level_known (Between a b) (Between c d) (Between e f) (Between g h) true j k p q l = omega arith
level_known (Between a b) (Between c d) (Between e f) (Between g h) false j k p q l = grind arith
level_known (Between a b) (Between c d) Unknown ty same j k p q l = absurd p
level_known (Between a b) (Between c d) (Implies i) ty same j k p q l = absurd p
level_known (Between a b) (Between c d) (Between e f) Unknown same j k p q l = absurd q
level_known (Between a b) (Between c d) (Between e f) (Implies i) same j k p q l = absurd q
level_known (Between a b) Unknown tx ty same j k p q l = omega arith
level_known (Between a b) (Implies i) tx ty same j k p q l = omega arith
level_known Unknown sy tx ty same j k p q l = omega arith
level_known (Implies i) sy tx ty same j k p q l = omega arith

pub join_most : (l m n : Note) → IsNoStronger l m → IsNoStronger l n → IsNoStronger l (join m n)
unfolding join value_with_side known_level
join_most l m n f g = record {
  values = λ x. both_most l.side m.side n.side (l.values x) (m.values x) (n.values x) f.beside g.beside (f.values x) (g.values x);
  order = λ x y. (level_known (l.values x) (l.values y) (join_values (with_side m.side (m.values x)) (with_side n.side (n.values x))) (join_values (with_side m.side (m.values y)) (with_side n.side (n.values y))) (same_variable x y) (l.level x y) _
      (wider l.side (m.side && n.side) (l.values x) _ (both_most l.side m.side n.side (l.values x) (m.values x) (n.values x) f.beside g.beside (f.values x) (g.values x)))
      (wider l.side (m.side && n.side) (l.values y) _ (both_most l.side m.side n.side (l.values y) (m.values y) (n.values y) f.beside g.beside (f.values y) (g.values y)))
      (omega (arith, f.order x y, g.order x y)));
  beside = λ h. and_both m.side n.side (f.beside h) (g.beside h);
}

-- the variables that are compared: each register, the limit and the gap are among them
pub record Closed (V : Variable → Type 0) : Type 0 where
  pub regs : (r : Register) → V (variable.Register r)
  pub limit : V (variable.Input Limit)
  pub gap : V (variable.Input Gap)

-- no stronger, for these variables
pub record On (V : Variable → Type 0) (m n : Note) : Type 0 where
  pub values : (x : Variable) → V x → IsNoMorePrecise (value_with_side m x) (value_with_side n x)
  pub order : (x y : Variable) → V x → V y → known_level m x y ≤ known_level n x y
  pub beside : IsTrue m.side → IsTrue n.side

module _ (V : Variable → Type 0) (closed : Closed V) where
  pub through_on : (l m n : Note) → On V l m → On V m n → On V l n
  through_on l m n f g = record {
    values = λ x h. no_more_twice (value_with_side l x) (value_with_side m x) (value_with_side n x) (f.values x h) (g.values x h);
    order = λ x y h k. omega (arith, f.order x y h k, g.order x y h k);
    beside = λ h. g.beside (f.beside h);
  }

  pub join_most_on : (l m n : Note) → On V l m → On V l n → On V l (join m n)
  unfolding join value_with_side known_level
  join_most_on l m n f g = record {
    values = λ x h. both_most l.side m.side n.side (l.values x) (m.values x) (n.values x) f.beside g.beside (f.values x h) (g.values x h);
    order = λ x y h k. (level_known (l.values x) (l.values y) (join_values (with_side m.side (m.values x)) (with_side n.side (n.values x))) (join_values (with_side m.side (m.values y)) (with_side n.side (n.values y))) (same_variable x y) (l.level x y) _
        (wider l.side (m.side && n.side) (l.values x) _ (both_most l.side m.side n.side (l.values x) (m.values x) (n.values x) f.beside g.beside (f.values x h) (g.values x h)))
        (wider l.side (m.side && n.side) (l.values y) _ (both_most l.side m.side n.side (l.values y) (m.values y) (n.values y) f.beside g.beside (f.values y k) (g.values y k)))
        (omega (arith, f.order x y h k, g.order x y h k)));
    beside = λ h. and_both m.side n.side (f.beside h) (g.beside h);
  }

-- an empty note is no stronger than any other
pub blank_least : (n : Note) → IsNoStronger (record { values = λ x. Unknown; level = λ x y. 0; side = false }) n
unfolding value_with_side known_level
blank_least n = record { values = λ x. tt; order = λ x y. omega arith; beside = λ h. absurd (cc h) }

-- Abstract values and levels grow with the notes that they come from.
use Rattle.std.proofs.Common.{◌≡◌, ℕ, zero, suc, ◌/◌, ◌≤◌, ◌&&◌, ◌||◌, max, refl, arith, Bool, true, false}
use Rattle.std.proofs.{Common.{IsTrue, nat_eq, div-mul-le_self}, lemmas.Nat.le-div}
use Rattle.trlab_notes.specs.declared.note.AbstractValue.{AbstractValue}
use Rattle.trlab_notes.specs.declared.note.AbstractValue.TheVariants.{Unknown, Between, Implies}
use Rattle.trlab_notes.specs.Notes.{with_side, low, high, implies, level_between, IsNoMorePrecise}
use Rattle.trlab_notes.specs.Transfer.{sharpen, slacken, least_difference, chain}
use Rattle.trlab_notes.{specs.Reasons.{is_unknown, is_range, is_flag}, proofs.Order.Wider}

-- levels
pub sharper_up : (j k l h : ℕ) → j ≤ k → l ≤ h → sharpen j l ≤ sharpen k h
sharper_up zero k l h p q = omega arith
sharper_up (suc j) (suc k) zero zero p q = omega arith
sharper_up (suc j) (suc k) zero (suc h) p q = omega arith
sharper_up (suc j) (suc k) (suc l) (suc h) p q = omega arith
sharper_up (suc j) zero l h p q = absurd (omega arith)
sharper_up (suc j) (suc k) (suc l) zero p q = absurd (omega arith)

pub just_below_up : (j k l h : ℕ) → j ≤ k → h ≤ l → slacken j l ≤ slacken k h
just_below_up j k l h p q = grind arith

pub least_gap_up : (j k : ℕ) → j ≤ k → least_difference j ≤ least_difference k
least_gap_up j k p = grind arith

pub chained_up : (h i k l m : ℕ) → h ≤ i → l ≤ m → chain h k l ≤ chain i k m
chained_up zero i k l m p q = omega arith
chained_up (suc h) i k zero m p q = omega arith
chained_up (suc h) (suc i) k (suc l) (suc m) p q = omega arith
chained_up (suc h) zero k (suc l) m p q = absurd (omega arith)
chained_up (suc h) (suc i) k (suc l) zero p q = absurd (omega arith)

-- abstract values of a variable
pub low_up : (s t : AbstractValue) → Wider s t → low s ≤ low t
low_up Unknown t w = omega arith
low_up (Implies i) t w = omega arith
low_up (Between a b) (Between c d) w = w.0
low_up (Between a b) Unknown w = absurd w
low_up (Between a b) (Implies i) w = absurd w

pub high_down : (s t : AbstractValue) → is_unknown s ≡ false → is_flag s ≡ false → Wider s t → high t ≤ high s
high_down (Between a b) (Between c d) p q w = w.1
high_down (Between a b) Unknown p q w = absurd w
high_down (Between a b) (Implies i) p q w = absurd w
high_down Unknown t p q w = absurd (cc p)
high_down (Implies i) t p q w = absurd (cc q)

pub told_twice : (p q : Bool) (s t : AbstractValue) → IsNoMorePrecise (with_side p s) (with_side q t) →
    IsNoMorePrecise (with_side p (with_side p s)) (with_side q (with_side q t))
told_twice p q Unknown t h = tt
told_twice p q (Between a b) (Between c d) h = h
told_twice p q (Between a b) Unknown h = h
told_twice p q (Between a b) (Implies j) h = h
told_twice p q (Implies i) Unknown h = h
told_twice p q (Implies i) (Between c d) h = h
told_twice true q (Implies i) (Implies true) h = λ e. refl
told_twice true q (Implies true) (Implies false) h = λ e. or_second q (h refl)
  where
    or_second : (b : Bool) → IsTrue b → IsTrue (b || b)
    or_second true e = refl
    or_second false e = e
told_twice true q (Implies false) (Implies false) h = λ e. or_second q (h refl)
  where
    or_second : (b : Bool) → IsTrue b → IsTrue (b || b)
    or_second true e = refl
    or_second false e = e
told_twice false q (Implies true) (Implies j) h = λ e. or_left (j || q) q (h refl)
  where
    or_left : (a b : Bool) → IsTrue a → IsTrue (a || b)
    or_left true b e = refl
    or_left false b e = absurd (cc e)
told_twice false q (Implies false) (Implies j) h = λ e. absurd (cc e)

-- conclusions of a test
pub learnt_level : (sx sy tx ty : AbstractValue) (same : Bool) (j k c d : ℕ) → Wider sx tx → Wider sy ty →
    level_between sx sy same j ≤ level_between tx ty same k → c ≤ d → level_between sx sy same (max j c) ≤ level_between tx ty same (max k d)
learnt_level (Between a b) (Between c d) (Between e f) (Between g h) true j k v w p q l r = omega arith
learnt_level (Between a b) (Between c d) (Between e f) (Between g h) false j k v w p q l r = grind arith
learnt_level (Between a b) (Between c d) Unknown ty same j k v w p q l r = absurd p
learnt_level (Between a b) (Between c d) (Implies i) ty same j k v w p q l r = absurd p
learnt_level (Between a b) (Between c d) (Between e f) Unknown same j k v w p q l r = absurd q
learnt_level (Between a b) (Between c d) (Between e f) (Implies i) same j k v w p q l r = absurd q
learnt_level (Between a b) Unknown tx ty same j k v w p q l r = omega arith
learnt_level (Between a b) (Implies i) tx ty same j k v w p q l r = omega arith
learnt_level Unknown sy tx ty same j k v w p q l r = omega arith
learnt_level (Implies i) sy tx ty same j k v w p q l r = omega arith

-- the conclusion of a flag
pub implies_up : (p q : Bool) (s t : AbstractValue) → IsNoMorePrecise (with_side p s) (with_side q t) → IsTrue (implies (with_side p s)) → IsTrue (implies (with_side q t))
implies_up p q (Implies i) (Implies j) h e = h e
implies_up p q (Implies i) Unknown h e = absurd h
implies_up p q (Implies i) (Between a b) h e = absurd h
implies_up p q Unknown t h e = absurd (cc e)
implies_up p q (Between a b) t h e = absurd (cc e)

pub trust_side : (p q : Bool) (s t : AbstractValue) → (IsTrue p → IsTrue q) → IsNoMorePrecise (with_side p s) (with_side q t) →
    IsTrue (p || implies s) → IsTrue (q || implies t)
trust_side p true s t f h e = refl
trust_side true false s t f h e = absurd (cc (f refl))
trust_side false false (Implies i) (Implies j) f h e = or_false j (h (false_or i e))
  where
    or_false : (j : Bool) → IsTrue (j || false) → IsTrue j
    or_false true e = e
    or_false false e = e

    false_or : (i : Bool) → IsTrue i → IsTrue (i || false)
    false_or true e = e
    false_or false e = e
trust_side false false (Implies i) Unknown f h e = absurd h
trust_side false false (Implies i) (Between a b) f h e = absurd h
trust_side false false Unknown t f h e = absurd (cc e)
trust_side false false (Between a b) t f h e = absurd (cc e)

-- more knowledge of the side cell, for both values
pub more_side : (p q p' q' : Bool) (s t : AbstractValue) → (IsTrue p' → IsTrue q') → (IsTrue q → IsTrue q') → IsNoMorePrecise (with_side p s) (with_side q t) →
    IsNoMorePrecise (with_side p' s) (with_side q' t)
more_side p q p' q' Unknown t f g h = tt
more_side p q p' q' (Between a b) (Between c d) f g h = h
more_side p q p' q' (Between a b) Unknown f g h = h
more_side p q p' q' (Between a b) (Implies j) f g h = h
more_side p q p' q' (Implies i) Unknown f g h = h
more_side p q p' q' (Implies i) (Between c d) f g h = h
more_side p q p' q' (Implies i) (Implies true) f g h = λ e. refl
more_side p q p' q' (Implies true) (Implies false) f g h = λ e. g (h refl)
more_side p q p' q' (Implies false) (Implies false) f g h = f

-- this also holds for 0, because a quotient by 0 is 0
pub div_mono : (a b n : ℕ) → a ≤ b → a / n ≤ b / n
div_mono a b zero h = omega arith
div_mono a b (suc n) h = le-div (a / suc n) b (suc n) (omega arith) (omega (arith, div-mul-le_self a (suc n)))

pub or_up : (p q r s : Bool) → (IsTrue p → IsTrue r) → (IsTrue q → IsTrue s) → IsTrue (p || q) → IsTrue (r || s)
or_up p q true s f g h = refl
or_up true q false s f g h = absurd (cc (f refl))
or_up false q false s f g h = g h

pub and_up : (p q r s : Bool) → (IsTrue p → IsTrue r) → (IsTrue q → IsTrue s) → IsTrue (p && q) → IsTrue (r && s)
and_up true q true s f g h = g h
and_up true q false s f g h = absurd (cc (f refl))
and_up false q r s f g h = absurd (cc h)

-- abstract values of the same type
pub still_set : (p q : Bool) (s t : AbstractValue) → IsNoMorePrecise (with_side p s) (with_side q t) → is_unknown s ≡ false → is_unknown t ≡ false
still_set p q Unknown t h e = absurd (cc e)
still_set p q s (Between a b) h e = refl
still_set p q s (Implies i) h e = refl
still_set p q (Between a b) Unknown h e = absurd h
still_set p q (Implies i) Unknown h e = absurd h

pub still_range : (p q : Bool) (s t : AbstractValue) → IsNoMorePrecise (with_side p s) (with_side q t) → is_unknown s ≡ false → is_flag s ≡ false → is_flag t ≡ false
still_range p q Unknown t h e g = absurd (cc e)
still_range p q (Implies i) t h e g = absurd (cc g)
still_range p q (Between a b) (Between c d) h e g = refl
still_range p q (Between a b) Unknown h e g = absurd h
still_range p q (Between a b) (Implies i) h e g = absurd h

pub still_flag : (p q : Bool) (s t : AbstractValue) → IsNoMorePrecise (with_side p s) (with_side q t) → is_unknown s ≡ false → is_range s ≡ false → is_range t ≡ false
still_flag p q Unknown t h e g = absurd (cc e)
still_flag p q (Between a b) t h e g = absurd (cc g)
still_flag p q (Implies i) (Implies j) h e g = refl
still_flag p q (Implies i) Unknown h e g = absurd h
still_flag p q (Implies i) (Between c d) h e g = absurd h

pub both_false : (p q : Bool) → p ≡ false → q ≡ false → (p || q) ≡ false
both_false p q e h = rw e h

pub still_positive : (j k : ℕ) → j ≤ k → nat_eq j 0 ≡ false → nat_eq k 0 ≡ false
still_positive j k h e = grind (arith, e)

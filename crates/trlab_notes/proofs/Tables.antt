-- Two notes are equal if they agree on all variables.
use Rattle.std.proofs.Common.{◌≡◌, ℕ, zero, suc, ◌<◌, ◌≤◌, refl, sym, ap, subst, arith, List, [], length}
use Rattle.std.proofs.Common.{Bool, true, false, IsTrue, nat_eq, cond, ◌&&◌, ◌||◌, get_or, ◌∙◌, min, max, set}
use Rattle.std.proofs.{Common.{get_or-set_same, get_or-set_other, eqb-true}, lemmas.Nat.Bits.bit_at-lt}
use Rattle.std.proofs.lemmas.Bool.{eqb-false}
use Rattle.trlab_code.specs.declared.{program.Kind.Kind, instruction.Register.Register}
use Rattle.trlab_code.specs.declared.instruction.Input.TheVariants.{Speed, Limit, Headspeed}
use Rattle.trlab_code.specs.{declared.instruction.Variable.Variable, Machine.{variable_number, update}}
use Rattle.trlab_code.specs.declared.instruction.Variable.TheVariants as variable
use mathlib.Core.Path.{fun_ext}
use Rattle.trlab_notes.proofs.Variables.{below as below_variables, at_numbers}
use Rattle.trlab_notes.specs.declared.note.AbstractValue.{AbstractValue, TheVariants.{Unknown, Between}}
use Rattle.trlab_notes.specs.declared.{note.AbstractValue.TheVariants.Implies, rows.StoredNote.StoredNote}
use Rattle.trlab_notes.specs.{declared.rows.LevelRow.LevelRow, Notes.{Note, same_variable, with_side}}
use Rattle.trlab_notes.specs.Notes.{value_with_side, level_between, known_level, range_level, implies}
use Rattle.trlab_notes.specs.Notes.{closure, entry, entry_values, entry_level, IsNoMorePrecise, IsNoStronger}
use Rattle.trlab_notes.specs.{Notes.{join, join_values}, Transfer.{assign, chain, refine_order, refine_flag}}
use Rattle.trlab_notes.specs.Rows.{level_of, level_at, known_level_from, AreValidLevels, IncludesRanges}
use Rattle.trlab_notes.specs.{Rows.IsTransposed, Stored.note_of}
use Rattle.trlab_bounds.specs.declared.programs.TheConstants.{VARIABLES}

pub note_same : (m n : Note) → m.values ≡ n.values → m.level ≡ n.level → m.side ≡ n.side → m ≡ n
note_same m n p q r = λ i. record { values = p i; level = q i; side = r i }

said_set : (l : List AbstractValue) (d : ℕ) (v : AbstractValue) → d < length l → (x : ℕ) (b : Bool) → nat_eq x d ≡ b →
    get_or (set l d v) x Unknown ≡ cond b v (get_or l x Unknown)
said_set l d v h x true e = let p : x ≡ d = eqb-true x d e in subst (λ z. get_or (set l d v) z Unknown ≡ v) (sym p) (get_or-set_same l d v Unknown h)
said_set l d v h x false e = get_or-set_other l d x v Unknown (eqb-false x d e)

-- a note that is stored in this form
abbrev pub made : List AbstractValue → List LevelRow → Bool → Note
made values rows side = record {
  values = λ x. get_or values (variable_number x) Unknown;
  level = λ x y. level_of rows (variable_number x) (variable_number y);
  side = side;
}

pub level_same : (f g : Variable → Variable → ℕ) → ((x y : Variable) → f x y ≡ g x y) → f ≡ g
level_same f g h = fun_ext (λ x. fun_ext (h x))

pub known_unfolds : (m : Note) (x y : Variable) → known_level m x y ≡ level_between (m.values x) (m.values y) (same_variable x y) (m.level x y)
unfolding known_level
known_unfolds m x y = refl

-- the rows of a stored note have all its known levels
pub known_is : (values : List AbstractValue) (rows : List LevelRow) (side : Bool) → IncludesRanges values rows → (x y : Variable) →
    known_level (made values rows side) x y ≡ level_of rows (variable_number x) (variable_number y)
unfolding known_level
known_is values rows side h x y = h (variable_number x) (variable_number y) (below_variables x) (below_variables y)

-- a note is stored if the abstract values are the same and the rows have its known levels
pub closure_is : (values : List AbstractValue) (rows : List LevelRow) (side : Bool) (m : Note) → ((x : Variable) → get_or values (variable_number x) Unknown ≡ m.values x) →
    ((x y : Variable) → level_of rows (variable_number x) (variable_number y) ≡ known_level m x y) → side ≡ m.side → made values rows side ≡ closure m
unfolding closure
closure_is values rows side m hs hl e = note_same _ _ (fun_ext hs) (level_same _ _ hl) e

-- a stored note is its closure
pub stored_is_closed : (values : List AbstractValue) (rows : List LevelRow) (side : Bool) → IncludesRanges values rows → made values rows side ≡ closure (made values rows side)
stored_is_closed values rows side h = closure_is values rows side (made values rows side) (λ x. refl) (λ x y. sym (known_is values rows side h x y)) refl

-- no stored level is above 2
pub level_two : (rows : List LevelRow) (x y : ℕ) → level_of rows x y ≤ 2
level_two rows x y =
    let row = get_or rows x (record { at_most = 0; below = 0 }) in
    let h = bit_at-lt row.at_most y in
    let k = bit_at-lt row.below y in
    omega (arith, h, k)

pub stored_two : (a : StoredNote) (x y : Variable) → known_level (note_of a) x y ≤ 2
stored_two a x y = let e = known_is a.values a.rows a.side a.ranges x y in let h = level_two a.rows (variable_number x) (variable_number y) in omega (arith, e, h)

pub stored_same : (a : StoredNote) → note_of a ≡ closure (note_of a)
stored_same a = stored_is_closed a.values a.rows a.side a.ranges

pub trust_is : (a : StoredNote) (r : Register) (side : Bool) → side ≡ (a.side || implies (get_or a.values (variable_number (variable.Register r)) Unknown)) →
    made a.values a.rows side ≡ closure (refine_flag (note_of a) r)
unfolding refine_flag known_level
trust_is a r side e = closure_is a.values a.rows side _ (λ x. refl) (λ x y. sym (a.ranges (variable_number x) (variable_number y) (below_variables x) (below_variables y))) e

max_twice : (l r : ℕ) → max (max l r) r ≡ max l r
max_twice l r = omega arith

-- a known level that is stored is known again
pub known_twice : (s t : AbstractValue) (same : Bool) (level : ℕ) → level_between s t same (level_between s t same level) ≡ level_between s t same level
known_twice (Between a b) (Between c d) true level = refl
known_twice (Between a b) (Between c d) false level = max_twice level _
known_twice (Between a b) Unknown same level = refl
known_twice (Between a b) (Implies i) same level = refl
known_twice Unknown t same level = refl
known_twice (Implies i) t same level = refl

-- rows of known levels contain the ranges
pub rows_tell : (values : List AbstractValue) (rows : List LevelRow) (level : ℕ → ℕ → ℕ) →
    ((x y : ℕ) → x < VARIABLES → y < VARIABLES → level_of rows x y ≡ level_between (get_or values x Unknown) (get_or values y Unknown) (nat_eq x y) (level x y)) →
    IncludesRanges values rows
rows_tell values rows level h x y lx ly =
    let e = h x y lx ly in
    ap (level_between (get_or values x Unknown) (get_or values y Unknown) (nat_eq x y)) e ∙ known_twice (get_or values x Unknown) (get_or values y Unknown) (nat_eq x y) (level x y) ∙ sym e

-- the note with these abstract values and these levels
pub new_is : (values : List AbstractValue) (rows : List LevelRow) (levels : ℕ → ℕ → ℕ) (side : Bool) →
    ((x y : ℕ) → x < VARIABLES → y < VARIABLES → level_of rows x y ≡ level_between (get_or values x Unknown) (get_or values y Unknown) (nat_eq x y) (levels x y)) →
    made values rows side ≡ closure (record { values = λ x. get_or values (variable_number x) Unknown; level = λ x y. levels (variable_number x) (variable_number y); side = side })
unfolding known_level
new_is values rows levels side h =
    closure_is values rows side _ (λ x. refl) (λ x y. h (variable_number x) (variable_number y) (below_variables x) (below_variables y)) refl

-- a wider range gives a smaller level
range_less : (hi most lo least : ℕ) → hi ≤ most → least ≤ lo → range_level most least ≤ range_level hi lo
range_less hi most lo least h k = grind arith

lesser : (j k r s t : ℕ) → max j s ≡ j → max k t ≡ k → r ≤ s → r ≤ t → max (min j k) r ≡ min j k
lesser j k r s t x y h l = omega (arith, x, y, h, l)

-- the levels of a join are known in both notes
pub both_known : (s u t v : AbstractValue) (p q same : Bool) (j k : ℕ) → level_between s t same j ≡ j → level_between u v same k ≡ k →
    level_between (join_values (with_side p s) (with_side q u)) (join_values (with_side p t) (with_side q v)) same (min j k) ≡ min j k
both_known (Between a b) (Between e f) (Between c d) (Between g h) p q true j k x y = omega (arith, x, y)
both_known (Between a b) (Between e f) (Between c d) (Between g h) p q false j k x y = lesser j k _ _ _ x y (range_less b (max b f) c (min c g) (omega arith) (omega arith)) (range_less f (max b f) g (min c g) (omega arith) (omega arith))
both_known (Between a b) (Between e f) (Between c d) Unknown p q same j k x y = omega (arith, y)
both_known (Between a b) (Between e f) (Between c d) (Implies i) p q same j k x y = omega (arith, y)
both_known (Between a b) (Between e f) Unknown v p q same j k x y = omega (arith, x)
both_known (Between a b) (Between e f) (Implies i) Unknown p q same j k x y = omega (arith, x)
both_known (Between a b) (Between e f) (Implies i) (Between g h) p q same j k x y = omega (arith, x)
both_known (Between a b) (Between e f) (Implies i) (Implies l) p q same j k x y = omega (arith, x)
both_known (Between a b) Unknown t v p q same j k x y = omega (arith, y)
both_known (Between a b) (Implies l) t v p q same j k x y = omega (arith, y)
both_known Unknown u t v p q same j k x y = omega (arith, x)
both_known (Implies i) Unknown t v p q same j k x y = omega (arith, x)
both_known (Implies i) (Between e f) t v p q same j k x y = omega (arith, x)
both_known (Implies i) (Implies l) t v p q same j k x y = omega (arith, x)

-- the variables of a join are those of both notes
abbrev SaidByBoth : StoredNote → StoredNote → List AbstractValue → Type 0
SaidByBoth a b values = (x : ℕ) → x < VARIABLES → get_or values x Unknown ≡ join_values (with_side a.side (get_or a.values x Unknown)) (with_side b.side (get_or b.values x Unknown))

-- and its levels are the smaller ones
abbrev LevelsOfBoth : StoredNote → StoredNote → List LevelRow → Type 0
LevelsOfBoth a b rows = (x y : ℕ) → x < VARIABLES → y < VARIABLES → level_of rows x y ≡ min (level_of a.rows x y) (level_of b.rows x y)

pub join_is : (a b : StoredNote) (values : List AbstractValue) (rows : List LevelRow) (side : Bool) → SaidByBoth a b values → LevelsOfBoth a b rows →
    side ≡ (a.side && b.side) → made values rows side ≡ join (note_of a) (note_of b)
unfolding join value_with_side
join_is a b values rows side hs hl e =
    note_same _ _ (fun_ext (λ x. hs (variable_number x) (below_variables x))) (level_same _ _ (λ x y. hl (variable_number x) (variable_number y) (below_variables x) (below_variables y) ∙ least_same (known_is a.values a.rows a.side a.ranges x y) (known_is b.values b.rows b.side b.ranges x y))) e
  where
    least_same : {i j k l : ℕ} → i ≡ j → k ≡ l → min j l ≡ min i k
    least_same p q = λ z. min (sym p z) (sym q z)

pub join_tells : (a b : StoredNote) (values : List AbstractValue) (rows : List LevelRow) → SaidByBoth a b values → LevelsOfBoth a b rows → IncludesRanges values rows
join_tells a b values rows hs hl x y lx ly =
    rw (hs x lx, hs y ly, hl x y lx ly) (both_known (get_or a.values x Unknown) (get_or b.values x Unknown) (get_or a.values y Unknown) (get_or b.values y Unknown) a.side b.side (nat_eq x y) (level_of a.rows x y) (level_of b.rows x y) (a.ranges x y lx ly) (b.ranges x y lx ly))

-- the columns have the smaller levels if the rows have them
pub join_back : (a b : StoredNote) (rows columns : List LevelRow) →
    ((x y : ℕ) → x < VARIABLES → y < VARIABLES → level_of rows x y ≡ min (level_of a.rows x y) (level_of b.rows x y)) →
    ((x y : ℕ) → x < VARIABLES → y < VARIABLES → level_of columns x y ≡ min (level_of a.columns x y) (level_of b.columns x y)) →
    IsTransposed rows columns
join_back a b rows columns h k x y lx ly =
    let e = h x y lx ly in
    let f = k y x ly lx in
    omega (arith, e, f, a.transposed x y lx ly, b.transposed x y lx ly)

-- a join with itself
twice : (b : Bool) → b ≡ (b && b)
twice true = refl
twice false = refl

least : (k : ℕ) → k ≡ min k k
least k = omega arith

pub join_itself_is : (a : StoredNote) (values : List AbstractValue) → SaidByBoth a a values → made values a.rows a.side ≡ join (note_of a) (note_of a)
join_itself_is a values h = join_is a a values a.rows a.side h (λ x y lx ly. least (level_of a.rows x y)) (twice a.side)

pub join_itself_tells : (a : StoredNote) (values : List AbstractValue) → SaidByBoth a a values → IncludesRanges values a.rows
join_itself_tells a values h = join_tells a a values a.rows h (λ x y lx ly. least (level_of a.rows x y))

-- the rows after a write
module _ (a : StoredNote) (d : ℕ) (s : AbstractValue) (to from : ℕ → ℕ) (rows : List LevelRow) (row column : ℕ → ℕ) (inside : d < VARIABLES) (variables : length a.values ≡ VARIABLES) (hr : (y : ℕ) → y < VARIABLES → row y ≡ level_between (get_or (set a.values d s) d Unknown) (get_or (set a.values d s) y Unknown) (nat_eq d y) (to y)) (hc : (x : ℕ) → x < VARIABLES → column x ≡ level_between (get_or (set a.values d s) x Unknown) (get_or (set a.values d s) d Unknown) (nat_eq x d) (from x)) (h : (x y : ℕ) → x < VARIABLES → y < VARIABLES → level_of rows x y ≡ cond (nat_eq x d) (row y) (cond (nat_eq y d) (column x) (level_of a.rows x y))) where
  abbrev level : ℕ → ℕ → ℕ
  level x y = cond (nat_eq x d) (to y) (cond (nat_eq y d) (from x) (level_of a.rows x y))

  abbrev now : ℕ → AbstractValue
  now x = get_or (set a.values d s) x Unknown

  other : (x : ℕ) → nat_eq x d ≡ false → now x ≡ get_or a.values x Unknown
  other x e = said_set a.values d s (omega (arith, inside, variables)) x false e

  after_level : (x y : ℕ) → x < VARIABLES → y < VARIABLES → (b c : Bool) → nat_eq x d ≡ b → nat_eq y d ≡ c →
      cond b (row y) (cond c (column x) (level_of a.rows x y)) ≡ level_between (now x) (now y) (nat_eq x y) (cond b (to y) (cond c (from x) (level_of a.rows x y)))
  after_level x y lx ly true c e f = let same : x ≡ d = eqb-true x d e in rw same (hr y ly)
  after_level x y lx ly false true e f = let same : y ≡ d = eqb-true y d f in rw same (hc x lx)
  after_level x y lx ly false false e f = rw (other x e, other y f) (sym (a.ranges x y lx ly))

  after_known : (x y : ℕ) → x < VARIABLES → y < VARIABLES → level_of rows x y ≡ level_between (now x) (now y) (nat_eq x y) (level x y)
  after_known x y lx ly = h x y lx ly ∙ after_level x y lx ly (nat_eq x d) (nat_eq y d) refl refl

  pub after_tells : IncludesRanges (set a.values d s) rows
  after_tells = rows_tell (set a.values d s) rows level after_known

  pub after_is : (r : Register) (below above : Variable → ℕ) → d ≡ variable_number (variable.Register r) → ((y : Variable) → to (variable_number y) ≡ below y) →
      ((x : Variable) → from (variable_number x) ≡ above x) → made (set a.values d s) rows a.side ≡ closure (assign (note_of a) r s below above)
  unfolding assign update known_level
  after_is r below above ed eto efrom = closure_is (set a.values d s) rows a.side _ said_now (λ x y. after_known (variable_number x) (variable_number y) (is_below x) (is_below y) ∙ at x y) refl
    where
      is_below : (x : Variable) → variable_number x < VARIABLES
      is_below = below_variables

      said_now : (x : Variable) → now (variable_number x) ≡ cond (nat_eq (variable_number x) (variable_number (variable.Register r))) s (get_or a.values (variable_number x) Unknown)
      said_now x = said_set a.values d s (omega (arith, inside, variables)) (variable_number x) (nat_eq (variable_number x) d) refl ∙ ap (λ k. cond (nat_eq (variable_number x) k) s (get_or a.values (variable_number x) Unknown)) ed

      at : (x y : Variable) → level_between (now (variable_number x)) (now (variable_number y)) (nat_eq (variable_number x) (variable_number y)) (level (variable_number x) (variable_number y))
          ≡ known_level (assign (note_of a) r s below above) x y
      at x y = λ i. level_between (said_now x i) (said_now y i) (nat_eq (variable_number x) (variable_number y)) (cond (nat_eq (variable_number x) (ed i)) (eto y i) (cond (nat_eq (variable_number y) (ed i)) (efrom x i) (level_of a.rows (variable_number x) (variable_number y))))

-- the level of a variable to itself
pub corner : (s : AbstractValue) (d j k : ℕ) → level_between s s (nat_eq d d) j ≡ level_between s s (nat_eq d d) k
corner s d j k = at s (nat_eq d d) (grind arith)
  where
    at : (s : AbstractValue) (b : Bool) → b ≡ true → level_between s s b j ≡ level_between s s b k
    at Unknown b e = refl
    at (Implies i) b e = refl
    at (Between a c) true e = refl
    at (Between a c) false e = absurd (cc e)

-- the columns after a write are its rows, transposed
pub after_back : (a : StoredNote) (d : ℕ) (rows columns : List LevelRow) (row column : ℕ → ℕ) → row d ≡ column d →
    ((x y : ℕ) → x < VARIABLES → y < VARIABLES → level_of rows x y ≡ cond (nat_eq x d) (row y) (cond (nat_eq y d) (column x) (level_of a.rows x y))) →
    ((x y : ℕ) → x < VARIABLES → y < VARIABLES → level_of columns x y ≡ cond (nat_eq x d) (column y) (cond (nat_eq y d) (row x) (level_of a.columns x y))) →
    IsTransposed rows columns
after_back a d rows columns row column e h k x y lx ly = k y x ly lx ∙ at (nat_eq x d) (nat_eq y d) refl refl ∙ sym (h x y lx ly)
  where
    at : (b c : Bool) → nat_eq x d ≡ b → nat_eq y d ≡ c → cond c (column x) (cond b (row y) (level_of a.columns y x)) ≡ cond b (row y) (cond c (column x) (level_of a.rows x y))
    at true true p q = let px : x ≡ d = eqb-true x d p in let py : y ≡ d = eqb-true y d q in rw (px, py) (sym e)
    at true false p q = refl
    at false true p q = refl
    at false false p q = a.transposed x y lx ly

-- a level that follows from others, for numbers only
chain_zero : (i k : ℕ) → chain i k 0 ≡ 0
chain_zero zero k = refl
chain_zero (suc i) k = refl

chain_back : (i k j : ℕ) → chain i k j ≡ chain j k i
chain_back zero k zero = refl
chain_back zero k (suc j) = refl
chain_back (suc i) k zero = refl
chain_back (suc i) k (suc j) = omega arith

vanish : (same : Bool) (l c : ℕ) → 0 ≡ l → c ≡ 0 → cond same l (max l c) ≡ 0
vanish true l c h e = sym h
vanish false l c h e = omega (arith, h, e)

to_nothing : (v : AbstractValue) (c : Bool) (m : ℕ) → level_between v Unknown c m ≡ 0
to_nothing Unknown c m = refl
to_nothing (Between a b) c m = refl
to_nothing (Implies i) c m = refl

to_flag : (v : AbstractValue) (f c : Bool) (m : ℕ) → level_between v (Implies f) c m ≡ 0
to_flag Unknown f c m = refl
to_flag (Between a b) f c m = refl
to_flag (Implies i) f c m = refl

learn_level : (s t u v : AbstractValue) (same b c : Bool) (l i j k n m : ℕ) → level_between s t same l ≡ l → i ≡ level_between s u b n → j ≡ level_between v t c m →
    cond same l (max l (chain i k j)) ≡ level_between s t same (max l (chain i k j))
learn_level (Between x y) (Between z w) u v true b c l i j k n m h p q = sym h
learn_level (Between x y) (Between z w) u v false b c l i j k n m h p q = keep l _ (chain i k j) h
  where
    keep : (l r c : ℕ) → max l r ≡ l → max l c ≡ max (max l c) r
    keep l r c h = omega (arith, h)
learn_level (Between x y) Unknown u v same b c l i j k n m h p q = vanish same l _ h (ap (chain i k) (q ∙ to_nothing v c m) ∙ chain_zero i k)
learn_level (Between x y) (Implies f) u v same b c l i j k n m h p q = vanish same l _ h (ap (chain i k) (q ∙ to_flag v f c m) ∙ chain_zero i k)
learn_level Unknown t u v same b c l i j k n m h p q = vanish same l _ h (ap (λ z. chain z k j) p)
learn_level (Implies f) t u v same b c l i j k n m h p q = vanish same l _ h (ap (λ z. chain z k j) p)

swap : (l : ℕ → ℕ → ℕ) (x y c : ℕ) (b d : Bool) → nat_eq y x ≡ b → nat_eq x y ≡ d →
    cond b (l x x) (max (l x y) c) ≡ cond d (l x y) (max (l x y) c)
swap l x y c true true e f = ap (l x) (sym (eqb-true y x e))
swap l x y c true false e f = absurd (eqb-false x y f (sym (eqb-true y x e)))
swap l x y c false true e f = absurd (eqb-false y x e (sym (eqb-true x y f)))
swap l x y c false false e f = refl

-- the rows after a test
module _ (a : StoredNote) (p q k : ℕ) (rows : List LevelRow) (lp : p < VARIABLES) (lq : q < VARIABLES) (h : (x y : ℕ) → x < VARIABLES → y < VARIABLES → level_of rows x y ≡ cond (nat_eq y x) (level_of a.rows x x) (max (level_of a.rows x y) (chain (level_of a.columns p x) k (level_of a.rows q y)))) where
  abbrev more : ℕ → ℕ → ℕ
  more x y = max (level_of a.rows x y) (chain (level_of a.columns p x) k (level_of a.rows q y))

  learn_known : (x y : ℕ) → x < VARIABLES → y < VARIABLES → level_of rows x y ≡ level_between (get_or a.values x Unknown) (get_or a.values y Unknown) (nat_eq x y) (more x y)
  learn_known x y lx ly =
      h x y lx ly ∙ swap (level_of a.rows) x y _ (nat_eq y x) (nat_eq x y) refl refl
      ∙ learn_level (get_or a.values x Unknown) (get_or a.values y Unknown) (get_or a.values p Unknown) (get_or a.values q Unknown) (nat_eq x y) (nat_eq x p) (nat_eq q y) (level_of a.rows x y) (level_of a.columns p x) (level_of a.rows q y) k (level_of a.rows x p) (level_of a.rows q y) (a.ranges x y lx ly) (a.transposed x p lx lp ∙ sym (a.ranges x p lx lp)) (sym (a.ranges q y lq ly))

  pub learn_tells : IncludesRanges a.values rows
  learn_tells = rows_tell a.values rows more learn_known

  module _ (u v : Variable) (eu : p ≡ variable_number u) (ev : q ≡ variable_number v) where
    known_refined : (x y : Variable) → known_level (refine_order (note_of a) u v k) x y ≡ level_between (get_or a.values (variable_number x) Unknown) (get_or a.values (variable_number y) Unknown) (same_variable x y) (more (variable_number x) (variable_number y))
    unfolding refine_order
    known_refined x y =
        known_unfolds (refine_order (note_of a) u v k) x y
        ∙ alike (get_or a.values (variable_number x) Unknown) (get_or a.values (variable_number y) Unknown) (same_variable x y) (level_of a.rows (variable_number x) (variable_number y))
        (known_is a.values a.rows a.side a.ranges x u ∙ sym (ap (level_of a.rows (variable_number x)) eu) ∙ sym (a.transposed (variable_number x) p (below_variables x) lp))
        (known_is a.values a.rows a.side a.ranges v y ∙ sym (ap (λ z. level_of a.rows z (variable_number y)) ev))
      where
        alike : (s t : AbstractValue) (same : Bool) (l : ℕ) {i j m n : ℕ} → i ≡ j → m ≡ n → level_between s t same (max l (chain i k m)) ≡ level_between s t same (max l (chain j k n))
        alike s t same l e f = λ z. level_between s t same (max l (chain (e z) k (f z)))

    pub learn_is : made a.values rows a.side ≡ closure (refine_order (note_of a) u v k)
    unfolding refine_order
    learn_is = closure_is a.values rows a.side _ (λ x. refl) (λ x y. learn_known (variable_number x) (variable_number y) (below_variables x) (below_variables y) ∙ sym (known_refined x y)) refl

-- the columns after a test are its rows, transposed
pub learn_back : (a : StoredNote) (p q k : ℕ) (rows columns : List LevelRow) →
    ((x y : ℕ) → x < VARIABLES → y < VARIABLES → level_of rows x y ≡ cond (nat_eq y x) (level_of a.rows x x) (max (level_of a.rows x y) (chain (level_of a.columns p x) k (level_of a.rows q y)))) →
    ((x y : ℕ) → x < VARIABLES → y < VARIABLES → level_of columns x y ≡ cond (nat_eq y x) (level_of a.columns x x) (max (level_of a.columns x y) (chain (level_of a.rows q x) k (level_of a.columns p y)))) →
    IsTransposed rows columns
learn_back a p q k rows columns h g x y lx ly =
    g y x ly lx ∙ swap (level_of a.columns) y x _ (nat_eq x y) (nat_eq y x) refl refl
    ∙ at (nat_eq y x) (a.transposed x y lx ly) (chain_back (level_of a.rows q y) k (level_of a.columns p x))
    ∙ sym (h x y lx ly ∙ swap (level_of a.rows) x y _ (nat_eq y x) (nat_eq x y) refl refl ∙ ap (λ b. cond b (level_of a.rows x y) (max (level_of a.rows x y) (chain (level_of a.columns p x) k (level_of a.rows q y)))) (turned (nat_eq x y) (nat_eq y x) refl refl))
  where
    at : (b : Bool) {l m c d : ℕ} → l ≡ m → c ≡ d → cond b l (max l c) ≡ cond b m (max m d)
    at b e f = λ i. cond b (e i) (max (e i) (f i))

    turned : (b c : Bool) → nat_eq x y ≡ b → nat_eq y x ≡ c → b ≡ c
    turned true true e f = refl
    turned false false e f = refl
    turned true false e f = absurd (eqb-false y x f (sym (eqb-true x y e)))
    turned false true e f = absurd (eqb-false x y e (sym (eqb-true y x f)))

-- the note of the first instruction
abbrev AreEntryLevels : List (List ℕ) → Type 0
AreEntryLevels levels = (x y : Variable) → get_or (get_or levels (variable_number x) []) (variable_number y) 0 ≡ entry_level x y

pub entry_is : (kind : Kind) (values : List AbstractValue) (levels : List (List ℕ)) → ((x : Variable) → get_or values (variable_number x) Unknown ≡ entry_values kind x) →
    AreEntryLevels levels →
    closure (record { values = λ x. get_or values (variable_number x) Unknown; level = λ x y. get_or (get_or levels (variable_number x) []) (variable_number y) 0; side = false }) ≡ closure (entry kind)
unfolding entry
entry_is kind values levels h k = ap closure (note_same _ _ (fun_ext h) (level_same _ _ k) refl)

entry_small : (s t : AbstractValue) (same : Bool) (l : ℕ) → l ≤ 1 → level_between s t same l ≤ 2
entry_small (Between a b) (Between c d) true l h = omega arith
entry_small (Between a b) (Between c d) false l h = grind arith
entry_small (Between a b) Unknown same l h = omega arith
entry_small (Between a b) (Implies i) same l h = omega arith
entry_small Unknown t same l h = omega arith
entry_small (Implies i) t same l h = omega arith

entry_one : (x y : Variable) → entry_level x y ≤ 1
entry_one (variable.Input Speed) (variable.Input Limit) = omega arith
entry_one (variable.Input Headspeed) (variable.Input Limit) = omega arith
entry_one x y = omega arith

pub entry_fits : (values : List AbstractValue) (levels : List (List ℕ)) → AreEntryLevels levels → AreValidLevels values levels
entry_fits values levels h x y lx ly =
    at_numbers (λ j. known_level_from values j y (level_at levels j y) ≤ 2)
    (λ u. at_numbers (λ k. known_level_from values (variable_number u) k (level_at levels (variable_number u) k) ≤ 2)
    (λ v. subst (λ z. known_level_from values (variable_number u) (variable_number v) z ≤ 2) (sym (h u v)) (entry_small _ _ _ (entry_level u v) (entry_one u v))) y ly)
    x lx

-- a note is no stronger than another if its tables contain no more
pub no_stronger : (m n : StoredNote) →
    ((x : ℕ) → x < VARIABLES → IsNoMorePrecise (with_side m.side (get_or m.values x Unknown)) (with_side n.side (get_or n.values x Unknown))) →
    ((x y : ℕ) → x < VARIABLES → y < VARIABLES → level_of m.rows x y ≤ level_of n.rows x y) → (IsTrue m.side → IsTrue n.side) →
    IsNoStronger (note_of m) (note_of n)
unfolding value_with_side
no_stronger m n f g h = record {
  values = λ x. f (variable_number x) (below_variables x);
  order = λ x y. let l = g (variable_number x) (variable_number y) (below_variables x) (below_variables y) in omega (arith, l, known_is m.values m.rows m.side m.ranges x y, known_is n.values n.rows n.side n.ranges x y);
  beside = h;
}

pub no_stronger_said : (m n : StoredNote) → IsNoStronger (note_of m) (note_of n) → (x : ℕ) → x < VARIABLES →
    IsNoMorePrecise (with_side m.side (get_or m.values x Unknown)) (with_side n.side (get_or n.values x Unknown))
unfolding value_with_side
no_stronger_said m n h = at_numbers (λ x. IsNoMorePrecise (with_side m.side (get_or m.values x Unknown)) (with_side n.side (get_or n.values x Unknown))) h.values

pub no_stronger_levels : (m n : StoredNote) → IsNoStronger (note_of m) (note_of n) → (x y : ℕ) → x < VARIABLES → y < VARIABLES → level_of m.rows x y ≤ level_of n.rows x y
no_stronger_levels m n h x y lx ly =
    at_numbers (λ j. level_of m.rows j y ≤ level_of n.rows j y)
    (λ u. at_numbers (λ k. level_of m.rows (variable_number u) k ≤ level_of n.rows (variable_number u) k)
    (λ v. omega (arith, h.order u v, known_is m.values m.rows m.side m.ranges u v, known_is n.values n.rows n.side n.ranges u v)) y ly)
    x lx

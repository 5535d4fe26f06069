-- A step of a ring, cell by cell along its chain.
use Rattle.std.proofs.Common.{◌≡◌, ℕ, zero, suc, ◌+◌, ◌-◌, ◌%◌, ◌<◌, ◌≤◌, Bool, true, false, [], ◌∷◌, length}
use Rattle.std.proofs.Common.{get_or, refl, sym, ◌∙◌, ap, inl, inr, arith, mod-eq_of_lt}
use Rattle.std.proofs.{Math.Nat.{mod_self, add-mod_right}, lemmas.{Bool.cases_lt, List.FromFn.fill_by_all}}
use Rattle.trlab_road.specs.Gaps.{ahead, behind}
use Rattle.trlab_traffic.specs.LimitOne.{Ring, StepsKeepCars, is_in, is_moving_car, is_taken_after}
use Rattle.trlab_traffic.specs.LimitOne.{ring_after, is_same}
use Rattle.trlab_traffic.proofs.Chains.{bit, kept, leaves, size_is, trues}

-- the cells after a step of a chain: `came` is whether a car comes before it, and `first` is the cell ahead
-- of it
abbrev pub cells : Bool → Bool → Ring → Ring → Ring
cells first came [] _ = []
cells first came (own ∷ old) [] = []
cells first came (own ∷ old) (brake ∷ braking) =
    kept own (leaves own (get_or old 0 first) brake) came ∷ cells first (leaves own (get_or old 0 first) brake) old braking

-- does a car leave the chain at its end?
abbrev pub leaving : Bool → Bool → Ring → Ring → Bool
leaving first came [] _ = came
leaving first came (own ∷ old) [] = came
leaving first came (own ∷ old) (brake ∷ braking) = leaving first (leaves own (get_or old 0 first) brake) old braking

-- does the car of a place leave it?
abbrev pub going : Bool → Ring → Ring → ℕ → Bool
going first old braking x = leaves (get_or old x false) (get_or old (suc x) first) (get_or braking x false)

abbrev pub coming : Bool → Bool → Ring → Ring → ℕ → Bool
coming first came old braking zero = came
coming first came old braking (suc x) = going first old braking x

coming_on : (first came own brake : Bool) (old braking : Ring) (x : ℕ)
    → coming first (leaves own (get_or old 0 first) brake) old braking x ≡ coming first came (own ∷ old) (brake ∷ braking) (suc x)
coming_on first came own brake old braking zero = refl
coming_on first came own brake old braking (suc x) = refl

-- the cells by place
pub cells_at : (first came : Bool) (old braking : Ring) (x : ℕ) (d : Bool) → length braking ≡ length old → x < length old
    → get_or (cells first came old braking) x d ≡ kept (get_or old x false) (going first old braking x) (coming first came old braking x)
cells_at first came [] braking x d long low = absurd (omega (arith, low))
cells_at first came (own ∷ old) [] x d long low = absurd (omega (arith, long))
cells_at first came (own ∷ old) (brake ∷ braking) zero d long low = refl
cells_at first came (own ∷ old) (brake ∷ braking) (suc x) d long low =
    cells_at first (leaves own (get_or old 0 first) brake) old braking x d (omega (arith, long)) (omega (arith, low))
    ∙ ap (kept (get_or old x false) (going first old braking x)) (coming_on first came own brake old braking x)

pub cells_long : (first came : Bool) (old braking : Ring) → length braking ≡ length old → length (cells first came old braking) ≡ length old
cells_long first came [] braking long = refl
cells_long first came (own ∷ old) [] long = absurd (omega (arith, long))
cells_long first came (own ∷ old) (brake ∷ braking) long = ap suc (cells_long first (leaves own (get_or old 0 first) brake) old braking (omega (arith, long)))

-- the end by place
leaving_is : (first came : Bool) (old braking : Ring) → length braking ≡ length old → leaving first came old braking ≡ coming first came old braking (length old)
leaving_is first came [] braking long = refl
leaving_is first came (own ∷ old) [] long = absurd (omega (arith, long))
leaving_is first came (own ∷ old) (brake ∷ braking) long =
    leaving_is first (leaves own (get_or old 0 first) brake) old braking (omega (arith, long))
    ∙ coming_on first came own brake old braking (length old)

-- the cell ahead on the ring
within : (ring : Ring) (x : ℕ) (d e : Bool) → x < length ring → get_or ring x d ≡ get_or ring x e
within [] x d e low = absurd (omega (arith, low))
within (own ∷ ring) zero d e low = refl
within (own ∷ ring) (suc x) d e low = within ring x d e (omega (arith, low))

past : (ring : Ring) (x : ℕ) (d : Bool) → length ring ≤ x → get_or ring x d ≡ d
past [] x d high = refl
past (own ∷ ring) zero d high = absurd (omega (arith, high))
past (own ∷ ring) (suc x) d high = past ring x d (omega (arith, high))

pub next_on_ring : (ring : Ring) (x : ℕ) → x < length ring → is_in ring (ahead (length ring) x 1) ≡ get_or ring (suc x) (get_or ring 0 false)
next_on_ring ring x low =
    let one : x + 1 ≡ suc x = omega arith in
    elim (cases_lt (suc x) (length ring)) [
      | inl more ↦
          ap (λ k. is_in ring (k % length ring)) one ∙ ap (is_in ring) (mod-eq_of_lt more)
          ∙ within ring (suc x) false (get_or ring 0 false) more
      | inr end ↦
          let e : x + 1 ≡ length ring = omega (arith, low, end) in
          ap (λ k. is_in ring (k % length ring)) e ∙ ap (is_in ring) (mod_self (length ring))
          ∙ sym (past ring (suc x) (get_or ring 0 false) end)
    ]

-- a car moves on the ring as along the chain
pub moves_is : (ring braking : Ring) (x : ℕ) → x < length ring → is_moving_car ring braking x ≡ going (get_or ring 0 false) ring braking x
moves_is ring braking x low = ap (λ next. leaves (get_or ring x false) next (get_or braking x false)) (next_on_ring ring x low)

-- the cell behind on the ring
behind_first : (n : ℕ) → behind (suc n) 0 1 ≡ n
behind_first n = let e : 0 + (suc n - 1) ≡ n = omega arith in ap (λ k. k % suc n) e ∙ mod-eq_of_lt (let k : n < suc n = omega arith in k)

behind_next : (n x : ℕ) → suc x < n → behind n (suc x) 1 ≡ x
behind_next n x low =
    let e : suc x + (n - 1) ≡ x + n = omega (arith, low) in
    ap (λ k. k % n) e ∙ add-mod_right x n ∙ mod-eq_of_lt (let k : x < n = omega (arith, low) in k)

comes_is : (ring braking : Ring) (x : ℕ) → length braking ≡ length ring → x < length ring
    → is_moving_car ring braking (behind (length ring) x 1) ≡ coming (get_or ring 0 false) (leaving (get_or ring 0 false) false ring braking) ring braking x
comes_is [] braking x long low = absurd (omega (arith, low))
comes_is (own ∷ old) braking zero long low =
    ap (is_moving_car (own ∷ old) braking) (behind_first (length old))
    ∙ moves_is (own ∷ old) braking (length old) (omega arith)
    ∙ sym (leaving_is own false (own ∷ old) braking long)
comes_is (own ∷ old) braking (suc x) long low =
    ap (is_moving_car (own ∷ old) braking) (behind_next (length (own ∷ old)) x low)
    ∙ moves_is (own ∷ old) braking x (omega (arith, low))

-- so a step of the ring is one of its chain
pub ring_after_is : (ring braking : Ring) → length braking ≡ length ring
    → ring_after ring braking ≡ cells (get_or ring 0 false) (leaving (get_or ring 0 false) false ring braking) ring braking
ring_after_is ring braking long =
    let first = get_or ring 0 false in
    let came = leaving first false ring braking in
    sym (fill_by_all (is_taken_after ring braking) (cells first came ring braking) (length ring) false (cells_long first came ring braking long)
    (λ x low. cells_at first came ring braking x false long low
    ∙ ap (λ m. kept (get_or ring x false) m (coming first came ring braking x)) (sym (moves_is ring braking x low))
    ∙ ap (kept (get_or ring x false) (is_moving_car ring braking x)) (sym (comes_is ring braking x long low))))

-- the number of cars is preserved
bit_first : (b : Bool) (r : Ring) → trues (b ∷ r) ≡ bit b + trues r
bit_first false r = omega arith
bit_first true r = omega arith

one_cell : (own next brake came : Bool) → (came ≡ true → own ≡ false) → bit (kept own (leaves own next brake) came) + bit (leaves own next brake) ≡ bit own + bit came
one_cell false next brake false alone = refl
one_cell false next brake true alone = refl
one_cell true false false false alone = refl
one_cell true false true false alone = refl
one_cell true true false false alone = refl
one_cell true true true false alone = refl
one_cell true next brake true alone = let e = alone refl in absurd cc

free_ahead : (own next brake : Bool) → leaves own next brake ≡ true → next ≡ false
free_ahead own false brake h = refl
free_ahead false true brake h = absurd cc
free_ahead true true brake h = absurd cc

conserve : (first came : Bool) (old braking : Ring) → length braking ≡ length old → (came ≡ true → get_or old 0 first ≡ false)
    → trues (cells first came old braking) + bit (leaving first came old braking) ≡ trues old + bit came
conserve first came [] braking long alone = refl
conserve first came (own ∷ old) [] long alone = absurd (omega (arith, long))
conserve first came (own ∷ old) (brake ∷ braking) long alone =
    let next = get_or old 0 first in
    let left = leaves own next brake in
    let rest = conserve first left old braking (omega (arith, long)) (free_ahead own next brake) in
    let one = one_cell own next brake came alone in
    let a = bit_first (kept own left came) (cells first left old braking) in
    let b = bit_first own old in
    omega (arith, rest, one, a, b)

leaving_free : (first came own : Bool) (old braking : Ring) → length braking ≡ suc (length old) → leaving first came (own ∷ old) braking ≡ true → first ≡ false
leaving_free first came own old [] long h = absurd (omega (arith, long))
leaving_free first came own [] (brake ∷ []) long h = free_ahead own first brake h
leaving_free first came own [] (brake ∷ other ∷ braking) long h = absurd (omega (arith, long))
leaving_free first came own (next ∷ old) (brake ∷ braking) long h = leaving_free first (leaves own next brake) next old braking (omega (arith, long)) h

pub cells_kept : (ring braking : Ring) → length braking ≡ length ring
    → trues (cells (get_or ring 0 false) (leaving (get_or ring 0 false) false ring braking) ring braking) ≡ trues ring
cells_kept [] braking long = refl
cells_kept (own ∷ old) [] long = absurd (omega (arith, long))
cells_kept (own ∷ old) (brake ∷ braking) long =
    let came = leaving own false (own ∷ old) (brake ∷ braking) in
    let e = conserve own came (own ∷ old) (brake ∷ braking) long (leaving_free own false own old (brake ∷ braking) long) in
    let same : leaving own came (own ∷ old) (brake ∷ braking) ≡ came = refl in
    omega (arith, e, ap bit same)

pub same_size : (r s : Ring) → is_same r s ≡ true → trues r ≡ trues s
same_size [] [] h = refl
same_size [] (b ∷ s) h = absurd cc
same_size (a ∷ r) [] h = absurd cc
same_size (false ∷ r) (false ∷ s) h = same_size r s h
same_size (false ∷ r) (true ∷ s) h = absurd cc
same_size (true ∷ r) (false ∷ s) h = absurd cc
same_size (true ∷ r) (true ∷ s) h = ap suc (same_size r s h)

pub steps_keep_cars : StepsKeepCars
steps_keep_cars ring braking long = size_is (ring_after ring braking) ∙ ap trues (ring_after_is ring braking long) ∙ cells_kept ring braking long ∙ sym (size_is ring)

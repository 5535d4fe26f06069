-- The stationary state with v_max = 1, counted over all roads and all sets of braking cars.
use Rattle.std.proofs.Common.{◌≡◌, ℕ, zero, suc, ◌+◌, ◌-◌, ◌*◌, ◌^◌, Bool, true, false, not, ◌&&◌, cond}
use Rattle.std.proofs.Common.{if◌then◌else◌, [], ◌∷◌, length, get_or, refl, sym, ◌∙◌, ap, arith}
use Rattle.std.{proofs.Math.Nat.{pow-succ', pow-zero}, specs.Bool.beq}
use Rattle.trlab_bounds.specs.declared.programs.TheConstants.{CERTAIN}
use Rattle.trlab_traffic.specs.LimitOne.{Ring, is_free_car, ring_after, size, StepWeightsAddUp}
use Rattle.trlab_traffic.specs.LimitOne.{WeightsAreStationary, braking_weight, free_cars, is_same}
use Rattle.trlab_traffic.{specs.LimitOne.{stationary_weight, step_weight}, proofs.Lanes.{sum_range, total}}
use Rattle.trlab_traffic.proofs.{Lanes.total_same, Chains.{all_chains, bit, chain, chains_sum, closed}}
use Rattle.trlab_traffic.proofs.Chains.{cell_weight, closed_empty, closed_taken, kept, leaves, own_weight}
use Rattle.trlab_traffic.proofs.Chains.{product, IsCarSet, draw_weight, rings, rings_add, rings_same}
use Rattle.trlab_traffic.proofs.Chains.{rings_sets_swap, rings_sum, rings_times, sets, sets_add, sets_same}
use Rattle.trlab_traffic.proofs.{Chains.{sets_sum, sets_times, set_weight, size_is, trues}, RingSteps.cells}
use Rattle.trlab_traffic.proofs.RingSteps.{cells_long, leaving, next_on_ring, ring_after_is}

-- the blocked and the free cars of a chain, after which `first` is the cell ahead
abbrev pub blocked : Bool → Ring → ℕ
blocked first [] = 0
blocked first (own ∷ old) = bit (own && get_or old 0 first) + blocked first old

abbrev pub free : Bool → Ring → ℕ
free first [] = 0
free first (own ∷ old) = bit (own && not (get_or old 0 first)) + free first old

pub blocked_or_free : (first : Bool) (old : Ring) → blocked first old + free first old ≡ trues old
blocked_or_free first [] = refl
blocked_or_free first (false ∷ old) = let rest = blocked_or_free first old in omega (arith, rest)
blocked_or_free first (true ∷ old) = by_next (get_or old 0 first) (blocked_or_free first old)
  where
    by_next : (next : Bool) → blocked first old + free first old ≡ trues old → bit next + blocked first old + (bit (not next) + free first old) ≡ suc (trues old)
    by_next false rest = omega (arith, rest)
    by_next true rest = omega (arith, rest)

free_total : (first : Bool) (old : Ring) → free first old ≡ total (λ x. bit (get_or old x false && not (get_or old (suc x) first))) (length old)
free_total first [] = refl
free_total first (own ∷ old) = let rest = free_total first old in omega (arith, rest)

pub bit_is : (b : Bool) → cond b 1 0 ≡ bit b
bit_is false = refl
bit_is true = refl

-- the free cars of a ring are those of its chain
pub free_is : (ring : Ring) → free_cars ring ≡ free (get_or ring 0 false) ring
free_is ring =
    let first = get_or ring 0 false in
    sum_range (λ x. cond (is_free_car ring x) 1 0) 0 (length ring)
    ∙ total_same (λ x. cond (is_free_car ring (0 + x)) 1 0) (λ x. bit (get_or ring x false && not (get_or ring (suc x) first))) (length ring)
    (λ x low. let e : 0 + x ≡ x = omega arith in
    ap (λ k. cond (is_free_car ring k) 1 0) e ∙ bit_is (is_free_car ring x) ∙ ap (λ next. bit (get_or ring x false && not next)) (next_on_ring ring x low))
    ∙ sym (free_total first ring)

blocked_is : (ring : Ring) → size ring - free_cars ring ≡ blocked (get_or ring 0 false) ring
blocked_is ring =
    let a = size_is ring in
    let b = free_is ring in
    let c = blocked_or_free (get_or ring 0 false) ring in
    omega (arith, a, b, c)

module _ (t q : ℕ) where
  -- the product of the weights of the cells of a chain
  abbrev pub old_weight : Bool → Ring → ℕ
  old_weight first [] = 1
  old_weight first (own ∷ old) = own_weight t q own (get_or old 0 first) * old_weight first old

  abbrev power : ℕ → ℕ → ℕ
  power i j = t ^ i * (t + q) ^ j

  more_blocked : (i j : ℕ) → power (suc i) j ≡ t * power i j
  more_blocked i j = let e = ap (λ x. x * (t + q) ^ j) (pow-succ' t i) in omega (arith, e)

  more_free : (i j : ℕ) → power i (suc j) ≡ (t + q) * power i j
  more_free i j = let e = ap (λ x. t ^ i * x) (pow-succ' (t + q) j) in omega (arith, e)

  none : power 0 0 ≡ 1
  none = ap (λ x. x * (t + q) ^ 0) (pow-zero t) ∙ ap (λ x. 1 * x) (pow-zero (t + q))

  pub by_powers : (first : Bool) (old : Ring) → old_weight first old ≡ power (blocked first old) (free first old)
  by_powers first [] = sym none
  by_powers first (false ∷ old) =
      let e : 1 * old_weight first old ≡ old_weight first old = omega arith in
      let a : blocked first old ≡ 0 + blocked first old = omega arith in
      let b : free first old ≡ 0 + free first old = omega arith in
      e ∙ by_powers first old ∙ ap (λ k. power k (free first old)) a ∙ ap (power (0 + blocked first old)) b
  by_powers first (true ∷ old) = by_next (get_or old 0 first) (by_powers first old)
    where
      by_next : (next : Bool) → old_weight first old ≡ power (blocked first old) (free first old)
          → own_weight t q true next * old_weight first old ≡ power (bit next + blocked first old) (bit (not next) + free first old)
      by_next false rest =
          let a : blocked first old ≡ 0 + blocked first old = omega arith in
          let b : suc (free first old) ≡ 1 + free first old = omega arith in
          ap (λ x. (t + q) * x) rest ∙ sym (more_free (blocked first old) (free first old))
          ∙ ap (λ k. power k (suc (free first old))) a ∙ ap (power (0 + blocked first old)) b
      by_next true rest =
          let a : suc (blocked first old) ≡ 1 + blocked first old = omega arith in
          let b : free first old ≡ 0 + free first old = omega arith in
          ap (λ x. t * x) rest ∙ sym (more_blocked (blocked first old) (free first old))
          ∙ ap (λ k. power k (free first old)) a ∙ ap (power (1 + blocked first old)) b

  -- if a step leads to a chain, its weight is the product of the weights of the chain's cells
  chain_is : (first last came : Bool) (old braking new : Ring) → length braking ≡ length old → length new ≡ length old
      → chain t q first last came old braking new
      ≡ old_weight first old * (set_weight t q old braking * (bit (is_same (cells first came old braking) new) * bit (beq (leaving first came old braking) last)))
  chain_is first last came [] [] [] long size = omega arith
  chain_is first last came [] [] (c ∷ new) long size = absurd (omega (arith, size))
  chain_is first last came [] (b ∷ braking) new long size = absurd (omega (arith, long))
  chain_is first last came (own ∷ old) [] new long size = absurd (omega (arith, long))
  chain_is first last came (own ∷ old) (brake ∷ braking) [] long size = absurd (omega (arith, size))
  chain_is first last came (own ∷ old) (brake ∷ braking) (cell ∷ new) long size =
      let next = get_or old 0 first in
      let left = leaves own next brake in
      let rest = chain_is first last left old braking new (omega (arith, long)) (omega (arith, size)) in
      ap (λ x. cell_weight t q came own next brake cell * x) rest
      ∙ split (bit (beq (kept own left came) cell)) (own_weight t q own next) (draw_weight t q own brake) (old_weight first old) (set_weight t q old braking)
      (bit (is_same (cells first left old braking) new)) (bit (beq (leaving first left old braking) last))
      ∙ ap (λ x. own_weight t q own next * old_weight first old * (draw_weight t q own brake * set_weight t q old braking * (x * bit (beq (leaving first left old braking) last))))
      (sym (both (beq (kept own left came) cell) (is_same (cells first left old braking) new)))
    where
      both : (a b : Bool) → bit (a && b) ≡ bit a * bit b
      both false b = omega arith
      both true b = omega arith

      split : (a b c d e f g : ℕ) → a * (b * c) * (d * (e * (f * g))) ≡ b * d * (c * e * (a * f * g))
      split a b c d e f g = omega arith

  -- the steps from one ring to another, with or without a car that comes at its start
  one_of : (first : Bool) (own : Bool) (old braking new : Ring) → length braking ≡ suc (length old) → length new ≡ suc (length old)
      → chain t q first false false (own ∷ old) braking new + chain t q first true true (own ∷ old) braking new
      ≡ old_weight first (own ∷ old) * (set_weight t q (own ∷ old) braking * bit (is_same (cells first (leaving first false (own ∷ old) braking) (own ∷ old) braking) new))
  one_of first own old [] new long size = absurd (omega (arith, long))
  one_of first own old (brake ∷ braking) new long size =
      let left = leaving first false (own ∷ old) (brake ∷ braking) in
      let a = chain_is first false false (own ∷ old) (brake ∷ braking) new long size in
      let b = chain_is first true true (own ∷ old) (brake ∷ braking) new long size in
      let w = old_weight first (own ∷ old) in
      let s = set_weight t q (own ∷ old) (brake ∷ braking) in
      let same : Bool → ℕ = λ came. bit (is_same (cells first came (own ∷ old) (brake ∷ braking)) new) in
      ap (λ x. x + chain t q first true true (own ∷ old) (brake ∷ braking) new) a
      ∙ ap (λ x. w * (s * (same false * bit (beq left false))) + x) b
      ∙ pick left w s same
    where
      pick : (left : Bool) (w s : ℕ) (same : Bool → ℕ) → w * (s * (same false * bit (beq left false))) + w * (s * (same true * bit (beq left true))) ≡ w * (s * same left)
      pick false w s same = omega arith
      pick true w s same = omega arith

  -- all steps to a ring
  from_all : (cell : Bool) (new : Ring)
      → rings (suc (length new)) (λ (old : Ring). old_weight (get_or old 0 false) old * sets old (λ (braking : Ring). set_weight t q old braking
      * bit (is_same (cells (get_or old 0 false) (leaving (get_or old 0 false) false old braking) old braking) (cell ∷ new))))
      ≡ closed t q (cell ∷ new)
  from_all cell new =
      let a = part false in
      let b = part true in
      let c = chains_sum t q false false false false cell new in
      let d = chains_sum t q false true true false cell new in
      let e = chains_sum t q true false false true cell new in
      let f = chains_sum t q true true true true cell new in
      omega (arith, a, b, c, d, e, f)
    where
      f : Bool → Ring → Ring → ℕ
      f own old braking = set_weight t q (own ∷ old) braking * bit (is_same (cells own (leaving own false (own ∷ old) braking) (own ∷ old) braking) (cell ∷ new))

      part : (own : Bool) → rings (length new) (λ (old : Ring). old_weight own (own ∷ old) * sets (own ∷ old) (f own old))
          ≡ all_chains t q own false false own cell new + all_chains t q own true true own cell new
      part own =
          rings_same (length new) (λ (old : Ring). old_weight own (own ∷ old) * sets (own ∷ old) (f own old))
          (λ (old : Ring). sets (own ∷ old) (λ (braking : Ring). chain t q own false false (own ∷ old) braking (cell ∷ new))
          + sets (own ∷ old) (λ (braking : Ring). chain t q own true true (own ∷ old) braking (cell ∷ new)))
          (λ old size.
          sym (sets_times (own ∷ old) (old_weight own (own ∷ old)) (f own old))
          ∙ sym (sets_same (own ∷ old)
          (λ (braking : Ring). chain t q own false false (own ∷ old) braking (cell ∷ new) + chain t q own true true (own ∷ old) braking (cell ∷ new))
          (λ (braking : Ring). old_weight own (own ∷ old) * f own old braking)
          (λ braking is. one_of own own old braking (cell ∷ new) is.long (ap suc (sym size))))
          ∙ sets_add (own ∷ old) (λ (braking : Ring). chain t q own false false (own ∷ old) braking (cell ∷ new))
          (λ (braking : Ring). chain t q own true true (own ∷ old) braking (cell ∷ new)))
          ∙ rings_add (length new) (λ (old : Ring). sets (own ∷ old) (λ (braking : Ring). chain t q own false false (own ∷ old) braking (cell ∷ new)))
          (λ (old : Ring). sets (own ∷ old) (λ (braking : Ring). chain t q own true true (own ∷ old) braking (cell ∷ new)))

  -- the cars behind which a cell is taken, or empty
  abbrev taken_behind : Bool → Ring → ℕ
  taken_behind before [] = 0
  taken_behind before (false ∷ ring) = taken_behind false ring
  taken_behind false (true ∷ ring) = taken_behind true ring
  taken_behind true (true ∷ ring) = suc (taken_behind true ring)

  abbrev empty_behind : Bool → Ring → ℕ
  empty_behind before [] = 0
  empty_behind before (false ∷ ring) = empty_behind false ring
  empty_behind false (true ∷ ring) = suc (empty_behind true ring)
  empty_behind true (true ∷ ring) = empty_behind true ring

  abbrev last_of : Bool → Ring → Bool
  last_of before [] = before
  last_of before (own ∷ ring) = last_of own ring

  behind_each : (before : Bool) (ring : Ring) → taken_behind before ring + empty_behind before ring ≡ trues ring
  behind_each before [] = omega arith
  behind_each false (false ∷ ring) = behind_each false ring
  behind_each true (false ∷ ring) = behind_each false ring
  behind_each false (true ∷ ring) = let rest = behind_each true ring in omega (arith, rest)
  behind_each true (true ∷ ring) = let rest = behind_each true ring in omega (arith, rest)

  -- each blocked car is the taken cell behind the next car
  blocked_behind : (first own : Bool) (ring : Ring) → blocked first (own ∷ ring) ≡ taken_behind own ring + bit (last_of own ring && first)
  blocked_behind first own [] = omega arith
  blocked_behind first false (false ∷ ring) = let rest = blocked_behind first false ring in omega (arith, rest)
  blocked_behind first true (false ∷ ring) = let rest = blocked_behind first false ring in omega (arith, rest)
  blocked_behind first false (true ∷ ring) = let rest = blocked_behind first true ring in omega (arith, rest)
  blocked_behind first true (true ∷ ring) = let rest = blocked_behind first true ring in omega (arith, rest)

  move_in : (a b c d e : ℕ) → a * b * (c * (d * e)) ≡ (a * c) * ((b * d) * e)
  move_in a b c d e = omega arith

  -- the product by the cells behind, as powers
  product_is : (e0 e1 : ℕ) (before : Bool) (ring : Ring)
      → product t q e0 e1 before ring ≡ (t + q) ^ trues ring * (power (taken_behind before ring) (empty_behind before ring) * cond (last_of before ring) e1 e0)
  product_is e0 e1 false [] =
      let e : e0 ≡ 1 * (1 * e0) = omega arith in
      e ∙ sym (ap (λ x. x * (power 0 0 * e0)) (pow-zero (t + q)) ∙ ap (λ x. 1 * (x * e0)) none)
  product_is e0 e1 true [] =
      let e : e1 ≡ 1 * (1 * e1) = omega arith in
      e ∙ sym (ap (λ x. x * (power 0 0 * e1)) (pow-zero (t + q)) ∙ ap (λ x. 1 * (x * e1)) none)
  product_is e0 e1 false (false ∷ ring) = product_is e0 e1 false ring
  product_is e0 e1 true (false ∷ ring) = product_is e0 e1 false ring
  product_is e0 e1 false (true ∷ ring) =
      let i = taken_behind true ring in
      let j = empty_behind true ring in
      let k = trues ring in
      let e = cond (last_of true ring) e1 e0 in
      ap (λ x. (t + q) * (t + q) * x) (product_is e0 e1 true ring)
      ∙ move_in (t + q) (t + q) ((t + q) ^ k) (power i j) e
      ∙ ap (λ x. x * ((t + q) * power i j * e)) (sym (pow-succ' (t + q) k))
      ∙ ap (λ x. (t + q) ^ suc k * (x * e)) (sym (more_free i j))
  product_is e0 e1 true (true ∷ ring) =
      let i = taken_behind true ring in
      let j = empty_behind true ring in
      let k = trues ring in
      let e = cond (last_of true ring) e1 e0 in
      ap (λ x. (t + q) * t * x) (product_is e0 e1 true ring)
      ∙ move_in (t + q) t ((t + q) ^ k) (power i j) e
      ∙ ap (λ x. x * (t * power i j * e)) (sym (pow-succ' (t + q) k))
      ∙ ap (λ x. (t + q) ^ suc k * (x * e)) (sym (more_blocked i j))

  -- the weight of the new ring
  abbrev goal : Bool → Ring → ℕ
  goal first ring = (t + q) ^ trues ring * power (blocked first ring) (free first ring)

  not_taken : (b : Bool) → bit (b && false) ≡ 0
  not_taken false = refl
  not_taken true = refl

  cond_same : (b : Bool) (n : ℕ) → cond b n n ≡ n
  cond_same false n = refl
  cond_same true n = refl

  end_empty : (ring : Ring) → product t q 1 1 false ring ≡ goal false (false ∷ ring)
  end_empty ring =
      let i = taken_behind false ring in
      let j = empty_behind false ring in
      let b = blocked_behind false false ring in
      let n = not_taken (last_of false ring) in
      let s = behind_each false ring in
      let w = blocked_or_free false (false ∷ ring) in
      let ei : i ≡ blocked false (false ∷ ring) = omega (arith, b, n) in
      let ej : j ≡ free false (false ∷ ring) = omega (arith, b, n, s, w) in
      let one : power i j * 1 ≡ power i j = omega arith in
      product_is 1 1 false ring
      ∙ ap (λ x. (t + q) ^ trues ring * (power i j * x)) (cond_same (last_of false ring) 1)
      ∙ ap (λ x. (t + q) ^ trues ring * x) one
      ∙ ap (λ k. (t + q) ^ trues ring * power k j) ei
      ∙ ap (λ k. (t + q) ^ trues ring * power (blocked false (false ∷ ring)) k) ej

  ends : (last : Bool) (k i j b f : ℕ) → b ≡ i + bit (last && true) → b + f ≡ suc k → i + j ≡ k
      → (t + q) * t * ((t + q) ^ k * (power i j * cond last 1 1)) + (t + q) ^ k * (power i j * cond last 0 ((t + q) * q)) ≡ (t + q) ^ suc k * power b f
  ends true k i j b f eb ef es =
      let x = (t + q) ^ k in
      let y = power i j in
      let sb : suc i ≡ b = omega (arith, eb) in
      let sf : j ≡ f = omega (arith, eb, ef, es) in
      shuffle x y
      ∙ ap (λ z. z * (t * y)) (sym (pow-succ' (t + q) k))
      ∙ ap (λ z. (t + q) ^ suc k * z) (sym (more_blocked i j))
      ∙ ap (λ z. (t + q) ^ suc k * power z j) sb
      ∙ ap (λ z. (t + q) ^ suc k * power b z) sf
    where
      shuffle : (x y : ℕ) → (t + q) * t * (x * (y * 1)) + x * (y * 0) ≡ (t + q) * x * (t * y)
      shuffle x y = omega arith
  ends false k i j b f eb ef es =
      let x = (t + q) ^ k in
      let y = power i j in
      let sb : i ≡ b = omega (arith, eb) in
      let sf : suc j ≡ f = omega (arith, eb, ef, es) in
      shuffle x y
      ∙ ap (λ z. z * ((t + q) * y)) (sym (pow-succ' (t + q) k))
      ∙ ap (λ z. (t + q) ^ suc k * z) (sym (more_free i j))
      ∙ ap (λ z. (t + q) ^ suc k * power z (suc j)) sb
      ∙ ap (λ z. (t + q) ^ suc k * power b z) sf
    where
      shuffle : (x y : ℕ) → (t + q) * t * (x * (y * 1)) + x * (y * ((t + q) * q)) ≡ (t + q) * x * ((t + q) * y)
      shuffle x y = omega arith

  end_taken : (ring : Ring) → (t + q) * t * product t q 1 1 true ring + product t q ((t + q) * q) 0 true ring ≡ goal true (true ∷ ring)
  end_taken ring =
      let i = taken_behind true ring in
      let j = empty_behind true ring in
      let w = blocked_or_free true (true ∷ ring) in
      ap (λ x. (t + q) * t * x + product t q ((t + q) * q) 0 true ring) (product_is 1 1 true ring)
      ∙ ap (λ x. (t + q) * t * ((t + q) ^ trues ring * (power i j * cond (last_of true ring) 1 1)) + x) (product_is ((t + q) * q) 0 true ring)
      ∙ ends (last_of true ring) (trues ring) i j (blocked true (true ∷ ring)) (free true (true ∷ ring)) (blocked_behind true true ring) w (behind_each true ring)

  -- all steps to a ring weigh as much as the ring
  abbrev steps_from : Ring → Ring → ℕ
  steps_from new old = old_weight (get_or old 0 false) old * sets old (λ (braking : Ring). set_weight t q old braking
      * bit (is_same (cells (get_or old 0 false) (leaving (get_or old 0 false) false old braking) old braking) new))

  pub all_steps : (new : Ring) → rings (length new) (steps_from new) ≡ goal (get_or new 0 false) new
  all_steps [] =
      let e : 1 * (1 * 1) ≡ 1 * 1 = refl in
      e ∙ sym (ap (λ x. x * power 0 0) (pow-zero (t + q)) ∙ ap (λ x. 1 * x) none)
  all_steps (false ∷ new) = from_all false new ∙ closed_empty t q new ∙ end_empty new
  all_steps (true ∷ new) = from_all true new ∙ closed_taken t q new ∙ end_taken new

-- as the law states it
pub chosen : (b : Bool) (n : ℕ) → (if b then n else 0) ≡ n * bit b
chosen false n = omega arith
chosen true n = omega arith

pub braking_is : (p : ℕ) (ring set : Ring) → IsCarSet ring set → braking_weight p ring set ≡ set_weight p (CERTAIN - p) ring set
braking_is p ring set is =
    ap (λ k. p ^ k * (CERTAIN - p) ^ (size ring - k)) (size_is set)
    ∙ ap (λ k. p ^ trues set * (CERTAIN - p) ^ (k - trues set)) (size_is ring)
    ∙ is.powers p (CERTAIN - p)

pub step_is : (p : ℕ) (old new : Ring) → step_weight p old new
    ≡ sets old (λ (braking : Ring). set_weight p (CERTAIN - p) old braking * bit (is_same (cells (get_or old 0 false) (leaving (get_or old 0 false) false old braking) old braking) new))
step_is p old new =
    let first = get_or old 0 false in
    let f : Ring → ℕ = λ braking. if is_same (ring_after old braking) new then braking_weight p old braking else 0 in
    let g : Ring → ℕ = λ braking. set_weight p (CERTAIN - p) old braking * bit (is_same (cells first (leaving first false old braking) old braking) new) in
    sets_sum old f
    ∙ sets_same old f g (λ braking is.
    chosen (is_same (ring_after old braking) new) (braking_weight p old braking)
    ∙ ap (λ k. k * bit (is_same (ring_after old braking) new)) (braking_is p old braking is)
    ∙ ap (λ (r : Ring). set_weight p (CERTAIN - p) old braking * bit (is_same r new)) (ring_after_is old braking is.long))

weight_is : (p : ℕ) (ring : Ring) → p + (CERTAIN - p) ≡ CERTAIN → stationary_weight p ring ≡ p ^ blocked (get_or ring 0 false) ring * (p + (CERTAIN - p)) ^ free (get_or ring 0 false) ring
weight_is p ring e =
    let first = get_or ring 0 false in
    ap (λ k. p ^ k * CERTAIN ^ free_cars ring) (blocked_is ring)
    ∙ ap (λ k. p ^ blocked first ring * CERTAIN ^ k) (free_is ring)
    ∙ ap (λ c. p ^ blocked first ring * c ^ free first ring) (sym e)

pub weights_are_stationary : WeightsAreStationary
weights_are_stationary p low new =
    let q = CERTAIN - p in
    let e : p + q ≡ CERTAIN = omega (arith, low) in
    let f : Ring → ℕ = λ old. stationary_weight p old * step_weight p old new in
    rings_sum (length new) f
    ∙ rings_same (length new) f (steps_from p q new)
    (λ old long.
    ap (λ k. k * step_weight p old new) (weight_is p old e ∙ sym (by_powers p q (get_or old 0 false) old))
    ∙ ap (λ k. old_weight p q (get_or old 0 false) old * k) (step_is p old new))
    ∙ all_steps p q new
    ∙ ap (λ k. (p + q) ^ trues new * k) (sym (weight_is p new e))
    ∙ ap (λ c. c ^ trues new * stationary_weight p new) e
    ∙ ap (λ k. CERTAIN ^ k * stationary_weight p new) (sym (size_is new))

-- the probabilities of all steps from a ring
rings_none : (n : ℕ) → rings n (λ (r : Ring). 0) ≡ 0
rings_none zero = refl
rings_none (suc n) = let a = rings_none n in omega (arith, a)

one_is : (ring : Ring) → rings (length ring) (λ (r : Ring). bit (is_same ring r)) ≡ 1
one_is [] = refl
one_is (false ∷ ring) = let a = one_is ring in let b = rings_none (length ring) in omega (arith, a, b)
one_is (true ∷ ring) = let a = one_is ring in let b = rings_none (length ring) in omega (arith, a, b)

pub sets_weigh : (t q : ℕ) (ring : Ring) → sets ring (set_weight t q ring) ≡ (t + q) ^ trues ring
sets_weigh t q [] = sym (pow-zero (t + q))
sets_weigh t q (false ∷ ring) =
    let e : 1 * sets ring (set_weight t q ring) ≡ sets ring (set_weight t q ring) = omega arith in
    sets_times ring 1 (set_weight t q ring) ∙ e ∙ sets_weigh t q ring
sets_weigh t q (true ∷ ring) =
    let f : Ring → ℕ = set_weight t q ring in
    let a = sets_times ring q f in
    let b = sets_times ring t f in
    let c = ap (λ x. (t + q) * x) (sets_weigh t q ring) in
    let d = pow-succ' (t + q) (trues ring) in
    omega (arith, a, b, c, d)

pub step_weights_add_up : StepWeightsAddUp
step_weights_add_up p old low =
    let n = length old in
    let q = CERTAIN - p in
    let e : p + q ≡ CERTAIN = omega (arith, low) in
    let first = get_or old 0 false in
    let after : Ring → Ring = λ braking. cells first (leaving first false old braking) old braking in
    let f : Ring → Ring → ℕ = λ new braking. set_weight p q old braking * bit (is_same (after braking) new) in
    rings_sum n (step_weight p old)
    ∙ rings_same n (step_weight p old) (λ (new : Ring). sets old (f new)) (λ new long. step_is p old new)
    ∙ rings_sets_swap n old f
    ∙ sets_same old (λ (braking : Ring). rings n (λ (new : Ring). f new braking)) (set_weight p q old)
    (λ braking is.
    let w = set_weight p q old braking in
    let one : w * 1 ≡ w = omega arith in
    rings_times n w (λ (new : Ring). bit (is_same (after braking) new))
    ∙ ap (λ k. w * rings k (λ (new : Ring). bit (is_same (after braking) new))) (sym (cells_long first (leaving first false old braking) old braking is.long))
    ∙ ap (λ k. w * k) (one_is (after braking))
    ∙ one)
    ∙ sets_weigh p q old
    ∙ ap (λ c. c ^ trues old) e
    ∙ ap (λ k. CERTAIN ^ k) (sym (size_is old))

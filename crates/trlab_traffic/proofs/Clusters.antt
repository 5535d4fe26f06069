-- The number of rings with a given number of cars in a given number of clusters.
use Rattle.std.proofs.Common.{◌≡◌, ◌≢◌, ℕ, zero, suc, ◌+◌, ◌*◌, ◌<◌, Bool, true, false, not, ◌&&◌, cond}
use Rattle.std.proofs.Common.{nat_eq, [], ◌∷◌, length, get_or, refl, sym, ◌∙◌, ap, inl, inr, arith, count_by}
use Rattle.std.proofs.{Common.{eq-eqb, ne_eqb}, lemmas.Bool.cases_eq}
use Rattle.trlab_traffic.specs.LimitOne.{Ring, size, RingsAreClustered, choose, clustered_rings, splits}
use Rattle.trlab_traffic.{specs.LimitOne.{all_rings, free_cars}, proofs.Chains.{bit, rings, rings_same}}
use Rattle.trlab_traffic.proofs.{Chains.{rings_sum, size_is, trues}, Stationary.{free, free_is}}

-- are two numbers equal? By recursion
abbrev pub same : ℕ → ℕ → ℕ
same zero zero = 1
same zero (suc n) = 0
same (suc m) zero = 0
same (suc m) (suc n) = same m n

pub same_self : (n : ℕ) → same n n ≡ 1
same_self zero = refl
same_self (suc n) = same_self n

pub same_not : (m n : ℕ) → m ≢ n → same m n ≡ 0
same_not zero zero other = absurd (other refl)
same_not zero (suc n) other = refl
same_not (suc m) zero other = refl
same_not (suc m) (suc n) other = same_not m n (λ e. other (ap suc e))

pub same_is : (m n : ℕ) → bit (nat_eq m n) ≡ same m n
same_is m n =
    elim (cases_eq m n) [
      | inl e ↦ ap bit (eq-eqb m n e) ∙ sym (ap (same m) (sym e) ∙ same_self m)
      | inr other ↦ ap bit (ne_eqb m n other) ∙ sym (same_not m n other)
    ]

abbrev pub falses : Ring → ℕ
falses [] = 0
falses (false ∷ r) = suc (falses r)
falses (true ∷ r) = falses r

pub each_cell : (r : Ring) → trues r + falses r ≡ length r
each_cell [] = refl
each_cell (false ∷ r) = let rest = each_cell r in omega (arith, rest)
each_cell (true ∷ r) = let rest = each_cell r in omega (arith, rest)

-- the places of a chain at which a taken cell has an empty one ahead, from the cell `before` on, up to the
-- cell `first` after its end
abbrev ends : Bool → Bool → Ring → ℕ
ends first before [] = bit (before && not first)
ends first before (false ∷ r) = bit before + ends first false r
ends first before (true ∷ r) = ends first true r

free_ends : (first own : Bool) (r : Ring) → free first (own ∷ r) ≡ ends first own r
free_ends first own [] = let e : bit (own && not first) + 0 ≡ bit (own && not first) = omega arith in e
free_ends first false (false ∷ r) = let rest = free_ends first false r in omega (arith, rest)
free_ends first true (false ∷ r) = let rest = free_ends first false r in omega (arith, rest)
free_ends first false (true ∷ r) = let rest = free_ends first true r in omega (arith, rest)
free_ends first true (true ∷ r) = let rest = free_ends first true r in omega (arith, rest)

-- the number of chains with m taken cells, e empty ones, and k such places
abbrev picked : Bool → Bool → ℕ → ℕ → ℕ → Ring → ℕ
picked first before m e k r = same (trues r) m * same (falses r) e * same (ends first before r) k

abbrev chains : Bool → Bool → ℕ → ℕ → ℕ → ℕ → ℕ
chains first before n m e k = rings n (picked first before m e k)

pub nothing : (n : ℕ) (f : Ring → ℕ) → ((r : Ring) → f r ≡ 0) → rings n f ≡ 0
nothing zero f none = none []
nothing (suc n) f none =
    let a = nothing n (λ (r : Ring). f (false ∷ r)) (λ r. none (false ∷ r)) in
    let b = nothing n (λ (r : Ring). f (true ∷ r)) (λ r. none (true ∷ r)) in
    omega (arith, a, b)

-- the chains whose first cell is empty, or taken
empty_none : (first before : Bool) (n m k : ℕ) → rings n (λ (r : Ring). picked first before m 0 k (false ∷ r)) ≡ 0
empty_none first before n m k = nothing n (λ (r : Ring). picked first before m 0 k (false ∷ r)) (λ r. let e : same (trues r) m * 0 * same (bit before + ends first false r) k ≡ 0 = omega arith in e)

taken_none : (first before : Bool) (n e k : ℕ) → rings n (λ (r : Ring). picked first before 0 e k (true ∷ r)) ≡ 0
taken_none first before n e k = nothing n (λ (r : Ring). picked first before 0 e k (true ∷ r)) (λ r. let e : 0 * same (falses r) e * same (ends first true r) k ≡ 0 = omega arith in e)

after_empty : (first : Bool) (n m e k : ℕ) → rings n (λ (r : Ring). picked first false m (suc e) k (false ∷ r)) ≡ chains first false n m e k
after_empty first n m e k =
    rings_same n (λ (r : Ring). picked first false m (suc e) k (false ∷ r)) (picked first false m e k)
    (λ r long. let z : 0 + ends first false r ≡ ends first false r = omega arith in ap (λ j. same (trues r) m * same (falses r) e * same j k) z)

after_taken_zero : (first : Bool) (n m e : ℕ) → rings n (λ (r : Ring). picked first true m (suc e) 0 (false ∷ r)) ≡ 0
after_taken_zero first n m e =
    nothing n (λ (r : Ring). picked first true m (suc e) 0 (false ∷ r))
    (λ r. let z : 1 + ends first false r ≡ suc (ends first false r) = omega arith in
    let none : same (trues r) m * same (falses r) e * 0 ≡ 0 = omega arith in
    ap (λ j. same (trues r) m * same (falses r) e * same j 0) z ∙ none)

after_taken : (first : Bool) (n m e k : ℕ) → rings n (λ (r : Ring). picked first true m (suc e) (suc k) (false ∷ r)) ≡ chains first false n m e k
after_taken first n m e k =
    rings_same n (λ (r : Ring). picked first true m (suc e) (suc k) (false ∷ r)) (picked first false m e k)
    (λ r long. let z : 1 + ends first false r ≡ suc (ends first false r) = omega arith in ap (λ j. same (trues r) m * same (falses r) e * same j (suc k)) z)

-- the steps of the recursion
from_empty_m : (first : Bool) (n m k : ℕ) → chains first false (suc n) (suc m) 0 k ≡ chains first true n m 0 k
from_empty_m first n m k = let a = empty_none first false n (suc m) k in omega (arith, a)

from_empty_e : (first : Bool) (n e k : ℕ) → chains first false (suc n) 0 (suc e) k ≡ chains first false n 0 e k
from_empty_e first n e k =
    let a = after_empty first n 0 e k in
    let b = taken_none first false n (suc e) k in
    omega (arith, a, b)

from_empty : (first : Bool) (n m e k : ℕ) → chains first false (suc n) (suc m) (suc e) k ≡ chains first false n (suc m) e k + chains first true n m (suc e) k
from_empty first n m e k = let a = after_empty first n (suc m) e k in omega (arith, a)

from_taken_m : (first : Bool) (n m k : ℕ) → chains first true (suc n) (suc m) 0 k ≡ chains first true n m 0 k
from_taken_m first n m k = let a = empty_none first true n (suc m) k in omega (arith, a)

from_taken_e_zero : (first : Bool) (n e : ℕ) → chains first true (suc n) 0 (suc e) 0 ≡ 0
from_taken_e_zero first n e =
    let a = after_taken_zero first n 0 e in
    let b = taken_none first true n (suc e) 0 in
    omega (arith, a, b)

from_taken_e : (first : Bool) (n e k : ℕ) → chains first true (suc n) 0 (suc e) (suc k) ≡ chains first false n 0 e k
from_taken_e first n e k =
    let a = after_taken first n 0 e k in
    let b = taken_none first true n (suc e) (suc k) in
    omega (arith, a, b)

from_taken_zero : (first : Bool) (n m e : ℕ) → chains first true (suc n) (suc m) (suc e) 0 ≡ chains first true n m (suc e) 0
from_taken_zero first n m e = let a = after_taken_zero first n (suc m) e in omega (arith, a)

from_taken : (first : Bool) (n m e k : ℕ) → chains first true (suc n) (suc m) (suc e) (suc k) ≡ chains first false n (suc m) e k + chains first true n m (suc e) (suc k)
from_taken first n m e k = let a = after_taken first n (suc m) e k in omega (arith, a)

choose_none : (k : ℕ) → choose 0 k ≡ splits 0 k
choose_none zero = refl
choose_none (suc k) = refl

choose_split : (m k : ℕ) → choose (suc m) k ≡ splits (suc m) k + choose m k
choose_split m zero = refl
choose_split m (suc k) = refl

-- rings that begin with a car: the chain is closed by a car
record Closed (n m e k : ℕ) : Type 0 where
  by_taken : chains true true n m e k ≡ choose (suc m) k * splits e k
  by_empty : chains true false n m e k ≡ choose m k * choose e k

closed : (n m e k : ℕ) → n ≡ m + e → Closed n m e k
closed zero zero zero zero sum = record { by_taken = refl; by_empty = refl }
closed zero zero zero (suc k) sum = record { by_taken = omega arith; by_empty = refl }
closed zero (suc m) e k sum = absurd (omega (arith, sum))
closed zero zero (suc e) k sum = absurd (omega (arith, sum))
closed (suc n) zero zero k sum = absurd (omega (arith, sum))
closed (suc n) (suc m) zero zero sum =
    let rest = closed n m 0 0 (omega (arith, sum)) in
    let a = rest.by_taken in
    let s = from_taken_m true n m 0 in
    let t = from_empty_m true n m 0 in
    record { by_taken = omega (arith, a, s); by_empty = omega (arith, a, t) }
closed (suc n) (suc m) zero (suc k) sum =
    let rest = closed n m 0 (suc k) (omega (arith, sum)) in
    let a = rest.by_taken in
    let s = from_taken_m true n m (suc k) in
    let t = from_empty_m true n m (suc k) in
    record { by_taken = omega (arith, a, s); by_empty = omega (arith, a, t) }
closed (suc n) zero (suc e) zero sum =
    let rest = closed n 0 e 0 (omega (arith, sum)) in
    let b = rest.by_empty in
    let s = from_taken_e_zero true n e in
    let t = from_empty_e true n e 0 in
    record { by_taken = omega (arith, s); by_empty = omega (arith, b, t) }
closed (suc n) zero (suc e) (suc k) sum =
    let rest = closed n 0 e k (omega (arith, sum)) in
    let more = closed n 0 e (suc k) (omega (arith, sum)) in
    let b = rest.by_empty in
    let d = more.by_empty in
    let s = from_taken_e true n e k in
    let t = from_empty_e true n e (suc k) in
    record { by_taken = omega (arith, b, s); by_empty = omega (arith, d, t) }
closed (suc n) (suc m) (suc e) zero sum =
    let a = (closed n m (suc e) 0 (omega (arith, sum))).by_taken in
    let b = (closed n (suc m) e 0 (omega (arith, sum))).by_empty in
    let s = from_taken_zero true n m e in
    let t = from_empty true n m e 0 in
    record { by_taken = omega (arith, a, s); by_empty = omega (arith, a, b, t) }
closed (suc n) (suc m) (suc e) (suc k) sum =
    let a = (closed n m (suc e) (suc k) (omega (arith, sum))).by_taken in
    let b = (closed n (suc m) e k (omega (arith, sum))).by_empty in
    let d = (closed n (suc m) e (suc k) (omega (arith, sum))).by_empty in
    let s = from_taken true n m e k in
    let t = from_empty true n m e (suc k) in
    record { by_taken = omega (arith, a, b, s); by_empty = omega (arith, a, d, t) }

-- rings that begin with an empty cell
abbrev pairs : ℕ → ℕ → ℕ → ℕ
pairs m e zero = 0
pairs m e (suc k) = choose m k * choose e k

record Open (n m e k : ℕ) : Type 0 where
  by_taken : chains false true n m e k ≡ pairs m e k
  by_empty : chains false false n m e k ≡ splits m k * choose (suc e) k

open_ends : (n m e k : ℕ) → n ≡ m + e → Open n m e k
open_ends zero zero zero zero sum = record { by_taken = refl; by_empty = refl }
open_ends zero zero zero (suc zero) sum = record { by_taken = refl; by_empty = refl }
open_ends zero zero zero (suc (suc k)) sum = record { by_taken = omega arith; by_empty = omega arith }
open_ends zero (suc m) e k sum = absurd (omega (arith, sum))
open_ends zero zero (suc e) k sum = absurd (omega (arith, sum))
open_ends (suc n) zero zero k sum = absurd (omega (arith, sum))
open_ends (suc n) (suc m) zero zero sum =
    let a = (open_ends n m 0 0 (omega (arith, sum))).by_taken in
    let s = from_taken_m false n m 0 in
    let t = from_empty_m false n m 0 in
    record { by_taken = omega (arith, a, s); by_empty = omega (arith, a, t) }
open_ends (suc n) (suc m) zero (suc zero) sum =
    let a = (open_ends n m 0 1 (omega (arith, sum))).by_taken in
    let s = from_taken_m false n m 1 in
    let t = from_empty_m false n m 1 in
    record { by_taken = omega (arith, a, s); by_empty = omega (arith, a, t) }
open_ends (suc n) (suc m) zero (suc (suc k)) sum =
    let a = (open_ends n m 0 (suc (suc k)) (omega (arith, sum))).by_taken in
    let s = from_taken_m false n m (suc (suc k)) in
    let t = from_empty_m false n m (suc (suc k)) in
    record { by_taken = omega (arith, a, s); by_empty = omega (arith, a, t) }
open_ends (suc n) zero (suc e) zero sum =
    let b = (open_ends n 0 e 0 (omega (arith, sum))).by_empty in
    let s = from_taken_e_zero false n e in
    let t = from_empty_e false n e 0 in
    record { by_taken = omega (arith, s); by_empty = omega (arith, b, t) }
open_ends (suc n) zero (suc e) (suc k) sum =
    let b = (open_ends n 0 e k (omega (arith, sum))).by_empty in
    let d = (open_ends n 0 e (suc k) (omega (arith, sum))).by_empty in
    let s = from_taken_e false n e k in
    let t = from_empty_e false n e (suc k) in
    record { by_taken = s ∙ b ∙ ap (λ x. x * choose (suc e) k) (sym (choose_none k)); by_empty = omega (arith, d, t) }
open_ends (suc n) (suc m) (suc e) zero sum =
    let a = (open_ends n m (suc e) 0 (omega (arith, sum))).by_taken in
    let b = (open_ends n (suc m) e 0 (omega (arith, sum))).by_empty in
    let s = from_taken_zero false n m e in
    let t = from_empty false n m e 0 in
    record { by_taken = omega (arith, a, s); by_empty = omega (arith, a, b, t) }
open_ends (suc n) (suc m) (suc e) (suc k) sum =
    let a = (open_ends n m (suc e) (suc k) (omega (arith, sum))).by_taken in
    let b = (open_ends n (suc m) e k (omega (arith, sum))).by_empty in
    let d = (open_ends n (suc m) e (suc k) (omega (arith, sum))).by_empty in
    let s = from_taken false n m e k in
    let t = from_empty false n m e (suc k) in
    let c = ap (λ x. x * choose (suc e) k) (choose_split m k) in
    record { by_taken = omega (arith, a, b, s, c); by_empty = omega (arith, a, d, t) }

-- the rings with m cars and e empty cells, k cars of which have an empty cell ahead
abbrev pub picked_ring : ℕ → ℕ → ℕ → Ring → ℕ
picked_ring m e k r = same (trues r) m * same (falses r) e * same (free (get_or r 0 false) r) k

first_empty : (n m e k : ℕ) → suc n ≡ m + e → rings n (λ (r : Ring). picked_ring m e k (false ∷ r)) ≡ splits m k * choose e k
first_empty n zero zero k sum = absurd (omega (arith, sum))
first_empty n (suc m) zero k sum =
    nothing n (λ (r : Ring). picked_ring (suc m) 0 k (false ∷ r))
    (λ r. let e : same (trues r) (suc m) * 0 * same (free false (false ∷ r)) k ≡ 0 = omega arith in e)
    ∙ none_chosen k
  where
    none_chosen : (k : ℕ) → 0 ≡ splits (suc m) k * choose 0 k
    none_chosen zero = refl
    none_chosen (suc k) = omega arith
first_empty n m (suc e) k sum =
    rings_same n (λ (r : Ring). picked_ring m (suc e) k (false ∷ r)) (picked false false m e k)
    (λ r long. ap (λ j. same (trues r) m * same (falses r) e * same j k) (free_ends false false r))
    ∙ (open_ends n m e k (omega (arith, sum))).by_empty

first_taken : (n m e k : ℕ) → suc n ≡ m + e → rings n (λ (r : Ring). picked_ring m e k (true ∷ r)) ≡ choose m k * splits e k
first_taken n zero zero k sum = absurd (omega (arith, sum))
first_taken n zero (suc e) k sum =
    nothing n (λ (r : Ring). picked_ring 0 (suc e) k (true ∷ r))
    (λ r. let z : 0 * same (falses r) (suc e) * same (free true (true ∷ r)) k ≡ 0 = omega arith in z)
    ∙ none_chosen k
  where
    none_chosen : (k : ℕ) → 0 ≡ choose 0 k * splits (suc e) k
    none_chosen zero = refl
    none_chosen (suc k) = omega arith
first_taken n (suc m) e k sum =
    rings_same n (λ (r : Ring). picked_ring (suc m) e k (true ∷ r)) (picked true true m e k)
    (λ r long. ap (λ j. same (trues r) m * same (falses r) e * same j k) (free_ends true true r))
    ∙ (closed n m e k (omega (arith, sum))).by_taken

pub ring_count : (n m e k : ℕ) → suc n ≡ m + e → rings (suc n) (picked_ring m e k) ≡ clustered_rings m e k
ring_count n m e k sum =
    let a = first_empty n m e k sum in
    let b = first_taken n m e k sum in
    omega (arith, a, b)

-- with m cars the other cells are empty
pub no_empty : (m e : ℕ) (r : Ring) → length r ≡ m + e → same (trues r) m * same (falses r) e ≡ same (trues r) m
no_empty m e r long =
    let all = each_cell r in
    elim (cases_eq (trues r) m) [
      | inl is ↦
          let f : falses r ≡ e = omega (arith, is, all, long) in
          let one : same (trues r) m * 1 ≡ same (trues r) m = omega arith in
          ap (λ k. same (trues r) m * k) (ap (λ k. same k e) f ∙ same_self e) ∙ one
      | inr other ↦
          let z = same_not (trues r) m other in
          let none : 0 * same (falses r) e ≡ 0 = omega arith in
          ap (λ k. k * same (falses r) e) z ∙ none ∙ sym z
    ]

both_bits : (a b : Bool) → cond (a && b) 1 0 ≡ bit a * bit b
both_bits false b = omega arith
both_bits true false = refl
both_bits true true = refl

picked_is : (m e k : ℕ) (r : Ring) → length r ≡ m + e → cond (nat_eq (size r) m && nat_eq (free_cars r) k) 1 0 ≡ picked_ring m e k r
picked_is m e k r long =
    let first = get_or r 0 false in
    both_bits (nat_eq (size r) m) (nat_eq (free_cars r) k)
    ∙ ap (λ j. bit (nat_eq j m) * bit (nat_eq (free_cars r) k)) (size_is r)
    ∙ ap (λ j. bit (nat_eq (trues r) m) * bit (nat_eq j k)) (free_is r)
    ∙ ap (λ j. j * bit (nat_eq (free first r) k)) (same_is (trues r) m)
    ∙ ap (λ j. same (trues r) m * j) (same_is (free first r) k)
    ∙ ap (λ j. j * same (free first r) k) (sym (no_empty m e r long))

pub rings_are_clustered : RingsAreClustered
rings_are_clustered m e k some = of_length (m + e) refl some
  where
    of_length : (n : ℕ) → n ≡ m + e → 0 < n → count_by (λ (ring : Ring). nat_eq (size ring) m && nat_eq (free_cars ring) k) (all_rings n) ≡ clustered_rings m e k
    of_length zero is more = absurd (omega (arith, more))
    of_length (suc n) is more =
        let f : Ring → ℕ = λ r. cond (nat_eq (size r) m && nat_eq (free_cars r) k) 1 0 in
        rings_sum (suc n) f
        ∙ rings_same (suc n) f (picked_ring m e k) (λ r long. picked_is m e k r (long ∙ is))
        ∙ ring_count n m e k is

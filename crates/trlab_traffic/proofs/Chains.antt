-- Sums over all rings and over all sets of cars of a ring, cell by cell along the chain of its cells.
use Rattle.std.proofs.Common.{◌≡◌, ℕ, zero, suc, ◌+◌, ◌-◌, ◌*◌, ◌^◌, ◌≤◌, Bool, true, false, cond, List, []}
use Rattle.std.proofs.Common.{◌∷◌, map, length, refl, ◌∙◌, ap, arith, not, ◌&&◌, ◌||◌, get_or, sum_by}
use Rattle.std.proofs.{Math.Nat.{pow-succ', pow-zero}, lemmas.List.Sums.{sum_by-append, sum_by-cons}}
use Rattle.std.specs.Bool.{beq}
use Rattle.trlab_traffic.specs.LimitOne.{Ring, size, all_rings, car_sets}

pub sum_of_map : {X Y : Type 0} (f : Y → ℕ) (g : X → Y) (xs : List X) → sum_by f (map g xs) ≡ sum_by (λ (x : X). f (g x)) xs
sum_of_map f g [] = refl
sum_of_map {X} f g (x ∷ xs) =
    let rest = sum_of_map f g xs in
    let a = sum_by-cons f (g x) (map g xs) in
    let b = sum_by-cons (λ (y : X). f (g y)) x xs in
    omega (arith, rest, a, b)

-- the sums, by recursion
abbrev pub rings : ℕ → (Ring → ℕ) → ℕ
rings zero f = f []
rings (suc n) f = rings n (λ (r : Ring). f (false ∷ r)) + rings n (λ (r : Ring). f (true ∷ r))

abbrev pub sets : Ring → (Ring → ℕ) → ℕ
sets [] f = f []
sets (false ∷ ring) f = sets ring (λ (s : Ring). f (false ∷ s))
sets (true ∷ ring) f = sets ring (λ (s : Ring). f (false ∷ s)) + sets ring (λ (s : Ring). f (true ∷ s))

abbrev off : Ring → Ring
off r = false ∷ r

abbrev on : Ring → Ring
on r = true ∷ r

pub rings_sum : (n : ℕ) (f : Ring → ℕ) → sum_by f (all_rings n) ≡ rings n f
rings_sum zero f = let e : 0 + f [] ≡ f [] = omega arith in e
rings_sum (suc n) f =
    let split = sum_by-append f (map off (all_rings n)) (map on (all_rings n)) in
    let a = sum_of_map f off (all_rings n) in
    let b = sum_of_map f on (all_rings n) in
    let c = rings_sum n (λ (r : Ring). f (false ∷ r)) in
    let d = rings_sum n (λ (r : Ring). f (true ∷ r)) in
    omega (arith, split, a, b, c, d)

pub sets_sum : (ring : Ring) (f : Ring → ℕ) → sum_by f (car_sets ring) ≡ sets ring f
sets_sum [] f = let e : 0 + f [] ≡ f [] = omega arith in e
sets_sum (false ∷ ring) f = sum_of_map f off (car_sets ring) ∙ sets_sum ring (λ (r : Ring). f (false ∷ r))
sets_sum (true ∷ ring) f =
    let split = sum_by-append f (map off (car_sets ring)) (map on (car_sets ring)) in
    let a = sum_of_map f off (car_sets ring) in
    let b = sum_of_map f on (car_sets ring) in
    let c = sets_sum ring (λ (r : Ring). f (false ∷ r)) in
    let d = sets_sum ring (λ (r : Ring). f (true ∷ r)) in
    omega (arith, split, a, b, c, d)

-- equal terms
pub rings_same : (n : ℕ) (f g : Ring → ℕ) → ((r : Ring) → length r ≡ n → f r ≡ g r) → rings n f ≡ rings n g
rings_same zero f g same = same [] refl
rings_same (suc n) f g same =
    let a = rings_same n (λ (r : Ring). f (false ∷ r)) (λ (r : Ring). g (false ∷ r)) (λ r long. same (false ∷ r) (ap suc long)) in
    let b = rings_same n (λ (r : Ring). f (true ∷ r)) (λ (r : Ring). g (true ∷ r)) (λ r long. same (true ∷ r) (ap suc long)) in
    omega (arith, a, b)

-- the number of trues of a list, by recursion
abbrev pub trues : Ring → ℕ
trues [] = 0
trues (false ∷ r) = trues r
trues (true ∷ r) = suc (trues r)

pub size_is : (r : Ring) → size r ≡ trues r
size_is [] = refl
size_is (false ∷ r) =
    let a = sum_by-cons (λ (b : Bool). cond b 1 0) false r in
    let rest = size_is r in
    omega (arith, a, rest)
size_is (true ∷ r) =
    let a = sum_by-cons (λ (b : Bool). cond b 1 0) true r in
    let rest = size_is r in
    omega (arith, a, rest)

-- the weight of the braking of a cell's car, and of that of a set of cars
abbrev pub draw_weight : ℕ → ℕ → Bool → Bool → ℕ
draw_weight t q false brake = 1
draw_weight t q true false = q
draw_weight t q true true = t

abbrev pub set_weight : ℕ → ℕ → Ring → Ring → ℕ
set_weight t q [] _ = 1
set_weight t q (own ∷ ring) [] = 1
set_weight t q (own ∷ ring) (brake ∷ set) = draw_weight t q own brake * set_weight t q ring set

-- properties of a set of cars
pub record IsCarSet (ring set : Ring) : Type 0 where
  pub long : length set ≡ length ring
  pub few : trues set ≤ trues ring
  pub powers : (t q : ℕ) → t ^ trues set * q ^ (trues ring - trues set) ≡ set_weight t q ring set

no_cars : IsCarSet [] []
no_cars = record { long = refl; few = omega arith; powers = λ t q. let a = pow-zero t in let b = pow-zero q in ap (λ x. x * q ^ 0) a ∙ ap (λ x. 1 * x) b }

no_car : (ring set : Ring) → IsCarSet ring set → IsCarSet (false ∷ ring) (false ∷ set)
no_car ring set is = record {
  long = ap suc is.long;
  few = is.few;
  powers = λ t q. let a = is.powers t q in omega (arith, a);
}

car_goes : (ring set : Ring) → IsCarSet ring set → IsCarSet (true ∷ ring) (false ∷ set)
car_goes ring set is = let few = is.few in record {
  long = ap suc is.long;
  few = omega (arith, few);
  powers = λ t q.
      let e : suc (trues ring) - trues set ≡ suc (trues ring - trues set) = omega (arith, few) in
      let a = ap (λ k. t ^ trues set * q ^ k) e in
      let b = ap (λ x. t ^ trues set * x) (pow-succ' q (trues ring - trues set)) in
      let c = ap (λ x. q * x) (is.powers t q) in
      omega (arith, a, b, c);
}

car_brakes : (ring set : Ring) → IsCarSet ring set → IsCarSet (true ∷ ring) (true ∷ set)
car_brakes ring set is = let few = is.few in record {
  long = ap suc is.long;
  few = omega (arith, few);
  powers = λ t q.
      let e : suc (trues ring) - suc (trues set) ≡ trues ring - trues set = omega arith in
      let a = ap (λ k. t ^ suc (trues set) * q ^ k) e in
      let b = ap (λ x. x * q ^ (trues ring - trues set)) (pow-succ' t (trues set)) in
      let c = ap (λ x. t * x) (is.powers t q) in
      omega (arith, a, b, c);
}

pub sets_same : (ring : Ring) (f g : Ring → ℕ) → ((s : Ring) → IsCarSet ring s → f s ≡ g s) → sets ring f ≡ sets ring g
sets_same [] f g same = same [] no_cars
sets_same (false ∷ ring) f g same =
    sets_same ring (λ (r : Ring). f (false ∷ r)) (λ (r : Ring). g (false ∷ r)) (λ r is. same (false ∷ r) (no_car ring r is))
sets_same (true ∷ ring) f g same =
    let a = sets_same ring (λ (r : Ring). f (false ∷ r)) (λ (r : Ring). g (false ∷ r)) (λ r is. same (false ∷ r) (car_goes ring r is)) in
    let b = sets_same ring (λ (r : Ring). f (true ∷ r)) (λ (r : Ring). g (true ∷ r)) (λ r is. same (true ∷ r) (car_brakes ring r is)) in
    omega (arith, a, b)

-- sums of sums, and multiples
pub rings_add : (n : ℕ) (f g : Ring → ℕ) → rings n (λ (r : Ring). f r + g r) ≡ rings n f + rings n g
rings_add zero f g = refl
rings_add (suc n) f g =
    let a = rings_add n (λ (r : Ring). f (false ∷ r)) (λ (r : Ring). g (false ∷ r)) in
    let b = rings_add n (λ (r : Ring). f (true ∷ r)) (λ (r : Ring). g (true ∷ r)) in
    omega (arith, a, b)

pub rings_times : (n k : ℕ) (f : Ring → ℕ) → rings n (λ (r : Ring). k * f r) ≡ k * rings n f
rings_times zero k f = refl
rings_times (suc n) k f =
    let a = rings_times n k (λ (r : Ring). f (false ∷ r)) in
    let b = rings_times n k (λ (r : Ring). f (true ∷ r)) in
    omega (arith, a, b)

pub sets_add : (ring : Ring) (f g : Ring → ℕ) → sets ring (λ (r : Ring). f r + g r) ≡ sets ring f + sets ring g
sets_add [] f g = refl
sets_add (false ∷ ring) f g = sets_add ring (λ (r : Ring). f (false ∷ r)) (λ (r : Ring). g (false ∷ r))
sets_add (true ∷ ring) f g =
    let a = sets_add ring (λ (r : Ring). f (false ∷ r)) (λ (r : Ring). g (false ∷ r)) in
    let b = sets_add ring (λ (r : Ring). f (true ∷ r)) (λ (r : Ring). g (true ∷ r)) in
    omega (arith, a, b)

pub sets_times : (ring : Ring) (k : ℕ) (f : Ring → ℕ) → sets ring (λ (r : Ring). k * f r) ≡ k * sets ring f
sets_times [] k f = refl
sets_times (false ∷ ring) k f = sets_times ring k (λ (r : Ring). f (false ∷ r))
sets_times (true ∷ ring) k f =
    let a = sets_times ring k (λ (r : Ring). f (false ∷ r)) in
    let b = sets_times ring k (λ (r : Ring). f (true ∷ r)) in
    omega (arith, a, b)

-- a sum of sums may be taken in either order
pub rings_sets_swap : (n : ℕ) (ring : Ring) (f : Ring → Ring → ℕ) → rings n (λ (r : Ring). sets ring (λ (s : Ring). f r s)) ≡ sets ring (λ (s : Ring). rings n (λ (r : Ring). f r s))
rings_sets_swap zero ring f = refl
rings_sets_swap (suc n) ring f =
    let a = rings_sets_swap n ring (λ (r s : Ring). f (false ∷ r) s) in
    let b = rings_sets_swap n ring (λ (r s : Ring). f (true ∷ r) s) in
    let c = sets_add ring (λ (s : Ring). rings n (λ (r : Ring). f (false ∷ r) s)) (λ (s : Ring). rings n (λ (r : Ring). f (true ∷ r) s)) in
    omega (arith, a, b, c)

-- A ring as a chain of cells, cut open before its first cell: the chain after a step, and the sums of all
-- weights that lead to a chain.

abbrev pub bit : Bool → ℕ
bit true = 1
bit false = 0

-- does a car leave its cell, if `next` is whether the cell ahead is taken?
abbrev pub leaves : Bool → Bool → Bool → Bool
leaves own next brake = own && not next && not brake

-- is a cell taken after the step, if `came` is whether a car comes to it?
abbrev pub kept : Bool → Bool → Bool → Bool
kept own left came = (own && not left) || came

module _ (t q : ℕ) where
  -- the weight of a cell on the old ring
  abbrev pub own_weight : Bool → Bool → ℕ
  own_weight false next = 1
  own_weight true false = t + q
  own_weight true true = t

  -- the weight of one cell of a step: 0 if the new cell has another content
  abbrev pub cell_weight : Bool → Bool → Bool → Bool → Bool → ℕ
  cell_weight came own next brake new = bit (beq (kept own (leaves own next brake) came) new) * (own_weight own next * draw_weight t q own brake)

  -- the weight of a step of a chain: `came` is whether a car comes before it, `first` is the cell ahead of
  -- it, and `last` is whether a car leaves it
  abbrev pub chain : Bool → Bool → Bool → Ring → Ring → Ring → ℕ
  chain first last came [] [] [] = bit (beq came last)
  chain first last came (own ∷ old) (brake ∷ braking) (cell ∷ new) =
      cell_weight came own (get_or old 0 first) brake cell
      * chain first last (leaves own (get_or old 0 first) brake) old braking new
  chain first last came _ _ _ = 0

  -- the sum over all chains that begin with `own`, by recursion: the cell after the last is `first`
  abbrev pub sums : Bool → Bool → Bool → Bool → Ring → ℕ
  sums first last came own [] = bit (beq own first) * bit (beq came last)
  sums first last came false (cell ∷ new) =
      cell_weight came false false false cell * sums first last false false new
      + cell_weight came false true false cell * sums first last false true new
  sums first last came true (cell ∷ new) =
      cell_weight came true false false cell * sums first last true false new
      + cell_weight came true false true cell * sums first last false false new
      + (cell_weight came true true false cell * sums first last false true new
      + cell_weight came true true true cell * sums first last false true new)

  -- the sum over chains, by its definition
  abbrev pub all_chains : Bool → Bool → Bool → Bool → Bool → Ring → ℕ
  all_chains first last came own cell new =
      rings (length new) (λ (old : Ring). sets (own ∷ old) (λ (braking : Ring). chain first last came (own ∷ old) braking (cell ∷ new)))

  -- the part of these sums in which the next cell and the braking are given
  part : (first last came own next brake cell new_cell : Bool) (new : Ring)
      → rings (length new) (λ (old : Ring). sets (next ∷ old) (λ (braking : Ring). chain first last came (own ∷ next ∷ old) (brake ∷ braking) (cell ∷ new_cell ∷ new)))
      ≡ cell_weight came own next brake cell * all_chains first last (leaves own next brake) next new_cell new
  part first last came own next brake cell new_cell new =
      let k = cell_weight came own next brake cell in
      let f : Ring → Ring → ℕ = λ old braking. chain first last (leaves own next brake) (next ∷ old) braking (new_cell ∷ new) in
      rings_pull (length new) k (λ old. next ∷ old) f
    where
      rings_pull : (n k : ℕ) (g : Ring → Ring) (f : Ring → Ring → ℕ) → rings n (λ (old : Ring). sets (g old) (λ (braking : Ring). k * f old braking)) ≡ k * rings n (λ (old : Ring). sets (g old) (f old))
      rings_pull zero k g f = sets_times (g []) k (f [])
      rings_pull (suc n) k g f =
          let a = rings_pull n k (λ (r : Ring). g (false ∷ r)) (λ (r : Ring). f (false ∷ r)) in
          let b = rings_pull n k (λ (r : Ring). g (true ∷ r)) (λ (r : Ring). f (true ∷ r)) in
          omega (arith, a, b)

  -- the two are equal
  pub chains_sum : (first last came own cell : Bool) (new : Ring) → all_chains first last came own cell new ≡ sums first last came own (cell ∷ new)
  chains_sum false last came false cell [] = omega arith
  chains_sum true last came false cell [] = omega arith
  chains_sum false last came true cell [] = omega arith
  chains_sum true last came true cell [] = omega arith
  chains_sum first last came false cell (c ∷ new) =
      let a = part first last came false false false cell c new in
      let b = part first last came false true false cell c new in
      let d = chains_sum first last false false c new in
      let e = chains_sum first last false true c new in
      let f = ap (λ x. cell_weight came false false false cell * x) d in
      let g = ap (λ x. cell_weight came false true false cell * x) e in
      omega (arith, a, b, f, g)
  chains_sum first last came true cell (c ∷ new) =
      let next_no = rings_add (length new)
      (λ (old : Ring). sets (false ∷ old) (λ (braking : Ring). chain first last came (true ∷ false ∷ old) (false ∷ braking) (cell ∷ c ∷ new)))
      (λ (old : Ring). sets (false ∷ old) (λ (braking : Ring). chain first last came (true ∷ false ∷ old) (true ∷ braking) (cell ∷ c ∷ new))) in
      let next_yes = rings_add (length new)
      (λ (old : Ring). sets (true ∷ old) (λ (braking : Ring). chain first last came (true ∷ true ∷ old) (false ∷ braking) (cell ∷ c ∷ new)))
      (λ (old : Ring). sets (true ∷ old) (λ (braking : Ring). chain first last came (true ∷ true ∷ old) (true ∷ braking) (cell ∷ c ∷ new))) in
      let a = part first last came true false false cell c new in
      let b = part first last came true false true cell c new in
      let a' = part first last came true true false cell c new in
      let b' = part first last came true true true cell c new in
      let d = ap (λ x. cell_weight came true false false cell * x) (chains_sum first last true false c new) in
      let e = ap (λ x. cell_weight came true false true cell * x) (chains_sum first last false false c new) in
      let d' = ap (λ x. cell_weight came true true false cell * x) (chains_sum first last false true c new) in
      let e' = ap (λ x. cell_weight came true true true cell * x) (chains_sum first last false true c new) in
      omega (arith, next_no, next_yes, a, b, a', b', d, e, d', e')

  -- the closed form: a factor for each taken cell, which depends on the cell behind it
  abbrev pub product : ℕ → ℕ → Bool → Ring → ℕ
  product e0 e1 false [] = e0
  product e0 e1 true [] = e1
  product e0 e1 before (false ∷ new) = product e0 e1 false new
  product e0 e1 false (true ∷ new) = (t + q) * (t + q) * product e0 e1 true new
  product e0 e1 true (true ∷ new) = (t + q) * t * product e0 e1 true new

  -- the sums from an empty cell to which no car comes, for any next cell
  abbrev pub open_sums : Bool → Bool → Ring → ℕ
  open_sums first last new = sums first last false false new + sums first last false true new

  pub record HasProduct (first last : Bool) (e0 e1 : ℕ) (new : Ring) : Type 0 where
    pub after_taken : open_sums first last new ≡ product e0 e1 true new
    pub after_empty : open_sums first last new + (t + q) * q * sums first last true false new ≡ product e0 e1 false new

  pub has_product : (first last : Bool) (e0 e1 : ℕ) → HasProduct first last e0 e1 [] → (new : Ring) → HasProduct first last e0 e1 new
  has_product first last e0 e1 end [] = end
  has_product first last e0 e1 end (false ∷ new) =
      let rest = has_product first last e0 e1 end new in
      let a = rest.after_taken in
      let b = rest.after_empty in
      record { after_taken = omega (arith, a, b); after_empty = omega (arith, a, b) }
  has_product first last e0 e1 end (true ∷ new) =
      let rest = has_product first last e0 e1 end new in
      let a = rest.after_taken in
      let b = rest.after_empty in
      let c = ap (λ x. (t + q) * t * x) a in
      let d = ap (λ x. (t + q) * (t + q) * x) a in
      record { after_taken = omega (arith, a, b, c); after_empty = omega (arith, a, b, c, d) }

  -- the four ways to close the ring
  moving_end : (last : Bool) → HasProduct true true 0 0 []
  moving_end last = record { after_taken = omega arith; after_empty = omega arith }

  open_end : (first : Bool) → HasProduct first false 1 1 []
  open_end false = record { after_taken = omega arith; after_empty = omega arith }
  open_end true = record { after_taken = omega arith; after_empty = omega arith }

  left_end : HasProduct false true ((t + q) * q) 0 []
  left_end = record { after_taken = omega arith; after_empty = omega arith }

  product_none : (before : Bool) (new : Ring) → product 0 0 before new ≡ 0
  product_none false [] = refl
  product_none true [] = refl
  product_none false (false ∷ new) = product_none false new
  product_none true (false ∷ new) = product_none false new
  product_none false (true ∷ new) = let e = ap (λ x. (t + q) * (t + q) * x) (product_none true new) in omega (arith, e)
  product_none true (true ∷ new) = let e = ap (λ x. (t + q) * t * x) (product_none true new) in omega (arith, e)

  -- all four together
  abbrev pub closed : Ring → ℕ
  closed new = sums false false false false new + sums true false false true new + (sums false true true false new + sums true true true true new)

  -- closed rings whose first cell is empty, or taken
  pub closed_empty : (new : Ring) → closed (false ∷ new) ≡ product 1 1 false new
  closed_empty new =
      let a = has_product false false 1 1 (open_end false) new in
      let b = has_product true false 1 1 (open_end true) new in
      let ta = a.after_taken in
      let bt = b.after_taken in
      let be = b.after_empty in
      omega (arith, ta, bt, be)

  pub closed_taken : (new : Ring) → closed (true ∷ new) ≡ (t + q) * t * product 1 1 true new + product ((t + q) * q) 0 true new
  closed_taken new =
      let b = has_product true false 1 1 (open_end true) new in
      let c = has_product false true ((t + q) * q) 0 left_end new in
      let d = has_product true true 0 0 (moving_end true) new in
      let bt = ap (λ x. (t + q) * t * x) b.after_taken in
      let ct = c.after_taken in
      let dt = ap (λ x. (t + q) * t * x) d.after_taken in
      let de = d.after_empty in
      let d_t = d.after_taken in
      let none = product_none true new in
      let none' = product_none false new in
      let zero_t = ap (λ x. (t + q) * t * x) none in
      omega (arith, bt, ct, dt, de, d_t, none, none', zero_t)

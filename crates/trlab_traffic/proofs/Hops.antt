-- One car of a ring hops into the next cell while all others brake: hops backwards lead from every ring to the one on
-- which all cars are in the first cells.
use Rattle.std.proofs.Common.{◌≡◌, ℕ, zero, suc, ◌≤◌, Bool, true, false, [], ◌∷◌, ◌++◌, length, get_or, refl}
use Rattle.std.proofs.Common.{◌∙◌, ap, arith}
use Rattle.trlab_traffic.{specs.LimitOne.{Ring, ring_after, is_same}, proofs.Chains.{kept, leaves, sets}}
use Rattle.trlab_traffic.proofs.{Chains.trues, RingSteps.{cells, leaving, ring_after_is}, Clusters.falses}

-- a car that hops into the next cell, and the set of all other cars
abbrev pub before_hop : Ring → Ring → Ring
before_hop a b = a ++ true ∷ false ∷ b

abbrev pub after_hop : Ring → Ring → Ring
after_hop a b = a ++ false ∷ true ∷ b

abbrev pub others : Ring → Ring → Ring
others a b = a ++ false ∷ false ∷ b

pub hop_long : (a b : Ring) → length (before_hop a b) ≡ length (after_hop a b)
hop_long [] b = refl
hop_long (own ∷ a) b = ap suc (hop_long a b)

others_long : (a b : Ring) → length (others a b) ≡ length (before_hop a b)
others_long [] b = refl
others_long (own ∷ a) b = ap suc (others_long a b)

pub hop_cars : (a b : Ring) → trues (before_hop a b) ≡ trues (after_hop a b)
hop_cars [] b = refl
hop_cars (false ∷ a) b = hop_cars a b
hop_cars (true ∷ a) b = ap suc (hop_cars a b)

-- a cell whose car brakes stays as it is
braked_stays : (own next : Bool) → leaves own next own ≡ false
braked_stays false next = refl
braked_stays true false = refl
braked_stays true true = refl

kept_own : (own : Bool) → kept own false false ≡ own
kept_own false = refl
kept_own true = refl

all_stay : (first : Bool) (b : Ring) → cells first false b b ≡ b
all_stay first [] = refl
all_stay first (own ∷ b) =
    let next = get_or b 0 first in
    ap (λ left. kept own left false ∷ cells first left b b) (braked_stays own next)
    ∙ ap (λ cell. cell ∷ cells first false b b) (kept_own own)
    ∙ ap (λ (r : Ring). own ∷ r) (all_stay first b)

none_leaves : (first : Bool) (b : Ring) → leaving first false b b ≡ false
none_leaves first [] = refl
none_leaves first (own ∷ b) = ap (λ left. leaving first left b b) (braked_stays own (get_or b 0 first)) ∙ none_leaves first b

one_hops : (first : Bool) (a b : Ring) → cells first false (before_hop a b) (others a b) ≡ after_hop a b
one_hops first [] b = ap (λ (r : Ring). false ∷ true ∷ r) (all_stay first b)
one_hops first (own ∷ a) b =
    let old = before_hop a b in
    ap (λ left. kept own left false ∷ cells first left old (others a b)) (braked_stays own (get_or old 0 first))
    ∙ ap (λ cell. cell ∷ cells first false old (others a b)) (kept_own own)
    ∙ ap (λ (r : Ring). own ∷ r) (one_hops first a b)

none_wraps : (first came : Bool) (a b : Ring) → leaving first came (before_hop a b) (others a b) ≡ false
none_wraps first came [] b = none_leaves first b
none_wraps first came (own ∷ a) b = none_wraps first (leaves own (get_or (before_hop a b) 0 first) own) a b

-- so a step in which all other cars brake leads from the one ring to the other
pub leads_on : (a b : Ring) → ring_after (before_hop a b) (others a b) ≡ after_hop a b
leads_on a b =
    let old = before_hop a b in
    let first = get_or old 0 false in
    ring_after_is old (others a b) (others_long a b)
    ∙ ap (λ came. cells first came old (others a b)) (none_wraps first false a b)
    ∙ one_hops first a b

pub is_itself : (r : Ring) → is_same r r ≡ true
is_itself [] = refl
is_itself (false ∷ r) = is_itself r
is_itself (true ∷ r) = is_itself r

-- a sum over all sets of cars has the term of each set
has_all : (b : Ring) (f : Ring → ℕ) → f b ≤ sets b f
has_all [] f = omega arith
has_all (false ∷ b) f = has_all b (λ (s : Ring). f (false ∷ s))
has_all (true ∷ b) f = let rest = has_all b (λ (s : Ring). f (true ∷ s)) in omega (arith, rest)

pub has_others : (a b : Ring) (f : Ring → ℕ) → f (others a b) ≤ sets (before_hop a b) f
has_others [] b f = let rest = has_all b (λ (s : Ring). f (false ∷ false ∷ s)) in omega (arith, rest)
has_others (false ∷ a) b f = has_others a b (λ (s : Ring). f (false ∷ s))
has_others (true ∷ a) b f = let rest = has_others a b (λ (s : Ring). f (true ∷ s)) in omega (arith, rest)

-- the ring with all cars in the first cells
abbrev pub row : ℕ → Ring → Ring
row zero rest = rest
row (suc m) rest = true ∷ row m rest

abbrev pub blank : ℕ → Ring
blank zero = []
blank (suc e) = false ∷ blank e

-- a property that each hop backwards preserves holds of the ring with all cars in the first cells
sift : (Q : Ring → Type 0) → ((a b : Ring) → Q (after_hop a b) → Q (before_hop a b)) → (m : ℕ) (rest : Ring) → Q (false ∷ row m rest) → Q (row m (false ∷ rest))
sift Q back zero rest holds = holds
sift Q back (suc m) rest holds = sift (λ (r : Ring). Q (true ∷ r)) (λ a b. back (true ∷ a) b) m rest (back [] (row m rest) holds)

pub sorted : (Q : Ring → Type 0) → ((a b : Ring) → Q (after_hop a b) → Q (before_hop a b)) → (r : Ring) → Q r → Q (row (trues r) (blank (falses r)))
sorted Q back [] holds = holds
sorted Q back (true ∷ r) holds = sorted (λ (s : Ring). Q (true ∷ s)) (λ a b. back (true ∷ a) b) r holds
sorted Q back (false ∷ r) holds =
    sift Q back (trues r) (blank (falses r)) (sorted (λ (s : Ring). Q (false ∷ s)) (λ a b. back (false ∷ a) b) r holds)

-- The exact flow of the stationary state on a finite ring.
use Rattle.std.proofs.Common.{◌≡◌, ℕ, zero, suc, ◌+◌, ◌-◌, ◌*◌, ◌^◌, Bool, true, false, not, ◌&&◌, cond}
use Rattle.std.proofs.Common.{if◌then◌else◌, nat_eq, [], ◌∷◌, length, get_or, refl, sym, ◌∙◌, ap, subst, inl}
use Rattle.std.proofs.{Common.{inr, arith, sum_by}, Math.Nat.{pow-succ'}, lemmas.Bool.cases_eq}
use Rattle.std.specs.List.{range_with_len}
use Rattle.trlab_bounds.specs.declared.programs.TheConstants.{CERTAIN}
use Rattle.trlab_traffic.specs.LimitOne.{Ring, is_moving_car, size, moving_cars, FlowIsExact, choose}
use Rattle.trlab_traffic.specs.LimitOne.{clustered_rings, distance_weight, splits, all_rings, braking_weight}
use Rattle.trlab_traffic.{specs.LimitOne.{free_cars, stationary_weight}, proofs.Lanes.{sum_range, total}}
use Rattle.trlab_traffic.proofs.{Lanes.{total_at, total_none, total_same}, Chains.{bit, leaves, rings}}
use Rattle.trlab_traffic.proofs.Chains.{rings_add, rings_same, rings_sum, rings_times, set_weight, sets}
use Rattle.trlab_traffic.proofs.Chains.{sets_add, sets_same, sets_sum, sets_times, size_is, trues}
use Rattle.trlab_traffic.proofs.{RingSteps.moves_is, Stationary.{bit_is, blocked_or_free, braking_is, chosen}}
use Rattle.trlab_traffic.proofs.{Stationary.{free, free_is, sets_weigh}, Clusters.{falses, no_empty, nothing}}
use Rattle.trlab_traffic.proofs.Clusters.{picked_ring, ring_count, same, same_is, same_not, same_self}

-- the cars of a chain that move
abbrev movers : Bool → Ring → Ring → ℕ
movers first [] _ = 0
movers first (own ∷ old) [] = 0
movers first (own ∷ old) (brake ∷ braking) = bit (leaves own (get_or old 0 first) brake) + movers first old braking

movers_total : (first : Bool) (old braking : Ring) → length braking ≡ length old
    → movers first old braking ≡ total (λ x. bit (leaves (get_or old x false) (get_or old (suc x) first) (get_or braking x false))) (length old)
movers_total first [] braking long = refl
movers_total first (own ∷ old) [] long = absurd (omega (arith, long))
movers_total first (own ∷ old) (brake ∷ braking) long = let rest = movers_total first old braking (omega (arith, long)) in omega (arith, rest)

moving_is : (ring braking : Ring) → length braking ≡ length ring → moving_cars ring braking ≡ movers (get_or ring 0 false) ring braking
moving_is ring braking long =
    let first = get_or ring 0 false in
    sum_range (λ x. cond (is_moving_car ring braking x) 1 0) 0 (length ring)
    ∙ total_same (λ x. cond (is_moving_car ring braking (0 + x)) 1 0) (λ x. bit (leaves (get_or ring x false) (get_or ring (suc x) first) (get_or braking x false))) (length ring)
    (λ x low. let e : 0 + x ≡ x = omega arith in
    ap (λ k. cond (is_moving_car ring braking k) 1 0) e ∙ bit_is (is_moving_car ring braking x) ∙ ap bit (moves_is ring braking x low))
    ∙ sym (movers_total first ring braking long)

module _ (t q : ℕ) where
  -- the number of cars that move, over all sets of braking cars
  abbrev distances : Bool → Ring → ℕ
  distances first old = sets old (λ (braking : Ring). set_weight t q old braking * movers first old braking)

  pub distances_are : (first : Bool) (old : Ring) → (t + q) * distances first old ≡ (t + q) ^ trues old * (q * free first old)
  distances_are first [] = omega arith
  distances_are first (false ∷ old) =
      let same_terms = sets_same old (λ (s : Ring). 1 * set_weight t q old s * (0 + movers first old s)) (λ (s : Ring). set_weight t q old s * movers first old s)
      (λ s is. let w = set_weight t q old s in let m = movers first old s in let e : 1 * w * (0 + m) ≡ w * m = omega arith in e) in
      let rest = distances_are first old in
      let f : 0 + free first old ≡ free first old = omega arith in
      ap (λ x. (t + q) * x) same_terms ∙ rest ∙ ap (λ x. (t + q) ^ trues old * (q * x)) (sym f)
  distances_are first (true ∷ old) = by_next (get_or old 0 first) (distances_are first old)
    where
      w : Ring → ℕ
      w s = set_weight t q old s

      m : Ring → ℕ
      m s = movers first old s

      plain : (k : ℕ) → sets old (λ (s : Ring). k * w s * (0 + m s)) ≡ k * distances first old
      plain k =
          sets_same old (λ (s : Ring). k * w s * (0 + m s)) (λ (s : Ring). k * (w s * m s)) (λ s is. let a = w s in let b = m s in let e : k * a * (0 + b) ≡ k * (a * b) = omega arith in e)
          ∙ sets_times old k (λ (s : Ring). w s * m s)

      moved : sets old (λ (s : Ring). q * w s * (1 + m s)) ≡ q * (t + q) ^ trues old + q * distances first old
      moved =
          let a = sets_same old (λ (s : Ring). q * w s * (1 + m s)) (λ (s : Ring). q * w s + q * (w s * m s)) (λ s is. let a = w s in let b = m s in let e : q * a * (1 + b) ≡ q * a + q * (a * b) = omega arith in e) in
          let b = sets_add old (λ (s : Ring). q * w s) (λ (s : Ring). q * (w s * m s)) in
          let c = sets_times old q w in
          let d = sets_times old q (λ (s : Ring). w s * m s) in
          let e = ap (λ x. q * x) (sets_weigh t q old) in
          omega (arith, a, b, c, d, e)

      by_next : (next : Bool) → (t + q) * distances first old ≡ (t + q) ^ trues old * (q * free first old) → (t + q) * (sets old (λ (s : Ring). q * w s * (bit (leaves true next false) + m s)) + sets old (λ (s : Ring). t * w s * (bit (leaves true next true) + m s)))
          ≡ (t + q) ^ suc (trues old) * (q * (bit (true && not next) + free first old))
      by_next false known =
          let a = moved in
          let b = plain t in
          let rest = ap (λ x. (t + q) * x) known in
          let p = ap (λ x. x * (q * (1 + free first old))) (pow-succ' (t + q) (trues old)) in
          ap (λ x. (t + q) * (x + sets old (λ (s : Ring). t * w s * (0 + m s)))) a
          ∙ ap (λ x. (t + q) * (q * (t + q) ^ trues old + q * distances first old + x)) b
          ∙ (let e : (t + q) * (q * (t + q) ^ trues old + q * distances first old + t * distances first old) ≡ (t + q) ^ suc (trues old) * (q * (1 + free first old)) = omega (arith, rest, p) in e)
      by_next true known =
          let a = plain q in
          let b = plain t in
          let rest = ap (λ x. (t + q) * x) known in
          let p = ap (λ x. x * (q * (0 + free first old))) (pow-succ' (t + q) (trues old)) in
          ap (λ x. (t + q) * (x + sets old (λ (s : Ring). t * w s * (0 + m s)))) a
          ∙ ap (λ x. (t + q) * (q * distances first old + x)) b
          ∙ (let e : (t + q) * (q * distances first old + t * distances first old) ≡ (t + q) ^ suc (trues old) * (q * (0 + free first old)) = omega (arith, rest, p) in e)

distance_is : (p : ℕ) (ring : Ring) → p + (CERTAIN - p) ≡ CERTAIN → CERTAIN * distance_weight p ring ≡ CERTAIN ^ trues ring * ((CERTAIN - p) * free (get_or ring 0 false) ring)
distance_is p ring e =
    let first = get_or ring 0 false in
    let q = CERTAIN - p in
    let f : Ring → ℕ = λ braking. braking_weight p ring braking * moving_cars ring braking in
    let g : Ring → ℕ = λ braking. set_weight p q ring braking * movers first ring braking in
    let summed : distance_weight p ring ≡ distances p q first ring =
    sets_sum ring f
    ∙ sets_same ring f g (λ braking is. ap (λ k. k * moving_cars ring braking) (braking_is p ring braking is) ∙ ap (λ k. set_weight p q ring braking * k) (moving_is ring braking is.long)) in
    ap (λ k. CERTAIN * k) summed
    ∙ ap (λ c. c * distances p q first ring) (sym e)
    ∙ distances_are p q first ring
    ∙ ap (λ c. c ^ trues ring * (q * free first ring)) e

-- sums by clusters
rings_total : (n m : ℕ) (f : ℕ → Ring → ℕ) → rings n (λ (r : Ring). total (λ k. f k r) m) ≡ total (λ k. rings n (f k)) m
rings_total n zero f = nothing n (λ (r : Ring). 0) (λ r. refl)
rings_total n (suc m) f =
    let a = rings_add n (f 0) (λ (r : Ring). total (λ k. f (suc k) r) m) in
    let b = rings_total n m (λ k. f (suc k)) in
    omega (arith, a, b)

by_free : (G : ℕ → ℕ) (m e : ℕ) (r : Ring) → length r ≡ m + e
    → same (trues r) m * G (free (get_or r 0 false) r) ≡ total (λ k. G k * picked_ring m e k r) (suc m)
by_free G m e r long =
    let first = get_or r 0 false in
    let k = free first r in
    let some = blocked_or_free first r in
    elim (cases_eq (trues r) m) [
      | inl is ↦
          let here = total_at (λ j. G j * picked_ring m e j r) (suc m) k (omega (arith, some, is))
          (λ j low other.
          let z = same_not k j (λ d. other (sym d)) in
          let none : G j * (same (trues r) m * same (falses r) e * 0) ≡ 0 = omega arith in
          ap (λ x. G j * (same (trues r) m * same (falses r) e * x)) z ∙ none) in
          let one : same (trues r) m * G k ≡ G k * (same (trues r) m * 1) = omega arith in
          one ∙ ap (λ x. G k * (x * 1)) (sym (no_empty m e r long)) ∙ ap (λ x. G k * (same (trues r) m * same (falses r) e * x)) (sym (same_self k)) ∙ sym here
      | inr other ↦
          let z = same_not (trues r) m other in
          let none : 0 * G k ≡ 0 = omega arith in
          ap (λ x. x * G k) z ∙ none ∙ sym (total_none (λ j. G j * picked_ring m e j r) (suc m)
          (λ j low. let zero_all : G j * (0 * same (falses r) e * same k j) ≡ 0 = omega arith in ap (λ x. G j * (x * same (falses r) e * same k j)) z ∙ zero_all))
    ]

grouped : (G : ℕ → ℕ) (n m e : ℕ) → suc n ≡ m + e
    → rings (suc n) (λ (r : Ring). same (trues r) m * G (free (get_or r 0 false) r)) ≡ total (λ k. clustered_rings m e k * G k) (suc m)
grouped G n m e sum =
    rings_same (suc n) (λ (r : Ring). same (trues r) m * G (free (get_or r 0 false) r)) (λ (r : Ring). total (λ k. G k * picked_ring m e k r) (suc m)) (λ r long. by_free G m e r (long ∙ sum))
    ∙ rings_total (suc n) (suc m) (λ k r. G k * picked_ring m e k r)
    ∙ total_same (λ k. rings (suc n) (λ (r : Ring). G k * picked_ring m e k r)) (λ k. clustered_rings m e k * G k) (suc m)
    (λ k low.
    let turn : G k * clustered_rings m e k ≡ clustered_rings m e k * G k = omega arith in
    rings_times (suc n) (G k) (picked_ring m e k) ∙ ap (λ x. G k * x) (ring_count n m e k sum) ∙ turn)

-- each of k clusters may be the first
two_splits : (n k : ℕ) → n * (splits n k + splits n (suc k)) ≡ n * choose n k
two_splits zero k = omega arith
two_splits (suc n) zero = refl
two_splits (suc n) (suc k) = refl

absorb : (n k : ℕ) → k * choose n k ≡ n * splits n k
absorb zero zero = refl
absorb zero (suc k) = omega arith
absorb (suc n) zero = omega arith
absorb (suc n) (suc k) =
    let a = absorb n k in
    let b = absorb n (suc k) in
    let c = two_splits n k in
    omega (arith, a, b, c)

clusters_once : (m e k : ℕ) → k * clustered_rings m e k ≡ (m + e) * (splits m k * splits e k)
clusters_once m e k =
    let a = ap (λ x. x * splits e k) (absorb m k) in
    let b = ap (λ x. splits m k * x) (absorb e k) in
    omega (arith, a, b)

total_times : (c : ℕ) (f : ℕ → ℕ) (n : ℕ) → total (λ k. c * f k) n ≡ c * total f n
total_times c f zero = omega arith
total_times c f (suc n) = let rest = total_times c (λ k. f (suc k)) n in omega (arith, rest)

to_range : (f : ℕ → ℕ) (m : ℕ) → total f (suc m) ≡ sum_by f (range_with_len 0 (m + 1))
to_range f m =
    let e : m + 1 ≡ suc m = omega arith in
    sym (sum_range f 0 (m + 1)
    ∙ total_same (λ x. f (0 + x)) f (m + 1) (λ x low. let z : 0 + x ≡ x = omega arith in ap f z)
    ∙ ap (total f) e)

-- the rings with m cars
picked_sum : (m : ℕ) (f : Ring → ℕ) (n : ℕ) → sum_by (λ (r : Ring). if nat_eq (size r) m then f r else 0) (all_rings n) ≡ rings n (λ (r : Ring). same (trues r) m * f r)
picked_sum m f n =
    let g : Ring → ℕ = λ r. if nat_eq (size r) m then f r else 0 in
    rings_sum n g
    ∙ rings_same n g (λ (r : Ring). same (trues r) m * f r)
    (λ r long.
    let turn : f r * same (trues r) m ≡ same (trues r) m * f r = omega arith in
    chosen (nat_eq (size r) m) (f r) ∙ ap (λ k. f r * bit (nat_eq k m)) (size_is r) ∙ ap (λ k. f r * k) (same_is (trues r) m) ∙ turn)

-- sums over the rings with m cars
where_same : (a m x y : ℕ) → (a ≡ m → x ≡ y) → same a m * x ≡ same a m * y
where_same a m x y so =
    elim (cases_eq a m) [
      | inl is ↦ ap (λ k. same a m * k) (so is)
      | inr other ↦
          let z = same_not a m other in
          let none : 0 * x ≡ 0 * y = omega arith in
          ap (λ k. k * x) z ∙ none ∙ ap (λ k. k * y) (sym z)
    ]

module _ (p m e : ℕ) (fits : p + (CERTAIN - p) ≡ CERTAIN) where
  abbrev G : ℕ → ℕ
  G k = p ^ (m - k) * CERTAIN ^ k

  weight_by : (r : Ring) → trues r ≡ m → stationary_weight p r ≡ G (free (get_or r 0 false) r)
  weight_by r is =
      ap (λ k. p ^ (k - free_cars r) * CERTAIN ^ free_cars r) (size_is r ∙ is) ∙ ap G (free_is r)

  weights : (n : ℕ) → suc n ≡ m + e → rings (suc n) (λ (r : Ring). same (trues r) m * stationary_weight p r) ≡ total (λ k. clustered_rings m e k * G k) (suc m)
  weights n sum =
      rings_same (suc n) (λ (r : Ring). same (trues r) m * stationary_weight p r) (λ (r : Ring). same (trues r) m * G (free (get_or r 0 false) r))
      (λ r long. where_same (trues r) m (stationary_weight p r) (G (free (get_or r 0 false) r)) (weight_by r))
      ∙ grouped G n m e sum

  abbrev H : ℕ → ℕ
  H k = G k * k

  abbrev all : ℕ
  all = CERTAIN ^ m * (CERTAIN - p)

  distance_by : (r : Ring) → trues r ≡ m → CERTAIN * (stationary_weight p r * distance_weight p r) ≡ all * H (free (get_or r 0 false) r)
  distance_by r is =
      let k = free (get_or r 0 false) r in
      let w = stationary_weight p r in
      let q = CERTAIN - p in
      turn CERTAIN w (distance_weight p r)
      ∙ ap (λ x. w * x) (distance_is p r fits ∙ ap (λ j. CERTAIN ^ j * (q * k)) is)
      ∙ ap (λ x. x * (CERTAIN ^ m * (q * k))) (weight_by r is)
      ∙ order (G k) (CERTAIN ^ m) q k
    where
      turn : (c w d : ℕ) → c * (w * d) ≡ w * (c * d)
      turn c w d = omega arith

      order : (g c q k : ℕ) → g * (c * (q * k)) ≡ c * q * (g * k)
      order g c q k = omega arith

  distance_sum : (n : ℕ) → suc n ≡ m + e → CERTAIN * rings (suc n) (λ (r : Ring). same (trues r) m * (stationary_weight p r * distance_weight p r))
      ≡ all * ((m + e) * total (λ k. splits m k * splits e k * G k) (suc m))
  distance_sum n sum =
      sym (rings_times (suc n) CERTAIN (λ (r : Ring). same (trues r) m * (stationary_weight p r * distance_weight p r)))
      ∙ rings_same (suc n) (λ (r : Ring). CERTAIN * (same (trues r) m * (stationary_weight p r * distance_weight p r))) (λ (r : Ring). all * (same (trues r) m * H (free (get_or r 0 false) r)))
      (λ r long.
      let k = free (get_or r 0 false) r in
      turn CERTAIN (same (trues r) m) (stationary_weight p r * distance_weight p r)
      ∙ where_same (trues r) m (CERTAIN * (stationary_weight p r * distance_weight p r)) (all * H k) (distance_by r)
      ∙ turn (same (trues r) m) all (H k))
      ∙ rings_times (suc n) all (λ (r : Ring). same (trues r) m * H (free (get_or r 0 false) r))
      ∙ ap (λ x. all * x) (grouped H n m e sum
      ∙ total_same (λ k. clustered_rings m e k * H k) (λ k. (m + e) * (splits m k * splits e k * G k)) (suc m)
      (λ k low. regroup (clustered_rings m e k) (G k) k ∙ ap (λ x. x * G k) (clusters_once m e k) ∙ back (m + e) (splits m k * splits e k) (G k))
      ∙ total_times (m + e) (λ k. splits m k * splits e k * G k) (suc m))
    where
      turn : (a b c : ℕ) → a * (b * c) ≡ b * (a * c)
      turn a b c = omega arith

      regroup : (a g k : ℕ) → a * (g * k) ≡ k * a * g
      regroup a g k = omega arith

      back : (a b g : ℕ) → a * b * g ≡ a * (b * g)
      back a b g = omega arith

pub flow_is_exact : FlowIsExact
flow_is_exact p m e low some =
    let fits : p + (CERTAIN - p) ≡ CERTAIN = omega (arith, low) in
    let n = m + e - 1 in
    let sum : suc n ≡ m + e = omega (arith, some) in
    let weigh : (k : ℕ) → suc n ≡ k → rings k (λ (r : Ring). same (trues r) m * stationary_weight p r) ≡ total (λ k. clustered_rings m e k * G p m e fits k) (suc m) =
    λ k is. subst (λ j. rings j (λ (r : Ring). same (trues r) m * stationary_weight p r) ≡ total (λ k. clustered_rings m e k * G p m e fits k) (suc m)) is (weights p m e fits n sum) in
    let go : (k : ℕ) → suc n ≡ k → CERTAIN * rings k (λ (r : Ring). same (trues r) m * (stationary_weight p r * distance_weight p r)) ≡ all p m e fits * ((m + e) * total (λ k. splits m k * splits e k * G p m e fits k) (suc m)) =
    λ k is. subst (λ j. CERTAIN * rings j (λ (r : Ring). same (trues r) m * (stationary_weight p r * distance_weight p r)) ≡ all p m e fits * ((m + e) * total (λ k. splits m k * splits e k * G p m e fits k) (suc m))) is (distance_sum p m e fits n sum) in
    record {
      weights = picked_sum m (stationary_weight p) (m + e) ∙ weigh (m + e) sum ∙ to_range (λ k. clustered_rings m e k * G p m e fits k) m;
      distances = ap (λ x. CERTAIN * x) (picked_sum m (λ (r : Ring). stationary_weight p r * distance_weight p r) (m + e)) ∙ go (m + e) sum
          ∙ ap (λ x. all p m e fits * ((m + e) * x)) (to_range (λ k. splits m k * splits e k * G p m e fits k) m);
    }

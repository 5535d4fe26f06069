-- For a braking probability above 0 and below 1 the stationary weights are the only ones. The largest ratio
-- of other weights to them does not change under a step backwards, nor does the smallest; and steps
-- backwards lead from every ring to the one with all cars in the first cells, for which both ratios are
-- equal.
use Rattle.std.proofs.Common.{◌≡◌, ◌≢◌, ◌⊎◌, ℕ, zero, suc, ◌+◌, ◌-◌, ◌*◌, ◌^◌, ◌<◌, ◌≤◌, Bool, true, false}
use Rattle.std.proofs.Common.{if◌then◌else◌, [], ◌∷◌, length, refl, sym, ◌∙◌, ap, subst, inl, inr, arith}
use Rattle.std.proofs.{Math.Nat.{pow-succ', pow-zero}, lemmas.Bool.{cases_eq, cases_lt}}
use Rattle.trlab_bounds.specs.declared.programs.TheConstants.{CERTAIN}
use Rattle.trlab_traffic.specs.LimitOne.{Ring, ring_after, size, IsStationary, StationaryWeightsAreUnique}
use Rattle.trlab_traffic.specs.LimitOne.{braking_weight, free_cars, is_same, stationary_weight, step_weight}
use Rattle.trlab_traffic.proofs.Chains.{rings, rings_sum, rings_times, sets_sum, size_is, trues}
use Rattle.trlab_traffic.proofs.{Stationary.weights_are_stationary, Hops.{has_others, row, blank, sorted}}
use Rattle.trlab_traffic.proofs.{RingWords.by_new, Clusters.{each_cell, falses, same, same_not, same_self}}
use Rattle.trlab_traffic.proofs.Hops.{before_hop, after_hop, others, hop_long, hop_cars, leads_on, is_itself}

-- products
some_product : (a b : ℕ) → 0 < a → 0 < b → 0 < a * b
some_product zero b some other = absurd (omega (arith, some))
some_product (suc a) zero some other = absurd (omega (arith, other))
some_product (suc a) (suc b) some other = omega arith

some_power : (a k : ℕ) → 0 < a → 0 < a ^ k
some_power a zero some = let e = pow-zero a in omega (arith, e)
some_power a (suc k) some =
    let e = pow-succ' a k in
    let rest = some_product a (a ^ k) some (some_power a k some) in
    omega (arith, e, rest)

times_le : (k a b : ℕ) → a ≤ b → a * k ≤ b * k
times_le k a b less =
    let d = b - a in
    let e : b ≡ a + d = omega (arith, less) in
    let f : b * k ≡ (a + d) * k = ap (λ x. x * k) e in
    omega (arith, f)

cancel_le : (k a b : ℕ) → 0 < k → a * k ≤ b * k → a ≤ b
cancel_le k a b some less =
    elim (cases_lt b a) [
      | inl more ↦
          let d = a - suc b in
          let e : a ≡ suc b + d = omega (arith, more) in
          let f : a * k ≡ (suc b + d) * k = ap (λ x. x * k) e in
          absurd (omega (arith, f, less, some))
      | inr within ↦ within
    ]

cancel : (k a b : ℕ) → 0 < k → a * k ≡ b * k → a ≡ b
cancel k a b some same_product =
    let less = cancel_le k a b some (omega (arith, same_product)) in
    let more = cancel_le k b a some (omega (arith, same_product)) in
    omega (arith, less, more)

-- sums of equal value, each term of one at most that of the other, have equal terms
rings_le : (n : ℕ) (f g : Ring → ℕ) → ((r : Ring) → length r ≡ n → f r ≤ g r) → rings n f ≤ rings n g
rings_le zero f g less = less [] refl
rings_le (suc n) f g less =
    let a = rings_le n (λ (r : Ring). f (false ∷ r)) (λ (r : Ring). g (false ∷ r)) (λ r long. less (false ∷ r) (ap suc long)) in
    let b = rings_le n (λ (r : Ring). f (true ∷ r)) (λ (r : Ring). g (true ∷ r)) (λ r long. less (true ∷ r) (ap suc long)) in
    omega (arith, a, b)

each_same : (n : ℕ) (f g : Ring → ℕ) → ((r : Ring) → length r ≡ n → f r ≤ g r) → rings n f ≡ rings n g → (r : Ring) → length r ≡ n → f r ≡ g r
each_same zero f g less equal [] long = equal
each_same zero f g less equal (own ∷ r) long = absurd (omega (arith, long))
each_same (suc n) f g less equal [] long = absurd (omega (arith, long))
each_same (suc n) f g less equal (own ∷ r) long =
    let less_empty : (r : Ring) → length r ≡ n → f (false ∷ r) ≤ g (false ∷ r) = λ r long. less (false ∷ r) (ap suc long) in
    let less_taken : (r : Ring) → length r ≡ n → f (true ∷ r) ≤ g (true ∷ r) = λ r long. less (true ∷ r) (ap suc long) in
    let a = rings_le n (λ (r : Ring). f (false ∷ r)) (λ (r : Ring). g (false ∷ r)) less_empty in
    let b = rings_le n (λ (r : Ring). f (true ∷ r)) (λ (r : Ring). g (true ∷ r)) less_taken in
    let same_empty : rings n (λ (r : Ring). f (false ∷ r)) ≡ rings n (λ (r : Ring). g (false ∷ r)) = omega (arith, a, b, equal) in
    let same_taken : rings n (λ (r : Ring). f (true ∷ r)) ≡ rings n (λ (r : Ring). g (true ∷ r)) = omega (arith, a, b, equal) in
    let by_first : (first : Bool) → f (first ∷ r) ≡ g (first ∷ r) = λ first. pick first
    (each_same n (λ (r : Ring). f (false ∷ r)) (λ (r : Ring). g (false ∷ r)) less_empty same_empty r (omega (arith, long)))
    (each_same n (λ (r : Ring). f (true ∷ r)) (λ (r : Ring). g (true ∷ r)) less_taken same_taken r (omega (arith, long))) in
    by_first own
  where
    pick : (first : Bool) → f (false ∷ r) ≡ g (false ∷ r) → f (true ∷ r) ≡ g (true ∷ r) → f (first ∷ r) ≡ g (first ∷ r)
    pick false empty taken = empty
    pick true empty taken = taken

-- the largest of all rings with m cars in a total order
module _ (Le : Ring → Ring → Type 0) (total : (a b : Ring) → Le a b ⊎ Le b a) (chain : (a b c : Ring) → Le a b → Le b c → Le a c) (whole m : ℕ) where
  record Greatest (n : ℕ) (embed : Ring → Ring) (start : Ring) : Type 0 where
    best : Ring
    long : length best ≡ whole
    few : trues best ≡ m
    above : Le start best
    most : (r : Ring) → length r ≡ n → trues (embed r) ≡ m → Le (embed r) best

  itself : (a : Ring) → Le a a
  itself a = elim (total a a) [ inl h ↦ h | inr h ↦ h ]

  greatest : (n : ℕ) (embed : Ring → Ring) → ((r : Ring) → length r ≡ n → length (embed r) ≡ whole) → (start : Ring) → length start ≡ whole → trues start ≡ m → Greatest n embed start
  greatest zero embed fits start long few =
      elim (cases_eq (trues (embed [])) m) [
        | inl same_cars ↦ elim (total (embed []) start) [
          | inl below ↦ record { best = start; long = long; few = few; above = itself start; most = one start below }
          | inr above ↦ record { best = embed []; long = fits [] refl; few = same_cars; above = above; most = one (embed []) (itself (embed [])) }
        ]
        | inr other ↦ record { best = start; long = long; few = few; above = itself start; most = none start other }
      ]
    where
      one : (best : Ring) → Le (embed []) best → (r : Ring) → length r ≡ 0 → trues (embed r) ≡ m → Le (embed r) best
      one best below [] size few = below
      one best below (own ∷ r) size few = absurd (omega (arith, size))

      none : (best : Ring) → trues (embed []) ≢ m → (r : Ring) → length r ≡ 0 → trues (embed r) ≡ m → Le (embed r) best
      none best other [] size few = absurd (other few)
      none best other (own ∷ r) size few = absurd (omega (arith, size))
  greatest (suc n) embed fits start long few =
      let first = greatest n (λ r. embed (false ∷ r)) (λ r size. fits (false ∷ r) (ap suc size)) start long few in
      let second = greatest n (λ r. embed (true ∷ r)) (λ r size. fits (true ∷ r) (ap suc size)) first.best first.long first.few in
      record {
        best = second.best;
        long = second.long;
        few = second.few;
        above = chain start first.best second.best first.above second.above;
        most = both first.best second.best first.most second.above second.most;
      }
    where
      both : (a b : Ring) → ((r : Ring) → length r ≡ n → trues (embed (false ∷ r)) ≡ m → Le (embed (false ∷ r)) a) → Le a b
          → ((r : Ring) → length r ≡ n → trues (embed (true ∷ r)) ≡ m → Le (embed (true ∷ r)) b) → (r : Ring) → length r ≡ suc n → trues (embed r) ≡ m → Le (embed r) b
      both a b empty up taken [] size few = absurd (omega (arith, size))
      both a b empty up taken (false ∷ r) size few = chain (embed (false ∷ r)) a b (empty r (omega (arith, size)) few) up
      both a b empty up taken (true ∷ r) size few = taken r (omega (arith, size)) few

module _ (p : ℕ) (some : 0 < p) (not_all : p < CERTAIN) where
  hop_weight : (a b : Ring) → 0 < step_weight p (before_hop a b) (after_hop a b)
  hop_weight a b =
      let old = before_hop a b in
      let new = after_hop a b in
      let f : Ring → ℕ = λ s. if is_same (ring_after old s) new then braking_weight p old s else 0 in
      let leads : is_same (ring_after old (others a b)) new ≡ true = ap (λ (r : Ring). is_same r new) (leads_on a b) ∙ is_itself new in
      let term : f (others a b) ≡ braking_weight p old (others a b) = ap (λ c. if c then braking_weight p old (others a b) else 0) leads in
      let weight : 0 < braking_weight p old (others a b) =
      some_product (p ^ size (others a b)) ((CERTAIN - p) ^ (size old - size (others a b))) (some_power p (size (others a b)) some)
      (some_power (CERTAIN - p) (size old - size (others a b)) (omega (arith, not_all))) in
      let within = has_others a b f in
      let all = sets_sum old f in
      omega (arith, term, weight, within, all)

  some_weight : (r : Ring) → 0 < stationary_weight p r
  some_weight r = some_product (p ^ (size r - free_cars r)) (CERTAIN ^ free_cars r) (some_power p (size r - free_cars r) some) (some_power CERTAIN (free_cars r) (omega (arith, not_all)))

  -- a step between rings with different numbers of cars has no weight
  apart : (old new : Ring) → trues old ≢ trues new → step_weight p old new ≡ 0
  apart old new other =
      let e = by_new (λ k. same k (trues new)) p old new in
      let none = ap (λ k. k * step_weight p old new) (same_not (trues old) (trues new) other) in
      let one = ap (λ k. k * step_weight p old new) (same_self (trues new)) in
      omega (arith, e, none, one)

  -- if the ratio of two stationary weights is largest at a ring, it is the same at the rings before it
  module _ (u v : Ring → ℕ) (u_stays : IsStationary p u) (v_stays : IsStationary p v) where
    abbrev Top : Ring → Type 0
    Top new = (r : Ring) → length r ≡ length new → trues r ≡ trues new → u r * v new ≤ u new * v r

    before : (old new : Ring) → length old ≡ length new → Top new → 0 < step_weight p old new → u old * v new ≡ u new * v old
    before old new long top leads =
        let n = length new in
        let f : Ring → ℕ = λ r. v new * (u r * step_weight p r new) in
        let g : Ring → ℕ = λ r. u new * (v r * step_weight p r new) in
        let sum_f : rings n f ≡ v new * (CERTAIN ^ size new * u new) =
        rings_times n (v new) (λ (r : Ring). u r * step_weight p r new) ∙ ap (λ x. v new * x) (sym (rings_sum n (λ (r : Ring). u r * step_weight p r new)) ∙ u_stays new) in
        let sum_g : rings n g ≡ u new * (CERTAIN ^ size new * v new) =
        rings_times n (u new) (λ (r : Ring). v r * step_weight p r new) ∙ ap (λ x. u new * x) (sym (rings_sum n (λ (r : Ring). v r * step_weight p r new)) ∙ v_stays new) in
        let turn : v new * (CERTAIN ^ size new * u new) ≡ u new * (CERTAIN ^ size new * v new) = swap (v new) (CERTAIN ^ size new) (u new) in
        let less : (r : Ring) → length r ≡ n → f r ≤ g r = λ r size_of.
        elim (cases_eq (trues r) (trues new)) [
          | inl same_cars ↦
              let one = times_le (step_weight p r new) (u r * v new) (u new * v r) (top r size_of same_cars) in
              let a = order (v new) (u r) (step_weight p r new) in
              let b = order' (u new) (v r) (step_weight p r new) in
              (let k : f r ≤ g r = omega (arith, one, a, b) in k)
          | inr other ↦
              let none = apart r new other in
              let a : f r ≡ v new * (u r * 0) = ap (λ x. v new * (u r * x)) none in
              (let k : f r ≤ g r = omega (arith, a) in k)
        ] in
        let here : f old ≡ g old = each_same n f g less (sum_f ∙ turn ∙ sym sum_g) old long in
        let a = order (v new) (u old) (step_weight p old new) in
        let b = order' (u new) (v old) (step_weight p old new) in
        cancel (step_weight p old new) (u old * v new) (u new * v old) leads (omega (arith, here, a, b))
      where
        swap : (a b c : ℕ) → a * (b * c) ≡ c * (b * a)
        swap a b c = omega arith

        order : (a b c : ℕ) → b * a * c ≡ a * (b * c)
        order a b c = omega arith

        order' : (a b c : ℕ) → a * b * c ≡ a * (b * c)
        order' a b c = omega arith

  module _ (weight : Ring → ℕ) (stays : IsStationary p weight) where
    abbrev own : Ring → ℕ
    own = stationary_weight p

    own_stays : IsStationary p own
    own_stays = weights_are_stationary p (omega (arith, not_all))

    Below : Ring → Ring → Type 0
    Below a b = weight a * own b ≤ weight b * own a

    either : (a b : Ring) → Below a b ⊎ Below b a
    unfolding Below
    either a b = elim (cases_lt (weight b * own a) (weight a * own b)) [ inl more ↦ inr (omega (arith, more)) | inr less ↦ inl less ]

    below_on : (a b c : Ring) → Below a b → Below b c → Below a c
    unfolding Below
    below_on a b c first second =
        let x = times_le (own c) (weight a * own b) (weight b * own a) first in
        let y = times_le (own a) (weight b * own c) (weight c * own b) second in
        cancel_le (own b) (weight a * own c) (weight c * own a) (some_weight b) (shuffle (weight a) (own a) (weight b) (own b) (weight c) (own c) x y)
      where
        shuffle : (fa wa fb wb fc wc : ℕ) → fa * wb * wc ≤ fb * wa * wc → fb * wc * wa ≤ fc * wb * wa → fa * wc * wb ≤ fc * wa * wb
        shuffle fa wa fb wb fc wc x y = omega (arith, x, y)

    -- no ring with the same numbers of cells and cars has a larger ratio, or a smaller one
    IsHighest : Ring → Type 0
    IsHighest new = (r : Ring) → length r ≡ length new → trues r ≡ trues new → weight r * own new ≤ weight new * own r

    IsLowest : Ring → Type 0
    IsLowest new = (r : Ring) → length r ≡ length new → trues r ≡ trues new → own r * weight new ≤ own new * weight r

    highest_back : (a b : Ring) → IsHighest (after_hop a b) → IsHighest (before_hop a b)
    unfolding IsHighest
    highest_back a b top r long few =
        let old = before_hop a b in
        let new = after_hop a b in
        let one = before weight own stays own_stays old new (hop_long a b) top (hop_weight a b) in
        let less = times_le (own old) (weight r * own new) (weight new * own r) (top r (long ∙ hop_long a b) (few ∙ hop_cars a b)) in
        let by = ap (λ k. k * own r) one in
        cancel_le (own new) (weight r * own old) (weight old * own r) (some_weight new) (shuffle (weight r) (own r) (weight old) (own old) (weight new) (own new) less by)
      where
        shuffle : (fr wr fo wo fn wn : ℕ) → fr * wn * wo ≤ fn * wr * wo → fo * wn * wr ≡ fn * wo * wr → fr * wo * wn ≤ fo * wr * wn
        shuffle fr wr fo wo fn wn x y = omega (arith, x, y)

    lowest_back : (a b : Ring) → IsLowest (after_hop a b) → IsLowest (before_hop a b)
    unfolding IsLowest
    lowest_back a b top r long few =
        let old = before_hop a b in
        let new = after_hop a b in
        let one = before own weight own_stays stays old new (hop_long a b) top (hop_weight a b) in
        let less = times_le (own old) (own r * weight new) (own new * weight r) (top r (long ∙ hop_long a b) (few ∙ hop_cars a b)) in
        let by = ap (λ k. k * own r) one in
        cancel_le (own new) (own r * weight old) (own old * weight r) (some_weight new) (shuffle (weight r) (own r) (weight old) (own old) (weight new) (own new) less by)
      where
        shuffle : (fr wr fo wo fn wn : ℕ) → wr * fn * wo ≤ wn * fr * wo → wo * fn * wr ≡ wn * fo * wr → wr * fo * wn ≤ wo * fr * wn
        shuffle fr wr fo wo fn wn x y = omega (arith, x, y)

    -- the ring with all cars in the first cells has the largest ratio and the smallest
    first_cells : Ring → Ring
    first_cells r = row (trues r) (blank (falses r))

    same_first : (r s : Ring) → length r ≡ length s → trues r ≡ trues s → first_cells r ≡ first_cells s
    unfolding first_cells
    same_first r s long few =
        let a = each_cell r in
        let b = each_cell s in
        let empty : falses r ≡ falses s = omega (arith, a, b, long, few) in
        ap (λ k. row k (blank (falses r))) few ∙ ap (λ k. row (trues s) (blank k)) empty

    highest_first : (r : Ring) → IsHighest (first_cells r)
    unfolding Below IsHighest first_cells
    highest_first r =
        let found = greatest Below either below_on (length r) (trues r) (length r) (λ s. s) (λ s long. long) r refl refl in
        let top : IsHighest found.best = λ s long few. found.most s (long ∙ found.long) (few ∙ found.few) in
        subst IsHighest (same_first found.best r found.long found.few) (sorted IsHighest highest_back found.best top)

    lowest_first : (r : Ring) → IsLowest (first_cells r)
    unfolding Below IsLowest first_cells
    lowest_first r =
        let found = greatest (λ a b. Below b a) (λ a b. either b a) (λ a b c first second. below_on c b a second first) (length r) (trues r) (length r) (λ s. s) (λ s long. long) r refl refl in
        let low : IsLowest found.best = λ s long few.
        let h = found.most s (long ∙ found.long) (few ∙ found.few) in
        turn (weight found.best) (own s) (weight s) (own found.best) h in
        subst IsLowest (same_first found.best r found.long found.few) (sorted IsLowest lowest_back found.best low)
      where
        turn : (a b c d : ℕ) → a * b ≤ c * d → b * a ≤ d * c
        turn a b c d h = omega (arith, h)

    -- so each ring has the ratio of this ring
    ratio : (r : Ring) → length r ≡ length (first_cells r) → trues r ≡ trues (first_cells r) → weight r * own (first_cells r) ≡ weight (first_cells r) * own r
    unfolding IsHighest IsLowest
    ratio r long few =
        let a = highest_first r r long few in
        let b = lowest_first r r long few in
        both (weight r) (own (first_cells r)) (weight (first_cells r)) (own r) a b
      where
        both : (a b c d : ℕ) → a * b ≤ c * d → d * c ≤ b * a → a * b ≡ c * d
        both a b c d less more = omega (arith, less, more)

blank_cars : (e : ℕ) → trues (blank e) ≡ 0
blank_cars zero = refl
blank_cars (suc e) = blank_cars e

blank_long : (e : ℕ) → length (blank e) ≡ e
blank_long zero = refl
blank_long (suc e) = ap suc (blank_long e)

row_cars : (m e : ℕ) → trues (row m (blank e)) ≡ m
row_cars zero e = blank_cars e
row_cars (suc m) e = ap suc (row_cars m e)

row_long : (m e : ℕ) → length (row m (blank e)) ≡ m + e
row_long zero e = let z : 0 + e ≡ e = omega arith in blank_long e ∙ sym z
row_long (suc m) e = let rest = row_long m e in omega (arith, rest)

pub stationary_weights_are_unique : StationaryWeightsAreUnique
unfolding first_cells
stationary_weights_are_unique p weight ring other some not_all stays long cars =
    let few : trues ring ≡ trues other = sym (size_is ring) ∙ cars ∙ size_is other in
    let same_long : (r : Ring) → length r ≡ length (row (trues r) (blank (falses r))) = λ r. let a = each_cell r in let b = row_long (trues r) (falses r) in omega (arith, a, b) in
    let at : (r : Ring) → weight r * stationary_weight p (first_cells p some not_all weight stays r) ≡ weight (first_cells p some not_all weight stays r) * stationary_weight p r =
    λ r. ratio p some not_all weight stays r (same_long r) (sym (row_cars (trues r) (falses r))) in
    let k = first_cells p some not_all weight stays other in
    let one : weight ring * stationary_weight p k ≡ weight k * stationary_weight p ring =
    subst (λ (s : Ring). weight ring * stationary_weight p s ≡ weight s * stationary_weight p ring) (same_first p some not_all weight stays ring other long few) (at ring) in
    let two = at other in
    let x = ap (λ n. n * stationary_weight p other) one in
    let y = ap (λ n. n * stationary_weight p ring) two in
    cancel (stationary_weight p k) (weight ring * stationary_weight p other) (weight other * stationary_weight p ring) (some_weight p some not_all k)
    (shuffle (weight ring) (stationary_weight p ring) (weight other) (stationary_weight p other) (weight k) (stationary_weight p k) x y)
  where
    shuffle : (fa wa fb wb fk wk : ℕ) → fa * wk * wb ≡ fk * wa * wb → fb * wk * wa ≡ fk * wb * wa → fa * wb * wk ≡ fb * wa * wk
    shuffle fa wa fb wb fk wk x y = omega (arith, x, y)

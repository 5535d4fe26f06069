-- The braking of cars, counted over all random words.
use Rattle.std.proofs.Common.{◌≡◌, ℕ, zero, suc, ◌+◌, ◌-◌, ◌*◌, ◌/◌, ◌^◌, ◌<◌, ◌≤◌, min, Bool, true, false}
use Rattle.std.proofs.Common.{cond, Some, None, List, [], ◌∷◌, map, length, get_or, refl, sym, ◌∙◌, ap, subst}
use Rattle.std.proofs.Common.{inl, inr, arith, Contains, flat_map, sum_by, le-ltb, lt-ltb}
use Rattle.std.proofs.{Math.Nat.{pow-succ'}, lemmas.{Bool.cases_lt, List.Elements.Contains-append_left}}
use Rattle.std.proofs.lemmas.List.{Elements.Contains-append_right, FromFn.get_or-range_with_len}
use Rattle.std.proofs.lemmas.List.{FromFn.length-range_with_len, Sums.{sum_by-append, sum_by-cons}}
use Rattle.std.{proofs.lemmas.Nat.mul-pow, specs.List.range_with_len}
use Rattle.trlab_bounds.specs.declared.programs.TheConstants.{CERTAIN}
use Rattle.trlab_words.{specs.Words.{happens_on, random_word}, proofs.RandomWords.random_word_small}
use Rattle.trlab_traffic.specs.LimitOne.{CarWords, Ring, braking_set, draws_of, ring_after, ring_of, size}
use Rattle.trlab_traffic.specs.LimitOne.{DrawsAreCounted, StepWeightsCountWords}
use Rattle.trlab_traffic.specs.LimitOne.{WeightsAreStationaryOverWords, all_draws, braking_weight, is_same}
use Rattle.trlab_traffic.specs.LimitOne.{stationary_weight, step_weight, word_count}
use Rattle.trlab_traffic.proofs.Lanes.{below, sum_range, total, total_below, total_same}
use Rattle.trlab_traffic.proofs.Chains.{bit, rings_same, rings_sum, rings_times, set_weight, sets, sets_add}
use Rattle.trlab_traffic.proofs.Chains.{sets_same, sets_sum, sets_times, size_is, sum_of_map, trues}
use Rattle.trlab_traffic.proofs.RingSteps.{cells, cells_kept, leaving, same_size}
use Rattle.trlab_traffic.proofs.Stationary.{bit_is, braking_is, chosen, step_is, weights_are_stationary}

-- a sum by a test
weighed : (h : ℕ → Bool) (a b n : ℕ) → total (λ x. cond (h x) a b) n + total (λ x. bit (h x)) n * b ≡ total (λ x. bit (h x)) n * a + n * b
weighed h a b zero = omega arith
weighed h a b (suc n) = by_first (h 0) (weighed (λ x. h (suc x)) a b n)
  where
    v : ℕ
    v = total (λ x. cond (h (suc x)) a b) n

    w : ℕ
    w = total (λ x. bit (h (suc x))) n

    by_first : (first : Bool) → v + w * b ≡ w * a + n * b → cond first a b + v + (bit first + w) * b ≡ (bit first + w) * a + suc n * b
    by_first false rest = omega (arith, rest)
    by_first true rest = omega (arith, rest)

word_is : (p x : ℕ) → bit (happens_on p x) ≡ below x (2 * p)
word_is p x =
    elim (cases_lt x (2 * p)) [
      | inl low ↦ ap bit (lt-ltb (x / 2) p (omega (arith, low))) ∙ sym (ap (λ b. cond b 1 0) (lt-ltb x (2 * p) low))
      | inr high ↦ ap bit (le-ltb (x / 2) p (omega (arith, high))) ∙ sym (ap (λ b. cond b 1 0) (le-ltb x (2 * p) high))
    ]

-- of 2 n words, an event of probability p happens on 2 p
pub words_match : (p n : ℕ) → p ≤ n → total (λ x. bit (happens_on p x)) (2 * n) ≡ 2 * p
words_match p n low =
    let least : min (2 * p) (2 * n) ≡ 2 * p = omega (arith, low) in
    total_same (λ x. bit (happens_on p x)) (λ x. below x (2 * p)) (2 * n) (λ x in_range. word_is p x)
    ∙ total_below (2 * p) (2 * n)
    ∙ least

-- a sum over all words of one car
one_word : (p q a b : ℕ) → total (λ x. cond (happens_on p x) a b) (2 * (p + q)) ≡ 2 * p * a + 2 * q * b
one_word p q a b =
    let e = words_match p (p + q) (omega arith) in
    let w = weighed (happens_on p) a b (2 * (p + q)) in
    let x = ap (λ k. k * b) e in
    let y = ap (λ k. k * a) e in
    omega (arith, w, x, y)

sum_of_flat : {X Y : Type 0} (f : Y → ℕ) (g : X → List Y) (xs : List X) → sum_by f (flat_map g xs) ≡ sum_by (λ (x : X). sum_by f (g x)) xs
sum_of_flat f g [] = refl
sum_of_flat {X} f g (x ∷ xs) =
    let rest = sum_of_flat f g xs in
    let a = sum_by-append f (g x) (flat_map g xs) in
    let b = sum_by-cons (λ (y : X). sum_by f (g y)) x xs in
    omega (arith, rest, a, b)

sum_same : {X : Type 0} (f g : X → ℕ) (xs : List X) → ((x : X) → f x ≡ g x) → sum_by f xs ≡ sum_by g xs
sum_same f g [] same = refl
sum_same f g (x ∷ xs) same =
    let rest = sum_same f g xs same in
    let a = sum_by-cons f x xs in
    let b = sum_by-cons g x xs in
    let first = same x in
    omega (arith, rest, a, b, first)

-- a test chooses a value
by_test : (h : Bool) (F : Bool → ℕ) → F h ≡ cond h (F true) (F false)
by_test false F = refl
by_test true F = refl

-- a sum over all words of all cars is a sum over all sets of braking cars
draws_sum : (p q : ℕ) (ring : Ring) (F : Ring → ℕ) → sum_by (λ (draws : CarWords). F (braking_set p draws)) (all_draws (2 * (p + q)) ring) ≡ sets ring (λ (s : Ring). set_weight (2 * p) (2 * q) ring s * F s)
draws_sum p q [] F = let e : 0 + F [] ≡ 1 * F [] = omega arith in e
draws_sum p q (false ∷ ring) F =
    sum_of_map (λ (draws : CarWords). F (braking_set p draws)) (λ (draws : CarWords). None ∷ draws) (all_draws (2 * (p + q)) ring)
    ∙ draws_sum p q ring (λ (s : Ring). F (false ∷ s))
    ∙ sets_same ring (λ (s : Ring). set_weight (2 * p) (2 * q) ring s * F (false ∷ s)) (λ (s : Ring). 1 * set_weight (2 * p) (2 * q) ring s * F (false ∷ s))
    (λ s is. let w = set_weight (2 * p) (2 * q) ring s in let x = F (false ∷ s) in let e : w * x ≡ 1 * w * x = omega arith in e)
draws_sum p q (true ∷ ring) F =
    let words = 2 * (p + q) in
    let f : CarWords → ℕ = λ draws. F (braking_set p draws) in
    let w : Ring → ℕ = set_weight (2 * p) (2 * q) ring in
    let yes : Ring → ℕ = λ s. F (true ∷ s) in
    let no : Ring → ℕ = λ s. F (false ∷ s) in
    sum_of_flat f (λ (draws : CarWords). map (λ (word : ℕ). Some word ∷ draws) (range_with_len 0 words)) (all_draws words ring)
    ∙ sum_same (λ (draws : CarWords). sum_by f (map (λ (word : ℕ). Some word ∷ draws) (range_with_len 0 words)))
    (λ (draws : CarWords). 2 * p * yes (braking_set p draws) + 2 * q * no (braking_set p draws)) (all_draws words ring)
    (λ draws. sum_of_map f (λ (word : ℕ). Some word ∷ draws) (range_with_len 0 words)
    ∙ sum_range (λ (word : ℕ). f (Some word ∷ draws)) 0 words
    ∙ total_same (λ (x : ℕ). f (Some (0 + x) ∷ draws)) (λ (x : ℕ). cond (happens_on p x) (yes (braking_set p draws)) (no (braking_set p draws))) words
    (λ x low. let z : 0 + x ≡ x = omega arith in
    ap (λ (k : ℕ). f (Some k ∷ draws)) z ∙ by_test (happens_on p x) (λ (b : Bool). F (b ∷ braking_set p draws)))
    ∙ one_word p q (yes (braking_set p draws)) (no (braking_set p draws)))
    ∙ draws_sum p q ring (λ (s : Ring). 2 * p * yes s + 2 * q * no s)
    ∙ sets_same ring (λ (s : Ring). w s * (2 * p * yes s + 2 * q * no s)) (λ (s : Ring). 2 * q * w s * no s + 2 * p * w s * yes s)
    (λ s is. let a = w s in let x = yes s in let y = no s in let e : a * (2 * p * x + 2 * q * y) ≡ 2 * q * a * y + 2 * p * a * x = omega arith in e)
    ∙ sets_add ring (λ (s : Ring). 2 * q * w s * no s) (λ (s : Ring). 2 * p * w s * yes s)

-- twice the weights for each car
doubled : (p q : ℕ) (ring set : Ring) → length set ≡ length ring → set_weight (2 * p) (2 * q) ring set ≡ 2 ^ trues ring * set_weight p q ring set
doubled p q [] [] long = refl
doubled p q [] (b ∷ set) long = absurd (omega (arith, long))
doubled p q (own ∷ ring) [] long = absurd (omega (arith, long))
doubled p q (false ∷ ring) (b ∷ set) long = let rest = doubled p q ring set (omega (arith, long)) in omega (arith, rest)
doubled p q (true ∷ ring) (false ∷ set) long =
    let rest = ap (λ x. q * x) (doubled p q ring set (omega (arith, long))) in
    let e = ap (λ x. x * (q * set_weight p q ring set)) (pow-succ' 2 (trues ring)) in
    omega (arith, rest, e)
doubled p q (true ∷ ring) (true ∷ set) long =
    let rest = ap (λ x. p * x) (doubled p q ring set (omega (arith, long))) in
    let e = ap (λ x. x * (p * set_weight p q ring set)) (pow-succ' 2 (trues ring)) in
    omega (arith, rest, e)

pub step_weights_count_words : StepWeightsCountWords
step_weights_count_words p words old new low size_of =
    let q = CERTAIN - p in
    let all : words ≡ 2 * (p + q) = omega (arith, low, size_of) in
    let F : Ring → ℕ = λ s. cond (is_same (ring_after old s) new) 1 0 in
    ap (λ k. sum_by (λ (draws : CarWords). F (braking_set p draws)) (all_draws k old)) all
    ∙ draws_sum p q old F
    ∙ sets_same old (λ (s : Ring). set_weight (2 * p) (2 * q) old s * F s) (λ (s : Ring). 2 ^ trues old * if_weight s)
    (λ s is.
    let order : 2 ^ trues old * set_weight p q old s * bit (is_same (ring_after old s) new) ≡ 2 ^ trues old * (set_weight p q old s * bit (is_same (ring_after old s) new)) = omega arith in
    ap (λ x. x * F s) (doubled p q old s is.long)
    ∙ ap (λ x. 2 ^ trues old * set_weight p q old s * x) (bit_is (is_same (ring_after old s) new))
    ∙ order
    ∙ ap (λ x. 2 ^ trues old * (x * bit (is_same (ring_after old s) new))) (sym (braking_is p old s is))
    ∙ ap (λ x. 2 ^ trues old * x) (sym (chosen (is_same (ring_after old s) new) (braking_weight p old s))))
    ∙ sets_times old (2 ^ trues old) if_weight
    ∙ ap (λ x. 2 ^ trues old * x) (sym (sets_sum old if_weight))
    ∙ ap (λ k. 2 ^ k * step_weight p old new) (sym (size_is old))
  where
    if_weight : Ring → ℕ
    if_weight s = cond (is_same (ring_after old s) new) (braking_weight p old s) 0

-- if a step leads to a ring, both rings have the same number of cars
as_many : (factor : ℕ → ℕ) (b : Bool) (m n w : ℕ) → (b ≡ true → m ≡ n) → factor m * (w * bit b) ≡ factor n * (w * bit b)
as_many factor false m n w so = none (factor m) (factor n) w
  where
    none : (i j w : ℕ) → i * (w * 0) ≡ j * (w * 0)
    none i j w = omega arith
as_many factor true m n w so = ap (λ k. factor k * (w * 1)) (so refl)

pub by_new : (factor : ℕ → ℕ) (p : ℕ) (old new : Ring) → factor (trues old) * step_weight p old new ≡ factor (trues new) * step_weight p old new
by_new factor p old new =
    let first = get_or old 0 false in
    let after : Ring → Ring = λ s. cells first (leaving first false old s) old s in
    let f : Ring → ℕ = λ s. set_weight p (CERTAIN - p) old s * bit (is_same (after s) new) in
    ap (λ x. factor (trues old) * x) (step_is p old new)
    ∙ sym (sets_times old (factor (trues old)) f)
    ∙ sets_same old (λ (s : Ring). factor (trues old) * f s) (λ (s : Ring). factor (trues new) * f s)
    (λ s is. as_many factor (is_same (after s) new) (trues old) (trues new) (set_weight p (CERTAIN - p) old s) (λ h. sym (cells_kept old s is.long) ∙ same_size (after s) new h))
    ∙ sets_times old (factor (trues new)) f
    ∙ ap (λ x. factor (trues new) * x) (sym (step_is p old new))

pub weights_are_stationary_over_words : WeightsAreStationaryOverWords
weights_are_stationary_over_words p words new low size_of =
    let n = length new in
    let double : words ≡ 2 * CERTAIN = size_of in
    let f : Ring → ℕ = λ old. stationary_weight p old * word_count p words old new in
    let g : Ring → ℕ = λ old. stationary_weight p old * step_weight p old new in
    rings_sum n f
    ∙ rings_same n f (λ (old : Ring). 2 ^ trues new * g old)
    (λ old long.
    let order : stationary_weight p old * (2 ^ trues new * step_weight p old new) ≡ 2 ^ trues new * (stationary_weight p old * step_weight p old new) = omega arith in
    ap (λ x. stationary_weight p old * x) (step_weights_count_words p words old new low size_of ∙ ap (λ k. 2 ^ k * step_weight p old new) (size_is old) ∙ by_new (λ k. 2 ^ k) p old new)
    ∙ order)
    ∙ rings_times n (2 ^ trues new) g
    ∙ ap (λ x. 2 ^ trues new * x) (sym (rings_sum n g) ∙ weights_are_stationary p low new)
    ∙ turn (2 ^ trues new) (CERTAIN ^ size new) (stationary_weight p new)
    ∙ ap (λ k. 2 ^ k * CERTAIN ^ size new * stationary_weight p new) (sym (size_is new))
    ∙ ap (λ x. x * stationary_weight p new) (sym (mul-pow 2 CERTAIN (size new)))
    ∙ ap (λ w. w ^ size new * stationary_weight p new) (sym double)
  where
    turn : (a b c : ℕ) → a * (b * c) ≡ a * b * c
    turn a b c = omega arith

-- the image of a list holds the images of its entries
in_map : {X Y : Type 0} (f : X → Y) (xs : List X) (x : X) (k : ℕ) → k < length xs → get_or xs k x ≡ x → Contains (map f xs) (f x)
in_map f [] x k low is = absurd (omega (arith, low))
in_map f (y ∷ ys) x zero low is = (0, omega arith, ap f is)
in_map f (y ∷ ys) x (suc k) low is =
    let rest = in_map f ys x k (omega (arith, low)) is in
    let within = rest.1 in
    (suc rest.0, omega (arith, within), rest.2)

in_flat : {X Y : Type 0} (g : X → List Y) (xs : List X) (x : X) (y : Y) (k : ℕ) → k < length xs → get_or xs k x ≡ x → Contains (g x) y → Contains (flat_map g xs) y
in_flat g [] x y k low is here = absurd (omega (arith, low))
in_flat {X} {Y} g (z ∷ zs) x y zero low is here = Contains-append_left (g z) (flat_map g zs) y (subst (λ (v : X). Contains (g v) y) (sym is) here)
in_flat g (z ∷ zs) x y (suc k) low is here = Contains-append_right (g z) (flat_map g zs) y (in_flat g zs x y k (omega (arith, low)) is here)

in_range : (words word : ℕ) → word < words → Contains (range_with_len 0 words) word
in_range words word low =
    let long = length-range_with_len 0 words in
    let z : 0 + word ≡ word = omega arith in
    (word, omega (arith, low, long), get_or-range_with_len 0 words word word low ∙ z)

pub draws_are_counted : DrawsAreCounted
draws_are_counted words dice [] size_of = (0, omega arith, refl)
draws_are_counted words dice (None ∷ lane) size_of =
    let rest = draws_are_counted words dice lane size_of in
    in_map (λ (draws : CarWords). None ∷ draws) (all_draws words (ring_of lane)) (draws_of dice lane) rest.0 rest.1 rest.2
draws_are_counted words dice (Some car ∷ lane) size_of =
    let rest = draws_are_counted words dice lane size_of in
    let word = random_word dice.key dice.road car.0 dice.step 0 in
    let small = random_word_small dice.key dice.road car.0 dice.step 0 in
    let here = in_range words word (omega (arith, small, size_of)) in
    in_flat (λ (draws : CarWords). map (λ (w : ℕ). Some w ∷ draws) (range_with_len 0 words)) (all_draws words (ring_of lane)) (draws_of dice lane) (Some word ∷ draws_of dice lane)
    rest.0 rest.1 rest.2 (in_map (λ (w : ℕ). Some w ∷ draws_of dice lane) (range_with_len 0 words) word here.0 here.1 here.2)

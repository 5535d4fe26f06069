-- The pigeonhole principle: among more numbers than values two have the same value. Also: numbers made of
-- digits.
use Rattle.std.proofs.Common.{◌≡◌, ◌≢◌, ℕ, zero, suc, ◌+◌, ◌-◌, ◌*◌, ◌^◌, ◌<◌, ◌≤◌, ◌⊎◌, cond, ltb, sym, ◌∙◌}
use Rattle.std.proofs.{Common.{ap, subst, inl, inr, arith, le-ltb, lt-ltb}, Math.Nat.{pow-succ', pow-zero}}
use Rattle.std.proofs.lemmas.Bool.{cases_eq, cases_lt, cond-false, cond-true}
use Rattle.std.proofs.lemmas.Nat.{mul-add-lt, same_from_place}

-- two numbers up to a bound at which a function has the same value
pub record Twice (f : ℕ → ℕ) (bound : ℕ) : Type 0 where
  pub early : ℕ
  pub late : ℕ
  pub order : early < late
  pub within : late ≤ bound
  pub same : f early ≡ f late

-- a number below a bound at which a function has a value
record Found (f : ℕ → ℕ) (bound value : ℕ) : Type 0 where
  index : ℕ
  low : index < bound
  is : f index ≡ value

-- there is such a number, or there is none
look : (f : ℕ → ℕ) (bound value : ℕ) → Found f bound value ⊎ ((i : ℕ) → i < bound → f i ≢ value)
look f zero value = inr (λ i low. absurd (omega (arith, low)))
look f (suc n) value =
    elim (cases_eq (f n) value) [
      | inl e ↦ inl (record { index = n; low = omega arith; is = e })
      | inr other ↦ elim (look f n value) [
        | inl found ↦ let low = found.low in inl (record { index = found.index; low = omega (arith, low); is = found.is })
        | inr none ↦ inr (λ i low. elim (cases_eq i n) [
          | inl e ↦ λ h. other (ap f (sym e) ∙ h)
          | inr before ↦ none i (omega (arith, low, before))
        ])
      ]
    ]

-- the values without one of them: those above it decrease by one
abbrev closed : ℕ → ℕ → ℕ
closed gone v = cond (ltb v gone) v (v - 1)

closed_low : (gone v : ℕ) → v < gone → closed gone v ≡ v
closed_low gone v low = cond-true (ltb v gone) v (v - 1) (lt-ltb v gone low)

closed_high : (gone v : ℕ) → gone ≤ v → closed gone v ≡ v - 1
closed_high gone v high = cond-false (ltb v gone) v (v - 1) (le-ltb v gone high)

closed_below : (gone v n : ℕ) → gone < suc n → v < suc n → v ≢ gone → closed gone v < n
closed_below gone v n some below other =
    elim (cases_lt v gone) [
      | inl low ↦ let e = closed_low gone v low in omega (arith, e, low, some)
      | inr high ↦ let e = closed_high gone v high in omega (arith, e, high, below, other)
    ]

closed_same : (gone v w : ℕ) → v ≢ gone → w ≢ gone → closed gone v ≡ closed gone w → v ≡ w
closed_same gone v w a b same =
    elim (cases_lt v gone) [
      | inl low ↦ let e = closed_low gone v low in elim (cases_lt w gone) [
        | inl less ↦ let f = closed_low gone w less in omega (arith, e, f, same)
        | inr more ↦ let f = closed_high gone w more in omega (arith, e, f, same, low, more, b)
      ]
      | inr high ↦ let e = closed_high gone v high in elim (cases_lt w gone) [
        | inl less ↦ let f = closed_low gone w less in omega (arith, e, f, same, high, less, a)
        | inr more ↦ let f = closed_high gone w more in omega (arith, e, f, same, high, more, a, b)
      ]
    ]

-- with n values, two of the numbers 0 to n have the same one
pub pigeonhole : (n : ℕ) (f : ℕ → ℕ) → ((i : ℕ) → i ≤ n → f i < n) → Twice f n
pigeonhole zero f below = let h = below 0 (omega arith) in absurd (omega (arith, h))
pigeonhole (suc n) f below =
    elim (look f (suc n) (f (suc n))) [
      | inl found ↦ record { early = found.index; late = suc n; order = found.low; within = omega arith; same = found.is }
      | inr none ↦
          let last = f (suc n) in
          let rest = pigeonhole n (λ i. closed last (f i)) (λ i low.
          closed_below last (f i) n (below (suc n) (omega arith)) (below i (omega (arith, low))) (none i (omega (arith, low)))) in
          let order = rest.order in
          let within = rest.within in
          record {
            early = rest.early;
            late = rest.late;
            order = order;
            within = omega (arith, within);
            same = closed_same last (f rest.early) (f rest.late) (none rest.early (omega (arith, order, within))) (none rest.late (omega (arith, within))) rest.same;
          }
    ]

-- the number with these digits, the lowest first
abbrev pub number : (base : ℕ) → ℕ → (ℕ → ℕ) → ℕ
number base zero digit = 0
number base (suc n) digit = number base n (λ i. digit (suc i)) * base + digit 0

pub number_below : (base n : ℕ) (digit : ℕ → ℕ) → ((i : ℕ) → i < n → digit i < base) → number base n digit < base ^ n
number_below base zero digit low = let e = pow-zero base in omega (arith, e)
number_below base (suc n) digit low =
    let rest = number_below base n (λ i. digit (suc i)) (λ i h. low (suc i) (omega (arith, h))) in
    subst (λ k. number base (suc n) digit < k) (sym (pow-succ' base n)) (mul-add-lt (number base n (λ i. digit (suc i))) base (digit 0) (base ^ n) rest (low 0 (omega arith)))

-- equal numbers have the same first digit, and the same number of the others
same_parts : (base n : ℕ) (digit other : ℕ → ℕ) → digit 0 < base → other 0 < base → number base (suc n) digit ≡ number base (suc n) other
    → (number base n (λ i. digit (suc i)) ≡ number base n (λ i. other (suc i))) × (digit 0 ≡ other 0)
same_parts base n digit other low high same =
    same_from_place (number base n (λ i. digit (suc i))) (digit 0) (number base n (λ i. other (suc i))) (other 0) base low high same

pub same_digits : (base n : ℕ) (digit other : ℕ → ℕ) → ((i : ℕ) → i < n → digit i < base) → ((i : ℕ) → i < n → other i < base) → number base n digit ≡ number base n other
    → (i : ℕ) → i < n → digit i ≡ other i
same_digits base zero digit other low high same i h = absurd (omega (arith, h))
same_digits base (suc n) digit other low high same zero h = (same_parts base n digit other (low 0 h) (high 0 h) same).1
same_digits base (suc n) digit other low high same (suc i) h =
    same_digits base n (λ k. digit (suc k)) (λ k. other (suc k)) (λ k below. low (suc k) (omega (arith, below))) (λ k below. high (suc k) (omega (arith, below)))
    (same_parts base n digit other (low 0 (omega arith)) (high 0 (omega arith)) same).0 i (omega (arith, h))

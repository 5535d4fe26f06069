-- The cells of a lane as binary digits, 1 where a car is; their sum; and heights, which count them.
use Rattle.std.proofs.Common.{◌≡◌, ℕ, ◌+◌, ◌%◌, Some, None, [], ◌∷◌, length, refl, ◌∙◌, ap, arith}
use Rattle.std.proofs.Common.{mod-eq_of_lt, zero, suc, ◌-◌, ◌*◌, ◌<◌, ◌≤◌, max, sym, subst, inl, inr, mul-add}
use Rattle.std.proofs.{Common.{mul-suc, mul-zero, suc-mul}, Math.Nat.add-mod_right, lemmas.Bool.cases_lt}
use Rattle.trlab_road.{specs.Cells.{Lane, lane_car_count}, proofs.StandingOrder.lane_car_count-some}
use Rattle.trlab_traffic.specs.{Terms.is_taken, LimitOne.digit}
use Rattle.trlab_traffic.proofs.{Lanes.{total, total_same, total_last}, RoomAhead.cars-none}

-- the digit of a place, which may be some laps ahead
abbrev pub digit_at : Lane → ℕ → ℕ
digit_at lane p = digit (is_taken lane (p % length lane))

-- the sum of the digits is the number of cars
pub taken_total : (lane : Lane) → total (λ x. digit (is_taken lane x)) (length lane) ≡ lane_car_count lane
taken_total [] = refl
taken_total (None ∷ cells) =
    let rest = taken_total cells in
    let a = cars-none cells in
    omega (arith, rest, a)
taken_total (Some car ∷ cells) =
    let rest = taken_total cells in
    let a = lane_car_count-some car cells in
    omega (arith, rest, a)

pub digits_total : (lane : Lane) → total (digit_at lane) (length lane) ≡ lane_car_count lane
digits_total lane =
    total_same (digit_at lane) (λ x. digit (is_taken lane x)) (length lane) (λ x low. ap (λ k. digit (is_taken lane k)) (mod-eq_of_lt low)) ∙ taken_total lane

pub digits_again : (lane : Lane) (x : ℕ) → digit_at lane (x + length lane) ≡ digit_at lane x
digits_again lane x = ap (λ k. digit (is_taken lane k)) (add-mod_right x (length lane))

-- Heights: the number of cars before a place, for an observer who moves ahead one cell per step, plus the
-- number of steps. If cars go up to s cells per step, a height becomes itself plus one or the height s
-- cells ahead, whichever is larger. So after some steps it is the largest over the places that could reach
-- it.

-- the heights after some steps, by the cells that were taken at first, as digits
abbrev pub height : (ℕ → ℕ) → ℕ → ℕ → ℕ → ℕ
height w s zero x = total w x
height w s (suc t) x = max (height w s t x + 1) (height w s t (x + s))

-- a height is at least each one that could reach it
pub no_less : (w : ℕ → ℕ) (s t x j : ℕ) → j ≤ t → total w (x + s * j) + (t - j) ≤ height w s t x
no_less w s zero x j low =
    let none : j ≡ 0 = omega (arith, low) in
    let e : x + s * j ≡ x = ap (λ k. x + s * k) none ∙ (let k : x + s * 0 ≡ x = omega arith in k) in
    rw e (omega (arith, low))
no_less w s (suc t) x zero low =
    let rest = no_less w s t x 0 (omega arith) in
    let e : x + s * 0 ≡ x = omega arith in
    let rest_here : total w x + (t - 0) ≤ height w s t x = subst (λ k. total w k + (t - 0) ≤ height w s t x) e rest in
    rw e (omega (arith, rest_here))
no_less w s (suc t) x (suc i) low =
    let rest = no_less w s t (x + s) i (omega (arith, low)) in
    let more = mul-suc s i in
    let e : x + s * suc i ≡ x + s + s * i = omega (arith, more) in
    rw e (omega (arith, rest))

-- and equals one of them
pub record Reaches (w : ℕ → ℕ) (s t x j : ℕ) : Type 0 where
  pub low : j ≤ t
  pub is : height w s t x ≡ total w (x + s * j) + (t - j)

pub reached : (w : ℕ → ℕ) (s t x : ℕ) → (j : ℕ) × Reaches w s t x j
reached w s zero x =
    let e : x + s * 0 ≡ x = omega arith in
    (0, record { low = omega arith; is = rw e (let k : total w x ≡ total w x + (0 - 0) = omega arith in k) })
reached w s (suc t) x =
    elim (cases_lt (height w s t (x + s)) (height w s t x + 1)) [
      | inl less ↦
          let from = reached w s t x in
          let j = from.0 in
          let low = from.1.low in
          let is = from.1.is in
          (j, record { low = omega (arith, low); is = (let k : max (height w s t x + 1) (height w s t (x + s)) ≡ total w (x + s * j) + (suc t - j) = omega (arith, less, low, is) in k) })
      | inr more ↦
          let from = reached w s t (x + s) in
          let j = from.0 in
          let low = from.1.low in
          let step = mul-suc s j in
          let e : x + s + s * j ≡ x + s * suc j = omega (arith, step) in
          let is : height w s t (x + s) ≡ total w (x + s * suc j) + (t - j) = from.1.is ∙ ap (λ k. total w k + (t - j)) e in
          (suc j, record { low = omega (arith, low); is = (let k : max (height w s t x + 1) (height w s t (x + s)) ≡ total w (x + s * suc j) + (suc t - suc j) = omega (arith, more, low, is) in k) })
    ]

-- sums of values that repeat in each lap
module _ (w : ℕ → ℕ) (n : ℕ) (again : (x : ℕ) → w (x + n) ≡ w x) where
  one_round : (x : ℕ) → total w (x + n) ≡ total w x + total w n
  one_round zero = let e : 0 + n ≡ n = omega arith in ap (total w) e ∙ (let k : total w n ≡ 0 + total w n = omega arith in k)
  one_round (suc x) =
      let e : suc x + n ≡ suc (x + n) = omega arith in
      let a = total_last w (x + n) in
      let b = total_last w x in
      let rest = one_round x in
      let same = again x in
      ap (total w) e ∙ (let k : total w (suc (x + n)) ≡ total w (suc x) + total w n = omega (arith, a, b, rest, same) in k)

  -- as many cells as a lap has hold at most the cars of a lap, and at least all but the empty cells
  grows : (a d : ℕ) → total w a ≤ total w (a + d)
  grows a zero = let e : a + 0 ≡ a = omega arith in let f = ap (total w) e in omega (arith, f)
  grows a (suc d) =
      let e : a + suc d ≡ suc (a + d) = omega arith in
      let f = ap (total w) e in
      let last = total_last w (a + d) in
      let rest = grows a d in
      omega (arith, f, last, rest)

  within_round : (x c : ℕ) → c ≤ n → total w (x + c) ≤ total w x + total w n
  within_round x c short =
      let more = grows (x + c) (n - c) in
      let e : x + c + (n - c) ≡ x + n = omega (arith, short) in
      let f = ap (total w) e in
      let all = one_round x in
      omega (arith, more, f, all)

  whole_round : (x c : ℕ) → n ≤ c → total w x + total w n ≤ total w (x + c)
  whole_round x c long =
      let more = grows (x + n) (c - n) in
      let e : x + n + (c - n) ≡ x + c = omega (arith, long) in
      let f = ap (total w) e in
      let all = one_round x in
      omega (arith, more, f, all)

  -- if there is room for this number of cells per car, heights rise by at most one over these cells, once
  -- each car had a step
  pub rises_slowly : (s t x : ℕ) → s * total w n ≤ n → total w n ≤ t + 1 → 1 ≤ total w n → height w s t (x + s) ≤ height w s t x + 1
  rises_slowly s t x few round some =
      let from = reached w s t (x + s) in
      let j = from.0 in
      let low = from.1.low in
      let is = from.1.is in
      elim (cases_lt j t) [
        | inl less ↦
            let least = no_less w s t x (suc j) less in
            let step = mul-suc s j in
            let e : x + s * suc j ≡ x + s + s * j = omega (arith, step) in
            let there : total w (x + s + s * j) + (t - suc j) ≤ height w s t x = subst (λ k. total w k + (t - suc j) ≤ height w s t x) e least in
            omega (arith, is, there, less)
        | inr last ↦
            let i = t + 1 - total w n in
            let least = no_less w s t x i (omega (arith, round, some)) in
            let short = within_round (x + s * i) (s * total w n) few in
            let whole : i + total w n ≡ suc j = omega (arith, low, last, round) in
            let a = mul-add s i (total w n) in
            let b = ap (λ k. s * k) whole in
            let step = mul-suc s j in
            let e : x + s * i + s * total w n ≡ x + s + s * j = omega (arith, a, b, step) in
            let f = ap (total w) e in
            omega (arith, is, f, short, least, last, low, round, some)
      ]

  -- and if there is no more room, by at least one, once a car at v could have gone over all empty cells
  module _ (one : (x : ℕ) → w x ≤ 1) where
    slow : (a d : ℕ) → total w (a + d) ≤ total w a + d
    slow a zero = let e : a + 0 ≡ a = omega arith in let f = ap (total w) e in omega (arith, f)
    slow a (suc d) =
        let e : a + suc d ≡ suc (a + d) = omega arith in
        let f = ap (total w) e in
        let last = total_last w (a + d) in
        let rest = slow a d in
        let most = one (a + d) in
        omega (arith, f, last, rest, most)

    -- this number of cells for each of some cars holds at least as many cars
    enough : (v q x : ℕ) → q ≤ total w n → n ≤ total w n + v * q → total w x + q ≤ total w (x + suc v * q)
    enough v q x low soon =
        elim (cases_lt (suc v * q) n) [
          | inl short ↦
              let c = suc v * q in
              let more = slow (x + c) (n - c) in
              let e : x + c + (n - c) ≡ x + n = omega (arith, short) in
              let f = ap (total w) e in
              let all = one_round x in
              let product = suc-mul v q in
              omega (arith, more, f, all, product, soon, short)
          | inr long ↦ let all = whole_round x (suc v * q) long in omega (arith, all, low)
        ]

    -- the first cars of a lap, or all of them
    all_or_first : (v t x : ℕ) → n ≤ suc v * total w n → n ≤ total w n + v * (t + 1) → 0 < n → (i : ℕ) × ((i ≤ t) × (total w x + suc i ≤ total w (x + suc v * suc i)))
    all_or_first v t x many soon some =
        let none = mul-zero (suc v) in
        elim (cases_lt (t + 1) (total w n)) [
          | inl more ↦
              let e : t + 1 ≡ suc t = omega arith in
              let f = ap (λ k. v * k) e in
              (t, (omega arith, enough v (suc t) x (omega (arith, more)) (omega (arith, soon, f))))
          | inr last ↦
              let filled : 1 ≤ total w n = (elim (cases_lt 0 (total w n)) [
                | inl cars ↦ cars
                | inr empty ↦
                    let zeroth : total w n ≡ 0 = omega (arith, empty) in
                    let e = ap (λ k. suc v * k) zeroth in
                    absurd (omega (arith, e, none, many, some))
              ]) in
              let whole : suc (total w n - 1) ≡ total w n = omega (arith, filled) in
              let product = suc-mul v (total w n) in
              let all = enough v (total w n) x (omega arith) (omega (arith, many, product)) in
              (total w n - 1, (omega (arith, last), subst (λ k. total w x + k ≤ total w (x + suc v * k)) (sym whole) all))
        ]

    pub rises_fast : (v t x : ℕ) → n ≤ suc v * total w n → n ≤ total w n + v * (t + 1) → 0 < n → height w (suc v) t x + 1 ≤ height w (suc v) t (x + suc v)
    rises_fast v t x many soon some =
        let s = suc v in
        let from = reached w s t x in
        let j = from.0 in
        let low = from.1.low in
        let is = from.1.is in
        elim (cases_lt 0 j) [
          | inl more ↦
              let least = no_less w s t (x + s) (j - 1) (omega (arith, low)) in
              let whole : suc (j - 1) ≡ j = omega (arith, more) in
              let a = mul-suc s (j - 1) in
              let b = ap (λ k. s * k) whole in
              let e : x + s + s * (j - 1) ≡ x + s * j = omega (arith, a, b) in
              let there : total w (x + s * j) + (t - (j - 1)) ≤ height w s t (x + s) = subst (λ k. total w k + (t - (j - 1)) ≤ height w s t (x + s)) e least in
              omega (arith, is, there, more, low)
          | inr first ↦
              let found = all_or_first v t x many soon some in
              let i = found.0 in
              let within = found.1.0 in
              let cars = found.1.1 in
              let least = no_less w s t (x + s) i within in
              let a = mul-suc s i in
              let e : x + s + s * i ≡ x + s * suc i = omega (arith, a) in
              let there : total w (x + s * suc i) + (t - i) ≤ height w s t (x + s) = subst (λ k. total w k + (t - i) ≤ height w s t (x + s)) e least in
              let none : j ≡ 0 = omega (arith, first) in
              let f : x + s * j ≡ x = ap (λ k. x + s * k) none ∙ (let g : x + s * 0 ≡ x = omega arith in g) in
              let here : height w s t x ≡ total w x + (t - j) = is ∙ ap (λ k. total w k + (t - j)) f in
              omega (arith, here, there, cars, first, within)
        ]

-- sums over some cells on
abbrev pub window : (ℕ → ℕ) → ℕ → ℕ → ℕ
window w p k = total (λ i. w (p + i)) k

pub window_last : (w : ℕ → ℕ) (p k : ℕ) → window w p (suc k) ≡ window w p k + w (p + k)
window_last w p k = total_last (λ i. w (p + i)) k

-- one cell further on
pub window_slides : (w : ℕ → ℕ) (p k : ℕ) → window w (suc p) k + w p ≡ window w p k + w (p + k)
window_slides w p k =
    let zeroth : p + 0 ≡ p = omega arith in
    let first = ap w zeroth in
    let same = total_same (λ i. w (p + suc i)) (λ i. w (suc p + i)) k (λ i low. let e : p + suc i ≡ suc p + i = omega arith in ap w e) in
    let last = window_last w p k in
    omega (arith, first, same, last)

pub window_has : (w : ℕ → ℕ) (p k i : ℕ) → i < k → w (p + i) ≤ window w p k
window_has w p zero i low = absurd (omega (arith, low))
window_has w p (suc k) i low =
    let last = window_last w p k in
    elim (cases_lt i k) [
      | inl less ↦ let rest = window_has w p k i less in omega (arith, rest, last)
      | inr more ↦
          let same : i ≡ k = omega (arith, low, more) in
          let e = ap (λ j. w (p + j)) same in
          omega (arith, last, e)
    ]

pub window_none : (w : ℕ → ℕ) (p k : ℕ) → ((i : ℕ) → i < k → w (p + i) ≡ 0) → window w p k ≡ 0
window_none w p zero none = refl
window_none w p (suc k) none =
    let last = window_last w p k in
    let rest = window_none w p k (λ i low. none i (omega (arith, low))) in
    let end = none k (omega arith) in
    omega (arith, last, rest, end)

-- the last that is not 0
pub record IsLast (w : ℕ → ℕ) (p k i : ℕ) : Type 0 where
  pub low : i < k
  pub some : 1 ≤ w (p + i)
  pub none : (j : ℕ) → i < j → j < k → w (p + j) ≡ 0

pub last_of : (w : ℕ → ℕ) (p k : ℕ) → 1 ≤ window w p k → (i : ℕ) × IsLast w p k i
last_of w p zero some = absurd (omega (arith, some))
last_of w p (suc k) some =
    elim (cases_lt 0 (w (p + k))) [
      | inl here ↦ (k, record { low = omega arith; some = here; none = λ j past low. absurd (omega (arith, past, low)) })
      | inr empty ↦
          let last = window_last w p k in
          let rest = last_of w p k (omega (arith, some, last, empty)) in
          let i = rest.0 in
          let low = rest.1.low in
          (i, record { low = omega (arith, low); some = rest.1.some; none = none_of k i empty rest.1.none })
    ]
  where
    none_of : (k i : ℕ) → w (p + k) ≤ 0 → ((j : ℕ) → i < j → j < k → w (p + j) ≡ 0) → (j : ℕ) → i < j → j < suc k → w (p + j) ≡ 0
    none_of k i empty rest j past low =
        elim (cases_lt j k) [
          | inl less ↦ rest j past less
          | inr more ↦
              let same : j ≡ k = omega (arith, low, more) in
              let e = ap (λ m. w (p + m)) same in
              omega (arith, e, empty)
        ]

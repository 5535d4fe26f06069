-- A lane whose cars move at the limit or by their gaps, whichever is smaller: its cars are the slope of
-- heights.
use Rattle.std.proofs.Common.{◌≡◌, ◌≢◌, ℕ, zero, suc, ◌+◌, ◌-◌, ◌*◌, ◌%◌, ◌<◌, ◌≤◌, min, max, Bool, true}
use Rattle.std.proofs.Common.{false, is_some, Some, None, length, refl, sym, ◌∙◌, ap, subst, inl, inr, arith}
use Rattle.std.proofs.Common.{mod-eq_of_lt, mul-suc, mod-lt}
use Rattle.std.proofs.{Math.Nat.{add-mod_right, add-mul-mod_self_right, mod-add-mod}, lemmas.Bool.cases_lt}
use Rattle.trlab_road.specs.{Cells.{Cell, Lane, at, lane_car_count}, Gaps.{ahead, gap}, Motion.IsClearAhead}
use Rattle.trlab_road.{specs.Motion.{LaneFits, LaneMoves}, proofs.Ring.{blocked, clear_within_gap, inside}}
use Rattle.trlab_traffic.{specs.{Terms.is_taken, LimitOne.digit}, proofs.Lanes.{ahead_none, ahead_once}}
use Rattle.trlab_traffic.proofs.{Lanes.{clear_is_gap, total_last, total_same}, Gaps.left_free}
use Rattle.trlab_traffic.proofs.{Wolfram.{gap_none, gap_some}, Heights.{digit_at, digits_again, digits_total}}
use Rattle.trlab_traffic.proofs.Heights.{height, last_of, rises_fast, rises_slowly, window, window_has}
use Rattle.trlab_traffic.proofs.Heights.{window_last, window_none, window_slides}

-- a digit of 1 is a car, and one of 0 an empty cell
pub one_is_car : (lane : Lane) (x : ℕ) → 1 ≤ digit (is_taken lane x) → (car : ℕ × ℕ) × (at lane x ≡ Some car)
one_is_car lane x some = of_cell (at lane x) refl
  where
    of_cell : (c : Cell) → at lane x ≡ c → (car : ℕ × ℕ) × (at lane x ≡ Some car)
    of_cell None is = let e = ap (λ (c : Cell). digit (is_some c)) is in absurd (omega (arith, e, some))
    of_cell (Some car) is = (car, is)

pub none_is_empty : (lane : Lane) (x : ℕ) → digit (is_taken lane x) ≡ 0 → at lane x ≡ None
none_is_empty lane x none = of_cell (at lane x) refl
  where
    of_cell : (c : Cell) → at lane x ≡ c → at lane x ≡ None
    of_cell None is = is
    of_cell (Some car) is = let e = ap (λ (c : Cell). digit (is_some c)) is in absurd (omega (arith, e, none))

digit_most : (b : Bool) → digit b ≤ 1
digit_most true = omega arith
digit_most false = omega arith

-- a clear run ahead of a car is shorter than the lane
short_run : (lane : Lane) (z k : ℕ) (car : ℕ × ℕ) → at lane z ≡ Some car → IsClearAhead lane z k → k < length lane
short_run lane z k car here clear =
    let low = inside lane z car here in
    elim (cases_lt k (length lane)) [
      | inl less ↦ less
      | inr more ↦
          let free = clear.clear (length lane) (omega (arith, low)) more in
          let e = sym here ∙ sym (ap (at lane) (add-mod_right z (length lane) ∙ mod-eq_of_lt low)) ∙ free in
          absurd cc
    ]

module _ (limit : ℕ) (answer : ℕ → ℕ) (old new : Lane) (some_limit : 1 ≤ limit) (m : LaneMoves answer old new) (goes : (x number speed : ℕ) → at old x ≡ Some (number, speed) → answer x ≡ min limit (gap old x)) where
  fits : LaneFits answer old
  fits = record { gaps = λ x number speed here. let e = goes x number speed here in omega (arith, e) }

  -- a car that comes to a place, or leaves one empty
  taken_by : (z k y : ℕ) (car : ℕ × ℕ) → at old z ≡ Some car → answer z ≡ k → ahead (length old) z k ≡ y → digit (is_taken new y) ≡ 1
  taken_by z k y car here far reach =
      let to : ahead (length old) z (answer z) ≡ y = ap (ahead (length old) z) far ∙ reach in
      ap (λ (c : Cell). digit (is_some c)) (sym (ap (at new) to) ∙ m.arrives z car.0 car.1 here)

  empty_by : (z k y : ℕ) (car : ℕ × ℕ) → at old z ≡ Some car → k ≤ gap old z → answer z ≢ k → ahead (length old) z k ≡ y → digit (is_taken new y) ≡ 0
  empty_by z k y car here room far reach =
      ap (λ (c : Cell). digit (is_some c)) (sym (ap (at new) reach) ∙ left_free answer old new m fits z k car here room far)

  module _ (p : ℕ) where
    abbrev d : ℕ → ℕ
    d = digit_at old

    abbrev y : ℕ
    y = (p + limit) % length old

    beyond : ahead (length old) y 1 ≡ suc (p + limit) % length old
    beyond = mod-add-mod (p + limit) (length old) 1 ∙ (let e : p + limit + 1 ≡ suc (p + limit) = omega arith in ap (λ k. k % length old) e)

    -- the effect of a step on the place, by the cars of some cells behind it
    abbrev Balance : ℕ → ℕ → ℕ → Type 0
    Balance o c after = after + min (window d (suc p) limit) (1 - c) ≡ o + min (window d p limit) (1 - o)

    slid : window d (suc p) limit + d p ≡ window d p limit + d (p + limit)
    slid = window_slides d p limit

    -- the place was taken
    was_taken : (car : ℕ × ℕ) (c : Cell) → 0 < length old → at old y ≡ Some car → at old (ahead (length old) y 1) ≡ c → Balance 1 (digit (is_some c)) (digit (is_taken new y))
    was_taken car None some here free =
        let ahead_free = gap_some old y car here free in
        let far = goes y car.0 car.1 here in
        let low = inside old y car here in
        let empty = empty_by y 0 y car here (omega arith) (λ e. omega (arith, e, far, ahead_free, some_limit)) (ahead_none (length old) y low) in
        let own : digit_at old (p + limit) ≡ 1 = ap (λ (c : Cell). digit (is_some c)) here in
        let i = limit - 1 in
        let place : suc p + i ≡ p + limit = omega (arith, some_limit) in
        let has = window_has d (suc p) limit i (omega (arith, some_limit)) in
        let e = ap d place in
        omega (arith, empty, has, e, own)
    was_taken car (Some next) some here there =
        let none = gap_none old y next there in
        let far = goes y car.0 car.1 here in
        let taken = taken_by y 0 y car here (omega (arith, far, none)) (ahead_none (length old) y (inside old y car here)) in
        omega (arith, taken)

    -- the place was empty, and no car was near enough
    none_near : 0 < length old → at old y ≡ None → window d p limit ≡ 0 → digit (is_taken new y) ≡ 0
    none_near some free none = of_cell (at new y) refl
      where
        of_cell : (c : Cell) → at new y ≡ c → digit (is_taken new y) ≡ 0
        of_cell None is = ap (λ (c : Cell). digit (is_some c)) is
        of_cell (Some car) is =
            let came = m.nothing_else y car.0 car.1 is in
            let z = came.0 in
            let was = came.1.1.was in
            let far = goes z car.0 came.1.0 was in
            let a = answer z in
            let z_low = inside old z (car.0, came.1.0) was in
            elim (cases_lt 0 a) [
              | inl more ↦
                  let i = limit - a in
                  let within : a ≤ limit = omega (arith, far) in
                  let e : p + i + a ≡ p + limit = omega (arith, within) in
                  let back : ahead (length old) ((p + i) % length old) a ≡ y = mod-add-mod (p + i) (length old) a ∙ ap (λ k. k % length old) e in
                  let same : z ≡ (p + i) % length old = ahead_once (length old) z ((p + i) % length old) a z_low (mod-lt (p + i) some) (sym came.1.1.reaches ∙ sym back) in
                  let has = window_has d p limit i (omega (arith, more, within)) in
                  let one : d (p + i) ≡ 1 = ap (λ (c : Cell). digit (is_some c)) (sym (ap (at old) same) ∙ was) in
                  absurd (omega (arith, has, one, none))
              | inr none_gone ↦
                  let rests : a ≡ 0 = omega (arith, none_gone) in
                  let same : z ≡ y = sym (ap (ahead (length old) z) rests ∙ ahead_none (length old) z z_low) ∙ sym came.1.1.reaches in
                  let e = sym was ∙ ap (at old) same ∙ free in
                  absurd cc
            ]

    -- the place was empty, and the last car of those cells is near enough
    was_empty : (i : ℕ) (c : Cell) → 0 < length old → at old y ≡ None → at old (ahead (length old) y 1) ≡ c → i < limit → 1 ≤ d (p + i) → ((j : ℕ) → i < j → j < limit → d (p + j) ≡ 0) → Balance 0 (digit (is_some c)) (digit (is_taken new y))
    was_empty i c some free there low near clear_behind =
        let n = length old in
        let z = (p + i) % n in
        let k = limit - i in
        let found = one_is_car old z near in
        let car = found.0 in
        let here = found.1 in
        let place : (j : ℕ) → ahead n z j ≡ (p + i + j) % n = λ j. mod-add-mod (p + i) n j in
        let whole : p + i + k ≡ p + limit = omega (arith, low) in
        let reach : ahead n z k ≡ y = place k ∙ ap (λ q. q % n) whole in
        let clear : IsClearAhead old z k = record {
          clear = λ j least most. elim (cases_lt (i + j) limit) [
            | inl inner ↦
                let e : p + i + j ≡ p + (i + j) = omega arith in
                ap (at old) (place j ∙ ap (λ q. q % n) e) ∙ none_is_empty old ((p + (i + j)) % n) (clear_behind (i + j) (omega (arith, least)) inner)
            | inr last ↦
                let e : p + i + j ≡ p + limit = omega (arith, last, most, low) in
                ap (at old) (place j ∙ ap (λ q. q % n) e) ∙ free
          ];
        } in
        let short = short_run old z k car here clear in
        let room = clear_is_gap old z k short clear in
        let far = goes z car.0 car.1 here in
        let has = window_has d p limit i low in
        let beyond_z : ahead n z (k + 1) ≡ ahead n y 1 =
        place (k + 1) ∙ (let e : p + i + (k + 1) ≡ p + limit + 1 = omega (arith, low) in ap (λ q. q % n) e) ∙ sym (mod-add-mod (p + limit) n 1) in
        by_next c there z car here clear room far has reach beyond_z
      where
        by_next : (c : Cell) → at old (ahead (length old) y 1) ≡ c → (z : ℕ) (car : ℕ × ℕ) → at old z ≡ Some car → IsClearAhead old z (limit - i) → limit - i ≤ gap old z → answer z ≡ min limit (gap old z) → d (p + i) ≤ window d p limit
            → ahead (length old) z (limit - i) ≡ y → ahead (length old) z (limit - i + 1) ≡ ahead (length old) y 1 → Balance 0 (digit (is_some c)) (digit (is_taken new y))
        by_next (Some next) there z car here clear room far has reach further =
            let before = blocked old z (gap old z) (limit - i + 1) (ahead (length old) y 1) next (clear_within_gap old z (gap old z) (omega arith)) there (omega arith) further in
            let taken = taken_by z (limit - i) y car here (omega (arith, far, before, room)) reach in
            omega (arith, taken, has, near)
        by_next None there z car here clear room far has reach further =
            elim (cases_lt 0 i) [
              | inl inner ↦
                  let more : IsClearAhead old z (limit - i + 1) = record {
                    clear = λ j least most. elim (cases_lt (limit - i) j) [
                      | inl last ↦ let e : limit - i + 1 ≡ j = omega (arith, last, most) in subst (λ k. at old (ahead (length old) z k) ≡ None) e (ap (at old) further ∙ there)
                      | inr within ↦ clear.clear j least within
                    ];
                  } in
                  let wide = clear_is_gap old z (limit - i + 1) (short_run old z (limit - i + 1) car here more) more in
                  let empty = empty_by z (limit - i) y car here room (λ e. omega (arith, e, far, wide, inner, low)) reach in
                  let j = i - 1 in
                  let place : suc p + j ≡ p + i = omega (arith, inner) in
                  let has_next = window_has d (suc p) limit j (omega (arith, low)) in
                  let e = ap d place in
                  omega (arith, empty, has, near, has_next, e)
              | inr first ↦
                  let none : window d (suc p) limit ≡ 0 = window_none d (suc p) limit (λ j inside. elim (cases_lt (suc j) limit) [
                    | inl within ↦ let e : suc p + j ≡ p + suc j = omega arith in ap d e ∙ clear_behind (suc j) (omega (arith, first)) within
                    | inr end ↦
                        let e : suc p + j ≡ p + limit = omega (arith, end, inside) in
                        ap d e ∙ ap (λ (c : Cell). digit (is_some c)) free
                  ]) in
                  let taken = taken_by z (limit - i) y car here (omega (arith, far, room, first)) reach in
                  omega (arith, taken, has, near, none)
            ]

    balance : 0 < length old → Balance (d (p + limit)) (d (suc p + limit)) (digit (is_taken new y))
    balance some = of_cells (at old y) (at old (ahead (length old) y 1)) refl refl
      where
        next_is : (c : Cell) → at old (ahead (length old) y 1) ≡ c → d (suc p + limit) ≡ digit (is_some c)
        next_is c there =
            let e : suc p + limit ≡ suc (p + limit) = omega arith in
            ap d e ∙ ap (λ (c : Cell). digit (is_some c)) (sym (ap (at old) beyond) ∙ there)

        in_digits : (o c : ℕ) → d (p + limit) ≡ o → d (suc p + limit) ≡ c → Balance o c (digit (is_taken new y)) → Balance (d (p + limit)) (d (suc p + limit)) (digit (is_taken new y))
        in_digits o c own next is = rw (own, next) is

        of_cells : (o c : Cell) → at old y ≡ o → at old (ahead (length old) y 1) ≡ c → Balance (d (p + limit)) (d (suc p + limit)) (digit (is_taken new y))
        of_cells (Some car) c here there = in_digits 1 (digit (is_some c)) (ap (λ (c : Cell). digit (is_some c)) here) (next_is c there) (was_taken car c some here there)
        of_cells None c here there = in_digits 0 (digit (is_some c)) (ap (λ (c : Cell). digit (is_some c)) here) (next_is c there) (elim (cases_lt 0 (window d p limit)) [
          | inl near ↦ let last = last_of d p limit near in was_empty last.0 c some here there last.1.low last.1.some last.1.none
          | inr far ↦
              let none : window d p limit ≡ 0 = omega (arith, far) in
              let empty = none_near some here none in
              let own : d (p + limit) ≡ 0 = ap (λ (c : Cell). digit (is_some c)) here in
              let slide = slid in
              let none_next : window d (suc p) limit ≡ 0 = omega (arith, slide, none, own) in
              omega (arith, empty, none, none_next)
        ])

-- a lane that has leapt for a number of steps: its cars are the slope of the heights
pub record Leaps (limit : ℕ) (first lane : Lane) (t : ℕ) : Type 0 where
  pub same_length : length lane ≡ length first
  pub slope : (x : ℕ) → height (digit_at first) (suc limit) t (suc x) ≡ height (digit_at first) (suc limit) t x + digit_at lane (x + limit * t)

pub leaps_itself : (limit : ℕ) (lane : Lane) → Leaps limit lane lane 0
leaps_itself limit lane = record {
  same_length = refl;
  slope = λ x. let e : x + limit * 0 ≡ x = omega arith in rw e (total_last (digit_at lane) x);
}

-- heights over some cells
slopes : (limit : ℕ) (first lane : Lane) (t x k : ℕ) → Leaps limit first lane t → height (digit_at first) (suc limit) t (x + k) ≡ height (digit_at first) (suc limit) t x + window (digit_at lane) (x + limit * t) k
slopes limit first lane t x zero l =
    let e : x + 0 ≡ x = omega arith in
    ap (height (digit_at first) (suc limit) t) e ∙ (let g : height (digit_at first) (suc limit) t x ≡ height (digit_at first) (suc limit) t x + 0 = omega arith in g)
slopes limit first lane t x (suc k) l =
    let h = height (digit_at first) (suc limit) t in
    let e : x + suc k ≡ suc (x + k) = omega arith in
    let rest = slopes limit first lane t x k l in
    let more = l.slope (x + k) in
    let last = window_last (digit_at lane) (x + limit * t) k in
    let place : x + k + limit * t ≡ x + limit * t + k = omega arith in
    let same = ap (digit_at lane) place in
    ap h e ∙ (let g : h (suc (x + k)) ≡ h x + window (digit_at lane) (x + limit * t) (suc k) = omega (arith, rest, more, last, same) in g)

steep : (m a b d o c after : ℕ) → o ≤ 1 → c ≤ 1 → b + d ≡ a + o → after + min b (1 - c) ≡ o + min a (1 - o) → max (m + d + 1) (m + d + (b + c)) ≡ max (m + 1) (m + (a + o)) + after
steep m a b d o c after low high slide balance = omega (arith, low, high, slide, balance)

pub leaps_more : (limit : ℕ) (answer : ℕ → ℕ) (first old new : Lane) (t : ℕ) → 1 ≤ limit → 0 < length first → Leaps limit first old t → LaneMoves answer old new
    → ((x number speed : ℕ) → at old x ≡ Some (number, speed) → answer x ≡ min limit (gap old x)) → Leaps limit first new (suc t)
leaps_more limit answer first old new t some_limit some l m goes = record {
  same_length = m.same_length ∙ l.same_length;
  slope = λ x.
      let h = height (digit_at first) (suc limit) t in
      let d = digit_at old in
      let p = x + limit * t in
      let size = l.same_length in
      let after = digit (is_taken new ((p + limit) % length old)) in
      let is = balance limit answer old new some_limit m goes p (omega (arith, some, size)) in
      let slide = window_slides d p limit in
      let one = l.slope x in
      let own = window_last d p limit in
      let next = window_last d (suc p) limit in
      let left = slopes limit first old t (suc x) (suc limit) l in
      let right = slopes limit first old t x (suc limit) l in
      let from : suc x + limit * t ≡ suc p = omega arith in
      let left_here = left ∙ ap (λ k. h (suc x) + window d k (suc limit)) from in
      let up = steep (h x) (window d p limit) (window d (suc p) limit) (d p) (d (p + limit)) (d (suc p + limit)) after (digit_most _) (digit_most _) slide is in
      let a : max (h (suc x) + 1) (h (suc x + suc limit)) ≡ max (h x + d p + 1) (h x + d p + (window d (suc p) limit + d (suc p + limit))) = omega (arith, one, left_here, next) in
      let b : max (h x + 1) (h (x + suc limit)) ≡ max (h x + 1) (h x + (window d p limit + d (p + limit))) = omega (arith, right, own) in
      let more = mul-suc limit t in
      let place : x + limit * suc t ≡ p + limit = omega (arith, more) in
      let there : digit_at new (x + limit * suc t) ≡ after = ap (digit_at new) place ∙ ap (λ k. digit (is_taken new ((p + limit) % k))) m.same_length in
      a ∙ up ∙ ap (λ k. k + after) (sym b) ∙ ap (λ k. height (digit_at first) (suc limit) (suc t) x + k) (sym there);
}

-- some cells of a lane by their heights
module _ (limit : ℕ) (first lane : Lane) (t y : ℕ) (l : Leaps limit first lane t) (some : 0 < length lane) where
  abbrev seen_from : ℕ
  seen_from = y + limit * t * (length lane - 1)

  cells_from : height (digit_at first) (suc limit) t (seen_from + suc limit) ≡ height (digit_at first) (suc limit) t seen_from + window (digit_at lane) y (suc limit)
  cells_from =
      let n = length lane in
      let q = limit * t in
      let whole : suc (n - 1) ≡ n = omega (arith, some) in
      let rounds : q * n ≡ q * (n - 1) + q = ap (λ k. q * k) (sym whole) ∙ mul-suc q (n - 1) in
      let e : seen_from + q ≡ y + q * n = omega (arith, rounds) in
      let same = total_same (λ i. digit_at lane (seen_from + q + i)) (λ i. digit_at lane (y + i)) (suc limit)
      (λ i low.
      let f : seen_from + q + i ≡ y + i + q * n = omega (arith, e) in
      ap (digit_at lane) f ∙ ap (λ k. digit (is_taken lane k)) (add-mul-mod_self_right (y + i) q n)) in
      slopes limit first lane t seen_from (suc limit) l ∙ ap (λ k. height (digit_at first) (suc limit) t seen_from + k) same

  -- if there is room for the limit behind each car, no two cars are nearer, once each car had a step
  pub few_near : suc limit * lane_car_count first ≤ length first → lane_car_count first ≤ t + 1 → 1 ≤ lane_car_count first → window (digit_at lane) y (suc limit) ≤ 1
  few_near few round cars =
      let count = digits_total first in
      let all = ap (λ k. suc limit * k) (digits_total first) in
      let slowly = rises_slowly (digit_at first) (length first) (digits_again first) (suc limit) t seen_from (omega (arith, all, few)) (omega (arith, count, round)) (omega (arith, count, cars)) in
      let here = cells_from in
      omega (arith, slowly, here)

  -- and if there is no more room, no cars are further apart, once a car at the limit could have gone over
  -- all empty cells
  pub some_near : length first ≤ suc limit * lane_car_count first → length first ≤ lane_car_count first + limit * (t + 1) → 1 ≤ window (digit_at lane) y (suc limit)
  some_near many soon =
      let size = l.same_length in
      let count = digits_total first in
      let all = ap (λ k. suc limit * k) (digits_total first) in
      let fast = rises_fast (digit_at first) (length first) (digits_again first) (λ x. digit_most (is_taken first (x % length first))) limit t seen_from (omega (arith, all, many)) (omega (arith, count, soon)) (omega (arith, some, size)) in
      let here = cells_from in
      omega (arith, fast, here)

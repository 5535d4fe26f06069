use Rattle.std.proofs.Common.{◌≡◌, ◌<◌, ◌≤◌, ◌+◌, ◌⊎◌, ◌∙◌, ℕ, List, false, nat_lt, length, ap, inl, inr}
use Rattle.std.proofs.{Common.{arith, lt-ltb}, lemmas.Bool.{cases_lt, Decides.nat_tests}}
use Rattle.trlab_road.{specs.Stored.{LaneCar, IsSortedFrom, place_of}, proofs.Lists.rises_weakly}
use Rattle.trlab_road.proofs.gaps.pass_four.Goals as goal
use mir.Val.{bool_byte}

not_lower : (p x : ℕ) → x ≤ p → nat_lt p x ≡ false
not_lower p x high = grind (arith, nat_tests, high)

-- a car is passed exactly if its place is before the given one
passed : (p x n : ℕ) → n ≡ bool_byte (nat_lt p x) → ((n ≡ 1) × (p < x)) ⊎ ((n ≡ 0) × (x ≤ p))
passed p x n is =
    elim (cases_lt p x) [
      | inl low ↦ inl (is ∙ ap bool_byte (lt-ltb p x low), low)
      | inr high ↦ inr (is ∙ ap bool_byte (not_lower p x high), high)
    ]

-- the cars before an index are before the given place, and if some cars after them were compared, those are
-- not
record ArePassed (cars : List LaneCar) (x next k : ℕ) : Type 0 where
  not_past : next ≤ k
  before : (j : ℕ) → j < next → j < length cars → place_of cars j < x
  from : next < k → x ≤ place_of cars next

one_more : (n : ℕ) (cars : List LaneCar) (x next k more : ℕ) → IsSortedFrom 0 n cars → k < length cars → ArePassed cars x next k
    → more ≡ bool_byte (nat_lt (place_of cars k) x) → ArePassed cars x (next + more) (k + 1)
one_more n cars x next k more rises inside so_far is =
    let last = so_far.not_past in
    elim (passed (place_of cars k) x more is) [
      | inl (one, low) ↦
          let all : next ≡ k = elim (cases_lt next k) [
            | inl less ↦
                let a = so_far.from less in
                let b = rises_weakly n cars next k rises (omega (arith, less)) inside in
                absurd (omega (arith, a, b, low))
            | inr no_less ↦ omega (arith, last, no_less)
          ] in
          record {
            not_past = omega (arith, last, one);
            before = λ j below on.
                elim (cases_lt j next) [
                  | inl earlier ↦ so_far.before j earlier on
                  | inr here ↦ let same : j ≡ k = omega (arith, below, one, here, all) in rw same low
                ];
            from = λ less. absurd (omega (arith, less, one, all));
          }
      | inr (none, high) ↦
          let same : next + more ≡ next = omega (arith, none) in
          rw same (record {
            not_past = omega (arith, last);
            before = so_far.before;
            from = λ less.
                elim (cases_lt next k) [
                  | inl earlier ↦ so_far.from earlier
                  | inr here ↦ let all : next ≡ k = omega (arith, here, last) in rw all high
                ];
          })
    ]

pub loop-k-preserved : goal.loop-k-preserved
loop-k-preserved c =
    let inv = c.loop-k.invariant in
    let inside : c.loop-k.k < length c.args.cars.now = omega (arith, c.requires.in_range, c.if-cars-near-ge-SEARCHED_TOGETHER.true, c.loop-k-test.true) in
    let next = one_more c.requires.sorted.0 c.args.cars.now c.args.place c.loop-k.next c.loop-k.k c.from-next.result c.requires.sorted.1 inside
    (record { not_past = inv.not_past; before = inv.before; from = inv.from }) (c.from-next.ensures ∙ ap (λ p. bool_byte (nat_lt p c.args.place)) c.place_at.ensures) in
    record { not_past = next.not_past; before = next.before; from = next.from }

-- Characters of speeds: no two speeds have the same character, and no speed has the dot.
use Rattle.std.proofs.Common.{◌≡◌, ◌≢◌, ℕ, zero, suc, ◌+◌, ◌-◌, ◌<◌, ◌≤◌, eqb, ◌⊎◌, refl, sym, ◌∙◌, ap, inl}
use Rattle.std.proofs.Common.{inr, arith, eq-eqb, ne_eqb}
use Rattle.std.proofs.lemmas.Bool.{cases_lt, cases_eq, cond_above, cond_below}
use Rattle.trlab_road.specs.{Pictures.{ShowsSpeed, dot, speed_character}, Stored.speed_of_character}
use Rattle.trlab_road.proofs.Ring.{greatest_is}

-- the digits, and the letters after them
pub of_digit : (v : ℕ) → v < 10 → speed_character v ≡ 48 + v
of_digit v low = sym (cond_below v 10 (48 + v) (97 + (v - 10)) low)

pub of_letter : (v : ℕ) → 10 ≤ v → speed_character v ≡ 97 + (v - 10)
of_letter v high = sym (cond_above v 10 (48 + v) (97 + (v - 10)) (97 + (v - 10)) high refl)

-- the speed of a character
module _ (v : ℕ) where
  abbrev Tells : Type 0
  Tells = ((v < 10) × (speed_character v ≡ 48 + v)) ⊎ ((10 ≤ v) × (speed_character v ≡ 97 + (v - 10)))

  tells : Tells
  tells = elim (cases_lt v 10) [ inl low ↦ inl (low, of_digit v low) | inr high ↦ inr (high, of_letter v high) ]

  pub no_point : speed_character v ≢ dot
  no_point same = elim tells [ inl w ↦ let e = w.1 in absurd (omega (arith, e, same)) | inr w ↦ let e = w.1 in absurd (omega (arith, e, same)) ]

  pub at_least : v ≤ speed_character v
  at_least = elim tells [ inl w ↦ let e = w.1 in omega (arith, e) | inr w ↦ let e = w.1 in omega (arith, e) ]

pub one_speed : (v w : ℕ) → speed_character v ≡ speed_character w → v ≡ w
one_speed v w same =
    elim (tells v) [
      | inl a ↦ let i = a.0 in let e = a.1 in elim (tells w) [
        | inl b ↦ let f = b.1 in omega (arith, e, f, same)
        | inr b ↦ let f = b.1 in absurd (omega (arith, i, e, f, same))
      ]
      | inr a ↦ let i = a.0 in let e = a.1 in elim (tells w) [
        | inl b ↦ let j = b.0 in let f = b.1 in absurd (omega (arith, j, e, f, same))
        | inr b ↦ let j = b.0 in let f = b.1 in omega (arith, i, j, e, f, same)
      ]
    ]

-- the speed of a character is its only speed
pub speed_back : (v : ℕ) → speed_of_character (speed_character v) ≡ v
speed_back v = greatest_is (λ speed. eqb (speed_character speed) (speed_character v)) (speed_character v) v (at_least v) (eq-eqb (speed_character v) (speed_character v) refl)
    (λ m above below. ne_eqb (speed_character m) (speed_character v) (λ same. let e = one_speed m v same in omega (arith, e, above)))

pub character_back : (most character : ℕ) → ShowsSpeed most character → speed_character (speed_of_character character) ≡ character
character_back most character shows =
    ap (λ c. speed_character (speed_of_character c)) shows.shown ∙ ap speed_character (speed_back shows.speed) ∙ sym shows.shown

pub shows_speed_or_not : (most character : ℕ) → ShowsSpeed most character ⊎ (¬ (ShowsSpeed most character))
shows_speed_or_not zero character =
    elim (cases_eq character (speed_character 0)) [
      | inl is ↦ inl (record { speed = 0; within = omega arith; shown = is })
      | inr other ↦ inr (λ h. let low = h.within in let none : h.speed ≡ 0 = omega (arith, low) in other (h.shown ∙ ap speed_character none))
    ]
shows_speed_or_not (suc most) character =
    elim (shows_speed_or_not most character) [
      | inl h ↦ inl (record { speed = h.speed; within = (let low = h.within in omega (arith, low)); shown = h.shown })
      | inr none ↦ elim (cases_eq character (speed_character (suc most))) [
        | inl is ↦ inl (record { speed = suc most; within = omega arith; shown = is })
        | inr other ↦ inr (λ h. elim (cases_eq h.speed (suc most)) [
          | inl top ↦ other (h.shown ∙ ap speed_character top)
          | inr less ↦ none (record { speed = h.speed; within = (let low = h.within in omega (arith, low, less)); shown = h.shown })
        ])
      ]
    ]

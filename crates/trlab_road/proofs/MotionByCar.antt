-- The motion of a lane, car by car.
use Rattle.std.proofs.Common.{◌≡◌, ◌≢◌, ℕ, ◌+◌, ◌<◌, ◌≤◌, Option, Some, None, length, set, replicate, sym}
use Rattle.std.proofs.Common.{◌∙◌, subst, inl, inr, arith, mod-lt, get_or-set_same, get_or-set_other}
use Rattle.std.proofs.{Common.length-set, lemmas.Bool.{cases_lt, cases_eq}}
use Rattle.std.proofs.lemmas.{List.{get_or_past, get_or-replicate, length-replicate}, Option.some_pair_parts}
use Rattle.trlab_road.{proofs.Ring.{Apart, inside}, specs.{Cells.{Lane, at}, Gaps.ahead}}
use Rattle.trlab_road.specs.Motion.{ComesFrom, LaneMoves}

-- the cars of the first places of a lane have moved, and the new lane has no other cars
pub record MovedBelow (answer : ℕ → ℕ) (old new : Lane) (i : ℕ) : Type 0 where
  pub same_length : length new ≡ length old
  pub arrived : (x number speed : ℕ) → x < i → at old x ≡ Some (number, speed)
      → at new (ahead (length old) x (answer x)) ≡ Some (number, answer x)
  pub nothing_else : (y number speed : ℕ) → at new y ≡ Some (number, speed)
      → (x : ℕ) × ((before : ℕ) × ((x < i) × ComesFrom answer old y number speed x before))

-- two equal cells that hold cars hold the same car
same_parts : (a b u v : ℕ) → ◌≡◌ {A = Option (ℕ × ℕ)} (Some (a, u)) (Some (b, v)) → (a ≡ b) × (u ≡ v)
same_parts a b u v h = some_pair_parts a b u v h

same_car_speed : (a b w : ℕ) → a ≡ b → ◌≡◌ {A = Option (ℕ × ℕ)} (Some (a, w)) (Some (b, w))
same_car_speed a b w e = cc

same_car : (a b w u v : ℕ) → ◌≡◌ {A = Option (ℕ × ℕ)} (Some (a, u)) (Some (b, v))
    → ◌≡◌ {A = Option (ℕ × ℕ)} (Some (a, w)) (Some (b, w))
same_car a b w u v h = same_car_speed a b w (same_parts a b u v h).0

pub all_empty : (n y : ℕ) → at (replicate n None) y ≡ None
all_empty n y =
    elim (cases_lt y n) [
      | inl below ↦ get_or-replicate n y None None below
      | inr past ↦ get_or_past (replicate n None) y None (rw length-replicate past)
    ]

pub moved_none : (answer : ℕ → ℕ) (old : Lane) → MovedBelow answer old (replicate (length old) None) 0
moved_none answer old = record {
  same_length = length-replicate (length old) None;
  arrived = λ x number speed low. absurd (omega arith);
  nothing_else = λ y number speed h. let e = all_empty (length old) y in absurd cc;
}

pub moved_skip : (answer : ℕ → ℕ) (old new : Lane) (i : ℕ) → MovedBelow answer old new i
    → at old i ≡ None → MovedBelow answer old new (i + 1)
moved_skip answer old new i m empty = record {
  same_length = m.same_length;
  arrived = λ x number speed low h.
      elim (cases_eq x i) [
        | inl e ↦ let k : at old x ≡ None = subst (λ j. at old j ≡ None) (sym e) empty in absurd cc
        | inr other ↦ m.arrived x number speed (omega arith) h
      ];
  nothing_else = λ y number speed h. let came = m.nothing_else y number speed h in (came.0, (came.1.0, (let low = came.1.1.0 in omega arith, came.1.1.1)));
}

pub moved_more : (answer : ℕ → ℕ) (old new : Lane) (i number speed : ℕ) → MovedBelow answer old new i
    → Apart answer old → at old i ≡ Some (number, speed)
    → MovedBelow answer old (set new (ahead (length old) i (answer i)) (Some (number, answer i))) (i + 1)
moved_more answer old new i number speed m far here =
    let n = length old in
    let place = ahead n i (answer i) in
    let within : i < n = inside old i (number, speed) here in
    let positive : 0 < n = omega arith in
    let lands : place < length new = rw m.same_length (mod-lt (i + answer i) positive) in
    record {
      same_length = length-set new place (Some (number, answer i)) ∙ m.same_length;
      arrived = λ x car before low h.
          elim (cases_eq x i) [
            | inl e ↦ let same = sym here ∙ subst (λ j. at old j ≡ Some (car, before)) e h in
                subst (λ j. at (set new place (Some (number, answer i))) (ahead n j (answer j)) ≡ Some (car, answer j)) (sym e)
                (get_or-set_same new place (Some (number, answer i)) None lands ∙ same_car number car (answer i) speed before same)
            | inr other ↦
                let apart : ahead n x (answer x) ≢ place = λ e. other (far.apart x i car number before speed h here e) in
                get_or-set_other new place (ahead n x (answer x)) (Some (number, answer i)) None apart ∙ m.arrived x car before (omega arith) h
          ];
      nothing_else = λ y car v h.
          elim (cases_eq y place) [
            | inl e ↦
                let k : at (set new place (Some (number, answer i))) place ≡ Some (car, v) = subst (λ j. at (set new place (Some (number, answer i))) j ≡ Some (car, v)) e h in
                let same = sym (get_or-set_same new place (Some (number, answer i)) None lands) ∙ k in
                let parts = same_parts number car (answer i) v same in
                (i, (speed, (omega arith, record { was = here ∙ same_car_speed number car speed parts.0; reaches = e; at_speed = sym parts.1 })))
            | inr other ↦
                let came = m.nothing_else y car v (sym (get_or-set_other new place y (Some (number, answer i)) None other) ∙ h) in
                (came.0, (came.1.0, (let low = came.1.1.0 in omega arith, came.1.1.1)))
          ];
    }

pub moved_all : (answer : ℕ → ℕ) (old new : Lane) (i : ℕ) → length old ≤ i → MovedBelow answer old new i
    → LaneMoves answer old new
moved_all answer old new i all m = record {
  same_length = m.same_length;
  arrives = λ x number speed h. m.arrived x number speed (let k = inside old x (number, speed) h in omega arith) h;
  nothing_else = λ y number speed h. let came = m.nothing_else y number speed h in (came.0, (came.1.0, came.1.1.1));
}

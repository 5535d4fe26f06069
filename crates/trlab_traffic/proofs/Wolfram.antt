-- With v_max = 1 and without randomization the taken cells follow rule 184.
use Rattle.std.proofs.Common.{◌≡◌, ℕ, zero, suc, ◌+◌, ◌-◌, ◌%◌, ◌<◌, ◌≤◌, not, min, true, false, Some, None}
use Rattle.std.proofs.Common.{length, is_some, refl, sym, ◌∙◌, ap, subst, inl, inr, arith, mod-eq_of_lt}
use Rattle.std.proofs.{Math.Nat.{add-mod_right, mod_self}, lemmas.Bool.cases_lt}
use Rattle.trlab_road.specs.{Cells.{Cell, Cells, Lane, at, cell, lane_of}, Gaps.{ahead, behind, gap}}
use Rattle.trlab_road.{specs.Motion.LaneMoves, proofs.Ring.{car_in, clear_within_gap, inside}}
use Rattle.trlab_traffic.specs.{Terms.is_taken, LimitOne.EmptyCellsFollowRule184}
use Rattle.trlab_traffic.specs.LimitOne.{Rule184HasParticleHoleSymmetry, IsElementaryStep, NaschIsRule184}
use Rattle.trlab_traffic.{specs.LimitOne.elementary_rule, proofs.Lanes.{ahead_behind, ahead_none}}
use Rattle.trlab_traffic.proofs.{Lanes.{behind_ahead, clear_is_gap}, Steps.{SafeMotion, safe_motion}}

pub empty_cells_go_back : Rule184HasParticleHoleSymmetry
empty_cells_go_back true true true = refl
empty_cells_go_back true true false = refl
empty_cells_go_back true false true = refl
empty_cells_go_back true false false = refl
empty_cells_go_back false true true = refl
empty_cells_go_back false true false = refl
empty_cells_go_back false false true = refl
empty_cells_go_back false false false = refl

-- two cells that are at the same place from both ends of a ring: so are the cell ahead of one and the cell
-- behind the other
mirrored : (m x y : ℕ) → x + y + 1 ≡ m → ahead m x 1 + behind m y 1 + 1 ≡ m
mirrored m x zero pair =
    let last : x + 1 ≡ m = omega (arith, pair) in
    let round : ahead m x 1 ≡ 0 = ap (λ k. k % m) last ∙ mod_self m in
    let below : 0 + (m - 1) < m = omega (arith, pair) in
    let before : behind m 0 1 ≡ 0 + (m - 1) = mod-eq_of_lt below in
    omega (arith, pair, round, before)
mirrored m x (suc y) pair =
    let inside : x + 1 < m = omega (arith, pair) in
    let next : ahead m x 1 ≡ x + 1 = mod-eq_of_lt inside in
    let over : suc y + (m - 1) ≡ y + m = omega (arith, pair) in
    let below : y < m = omega (arith, pair) in
    let before : behind m (suc y) 1 ≡ y = ap (λ k. k % m) over ∙ (add-mod_right y m ∙ mod-eq_of_lt below) in
    omega (arith, pair, next, before)

pub empty_cells_follow : EmptyCellsFollowRule184
empty_cells_follow old new old_holes new_holes same step before after x low =
    let m = length old in
    let y = m - 1 - x in
    let pair : x + y + 1 ≡ m = omega (arith, low, before.0) in
    let back : y + x + 1 ≡ m = omega (arith, pair) in
    let low_y : y < m = omega (arith, pair) in
    let pair_new : x + y + 1 ≡ length new = omega (arith, pair, same) in
    let ahead_of_y : behind m x 1 + ahead m y 1 + 1 ≡ m = let e = mirrored m y x back in omega (arith, e) in
    let taken_behind = before.1 (behind m x 1) (ahead m y 1) ahead_of_y in
    let taken_here = before.1 x y pair in
    let taken_ahead = before.1 (ahead m x 1) (behind m y 1) (mirrored m x y pair) in
    let flipped = empty_cells_go_back (is_taken old (behind m y 1)) (is_taken old y) (is_taken old (ahead m y 1)) in
    rw (before.0, taken_behind, taken_here, taken_ahead) (after.1 x y pair_new ∙ (ap not (step y low_y) ∙ flipped))

-- a car in front of a taken cell has no gap
pub gap_none : (lane : Lane) (x : ℕ) (next : ℕ × ℕ) → at lane (ahead (length lane) x 1) ≡ Some next → gap lane x ≡ 0
gap_none lane x next there =
    elim (cases_lt 0 (gap lane x)) [
      | inl some ↦ let e = (clear_within_gap lane x 1 some).clear 1 (omega arith) (omega arith) in absurd cc
      | inr none ↦ omega (arith, none)
    ]

-- and a car in front of an empty cell has one
pub gap_some : (lane : Lane) (x : ℕ) (car : ℕ × ℕ) → at lane x ≡ Some car → at lane (ahead (length lane) x 1) ≡ None → 1 ≤ gap lane x
gap_some lane x car here free =
    let low = inside lane x car here in
    elim (cases_lt 1 (length lane)) [
      | inl more ↦ clear_is_gap lane x 1 more (record {
        clear = λ j some most. let e : 1 ≡ j = omega arith in subst (λ k. at lane (ahead (length lane) x k) ≡ None) e free;
      })
      | inr one ↦
          let e : ahead (length lane) x 1 ≡ x = omega (arith, low, one) in
          let f = sym (ap (at lane) e) ∙ free in
          absurd cc
    ]

module _ (answer : ℕ → ℕ) (old new : Lane) (m : LaneMoves answer old new)
    (goes : (x number speed : ℕ) → at old x ≡ Some (number, speed) → answer x ≡ min 1 (gap old x)) where
  -- a car moves by one cell, or stops
  goes_one : (x number speed : ℕ) → at old x ≡ Some (number, speed) → 1 ≤ gap old x → answer x ≡ 1
  goes_one x number speed here some = goes x number speed here ∙ (let e : min 1 (gap old x) ≡ 1 = omega (arith, some) in e)

  stops : (x number speed : ℕ) → at old x ≡ Some (number, speed) → gap old x ≡ 0 → answer x ≡ 0
  stops x number speed here none = goes x number speed here ∙ (let e : min 1 (gap old x) ≡ 0 = omega (arith, none) in e)

  taken : (y number speed : ℕ) → at new y ≡ Some (number, speed) → is_some (at new y) ≡ true
  taken y number speed there = ap is_some there

  -- a car behind a taken cell stops
  stays : (y : ℕ) (car next : ℕ × ℕ) → at old y ≡ Some car → at old (ahead (length old) y 1) ≡ Some next → is_some (at new y) ≡ true
  stays y car next here there =
      let none = stops y car.0 car.1 here (gap_none old y next there) in
      let to : ahead (length old) y (answer y) ≡ y = ap (ahead (length old) y) none ∙ ahead_none (length old) y (inside old y car here) in
      taken y car.0 (answer y) (subst (λ k. at new k ≡ Some (car.0, answer y)) to (m.arrives y car.0 car.1 here))

  -- a car comes to an empty cell in front of it
  comes : (y : ℕ) (car : ℕ × ℕ) → y < length old → at old (behind (length old) y 1) ≡ Some car → at old y ≡ None → is_some (at new y) ≡ true
  comes y car low here free =
      let x = behind (length old) y 1 in
      let reach = behind_ahead (length old) y low in
      let one = goes_one x car.0 car.1 here (gap_some old x car here (ap (at old) reach ∙ free)) in
      let to : ahead (length old) x (answer x) ≡ y = ap (ahead (length old) x) one ∙ reach in
      taken y car.0 (answer x) (subst (λ k. at new k ≡ Some (car.0, answer x)) to (m.arrives x car.0 car.1 here))

  -- a cell to which no car comes is empty
  left_empty : (y : ℕ) → ((x number speed : ℕ) → at old x ≡ Some (number, speed) → ahead (length old) x (answer x) ≡ y → ⊥) → is_some (at new y) ≡ false
  left_empty y none = of_cell (at new y) refl
    where
      of_cell : (c : Cell) → at new y ≡ c → is_some (at new y) ≡ false
      of_cell None is = ap is_some is
      of_cell (Some car) is =
          let came = m.nothing_else y car.0 car.1 is in
          absurd (none came.0 car.0 came.1.0 came.1.1.was (sym came.1.1.reaches))

  -- a car leaves its cell if the next one is empty, and no other car comes
  leaves : (y : ℕ) (car : ℕ × ℕ) → at old y ≡ Some car → at old (ahead (length old) y 1) ≡ None → is_some (at new y) ≡ false
  leaves y car here free = left_empty y (λ x number speed there reach.
      elim (cases_lt 0 (gap old x)) [
        | inl some ↦
            let one = goes_one x number speed there some in
            let to : ahead (length old) x 1 ≡ y = sym (ap (ahead (length old) x) one) ∙ reach in
            let e = (clear_within_gap old x 1 some).clear 1 (omega arith) (omega arith) in
            let f = sym (ap (at old) to) ∙ e in
            absurd cc
        | inr none ↦
            let zeroth : gap old x ≡ 0 = omega (arith, none) in
            let stopped = stops x number speed there zeroth in
            let to : x ≡ y = sym (ap (ahead (length old) x) stopped ∙ ahead_none (length old) x (inside old x (number, speed) there)) ∙ reach in
            let some = gap_some old y car here free in
            let same = ap (gap old) to in
            omega (arith, some, same, zeroth)
      ])

  -- a cell with no car in it or behind it stays empty
  stays_empty : (y : ℕ) → at old (behind (length old) y 1) ≡ None → at old y ≡ None → is_some (at new y) ≡ false
  stays_empty y before free = left_empty y (λ x number speed there reach.
      let low = inside old x (number, speed) there in
      elim (cases_lt 0 (gap old x)) [
        | inl some ↦
            let one = goes_one x number speed there some in
            let to : ahead (length old) x 1 ≡ y = sym (ap (ahead (length old) x) one) ∙ reach in
            let back : x ≡ behind (length old) y 1 = sym (ahead_behind (length old) x low) ∙ ap (λ k. behind (length old) k 1) to in
            let e = sym there ∙ ap (at old) back ∙ before in
            absurd cc
        | inr none ↦
            let zeroth : gap old x ≡ 0 = omega (arith, none) in
            let stopped = stops x number speed there zeroth in
            let to : x ≡ y = sym (ap (ahead (length old) x) stopped ∙ ahead_none (length old) x low) ∙ reach in
            let e = sym there ∙ ap (at old) to ∙ free in
            absurd cc
      ])

  by_cells : (y : ℕ) (b o a : Cell) → y < length old → at old (behind (length old) y 1) ≡ b → at old y ≡ o → at old (ahead (length old) y 1) ≡ a
      → is_some (at new y) ≡ elementary_rule 184 (is_some b) (is_some o) (is_some a)
  by_cells y None (Some car) (Some next) low before here there = stays y car next here there
  by_cells y (Some last) (Some car) (Some next) low before here there = stays y car next here there
  by_cells y None (Some car) None low before here there = leaves y car here there
  by_cells y (Some last) (Some car) None low before here there = leaves y car here there
  by_cells y (Some last) None None low before here there = comes y last low before here
  by_cells y (Some last) None (Some next) low before here there = comes y last low before here
  by_cells y None None None low before here there = stays_empty y before here
  by_cells y None None (Some next) low before here there = stays_empty y before here

  pub by_184 : IsElementaryStep 184 old new
  by_184 y low = by_cells y (at old (behind (length old) y 1)) (at old y) (at old (ahead (length old) y 1)) low refl refl refl

-- the speed if v_max is 1
slow : (speed gap : ℕ) → min (min (speed + 1) 1) gap ≡ min 1 gap
slow speed gap = omega arith

-- the speeds of a safe motion if v_max is 1
slow_speeds : (old new : Cells) (motion : SafeMotion old new) → old.limit ≡ 1
    → (l x number speed : ℕ) → cell old l x ≡ Some (number, speed) → motion.speeds l x ≡ min 1 (gap (lane_of old l) x)
slow_speeds old new motion one l x number speed here =
    motion.safe (car_in l x number speed) here
    ∙ ap (λ (limit : ℕ). min (min (speed + 1) limit) (gap (lane_of old l) x)) one
    ∙ slow speed (gap (lane_of old l) x)

-- each lane follows the rule
lane_by_184 : (old new : Cells) (motion : SafeMotion old new) → old.limit ≡ 1 → (l : ℕ) → l < length old.lanes → IsElementaryStep 184 (lane_of old l) (lane_of new l)
lane_by_184 old new motion one l on =
    by_184 (motion.speeds l) (lane_of old l) (lane_of new l) (motion.moves.each_lane l on) (slow_speeds old new motion one l)

pub nasch_is_rule_184 : NaschIsRule184
nasch_is_rule_184 rule dice old new tally l is legal one next on = lane_by_184 old new (safe_motion rule dice old new tally is legal next) one l on

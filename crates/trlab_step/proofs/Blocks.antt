-- The blocks of cars whose programs are run, one block after another.
use Rattle.std.proofs.Common.{◌≡◌, ℕ, ◌+◌, ◌-◌, ◌*◌, ◌/◌, ◌%◌, ◌<◌, ◌≤◌, List, [], min, Bool, arith}
use Rattle.trlab_road.specs.{declared.car.Car.Car, Cells.Cells}
use Rattle.trlab_step.specs.Answers.{AreAnswersPart, CrossingsFitPart, SpeedsFitPart}

-- there are no answers before the first block
pub part_none : {X : Type 0} (IsAnswer : Car → X → Type 0) (road : Cells) (from to : ℕ) (answers : List X) → answers ≡ [] → to ≡ from → AreAnswersPart IsAnswer road from to answers
part_none IsAnswer road from to answers e there = rw e (record { one_each = omega (arith, there); each = λ k car answer h here. absurd cc })

pub fits_none : (road : Cells) (from : ℕ) (speeds : List ℕ) → speeds ≡ [] → SpeedsFitPart road from speeds
fits_none road from speeds e = rw e (record { within_gaps = λ k h. absurd (omega (arith, h)); within_limit = λ k h. absurd (omega (arith, h)) })

pub free_none : (road : Cells) (from : ℕ) (crosses : List Bool) → crosses ≡ [] → CrossingsFitPart road from crosses
free_none road from crosses e = rw e (record { side_empty = λ k h goes. absurd (omega (arith, h)) })

-- the beginning and the end of the first block, and of the last
pub first_begin : (from to : ℕ) → from ≤ to → min to (from + 0) ≡ from
first_begin from to rising = omega (arith, rising)

pub last_end : (from to block : ℕ) {count : ℕ} → from ≤ to → count ≡ (to - from) / 32 + min 1 ((to - from) % 32) → count ≤ block → min to (from + 32 * block) ≡ to
last_end from to block rising is past = omega (arith, rising, is, past)

module _ (from to block : ℕ) {count : ℕ} (rising : from ≤ to) (is : count ≡ (to - from) / 32 + min 1 ((to - from) % 32)) (low : block < count) where
  pub begin_low : from + 32 * block ≤ to
  begin_low = omega (arith, rising, is, low)

  pub begin_is : min to (from + 32 * block) ≡ from + 32 * block
  begin_is = let b = begin_low in omega (arith, b)

  -- a block ends after 32 cars, or after the last car
  module _ (size : ℕ) (sized : size ≡ min 32 (to - (from + 32 * block))) where
    pub end_low : from + 32 * block + size ≤ to
    end_low = let b = begin_low in omega (arith, b, sized)

    pub end_near : from + 32 * block + size ≤ from + 32 * block + 32
    end_near = omega (arith, sized)

    pub end_after : from + 32 * block ≤ from + 32 * block + size
    end_after = omega arith

    -- the number of cars in a block; the next block begins after them
    pub size_is : from + 32 * block + size - (from + 32 * block) ≡ size
    size_is = omega arith

    pub next_begin : from + 32 * block + size ≡ min to (from + 32 * (block + 1))
    next_begin = let b = begin_low in omega (arith, b, sized)

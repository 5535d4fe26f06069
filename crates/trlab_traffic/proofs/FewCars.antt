-- The number of cars in a part of a lane: at most all its cars, and at least as many as remain if all its
-- empty cells are there.
use Rattle.std.proofs.Common.{◌≡◌, ℕ, zero, suc, ◌+◌, ◌%◌, ◌≤◌, Bool, true, false, cond, length, refl, sym}
use Rattle.std.proofs.{Common.{◌∙◌, ap, subst, inl, inr, arith}, lemmas.Bool.cases_lt}
use Rattle.trlab_road.specs.{Cells.{Cells, Lane, lane_car_count, lane_of}, Gaps.ahead}
use Rattle.trlab_road.proofs.{MotionLaws.lane_same_count, Ring.apart_within_gaps}
use Rattle.trlab_step.specs.{declared.tally.StepTally.StepTally, Run.{ComesTo, Seed, Sheet, dice_at}}
use Rattle.trlab_step.proofs.RunLaws.{force_all}
use Rattle.trlab_traffic.specs.{Terms.{lane_empty_cells, is_taken, EachRule, StaysInLane}, LimitOne.digit}
use Rattle.trlab_traffic.specs.Detectors.{cars_ahead_of}
use Rattle.trlab_traffic.proofs.Lanes.{sum_range, total, total_last, total_same, total_turned}
use Rattle.trlab_traffic.proofs.{Steps.{answers_fit, motion_alone}, RoomAhead.lane_taken_or_empty}
use Rattle.trlab_traffic.proofs.{Influence.any_lane, Heights.taken_total, Detecting.any_lane_fits}

-- a part of a sum of ones and zeros
record Part (w : ℕ → ℕ) (k n : ℕ) : Type 0 where
  most : total w k ≤ total w n
  least : total w n + k ≤ total w k + n

part : (w : ℕ → ℕ) → ((x : ℕ) → w x ≤ 1) → (n k : ℕ) → k ≤ n → Part w k n
part w one zero k low = let e : 0 ≡ k = omega (arith, low) in subst (λ j. Part w j 0) e (record { most = omega arith; least = omega arith })
part w one (suc n) k low =
    elim (cases_lt n k) [
      | inl top ↦ let e : suc n ≡ k = omega (arith, low, top) in subst (λ j. Part w j (suc n)) e (record { most = omega arith; least = omega arith })
      | inr below ↦
          let rest = part w one n k below in
          let a = rest.most in
          let b = rest.least in
          let last = total_last w n in
          let c = one n in
          record { most = omega (arith, a, last); least = omega (arith, b, last, c) }
    ]

one_most : (b : Bool) → digit b ≤ 1
one_most true = omega arith
one_most false = omega arith

-- the cars of the cells ahead of a detector
pub stretch : (lane : Lane) (x k : ℕ) → cars_ahead_of lane x k ≡ total (λ j. digit (is_taken lane (ahead (length lane) j (x + 1)))) k
stretch lane x k =
    let f : ℕ → ℕ = λ j. cond (is_taken lane (ahead (length lane) x j)) 1 0 in
    sum_range f 1 k
    ∙ total_same (λ j. f (1 + j)) (λ j. digit (is_taken lane (ahead (length lane) j (x + 1)))) k
    (λ j low. let e : x + (1 + j) ≡ j + (x + 1) = omega arith in ap (λ p. digit (is_taken lane (p % length lane))) e)

pub record AreFew (lane : Lane) (x k : ℕ) : Type 0 where
  pub most : cars_ahead_of lane x k ≤ lane_car_count lane
  pub least : k ≤ cars_ahead_of lane x k + lane_empty_cells lane

pub few : (lane : Lane) (x k : ℕ) → k ≤ length lane → AreFew lane x k
few lane x k low =
    let n = length lane in
    let w : ℕ → ℕ = λ j. digit (is_taken lane (ahead n j (x + 1))) in
    let p = part w (λ j. one_most (is_taken lane (ahead n j (x + 1)))) n k low in
    let a = p.most in
    let b = p.least in
    let here = stretch lane x k in
    let all = total_turned (λ y. digit (is_taken lane y)) n (x + 1) ∙ taken_total lane in
    let whole = lane_taken_or_empty lane in
    record { most = omega (arith, a, here, all); least = omega (arith, b, here, all, whole) }

-- a lane keeps its cells and its cars if no car changes lanes
pub record KeepsCars (start road : Cells) (l : ℕ) : Type 0 where
  pub size : length (lane_of road l) ≡ length (lane_of start l)
  pub count : lane_car_count (lane_of road l) ≡ lane_car_count (lane_of start l)

pub run_cars : (seed : Seed) (sheet : Sheet) (step : ℕ) (road : Cells) (sum : StepTally) (l : ℕ) → EachRule StaysInLane sheet → ComesTo seed sheet step road sum → KeepsCars seed.road road l
run_cars seed sheet zero road sum l nobody comes = subst (λ (r : Cells). KeepsCars seed.road r l) (sym comes.1) (record { size = refl; count = refl })
run_cars seed sheet (suc step) road sum l nobody comes =
    let old = comes.0 in
    let rule = comes.2 in
    let go = comes.5 in
    let before = run_cars seed sheet step old comes.1 l nobody comes.4 in
    let phase = motion_alone rule (dice_at seed step) old road comes.3 (force_all StaysInLane sheet step rule nobody go.under) go.next in
    let speeds = phase.0 in
    let m = any_lane speeds old road l phase.2 in
    let fits = any_lane_fits speeds old l (answers_fit rule.motion (dice_at seed step) old speeds phase.1) in
    record {
      size = m.same_length ∙ before.size;
      count = lane_same_count (speeds l) (lane_of old l) (lane_of road l) m (apart_within_gaps (speeds l) (lane_of old l) fits) ∙ before.count;
    }

pub empty_too : (start road : Cells) (l : ℕ) → KeepsCars start road l → lane_empty_cells (lane_of road l) ≡ lane_empty_cells (lane_of start l)
empty_too start road l keeps =
    let a = lane_taken_or_empty (lane_of road l) in
    let b = lane_taken_or_empty (lane_of start l) in
    let c = keeps.size in
    let d = keeps.count in
    omega (arith, a, b, c, d)

-- Rule 184 classifies densities: a lane that has leapt for long enough has no two adjacent cars, or no two
-- adjacent empty cells.
use Rattle.std.proofs.Common.{◌≡◌, ℕ, ◌+◌, ◌<◌, ◌≤◌, Bool, true, false, length, refl, sym, ap, subst, arith}
use Rattle.trlab_road.specs.{Cells.{Lane, lane_car_count, lane_of}, Gaps.ahead}
use Rattle.trlab_traffic.specs.{Terms.is_taken, LimitOne.{Rule184ClassifiesDensity, digit}}
use Rattle.trlab_traffic.proofs.{Lanes.ahead_none, RoomAhead.lane_taken_or_empty, Regimes.slow_moves_by}
use Rattle.trlab_traffic.proofs.Heights.{digit_at, window, window_last}
use Rattle.trlab_traffic.proofs.{Readiness.{Leaping, Suffices, near_few, near_some}, Relaxation.lane_at_once}

not_both : (a b : Bool) → digit a + digit b ≤ 1 → a ≡ true → b ≡ false
not_both a false most is = refl
not_both true true most is = absurd (omega (arith, most))
not_both false true most is = absurd cc

one_of : (a b : Bool) → 1 ≤ digit a + digit b → a ≡ false → b ≡ true
one_of a true least is = refl
one_of false false least is = absurd (omega (arith, least))
one_of true false least is = absurd cc

-- two cells as digits
two_cells : (lane : Lane) (x : ℕ) → x < length lane → window (digit_at lane) x 2 ≡ digit (is_taken lane x) + digit (is_taken lane (ahead (length lane) x 1))
two_cells lane x low =
    let d = digit_at lane in
    let last = window_last d x 1 in
    let first = window_last d x 0 in
    let here : d (x + 0) ≡ digit (is_taken lane x) = ap (λ k. digit (is_taken lane k)) (ahead_none (length lane) x low) in
    omega (arith, last, first, here)

pub rule_184_classifies_density : Rule184ClassifiesDensity
rule_184_classifies_density rule seed step road l is legal slow on soon there =
    let cells = length (lane_of seed.road 0) in
    let count = lane_car_count (lane_of seed.road l) in
    let lane = lane_of road l in
    let whole = lane_taken_or_empty (lane_of seed.road l) in
    let size = legal.shape.equal l on in
    let limit = seed.road.limit in
    let here = lane_at_once rule seed cells legal (slow_moves_by rule seed is slow) (λ k. subst (λ v. Suffices v cells (lane_car_count (lane_of seed.road k)) cells) (sym slow) (omega arith)) step road there.0 there.1 l on in
    let enough : Suffices 1 cells count (step + 1) = omega (arith, soon, whole, size) in
    let leaping = subst (λ v. Leaping v cells count step lane) slow (here.way.leaping here.full) in
    let some_cell = legal.shape.cells.some_cell in
    record {
      few = λ few x low taken.
          let near = near_few 1 cells count step lane (λ k. 0) (omega arith) some_cell here.way.size here.full leaping enough (omega (arith, few, size)) x in
          let both = two_cells lane x low in
          not_both (is_taken lane x) (is_taken lane (ahead (length lane) x 1)) (omega (arith, near, both)) taken;
      many = λ many x low empty.
          let near = near_some 1 cells count step lane (λ k. 0) (omega arith) some_cell here.way.size here.full leaping enough (omega (arith, many, size)) x in
          let both = two_cells lane x low in
          one_of (is_taken lane x) (is_taken lane (ahead (length lane) x 1)) (omega (arith, near, both)) empty;
    }

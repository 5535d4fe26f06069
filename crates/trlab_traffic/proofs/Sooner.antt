-- A queue of all cars: no rules without lane changes reach the triangle before its last car can start, and
-- before the gap of its head can be closed in one step.
use Rattle.std.proofs.Common.{◌≡◌, ℕ, zero, suc, ◌+◌, ◌-◌, ◌*◌, ◌<◌, ◌≤◌, sym, ◌∙◌, ap, subst, inl, inr}
use Rattle.std.proofs.Common.{arith, mul-add, mul-suc, mul_comm, nat_le, sum_by, le-leb}
use Rattle.std.proofs.lemmas.Bool.{cases_lt}
use Rattle.trlab_road.specs.{declared.car.Car.Car, Cells.{Cells, IsAt, cars, lane_of, standing}, Gaps.gap}
use Rattle.trlab_road.{specs.Motion.IsClearAhead, proofs.MotionLaws.on_lane}
use Rattle.trlab_road.proofs.Ring.{car_in, clear_within_gap}
use Rattle.trlab_step.{specs.Run.{ComesTo, IsRoadAt, dice_at}, proofs.RunLaws.force_all}
use Rattle.trlab_traffic.specs.{Terms.{StaysInLane, empty_cells}, FlowAndJams.stopped_car}
use Rattle.trlab_traffic.{specs.{Diagram.QueueReachesTriangleNoSooner, Waves.gaps_ahead}, proofs.Lanes.total}
use Rattle.trlab_traffic.proofs.{Steps.{answers_fit, motion_alone}, RoomAhead.lanes_room}
use Rattle.trlab_traffic.proofs.Capacities.{distance_counted, run_stays_under_triangle, same_empty}
use Rattle.trlab_traffic.proofs.{Capacities.speeds_total, Queues.queue_waits, Courses.{gap_of, moved}}
use Rattle.trlab_traffic.proofs.Courses.{started, within_gap, one_speed, run_like, sum_of_standing, total_le}
use Rattle.trlab_traffic.proofs.Newell.{cars_at, nobody_beats_minimum, smallest_least}
use Rattle.trlab_traffic.proofs.{DetectingRuns.same_each, Braking.run_cells}

-- sums of which one value is smaller, and none larger
total_less : (f g : ℕ → ℕ) (n k : ℕ) → ((i : ℕ) → i < n → f i ≤ g i) → k < n → f k < g k → total f n < total g n
total_less f g zero k each low less = absurd (omega (arith, low))
total_less f g (suc n) zero each low less =
    let rest = total_le (λ i. f (suc i)) (λ i. g (suc i)) n (λ i low. each (suc i) (omega (arith, low))) in
    omega (arith, less, rest)
total_less f g (suc n) (suc k) each low less =
    let first = each 0 (omega arith) in
    let rest = total_less (λ i. f (suc i)) (λ i. g (suc i)) n k (λ i low. each (suc i) (omega (arith, low))) (omega (arith, low)) less in
    omega (arith, first, rest)

-- fewer steps than cars
fewer : (v a n : ℕ) → v * a < v * n → a < n
fewer v a n less =
    elim (cases_lt a n) [
      | inl low ↦ low
      | inr high ↦
          let e : n + (a - n) ≡ a = omega (arith, high) in
          let f = sym (ap (λ k. v * k) e) ∙ mul-add v n (a - n) in
          absurd (omega (arith, f, less))
    ]

-- the gaps of all cars are within the empty cells
gaps_within : (road : Cells) → sum_by (gap_of road) (standing road) ≤ empty_cells road
gaps_within road =
    lanes_room (gap_of road) 0 road.lanes (λ l low x number speed here.
    let e : l ≡ 0 + l = omega arith in
    subst (λ k. IsClearAhead (lane_of road l) x (gap_of road (car_in k x number speed))) e (clear_within_gap (lane_of road l) x (gap (lane_of road l) x) (omega arith)))

pub queue_reaches_triangle_no_sooner : QueueReachesTriangleNoSooner
queue_reaches_triangle_no_sooner sheet seed road sum head tail stays legal queue early comes_on =
    let t = seed.warm in
    let limit = seed.road.limit in
    let n = cars seed.road in
    let e : t + 1 ≡ suc t = omega arith in
    let comes : ComesTo seed sheet (suc t) road sum = subst (λ j. ComesTo seed sheet j road sum) e comes_on in
    let old = comes.0 in
    let so_far = comes.1 in
    let rule = comes.2 in
    let tally = comes.3 in
    let go = comes.5 in
    let old_is : IsRoadAt seed sheet t old = (so_far, comes.4) in
    let start = started seed.road legal in
    let now = cars_at seed legal start sheet stays t old old_is in
    let like = run_like seed sheet t old so_far legal comes.4 in
    let next_like = run_like seed sheet (suc t) road sum legal comes in
    let count = like.same_count in
    let same_limit = like.same_limit in
    let phase = motion_alone rule (dice_at seed t) old road tally (force_all StaysInLane sheet t rule stays go.under) go.next in
    let speeds = phase.0 in
    let fits = answers_fit rule.motion (dice_at seed t) old speeds phase.1 in
    let v : ℕ → ℕ = λ i. speeds (now.car i).lane (now.car i).place in
    let g : ℕ → ℕ = λ i. gap_of old (now.car i) in
    let own : (car : Car) → IsAt old car → car.number < n = λ car here. (let low = like.legal.numbered car here in omega (arith, low, count)) in
    let goes : sum_by (λ (car : Car). speeds car.lane car.place) (standing old) ≡ total v (cars old) = sum_of_standing (λ (car : Car). speeds car.lane car.place) v old like.legal (λ car here.
    let low = own car here in
    let same = like.legal.once (now.car car.number) car (now.course.stands car.number low) here (now.course.numbered car.number low) in
    sym (ap (λ l. speeds l (now.car car.number).place) same.0 ∙ ap (speeds car.lane) same.1)) in
    let gaps : sum_by (gap_of old) (standing old) ≡ total g (cars old) = sum_of_standing (gap_of old) g old like.legal (λ car here.
    let low = own car here in
    let same = like.legal.once (now.car car.number) car (now.course.stands car.number low) here (now.course.numbered car.number low) in
    sym (ap (λ l. gap (lane_of old l) (now.car car.number).place) same.0 ∙ ap (gap (lane_of old car.lane)) same.1)) in
    let goes_here : total v (cars old) ≡ total v n = ap (total v) count in
    let gaps_here : total g (cars old) ≡ total g n = ap (total g) count in
    let distance = go.next.1.distance ∙ speeds_total speeds old road fits phase.2 in
    let counted = distance_counted (nat_le t t) sum so_far tally go.counted (le-leb t t (omega arith)) in
    let before = (run_stays_under_triangle seed sheet t old so_far legal comes.4).by_empty_cells in
    let none : t - t ≡ 0 = omega arith in
    let nothing = ap (λ k. k * empty_cells seed.road) none in
    let within = gaps_within old in
    let empty = same_empty seed.road old like.same_count (run_cells seed sheet t old so_far comes.4) in
    let by_limit : (i : ℕ) → i < n → v i ≤ limit = λ i low. (let most = fits.within_limit (now.car i) (now.course.stands i low) in omega (arith, most, same_limit)) in
    let by_gap : (i : ℕ) → i < n → v i ≤ g i = λ i low. within_gap old road speeds phase.2 fits (now.car i) (now.course.stands i low) in
    let h = head.number in
    let head_low : h < n = legal.numbered head queue.head_on_road in
    let first_head = legal.once (start.car h) head (start.stands h head_low) queue.head_on_road (start.numbered h head_low) in
    let room : gap_of seed.road (start.car h) ≡ empty_cells seed.road =
    ap (λ l. gap (lane_of seed.road l) (start.car h).place) first_head.0 ∙ ap (gap (lane_of seed.road head.lane)) first_head.1 ∙ queue.all_room in
    let far = nobody_beats_minimum sheet seed t head (now.far h) stays legal queue.head_on_road (now.course.gone h head_low) in
    let at_limit = smallest_least (λ j. limit * (t - j) + gaps_ahead (lane_of seed.road head.lane) head.place j) t 0 (omega arith) in
    let start_none : t - 0 ≡ t = omega arith in
    let driven = ap (λ k. limit * k) start_none in
    let balance = now.course.balance h head_low in
    let e_one : limit * (t + 1) ≡ limit * t + limit = ap (λ k. limit * k) e ∙ (let more = mul-suc limit t in (let k : limit * suc t ≡ limit * t + limit = omega (arith, more) in k)) in
    let wide : limit < g h = omega (arith, early, room, far, at_limit, driven, balance, e_one) in
    let head_limit = by_limit h head_low in
    let congested = total_less v g n h by_gap head_low (omega (arith, wide, head_limit)) in
    let k = tail.number in
    let tail_low : k < n = legal.numbered tail queue.tail_is_last.on_road in
    let some_limit = legal.shape.limit.some_limit in
    let few = fewer limit (t + 1) n (omega (arith, early)) in
    let stopped = queue_waits seed sheet (suc t) road head.place (n - 1) (n - 1) tail stays queue.tail_is_last (omega arith) (omega (arith, few)) (sum, comes) in
    let arrived : IsAt road (moved old road speeds phase.2 fits (now.car k)) =
    (phase.2.each_lane (now.car k).lane (on_lane old (now.car k).lane (now.car k).place ((now.car k).number, (now.car k).speed) (now.course.stands k tail_low))).arrives
    (now.car k).place (now.car k).number (now.car k).speed (now.course.stands k tail_low) in
    let slow : v k ≡ 0 = one_speed road (moved old road speeds phase.2 fits (now.car k)) (stopped_car tail) next_like.legal arrived stopped (now.course.numbered k tail_low) in
    let dilute = total_less v (λ i. limit) n k by_limit tail_low (omega (arith, slow, some_limit)) in
    let all = same_each limit n ∙ mul_comm n limit in
    let d = omega_sum sum.distance so_far.distance tally.distance (total v n) (omega (arith, counted)) (omega (arith, before, nothing)) (omega (arith, distance, goes, goes_here)) in
    omega (arith, d, congested, gaps, gaps_here, within, empty, dilute, all)
  where
    omega_sum : (a b c d : ℕ) → a ≡ b + c → b ≡ 0 → c ≡ d → a ≡ d
    omega_sum a b c d x y z = omega (arith, x, y, z)

-- Queues: each car waits for the next car ahead, and then, with slow starts, until it does not brake.
use Rattle.std.proofs.Common.{◌≡◌, ℕ, zero, suc, ◌+◌, ◌-◌, ◌%◌, ◌<◌, ◌≤◌, true, Some, None, length, refl, sym}
use Rattle.std.proofs.Common.{◌∙◌, ap, subst, inl, inr, arith, Bool, false, is_some, mod-lt, true≢false}
use Rattle.std.proofs.{Math.Nat.{add-mod-mod, add-mod_right}, lemmas.Bool.cases_lt}
use Rattle.trlab_words.{specs.Words.happens_on, proofs.RandomWords.slice_index-random_words}
use Rattle.trlab_road.specs.{Cells.{Cell, Cells, Lane, at, lane_of, IsAt, IsLegal}, Gaps.{ahead, behind, gap}}
use Rattle.trlab_road.specs.{Gaps.next_place, declared.car.Car.Car, Motion.{LaneFits, LaneMoves}}
use Rattle.trlab_road.proofs.{MotionLaws.on_lane, Ring.{car_in, clear_within_gap, ends_before, inside}}
use Rattle.trlab_rules.specs.Rules.{Programs, IsNasch, IsVdr}
use Rattle.trlab_rules.specs.Published.{safe_speed, brake, nasch_speed, vdr_braking_chance}
use Rattle.trlab_step.specs.{Next.IsNext, Run.{IsRoadAt, Seed, Sheet, dice_at}, Laws.IsLegalLike}
use Rattle.trlab_step.{specs.Published.happens_to, proofs.RunLaws.force_all}
use Rattle.trlab_traffic.specs.{Terms.{is_taken, EachRule, StaysInLane, always}, FlowAndJams.IsQueue}
use Rattle.trlab_traffic.specs.FlowAndJams.{QueueStarts, QueueWaits, IsFirstWithoutBraking, IsRightBehind}
use Rattle.trlab_traffic.{specs.FlowAndJams.{LeavesInStep, QueueFlowsOut}, proofs.Lanes.ahead_more}
use Rattle.trlab_traffic.proofs.{Lanes.{ahead_none, clear_is_gap, gap_below, run_lanes}, Steps.SafeMotion}
use Rattle.trlab_traffic.proofs.Steps.{safe_motion, answers_fit, next_legal_like, answered, motion_alone}
use Rattle.trlab_traffic.proofs.{FreeFlow.one_rule, Gaps.{gap_after, car_without_gap_stops}, Courses.run_like}
use Rattle.trlab_traffic.proofs.{Courses.one_speed, Fastest.always_so}

-- the car of a taken cell
taken_car : (c : Cell) → is_some c ≡ true → (car : ℕ × ℕ) × (c ≡ Some car)
taken_car None h = absurd cc
taken_car (Some car) h = (car, refl)

-- the cell p of a lane and the j cells ahead of it are taken
abbrev Row : Lane → ℕ → ℕ → Type 0
Row lane p j = (i : ℕ) → i ≤ j → is_taken lane (ahead (length lane) p i) ≡ true

-- a queue as long as its lane has a car in every cell
whole : (lane : Lane) (x n k : ℕ) → IsQueue lane x n → length lane ≤ n → is_taken lane (ahead (length lane) x k) ≡ true
whole lane x n k queue round =
    let m = length lane in
    let first = taken_car (at lane (behind m x 0)) (queue 0 (omega arith)) in
    let some : 0 < m = let low = inside lane (behind m x 0) first.0 first.1 in omega (arith, low) in
    let part : k % m < m = mod-lt k some in
    let e : m - (m - k % m) ≡ k % m = omega (arith, part) in
    let same : behind m x (m - k % m) ≡ ahead m x k = ap (λ i. (x + i) % m) e ∙ add-mod-mod x k m in
    ap (is_taken lane) (sym same) ∙ queue (m - k % m) (omega (arith, round))

-- from a car of a queue to the head all cells are taken
row_of : (lane : Lane) (x n j : ℕ) → IsQueue lane x n → j ≤ n → Row lane (behind (length lane) x j) j
row_of lane x n j queue within i most =
    let m = length lane in
    let to : ahead m (behind m x j) i ≡ ahead m x (m - j + i) = ahead_more m x (m - j) i in
    elim (cases_lt m j) [
      | inl past ↦ ap (is_taken lane) to ∙ whole lane x n (m - j + i) queue (omega (arith, past, within))
      | inr inner ↦
          let e : m - j + i ≡ m - (j - i) = omega (arith, inner, most) in
          ap (is_taken lane) (to ∙ ap (ahead m x) e) ∙ queue (j - i) (omega (arith, within))
    ]

-- the row of the next car
row_on : (lane : Lane) (p j : ℕ) → Row lane p (suc j) → Row lane (ahead (length lane) p 1) j
row_on lane p j row i most = ap (is_taken lane) (ahead_more (length lane) p 1 i) ∙ row (1 + i) (omega (arith, most))

-- a car behind a taken cell has no gap
pub no_gap : (lane : Lane) (p : ℕ) (next : ℕ × ℕ) → at lane (ahead (length lane) p 1) ≡ Some next → gap lane p ≡ 0
no_gap lane p next there =
    let low = inside lane (ahead (length lane) p 1) next there in
    ends_before lane (ahead (length lane) p) 0 (omega (arith, low)) refl (ap is_some there)

-- a car is still in its cell, and stopped from step 1 on
pub record Waits (lane : Lane) (p number step : ℕ) : Type 0 where
  speed : ℕ
  here : at lane p ≡ Some (number, speed)
  stopped : 1 ≤ step → speed ≡ 0

module _ (seed : Seed) (sheet : Sheet) (nobody : EachRule StaysInLane sheet) (l : ℕ) where
  abbrev start : Lane
  start = lane_of seed.road l

  -- with j taken cells directly ahead a car waits for j steps
  waits : (step : ℕ) (road : Cells) (p j number speed : ℕ) → Row start p j → at start p ≡ Some (number, speed) → step ≤ j → IsRoadAt seed sheet step road → Waits (lane_of road l) p number step
  waits zero road p j number speed row here most is = record {
    speed = speed;
    here = ap (λ (r : Cells). at (lane_of r l) p) is.1.1 ∙ here;
    stopped = λ some. absurd (omega (arith, some));
  }
  waits (suc step) road p zero number speed row here most is = absurd (omega (arith, most))
  waits (suc step) road p (suc j) number speed row here most is =
      let comes = is.1 in
      let before = comes.0 in
      let old = lane_of before l in
      let rule = comes.2 in
      let none = force_all StaysInLane sheet step rule nobody comes.5.under in
      let so_far : IsRoadAt seed sheet step before = (comes.1, comes.4) in
      let own = waits step before p (suc j) number speed row here (omega (arith, most)) so_far in
      let next = taken_car (at start (ahead (length start) p 1)) (row 1 (omega arith)) in
      let other = waits step before (ahead (length start) p 1) j next.0.0 next.0.1 (row_on start p j row) next.1 (omega (arith, most)) so_far in
      let size : length old ≡ length start = (run_lanes seed sheet step before comes.1 comes.4).size l (on_lane seed.road l p (number, speed) here) in
      let jammed = no_gap old p (next.0.0, other.speed) (ap (λ k. at old (ahead k p 1)) size ∙ other.here) in
      record {
        speed = 0;
        here = car_without_gap_stops rule (dice_at seed step) before road comes.3 (car_in l p number own.speed) none comes.5.next own.here jammed;
        stopped = λ some. refl;
      }

pub queue_waits : QueueWaits
queue_waits seed sheet step road x n j car nobody queued some most is =
    let l = car.lane in
    let lane = lane_of seed.road l in
    let row : Row lane car.place j = subst (λ p. Row lane p j) (sym queued.place) (row_of lane x n j queued.queue queued.within) in
    let now = waits seed sheet nobody l step road car.place j car.number car.speed row queued.on_road most is in
    subst (λ v. at (lane_of road l) car.place ≡ Some (car.number, v)) (now.stopped some) now.here

-- a car with a gap moves, for any speed and limit
goes : (speed limit gap : ℕ) → 1 ≤ limit → 1 ≤ gap → 1 ≤ safe_speed speed limit gap
goes speed limit gap some room = omega (arith, some, room)

-- by one cell, if it was stopped
pub goes_one : (limit gap : ℕ) → 1 ≤ limit → 1 ≤ gap → safe_speed 0 limit gap ≡ 1
goes_one limit gap some room = omega (arith, some, room)

module _ (seed : Seed) (rule : Programs) (nasch : IsNasch 0 rule) (legal : IsLegal seed.road) (l : ℕ) where
  abbrev first : Lane
  first = lane_of seed.road l

  abbrev stays : EachRule StaysInLane (always rule)
  stays = always_so StaysInLane rule nasch.change

  -- the motion of one more step
  record Motion (step : ℕ) (road : Cells) : Type 0 where
    before : Cells
    so_far : IsRoadAt seed (always rule) step before
    some_limit : 1 ≤ before.limit
    motion : SafeMotion before road

  motion_of : (step : ℕ) (road : Cells) → IsRoadAt seed (always rule) (suc step) road → Motion step road
  motion_of step road is =
      let comes = is.1 in
      let before = comes.0 in
      let same = one_rule rule comes.2 step comes.5.under in
      let next = subst (λ (r : Programs). IsNext r (dice_at seed step) before road comes.3) (sym same) comes.5.next in
      let like = run_like seed (always rule) step before comes.1 legal comes.4 in
      record {
        before = before;
        so_far = (comes.1, comes.4);
        some_limit = like.legal.shape.limit.some_limit;
        motion = safe_motion rule (dice_at seed step) before road comes.3 nasch like.legal next;
      }

  -- if the head of its row has a gap at the start, a car has a gap after these steps
  has_room : (j : ℕ) (road : Cells) (p number speed : ℕ) → Row first p j → at first p ≡ Some (number, speed) → 1 ≤ gap first (ahead (length first) p j) → IsRoadAt seed (always rule) j road → 1 ≤ gap (lane_of road l) p
  has_room zero road p number speed row here room is =
      let e = ahead_none (length first) p (inside first p (number, speed) here) in
      subst (λ (r : Cells). 1 ≤ gap (lane_of r l) p) (sym is.1.1) (subst (λ k. 1 ≤ gap first k) e room)
  has_room (suc j) road p number speed row here room is =
      let m = motion_of j road is in
      let before = m.before in
      let old = lane_of before l in
      let q = ahead (length first) p 1 in
      let next = taken_car (at first q) (row 1 (omega arith)) in
      let own = waits seed (always rule) stays l j before p (suc j) number speed row here (omega arith) m.so_far in
      let other = waits seed (always rule) stays l j before q j next.0.0 next.0.1 (row_on first p j row) next.1 (omega arith) m.so_far in
      let on = on_lane before l p (number, own.speed) own.here in
      let size : length old ≡ length first = (run_lanes seed (always rule) j before m.so_far.0 m.so_far.1).size l (on_lane seed.road l p (number, speed) here) in
      let jammed : gap old p ≡ 0 = no_gap old p (next.0.0, other.speed) (ap (λ k. at old (ahead k p 1)) size ∙ other.here) in
      let one : 1 + j ≡ suc j = omega arith in
      let head : ahead (length first) q j ≡ ahead (length first) p (suc j) = ahead_more (length first) p 1 j ∙ ap (ahead (length first) p) one in
      let room_ahead = has_room j before q next.0.0 next.0.1 (row_on first p j row) next.1 (subst (λ k. 1 ≤ gap first k) (sym head) room) m.so_far in
      let answer = m.motion.speeds l in
      let moves = m.motion.moves.each_lane l on in
      let fits = m.motion.fits.each_lane l on in
      let short = fits.gaps p number own.speed own.here in
      let stops : answer p ≡ 0 = omega (arith, short, jammed) in
      let q_is : next_place old p ≡ q = ap (λ g. ahead (length old) p (g + 1)) jammed ∙ ap (λ k. ahead k p 1) size in
      let follows : answer (next_place old p) ≡ answer q = ap answer q_is in
      let safe = m.motion.safe (car_in l q next.0.0 other.speed) other.here in
      let gone = goes other.speed before.limit (gap old q) m.some_limit room_ahead in
      let after = gap_after answer old (lane_of road l) moves fits p number own.speed own.here in
      let there : ahead (length old) p (answer p) ≡ p = ap (ahead (length old) p) stops ∙ ahead_none (length old) p (inside old p (number, own.speed) own.here) in
      let same = ap (gap (lane_of road l)) there in
      omega (arith, same, after, follows, safe, gone)

-- if the head of a queue has a gap, so has the last car of the row from the j-th car on
head_room : (lane : Lane) (x n j : ℕ) → IsQueue lane x n → j ≤ n → 1 ≤ gap lane x → 1 ≤ gap lane (ahead (length lane) (behind (length lane) x j) j)
head_room lane x n j queue within room =
    let m = length lane in
    let free : at lane (ahead m x 1) ≡ None = (clear_within_gap lane x 1 room).clear 1 (omega arith) (omega arith) in
    let first = taken_car (at lane (behind m x 0)) (queue 0 (omega arith)) in
    let short : gap lane x < m = gap_below lane x (behind m x 0) first.0 first.1 in
    elim (cases_lt n m) [
      | inl inner ↦
          let e : m - j + j ≡ m = omega (arith, inner, within) in
          let head : ahead m (behind m x j) j ≡ ahead m x m = ahead_more m x (m - j) j ∙ ap (ahead m x) e in
          let k : x + (m + 1) ≡ x + 1 + m = omega arith in
          let next : ahead m (ahead m x m) 1 ≡ ahead m x 1 = ahead_more m x m 1 ∙ ap (λ i. i % m) k ∙ add-mod_right (x + 1) m in
          subst (λ i. 1 ≤ gap lane i) (sym head) (clear_is_gap lane (ahead m x m) 1 (omega (arith, room, short)) (record {
            clear = λ i some most. let one : 1 ≡ i = omega (arith, some, most) in subst (λ k. at lane (ahead m (ahead m x m) k) ≡ None) one (ap (at lane) next ∙ free);
          }))
      | inr round ↦
          let taken = whole lane x n 1 queue round in
          let e = sym taken ∙ ap is_some free in
          absurd (true≢false e)
    ]

pub queue_starts : QueueStarts
queue_starts seed rule road x n j car nasch legal queued room is =
    let l = car.lane in
    let lane = lane_of seed.road l in
    let p = car.place in
    let row : Row lane p j = subst (λ k. Row lane k j) (sym queued.place) (row_of lane x n j queued.queue queued.within) in
    let e : j + 1 ≡ suc j = omega arith in
    let m = motion_of seed rule nasch legal l j road (subst (λ k. IsRoadAt seed (always rule) k road) e is) in
    let before = m.before in
    let old = lane_of before l in
    let own = waits seed (always rule) (stays seed rule nasch legal l) l j before p j car.number car.speed row queued.on_road (omega arith) m.so_far in
    let size : length old ≡ length lane = (run_lanes seed (always rule) j before m.so_far.0 m.so_far.1).size l (on_lane seed.road l p (car.number, car.speed) queued.on_road) in
    let head = subst (λ k. 1 ≤ gap lane (ahead (length lane) k j)) (sym queued.place) (head_room lane x n j queued.queue queued.within room) in
    let free = has_room seed rule nasch legal l j before p car.number car.speed row queued.on_road head m.so_far in
    let safe = m.motion.safe (car_in l p car.number own.speed) own.here in
    let slow = ap (λ v. safe_speed v before.limit (gap old p)) (own.stopped queued.behind_head) in
    let one = goes_one before.limit (gap old p) m.some_limit free in
    let speed : m.motion.speeds l p ≡ 1 = omega (arith, safe, slow, one) in
    let arrived = (m.motion.moves.each_lane l (on_lane before l p (car.number, own.speed) own.here)).arrives p car.number own.speed own.here in
    let there = subst (λ v. at (lane_of road l) (ahead (length old) p v) ≡ Some (car.number, v)) speed arrived in
    subst (λ k. at (lane_of road l) (ahead k p 1) ≡ Some (car.number, 1)) size there

-- A car of a queue waits for the car ahead, and then until it does not brake.

module _ (p p0 : ℕ) (rule : Programs) (seed : Seed) (car next : Car) (s : ℕ) (is : IsVdr p p0 rule) (legal : IsLegal seed.road) (behind : IsRightBehind seed.road car next) (ahead_leaves : LeavesInStep seed (always rule) car s) where
  abbrev l : ℕ
  l = next.lane

  abbrev x : ℕ
  x = next.place

  abbrev n : ℕ
  n = length (lane_of seed.road l)

  -- one more step of the run
  record OneStep (step : ℕ) (road : Cells) : Type 0 where
    old : Cells
    so_far : IsRoadAt seed (always rule) step old
    like : IsLegalLike seed.road old
    like_after : IsLegalLike old road
    speeds : ℕ → ℕ → ℕ
    of_car : (c : Car) → IsAt old c → speeds c.lane c.place ≡ brake (happens_to (dice_at seed step) c 0 (vdr_braking_chance p p0 c.speed)) (safe_speed c.speed old.limit (gap (lane_of old c.lane) c.place))
    long : length (lane_of old l) ≡ n
    moves : LaneMoves (speeds l) (lane_of old l) (lane_of road l)
    fits : LaneFits (speeds l) (lane_of old l)
    stops : (speed : ℕ) → at (lane_of old l) x ≡ Some (next.number, speed) → gap (lane_of old l) x ≡ 0 → at (lane_of road l) x ≡ Some (next.number, 0)

  one_step : (step : ℕ) (road : Cells) → IsRoadAt seed (always rule) (suc step) road → OneStep step road
  one_step step road now =
      let comes = now.1 in
      let old = comes.0 in
      let dice = dice_at seed step in
      let same = one_rule rule comes.2 step comes.5.under in
      let on = subst (λ (r : Programs). IsNext r dice old road comes.3) (sym same) comes.5.next in
      let like = run_like seed (always rule) step old comes.1 legal comes.4 in
      let phase = motion_alone rule dice old road comes.3 is.change on in
      let fits = answers_fit rule.motion dice old phase.0 phase.1 in
      let low = on_lane seed.road l x (next.number, next.speed) behind.next_on_road in
      let lanes = run_lanes seed (always rule) step old comes.1 comes.4 in
      let count = lanes.count in
      let low_old = (let k : l < length old.lanes = omega (arith, low, count) in k) in
      record {
        old = old;
        so_far = (comes.1, comes.4);
        like = like;
        like_after = next_legal_like rule dice old road comes.3 like.legal on;
        speeds = phase.0;
        of_car = λ c here.
            answered (λ view words. nasch_speed (vdr_braking_chance p p0 view.speed) view words) rule.motion dice old phase.0 is.motion.moves like.legal phase.1 c here
            ∙ ap (λ (word : ℕ). brake (happens_on (vdr_braking_chance p p0 c.speed) word) (safe_speed c.speed old.limit (gap (lane_of old c.lane) c.place)))
            (slice_index-random_words dice.key dice.road c.number dice.step 0 (omega arith));
        long = lanes.size l low;
        moves = phase.2.each_lane l low_old;
        fits = fits.each_lane l low_old;
        stops = λ speed here jammed. car_without_gap_stops rule dice old road comes.3 (car_in l x next.number speed) is.change on here jammed;
      }

  -- the car ahead as long as it waits
  ahead_waits : (step : ℕ) (road : Cells) → step ≤ s → length (lane_of road l) ≡ n → IsRoadAt seed (always rule) step road → (speed : ℕ) × (at (lane_of road l) (ahead (length (lane_of road l)) x 1) ≡ Some (car.number, speed))
  ahead_waits step road low long now =
      let waits = ahead_leaves.waits step road low now in (
        waits.0,
        ap (λ k. at (lane_of road l) (ahead k x 1)) long ∙ sym (ap (at (lane_of road l)) behind.place) ∙ sym (ap (λ k. at (lane_of road k) car.place) behind.same_lane) ∙ waits.1,
      )

  -- until then the car is in its cell, and stopped from step 1 on
  record WaitsInCell (step : ℕ) (road : Cells) : Type 0 where
    speed : ℕ
    here : at (lane_of road l) x ≡ Some (next.number, speed)
    stopped : 1 ≤ step → speed ≡ 0

  waits_for_car : (step : ℕ) (road : Cells) → step ≤ suc s → IsRoadAt seed (always rule) step road → WaitsInCell step road
  waits_for_car zero road low now = record { speed = next.speed; here = ap (λ (r : Cells). at (lane_of r l) x) now.1.1 ∙ behind.next_on_road; stopped = λ some. absurd (omega (arith, some)) }
  waits_for_car (suc step) road low now =
      let on = one_step step road now in
      let before = waits_for_car step on.old (omega (arith, low)) on.so_far in
      let other = ahead_waits step on.old (omega (arith, low)) on.long on.so_far in
      record {
        speed = 0;
        here = on.stops before.speed before.here (no_gap (lane_of on.old l) x (car.number, other.0) other.1);
        stopped = λ some. refl;
      }

  -- then it has a gap, and is in its cell as long as it brakes
  record Ready (road : Cells) : Type 0 where
    here : at (lane_of road l) x ≡ Some (next.number, 0)
    room : 1 ≤ gap (lane_of road l) x

  -- the gap of a car that stays increases by the distance of the next car ahead
  gap_grows : (old new : Cells) (a : ℕ → ℕ) → LaneMoves a (lane_of old l) (lane_of new l) → LaneFits a (lane_of old l) → (speed : ℕ) → at (lane_of old l) x ≡ Some (next.number, speed) → a x ≡ 0
      → gap (lane_of new l) x ≡ gap (lane_of old l) x + a (next_place (lane_of old l) x)
  gap_grows old new a moves fits speed here stays =
      let after = gap_after a (lane_of old l) (lane_of new l) moves fits x next.number speed here in
      let place : ahead (length (lane_of old l)) x (a x) ≡ x = ap (ahead (length (lane_of old l)) x) stays ∙ ahead_none (length (lane_of old l)) x (inside (lane_of old l) x (next.number, speed) here) in
      let same = ap (gap (lane_of new l)) place in
      omega (arith, after, same, stays)

  ready_first : (road : Cells) → IsRoadAt seed (always rule) (suc s) road → Ready road
  ready_first road now =
      let on = one_step s road now in
      let old = lane_of on.old l in
      let before = waits_for_car s on.old (omega arith) on.so_far in
      let other = ahead_waits s on.old (omega arith) on.long on.so_far in
      let jammed = no_gap old x (car.number, other.0) other.1 in
      let fit = on.fits.gaps x next.number before.speed before.here in
      let stays : on.speeds l x ≡ 0 = omega (arith, fit, jammed) in
      let q = ahead (length old) x 1 in
      let arrives = on.moves.arrives q car.number other.0 other.1 in
      let e : s + 1 ≡ suc s = omega arith in
      let moved = ahead_leaves.moves road (car_in l (ahead (length old) q (on.speeds l q)) car.number (on.speeds l q)) (subst (λ k. IsRoadAt seed (always rule) k road) (sym e) now) arrives refl in
      let next_is : next_place old x ≡ q = ap (λ g. ahead (length old) x (g + 1)) jammed in
      let goes : on.speeds l (next_place old x) ≡ on.speeds l q = ap (on.speeds l) next_is in
      let grown = gap_grows on.old road (on.speeds l) on.moves on.fits before.speed before.here stays in
      record { here = on.stops before.speed before.here jammed; room = omega (arith, grown, moved, goes) }

  -- its speed in a step before which it is ready
  speed_when_ready : (step : ℕ) (road : Cells) (on : OneStep step road) → Ready on.old → (b : Bool) → happens_to (dice_at seed step) next 0 p0 ≡ b → on.speeds l x ≡ brake b 1
  speed_when_ready step road on ready b draws =
      let some = on.like.legal.shape.limit.some_limit in
      on.of_car (car_in l x next.number 0) ready.here
      ∙ ap (brake (happens_to (dice_at seed step) next 0 p0)) (goes_one on.old.limit (gap (lane_of on.old l) x) some ready.room)
      ∙ ap (λ c. brake c 1) draws

  module _ (t : ℕ) (first : IsFirstWithoutBraking p0 seed next s t) where
    ready : (j : ℕ) (road : Cells) → suc (j + s) ≤ t → IsRoadAt seed (always rule) (suc (j + s)) road → Ready road
    ready zero road low now =
        let e : suc (0 + s) ≡ suc s = omega arith in
        ready_first road (subst (λ k. IsRoadAt seed (always rule) k road) e now)
    ready (suc j) road low now =
        let e : suc (suc j + s) ≡ suc (suc (j + s)) = omega arith in
        let on = one_step (suc (j + s)) road (subst (λ k. IsRoadAt seed (always rule) k road) e now) in
        let before = ready j on.old (omega (arith, low)) on.so_far in
        let stays : on.speeds l x ≡ 0 = speed_when_ready (suc (j + s)) road on before true (first.brakes_before (suc (j + s)) (omega arith) (omega (arith, low))) in
        let grown = gap_grows on.old road (on.speeds l) on.moves on.fits 0 before.here stays in
        let room = before.room in
        let old = lane_of on.old l in
        let place : ahead (length old) x (on.speeds l x) ≡ x = ap (ahead (length old) x) stays ∙ ahead_none (length old) x (inside old x (next.number, 0) before.here) in
        record {
          here = sym (ap (at (lane_of road l)) place) ∙ on.moves.arrives x next.number 0 before.here ∙ ap (λ v. Some (next.number, v)) stays;
          room = omega (arith, grown, room);
        }

    leaves : LeavesInStep seed (always rule) next t
    leaves = record {
      waits = λ step road low now.
          elim (cases_lt (suc s) step) [
            | inl after ↦
                let j = step - suc s in
                let e : step ≡ suc (j + s) = omega (arith, after) in
                (0, (ready j road (omega (arith, low, e)) (subst (λ k. IsRoadAt seed (always rule) k road) e now)).here)
            | inr before ↦ let waiting = waits_for_car step road before now in (waiting.speed, waiting.here)
          ];
      moves = λ road same now here numbered.
          let one : t + 1 ≡ suc t = omega arith in
          let on = one_step t road (subst (λ k. IsRoadAt seed (always rule) k road) one now) in
          let later = first.later in
          let j = t - suc s in
          let e : suc (j + s) ≡ t = omega (arith, later) in
          let before = ready j on.old (omega (arith, e)) (subst (λ k. IsRoadAt seed (always rule) k on.old) (sym e) on.so_far) in
          let goes : on.speeds l x ≡ 1 = speed_when_ready t road on before false first.does_not_brake in
          let arrives = on.moves.arrives x next.number 0 before.here in
          let speed = one_speed road same (car_in l (ahead (length (lane_of on.old l)) x (on.speeds l x)) next.number (on.speeds l x)) on.like_after.legal here arrives numbered in
          omega (arith, speed, goes);
    }

pub queue_flows_out : QueueFlowsOut
queue_flows_out p p0 rule seed car next s t is legal behind ahead_leaves first = leaves p p0 rule seed car next s is legal behind ahead_leaves t first

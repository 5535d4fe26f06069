-- Where nobody changes lanes, a lane depends only on its own cars, and a cell only on those near it.
use Rattle.std.proofs.Common.{◌≡◌, ℕ, zero, suc, Some, [], length, refl, sym, ◌∙◌, ap, subst, inl, inr, arith}
use Rattle.std.proofs.Common.{◌⊎◌, ◌+◌, ◌-◌, ◌*◌, ◌<◌, ◌≤◌, Bool, true, false, is_some, None, slice_index}
use Rattle.std.proofs.lemmas.{Bool.cases_lt, List.get_or_past}
use Rattle.trlab_words.specs.Words.{happens_on}
use Rattle.trlab_code.specs.declared.{program.Kind.TheVariants.Motion, view.View.View}
use Rattle.trlab_code.specs.Machine.{EndsWith, Goes}
use Rattle.trlab_road.specs.{Cells.{Cells, Lane, at, lane_of, Cell, IsLegal}, Gaps.{ahead, gap, headspeed}}
use Rattle.trlab_road.{specs.Motion.{LaneMoves, Moves}, proofs.MotionLaws.one_lane_only}
use Rattle.trlab_road.proofs.{Ring.{car_in, clear_within_gap, ends_before, inside}, ListGaps.clear_from}
use Rattle.trlab_rules.specs.Rules.{Programs, ComputesSpeed}
use Rattle.trlab_rules.specs.Published.{brake, nasch_speed, safe_speed, vdr_braking_chance}
use Rattle.trlab_machine.specs.{Blocks.words_of, declared.dice.Dice.Dice}
use Rattle.trlab_step.specs.{Answers.motion_view_of, Next.IsNext, Run.{dice_at, IsRoadAt, Seed}}
use Rattle.trlab_step.{specs.declared.tally.StepTally.StepTally, proofs.Parts.same_view}
use Rattle.trlab_step.proofs.{PartLaws.one_answer_each, RunLaws.force_all}
use Rattle.trlab_traffic.specs.Terms.{StaysInLane, seed_from, always}
use Rattle.trlab_traffic.specs.Invariance.{RunKeepsLanesApart, ShareLane, StepKeepsLanesApart}
use Rattle.trlab_traffic.specs.Invariance.{NaschHasLightCone, ShareCells, StaysInLightCone, VdrHasLightCone}
use Rattle.trlab_traffic.proofs.Lanes.{ahead_below, ahead_more, ahead_none, ahead_once, clear_is_gap}
use Rattle.trlab_traffic.proofs.{Lanes.gap_below, Steps.{motion_alone, answers_fit, answered}}
use Rattle.trlab_traffic.proofs.{FreeFlow.one_rule, Gaps.next_taken, Courses.run_like}

-- the motion of a lane depends on the answers only at cars
pub lane_moves_by : (answer other : ℕ → ℕ) (old new : Lane) → ((x number speed : ℕ) → at old x ≡ Some (number, speed) → answer x ≡ other x) → LaneMoves answer old new → LaneMoves other old new
lane_moves_by answer other old new same m = record {
  same_length = m.same_length;
  arrives = λ x number speed here. rw (same x number speed here) at (m.arrives x number speed here);
  nothing_else = λ y number speed there.
      let came = m.nothing_else y number speed there in
      let e = same came.0 number came.1.0 came.1.1.was in
      (came.0, (came.1.0, record { was = came.1.1.was; reaches = came.1.1.reaches ∙ ap (ahead (length old) came.0) e; at_speed = came.1.1.at_speed ∙ e }));
}

no_cells : (answer : ℕ → ℕ) → LaneMoves answer [] []
no_cells answer = record { same_length = refl; arrives = λ x number speed here. absurd cc; nothing_else = λ y number speed there. absurd cc }

-- each lane moves, even a lane that the road does not have
pub any_lane : (answer : ℕ → ℕ → ℕ) (old new : Cells) (l : ℕ) → Moves answer old new → LaneMoves (answer l) (lane_of old l) (lane_of new l)
any_lane answer old new l m =
    elim (cases_lt l (length old.lanes)) [
      | inl on ↦ m.each_lane l on
      | inr past ↦
          let size = m.same_lanes in
          let a = get_or_past old.lanes l [] past in
          let b = get_or_past new.lanes l [] (omega (arith, past, size)) in
          subst (λ (lane : Lane). LaneMoves (answer l) lane (lane_of new l)) (sym a) (subst (λ (lane : Lane). LaneMoves (answer l) [] lane) (sym b) (no_cells (answer l)))
    ]

pub step_keeps_lanes_apart : StepKeepsLanesApart
step_keeps_lanes_apart rule dice road other next beside tally count l none is also same =
    let a = motion_alone rule dice road next tally none is in
    let b = motion_alone rule dice other beside count none also in
    let lane = lane_of road l in
    let moved = any_lane a.0 road next l a.2 in
    let moved_beside = subst (λ (cells : Lane). LaneMoves (b.0 l) cells (lane_of beside l)) same.same_lane (any_lane b.0 other beside l b.2) in
    let agree : (x number speed : ℕ) → at lane x ≡ Some (number, speed) → b.0 l x ≡ a.0 l x = λ x number speed here.
    let car = car_in l x number speed in
    let there : at (lane_of other l) x ≡ Some (number, speed) = subst (λ (cells : Lane). at cells x ≡ Some (number, speed)) (sym same.same_lane) here in
    let seen : motion_view_of other car ≡ motion_view_of road car =
    same_view _ _ _ _ _ _ _ _ refl same.same_limit (ap (λ (cells : Lane). gap cells x) same.same_lane) (ap (λ (cells : Lane). headspeed cells x) same.same_lane) in
    let answer = b.1.each car there in
    one_answer_each rule.motion dice road car (b.0 l x) (a.0 l x)
    (answer.0, subst (λ (view : View). EndsWith Motion rule.motion.program.instrs view (words_of dice number) (Goes (b.0 l x)) answer.0) seen answer.1)
    (a.1.each car here) in
    record {
      same_limit = b.2.same_limit ∙ same.same_limit ∙ sym a.2.same_limit;
      same_lane = one_lane_only (a.0 l) lane (lane_of beside l) (lane_of next l) (lane_moves_by (b.0 l) (a.0 l) lane (lane_of beside l) agree moved_beside) moved;
    }

same_rule : {a b : Programs} → Some a ≡ Some b → a ≡ b
same_rule h = cc

pub run_keeps_lanes_apart : RunKeepsLanesApart
run_keeps_lanes_apart seed start sheet zero road other sum count l nobody comes also same =
    subst (λ (r : Cells). ShareLane l r other) (sym comes.1) (subst (λ (r : Cells). ShareLane l seed.road r) (sym also.1) same)
run_keeps_lanes_apart seed start sheet (suc step) road other sum count l nobody comes also same =
    let on = comes.5 in
    let on_also = also.5 in
    let rule = comes.2 in
    let none = force_all StaysInLane sheet step rule nobody on.under in
    let one : also.2 ≡ rule = same_rule (sym on_also.under ∙ on.under) in
    let next = subst (λ (r : Programs). IsNext r (dice_at seed step) also.0 other also.3) one on_also.next in
    step_keeps_lanes_apart rule (dice_at seed step) comes.0 also.0 road other comes.3 also.3 l none on.next next
    (run_keeps_lanes_apart seed start sheet step comes.0 also.0 comes.1 also.1 l nobody comes.4 also.4 same)

-- A cell after a step: the car that comes to it has seen only the cells up to two cells ahead of it.

-- two gaps over m equal cells: they are equal, or both at least m
gap_seen : (lane other : Lane) (x m : ℕ) (car : ℕ × ℕ) → length other ≡ length lane → at lane x ≡ Some car
    → ((j : ℕ) → j ≤ m → at other (ahead (length lane) x j) ≡ at lane (ahead (length lane) x j)) → (gap other x ≡ gap lane x) ⊎ ((m ≤ gap lane x) × (m ≤ gap other x))
gap_seen lane other x m car size here same =
    let n = length lane in
    let g = gap lane x in
    let short = gap_below lane x x car here in
    let there : (j : ℕ) → j ≤ m → at other (ahead (length other) x j) ≡ at lane (ahead n x j) = λ j low. ap (λ k. at other (ahead k x j)) size ∙ same j low in
    elim (cases_lt g m) [
      | inl ends ↦
          let next = next_taken lane x car here in
          let clear : (j : ℕ) → 1 ≤ j → j ≤ g → at other (ahead (length other) x j) ≡ None =
          λ j some most. there j (omega (arith, most, ends)) ∙ (clear_within_gap lane x g (omega arith)).clear j some most in
          let taken : is_some (at other (ahead (length other) x (g + 1))) ≡ true = ap is_some (there (g + 1) (omega (arith, ends)) ∙ next.1) in
          inl (ends_before other (ahead (length other) x) g (omega (arith, short, size)) (clear_from other (ahead (length other) x) g clear) taken)
      | inr goes_on ↦
          let clear : (j : ℕ) → 1 ≤ j → j ≤ m → at other (ahead (length other) x j) ≡ None =
          λ j some most. there j most ∙ (clear_within_gap lane x g (omega arith)).clear j some (omega (arith, most, goes_on)) in
          inr (goes_on, clear_is_gap other x m (omega (arith, goes_on, short, size)) (record { clear = clear }))
    ]

-- a car that has moved s cells with a gap of at least s + 2 does so with every such gap
same_speed : (c : Bool) (u limit g h s : ℕ) → s ≡ brake c (safe_speed u limit g) → s + 2 ≤ g → s + 2 ≤ h → brake c (safe_speed u limit h) ≡ s
same_speed true u limit g h s is far other = omega (arith, is, far, other)
same_speed false u limit g h s is far other = omega (arith, is, far, other)

-- one lane on two roads
module _ (limit : ℕ) (brakes : ℕ → ℕ → Bool) (old other new new_other : Lane) (a b : ℕ → ℕ) (m : LaneMoves a old new) (m_other : LaneMoves b other new_other)
    (by_rule : (x number speed : ℕ) → at old x ≡ Some (number, speed) → a x ≡ brake (brakes number speed) (safe_speed speed limit (gap old x)))
    (other_by_rule : (x number speed : ℕ) → at other x ≡ Some (number, speed) → b x ≡ brake (brakes number speed) (safe_speed speed limit (gap other x)))
    (within : (x number speed : ℕ) → at old x ≡ Some (number, speed) → a x ≤ limit)
    (size : length other ≡ length old) (y w : ℕ) (same : (j : ℕ) → j < w + (limit + 2) → at other (ahead (length old) y j) ≡ at old (ahead (length old) y j)) where
  comes_too : (j : ℕ) (car : ℕ × ℕ) → j < w → at new (ahead (length old) y (limit + j)) ≡ Some car → at new_other (ahead (length old) y (limit + j)) ≡ Some car
  comes_too j car low there =
      let n = length old in
      let z = ahead n y (limit + j) in
      let came = m.nothing_else z car.0 car.1 there in
      let x = came.0 in
      let u = came.1.0 in
      let from = came.1.1 in
      let s = a x in
      let on = inside old x (car.0, u) from.was in
      let most = within x car.0 u from.was in
      let k = limit + j - s in
      let e : k + s ≡ limit + j = omega (arith, most) in
      let to : ahead n (ahead n y k) s ≡ z = ahead_more n y k s ∙ ap (ahead n y) e in
      let x_is : x ≡ ahead n y k = ahead_once n x (ahead n y k) s on (ahead_below n y k (omega (arith, on))) (sym from.reaches ∙ sym to) in
      let seen : (i : ℕ) → i ≤ s + 2 → at other (ahead n x i) ≡ at old (ahead n x i) = λ i near.
      let there : ahead n x i ≡ ahead n y (k + i) = ap (λ q. ahead n q i) x_is ∙ ahead_more n y k i in
      ap (at other) there ∙ same (k + i) (omega (arith, low, e, near)) ∙ sym (ap (at old) there) in
      let none = ahead_none n x on in
      let here : at other x ≡ Some (car.0, u) = ap (at other) (sym none) ∙ seen 0 (omega arith) ∙ ap (at old) none ∙ from.was in
      let own = by_rule x car.0 u from.was in
      let others = other_by_rule x car.0 u here in
      let speed : b x ≡ s = (elim (gap_seen old other x (s + 2) (car.0, u) size from.was seen) [
        | inl equal ↦ others ∙ ap (λ g. brake (brakes car.0 u) (safe_speed u limit g)) equal ∙ sym own
        | inr both ↦ others ∙ same_speed (brakes car.0 u) u limit (gap old x) (gap other x) s own both.0 both.1
      ]) in
      let arrives = m_other.arrives x car.0 u here in
      let reach : ahead (length other) x (b x) ≡ z = ap (λ q. ahead q x (b x)) size ∙ ap (ahead n x) speed ∙ sym from.reaches in
      let cell : Some (car.0, b x) ≡ Some car = ap (λ v. Some (car.0, v)) (speed ∙ sym from.at_speed) in
      ap (at new_other) (sym reach) ∙ arrives ∙ cell

-- the same cells from both sides
module _ (chance : ℕ → ℕ) (rule : Programs) (moves : ComputesSpeed (λ view words. nasch_speed (chance view.speed) view words) rule.motion.program) (stays : StaysInLane rule) where
  step_shares : (dice : Dice) (road other next next_other : Cells) (tally count : StepTally) (l y w : ℕ) → IsLegal road → IsLegal other
      → IsNext rule dice road next tally → IsNext rule dice other next_other count → ShareCells l y (w + (road.limit + 2)) road other
      → ShareCells l (ahead (length (lane_of road l)) y road.limit) w next next_other
  step_shares dice road other next next_other tally count l y w legal other_legal is also share =
      let n = length (lane_of road l) in
      let phase = motion_alone rule dice road next tally stays is in
      let phase_other = motion_alone rule dice other next_other count stays also in
      let a = phase.0 l in
      let b = phase_other.0 l in
      let m = any_lane phase.0 road next l phase.2 in
      let m_other = any_lane phase_other.0 other next_other l phase_other.2 in
      let fits = answers_fit rule.motion dice road phase.0 phase.1 in
      let fits_other = answers_fit rule.motion dice other phase_other.0 phase_other.1 in
      let brakes : ℕ → ℕ → Bool = λ number speed. happens_on (chance speed) (slice_index (words_of dice number) 0) in
      let by_rule : (x number v : ℕ) → at (lane_of road l) x ≡ Some (number, v) → a x ≡ brake (brakes number v) (safe_speed v road.limit (gap (lane_of road l) x)) =
      λ x number v here. answered (λ view words. nasch_speed (chance view.speed) view words) rule.motion dice road phase.0 moves legal phase.1 (car_in l x number v) here in
      let other_by_rule : (x number v : ℕ) → at (lane_of other l) x ≡ Some (number, v) → b x ≡ brake (brakes number v) (safe_speed v road.limit (gap (lane_of other l) x)) =
      λ x number v here. answered (λ view words. nasch_speed (chance view.speed) view words) rule.motion dice other phase_other.0 moves other_legal phase_other.1 (car_in l x number v) here
      ∙ ap (λ k. brake (brakes number v) (safe_speed v k (gap (lane_of other l) x))) share.same_limit in
      let within : (x number v : ℕ) → at (lane_of road l) x ≡ Some (number, v) → a x ≤ road.limit = λ x number v here. fits.within_limit (car_in l x number v) here in
      let limit = share.same_limit in
      let other_within : (x number v : ℕ) → at (lane_of other l) x ≡ Some (number, v) → b x ≤ road.limit =
      λ x number v here. let k = fits_other.within_limit (car_in l x number v) here in omega (arith, k, limit) in
      let size = share.same_length in
      let turned : (j : ℕ) → j < w + (road.limit + 2) → at (lane_of road l) (ahead (length (lane_of other l)) y j) ≡ at (lane_of other l) (ahead (length (lane_of other l)) y j) =
      λ j low. ap (λ k. at (lane_of road l) (ahead k y j)) size ∙ sym (share.same_cells j low) ∙ sym (ap (λ k. at (lane_of other l) (ahead k y j)) size) in
      let first = comes_too road.limit brakes (lane_of road l) (lane_of other l) (lane_of next l) (lane_of next_other l) a b m m_other by_rule other_by_rule within size y w share.same_cells in
      let second = comes_too road.limit brakes (lane_of other l) (lane_of road l) (lane_of next_other l) (lane_of next l) b a m_other m other_by_rule by_rule other_within (sym size) y w turned in
      record {
        same_limit = phase_other.2.same_limit ∙ share.same_limit ∙ sym phase.2.same_limit;
        same_length = m_other.same_length ∙ size ∙ sym m.same_length;
        same_cells = λ j low.
            let z = ahead n y (road.limit + j) in
            let place : ahead (length (lane_of next l)) (ahead n y road.limit) j ≡ z = ap (λ k. ahead k (ahead n y road.limit) j) m.same_length ∙ ahead_more n y road.limit j in
            let back : ahead (length (lane_of other l)) y (road.limit + j) ≡ z = ap (λ k. ahead k y (road.limit + j)) size in
            ap (at (lane_of next_other l)) place
            ∙ same_cell (at (lane_of next l) z) (at (lane_of next_other l) z) (λ car here. first j car low here)
            (λ car here. ap (at (lane_of next l)) (sym back) ∙ second j car low (ap (at (lane_of next_other l)) back ∙ here))
            ∙ sym (ap (at (lane_of next l)) place);
      }
    where
      same_cell : (c d : Cell) → ((car : ℕ × ℕ) → c ≡ Some car → d ≡ Some car) → ((car : ℕ × ℕ) → d ≡ Some car → c ≡ Some car) → d ≡ c
      same_cell None None to back = refl
      same_cell (Some car) d to back = to car refl
      same_cell None (Some car) to back = sym (back car refl)

  -- a lane keeps its cells
  keeps_length : (seed : Seed) (l step : ℕ) (road : Cells) → IsRoadAt seed (always rule) step road → length (lane_of road l) ≡ length (lane_of seed.road l)
  keeps_length seed l zero road is = ap (λ (r : Cells). length (lane_of r l)) is.1.1
  keeps_length seed l (suc step) road is =
      let comes = is.1 in
      let same = one_rule rule comes.2 step comes.5.under in
      let next = subst (λ (r : Programs). IsNext r (dice_at seed step) comes.0 road comes.3) (sym same) comes.5.next in
      let phase = motion_alone rule (dice_at seed step) comes.0 road comes.3 stays next in
      (any_lane phase.0 comes.0 road l phase.2).same_length ∙ keeps_length seed l step comes.0 (comes.1, comes.4)

  run_shares : StaysInLightCone rule
  run_shares seed start road other zero l x w legal start_legal share is also =
      let z : seed.road.limit * 0 ≡ 0 = omega arith in
      let wide : w + 0 * (seed.road.limit + 2) ≡ w = omega arith in
      let here : ShareCells l (ahead (length (lane_of seed.road l)) x (seed.road.limit * 0)) w seed.road start = record {
        same_limit = share.same_limit;
        same_length = share.same_length;
        same_cells = λ j low.
            let n = length (lane_of seed.road l) in
            let e : seed.road.limit * 0 + j ≡ j = omega arith in
            let place : ahead n (ahead n x (seed.road.limit * 0)) j ≡ ahead n x j = ahead_more n x (seed.road.limit * 0) j ∙ ap (ahead n x) e in
            ap (at (lane_of start l)) place ∙ share.same_cells j (omega (arith, low, wide)) ∙ sym (ap (at (lane_of seed.road l)) place);
      } in
      subst (λ (r : Cells). ShareCells l (ahead (length (lane_of seed.road l)) x (seed.road.limit * 0)) w r other) (sym is.1.1)
      (subst (λ (r : Cells). ShareCells l (ahead (length (lane_of seed.road l)) x (seed.road.limit * 0)) w seed.road r) (sym also.1.1) here)
  run_shares seed start road other (suc step) l x w legal start_legal share is also =
      let from = seed_from seed start in
      let n = length (lane_of seed.road l) in
      let v = seed.road.limit in
      let comes = is.1 in
      let other_comes = also.1 in
      let old = comes.0 in
      let other_old = other_comes.0 in
      let wide : w + suc step * (v + 2) ≡ w + (v + 2) + step * (v + 2) = omega arith in
      let before = run_shares seed start old other_old step l x (w + (v + 2)) legal start_legal (subst (λ k. ShareCells l x k seed.road start) wide share) (comes.1, comes.4) (other_comes.1, other_comes.4) in
      let like = run_like seed (always rule) step old comes.1 legal comes.4 in
      let other_like = run_like from (always rule) step other_old other_comes.1 start_legal other_comes.4 in
      let same = one_rule rule comes.2 step comes.5.under in
      let other_same = one_rule rule other_comes.2 step other_comes.5.under in
      let next = subst (λ (r : Programs). IsNext r (dice_at seed step) old road comes.3) (sym same) comes.5.next in
      let other_next = subst (λ (r : Programs). IsNext r (dice_at seed step) other_old other other_comes.3) (sym other_same) other_comes.5.next in
      let limit = like.same_limit in
      let y = ahead n x (v * step) in
      let long : length (lane_of old l) ≡ n = keeps_length seed l step old (comes.1, comes.4) in
      let now = step_shares (dice_at seed step) old other_old road other comes.3 other_comes.3 l y w like.legal other_like.legal next other_next
      (subst (λ k. ShareCells l y (w + (k + 2)) old other_old) (sym limit) before) in
      let e : v * step + v ≡ v * suc step = omega arith in
      let place : ahead (length (lane_of old l)) y old.limit ≡ ahead n x (v * suc step) = ap (λ k. ahead k y old.limit) long ∙ ap (ahead n y) limit ∙ ahead_more n x (v * step) v ∙ ap (ahead n x) e in
      subst (λ k. ShareCells l k w road other) place now

pub nasch_has_light_cone : NaschHasLightCone
nasch_has_light_cone p rule is = run_shares (λ speed. p) rule is.motion.moves is.change

pub vdr_has_light_cone : VdrHasLightCone
vdr_has_light_cone p p0 rule is = run_shares (vdr_braking_chance p p0) rule is.motion.moves is.change

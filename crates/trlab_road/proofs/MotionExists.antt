-- The road after the motion phase exists.
use Rattle.std.proofs.Common.{◌≡◌, ℕ, zero, suc, ◌+◌, ◌<◌, Some, None, List, [], ◌∷◌, length, get_or}
use Rattle.std.proofs.Common.{replicate, set, refl, ap, subst, arith}
use Rattle.trlab_road.proofs.{Ring.{Apart, apart_within_gaps}, MotionByCar.{MovedBelow, moved_none}}
use Rattle.trlab_road.{proofs.MotionByCar.{moved_skip, moved_more, moved_all}, specs.Cells.{Cell, Lane}}
use Rattle.trlab_road.specs.{Cells.{Cells, at}, Gaps.ahead, Motion.{LaneMoves, LaneFits, Moves, Fits}}

moved_step : (answer : ℕ → ℕ) (old new : Lane) (i : ℕ) (c : Cell) → at old i ≡ c → Apart answer old
    → MovedBelow answer old new i → (next : Lane) × MovedBelow answer old next (i + 1)
moved_step answer old new i None is far m = (new, moved_skip answer old new i m is)
moved_step answer old new i (Some car) is far m = (set new (ahead (length old) i (answer i)) (Some (car.0, answer i)), moved_more answer old new i car.0 car.1 m far is)

moved_up_to : (answer : ℕ → ℕ) (old : Lane) (i : ℕ) → Apart answer old
    → (new : Lane) × MovedBelow answer old new i
moved_up_to answer old zero far = (replicate (length old) None, moved_none answer old)
moved_up_to answer old (suc i) far =
    let before = moved_up_to answer old i far in
    let next = moved_step answer old before.0 i (at old i) refl far before.1 in
    let one : i + 1 ≡ suc i = omega arith in
    (next.0, subst (λ k. MovedBelow answer old next.0 k) one next.1)

-- a lane after the motion exists
pub lane_moves_somewhere : (answer : ℕ → ℕ) (old : Lane) → LaneFits answer old
    → (new : Lane) × LaneMoves answer old new
lane_moves_somewhere answer old fits =
    let m = moved_up_to answer old (length old) (apart_within_gaps answer old fits) in
    (m.0, moved_all answer old m.0 (length old) (omega arith) m.1)

-- the motion of each lane of a list
record LanesMove (answer : ℕ → ℕ → ℕ) (old new : List Lane) : Type 0 where
  same_lanes : length new ≡ length old
  each_lane : (l : ℕ) → l < length old → LaneMoves (answer l) (get_or old l []) (get_or new l [])

each : (answer : ℕ → ℕ → ℕ) (lane new : Lane) (old others : List Lane) → LaneMoves (answer 0) lane new
    → ((l : ℕ) → l < length old → LaneMoves (answer (suc l)) (get_or old l []) (get_or others l []))
    → (l : ℕ) → l < length (lane ∷ old) → LaneMoves (answer l) (get_or (lane ∷ old) l []) (get_or (new ∷ others) l [])
each answer lane new old others first rest zero h = first
each answer lane new old others first rest (suc l) h = rest l (omega arith)

lanes_move_somewhere : (answer : ℕ → ℕ → ℕ) (old : List Lane)
    → ((l : ℕ) → l < length old → LaneFits (answer l) (get_or old l []))
    → (new : List Lane) × LanesMove answer old new
lanes_move_somewhere answer [] fits = ([], record { same_lanes = refl; each_lane = λ l h. absurd (omega arith) })
lanes_move_somewhere answer (lane ∷ old) fits =
    let first = lane_moves_somewhere (answer 0) lane (fits 0 (omega arith)) in
    let rest = lanes_move_somewhere (λ l. answer (suc l)) old (λ l h. fits (suc l) (omega arith)) in
    (first.0 ∷ rest.0, record { same_lanes = ap suc rest.1.same_lanes; each_lane = each answer lane first.0 old rest.0 first.1 rest.1.each_lane })

-- the road after the motion exists; by `one_road_only` there is only one
pub road_moves_somewhere : (answer : ℕ → ℕ → ℕ) (old : Cells) → Fits answer old
    → (new : Cells) × Moves answer old new
road_moves_somewhere answer old fits =
    let m = lanes_move_somewhere answer old.lanes fits.each_lane in
    (record { limit = old.limit; lanes = m.0 }, record { same_limit = refl; same_lanes = m.1.same_lanes; each_lane = m.1.each_lane })

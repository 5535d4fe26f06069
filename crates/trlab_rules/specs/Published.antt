-- The published models, as functions of a car's view and its random words: the Nagel-Schreckenberg model
-- (1992), the velocity-dependent-randomization (VDR) model of Barlovic, Santen, Schadschneider and
-- Schreckenberg (1998), and the lane changes of Rickert, Nagel, Schreckenberg and Latour (1996), with
-- distances of this project's own.
use Rattle.std.specs.Prelude.{ℕ, ◌+◌, ◌-◌, ◌&&◌, min, List, Bool, true, false, nat_eq, nat_lt, nat_le}
use Rattle.std.specs.Prelude.{if◌then◌else◌, slice_index}
use Rattle.trlab_words.specs.Words.{happens_on}
use Rattle.trlab_code.specs.declared.view.View.{View}

-- the speed after acceleration and slowing down: one cell per step faster, but at most the limit and the gap;
-- for example, 4 for speed 3, limit 5 and gap 7, and 2 for gap 2
abbrev pub safe_speed : ℕ → ℕ → ℕ → ℕ
safe_speed speed limit gap = min (min (speed + 1) limit) gap

-- randomization: one cell per step slower if the car brakes, but not below 0; otherwise unchanged
abbrev pub brake : Bool → ℕ → ℕ
brake true speed = speed - 1
brake false speed = speed

-- does an event of probability `chance` / 2 ^ 31 happen on word k of the random words?
abbrev pub happens_at : ℕ → List ℕ → ℕ → Bool
happens_at chance words k = happens_on chance (slice_index words k)

-- the speed in the Nagel-Schreckenberg model (1992): acceleration, slowing down, and braking with probability
-- p / 2 ^ 31 on random word 0
abbrev pub nasch_speed : ℕ → View → List ℕ → ℕ
nasch_speed p view words = brake (happens_at p words 0) (safe_speed view.speed view.limit view.gap)

-- the braking probability in the VDR model, times 2 ^ 31: p0 for a car whose speed before the step is 0,
-- and p for a moving car
abbrev pub vdr_braking_chance : ℕ → ℕ → ℕ → ℕ
vdr_braking_chance p p0 speed = if nat_eq speed 0 then p0 else p

-- the speed in the VDR model (Barlovic et al. 1998), which adds slow starts to the Nagel-Schreckenberg
-- model: a stopped car brakes with probability p0 / 2 ^ 31, a moving car with p / 2 ^ 31
abbrev pub vdr_speed : ℕ → ℕ → View → List ℕ → ℕ
vdr_speed p p0 view words = nasch_speed (vdr_braking_chance p p0 view.speed) view words

-- does a car change lanes, as in Rickert et al. (1996)? It does if its side cell is empty, gap < speed + 1,
-- speed + 1 < sidegap, limit < sideback, and an event of probability c / 2 ^ 31 happens on random word 1
abbrev pub rickert_crosses : ℕ → View → List ℕ → Bool
rickert_crosses c view words =
    view.side && nat_lt view.gap (view.speed + 1) && nat_lt (view.speed + 1) view.sidegap
    && nat_lt view.limit view.sideback
    && happens_at c words 1

-- acceleration as worded by Nagel and Schreckenberg (1992): a speed below the limit grows by one if the
-- distance to the next car ahead is above speed + 1; otherwise it is unchanged
abbrev pub acceleration_1992 : ℕ → ℕ → ℕ → ℕ
acceleration_1992 speed limit distance =
    if nat_lt speed limit && nat_lt (speed + 1) distance then speed + 1 else speed

-- slowing down as worded by Nagel and Schreckenberg (1992): if the distance to the next car ahead is at most
-- the speed, the speed becomes distance - 1; otherwise it is unchanged
abbrev pub slowing_down_1992 : ℕ → ℕ → ℕ
slowing_down_1992 speed distance = if nat_le distance speed then distance - 1 else speed

-- the speed after acceleration and then slowing down, as worded by Nagel and Schreckenberg (1992); the
-- distance to the next car ahead is gap + 1
abbrev pub wording_1992 : ℕ → ℕ → ℕ → ℕ
wording_1992 speed limit gap = slowing_down_1992 (acceleration_1992 speed limit (gap + 1)) (gap + 1)

-- The published models on the cells of a road: the place of each car after a step. trlab_rules defines the
-- same speeds and lane changes (`nasch_speed`, `vdr_speed`, `rickert_crosses`) as functions of a program's
-- input, a view and a list of random words; the definitions here are functions of a road and a car.
use Rattle.std.specs.Prelude.{◌≡◌, ℕ, ◌+◌, ◌&&◌, Bool, length, nat_lt, if◌then◌else◌}
use Rattle.trlab_words.specs.Words.{random_word, happens_on}
use Rattle.trlab_road.specs.{declared.car.Car.Car, Cells.{Cells, IsAt, cars, lane_of, IsLegal}}
use Rattle.trlab_road.specs.LaneChange.{car_after_crossing, other_lane}
use Rattle.trlab_road.specs.Gaps.{ahead, gap, side, sidegap, sideback}
use Rattle.trlab_rules.specs.Rules.{IsNasch, IsVdr, IsRickert, Programs}
use Rattle.trlab_rules.specs.Published.{brake, safe_speed, vdr_braking_chance}
use Rattle.trlab_step.specs.{declared.tally.StepTally.StepTally, Next.IsNext}
use Rattle.trlab_machine.specs.declared.dice.Dice.{Dice}

-- does an event of probability `chance` / 2 ^ 31 happen on random word k of the car?
abbrev pub happens_to : Dice → Car → ℕ → ℕ → Bool
happens_to dice car k chance =
    happens_on chance (random_word dice.key dice.road car.number dice.step k)

-- the new speed of a car in the Nagel-Schreckenberg model (1992): acceleration, slowing down to the gap, and
-- braking with probability p / 2 ^ 31 on the car's random word 0
abbrev pub nasch_car_speed : ℕ → Dice → Cells → Car → ℕ
nasch_car_speed p dice road car =
    brake (happens_to dice car 0 p) (safe_speed car.speed road.limit (gap (lane_of road car.lane) car.place))

-- the new speed of a car in the VDR model of Barlovic et al. (1998), which adds slow starts to the
-- Nagel-Schreckenberg model: a stopped car brakes with probability p0 / 2 ^ 31, a moving car with p / 2 ^ 31
abbrev pub vdr_car_speed : ℕ → ℕ → Dice → Cells → Car → ℕ
vdr_car_speed p p0 dice road car = nasch_car_speed (vdr_braking_chance p p0 car.speed) dice road car

-- does a car change lanes as in Rickert et al. (1996)? It does if its side cell is empty, gap < speed + 1,
-- speed + 1 < sidegap, limit < sideback, and an event of probability c / 2 ^ 31 happens on its random word 1
abbrev pub rickert_car_crosses : ℕ → Dice → Cells → Car → Bool
rickert_car_crosses c dice road car =
    let other = lane_of road (other_lane car.lane) in
    side other car.place && nat_lt (gap (lane_of road car.lane) car.place) (car.speed + 1)
    && nat_lt (car.speed + 1) (sidegap other car.place) && nat_lt road.limit (sideback other car.place)
    && happens_to dice car 1 c

-- a car of the road after it has moved ahead by `speed` cells, which is now its speed
abbrev pub car_after_motion : Cells → Car → ℕ → Car
car_after_motion road car speed = record {
  number = car.number;
  lane = car.lane;
  place = ahead (length (lane_of road car.lane)) car.place speed;
  speed = speed;
}

-- each car of road `old` is on road `new`, moved ahead by its new speed, `new_speed car`
abbrev pub AllMoveAhead : (Car → ℕ) → Cells → Cells → Type 0
AllMoveAhead new_speed old new =
    (car : Car) → IsAt old car → IsAt new (car_after_motion old car (new_speed car))

-- each car of road `old` for which `crosses` is true is in its side cell on road `new`, with its number and
-- speed, and each other car is unchanged
abbrev pub CarsCrossIf : (Car → Bool) → Cells → Cells → Type 0
CarsCrossIf crosses old new =
    (car : Car) → IsAt old car → IsAt new (if crosses car then car_after_crossing car else car)

-- in a step of a legal road under a `nasch` rule with braking probability p / 2 ^ 31, each car moves by its
-- speed in the Nagel-Schreckenberg model
abbrev pub NaschOnCells : Type 0
NaschOnCells = (p : ℕ) (rule : Programs) (dice : Dice) (old new : Cells) (tally : StepTally)
    → IsNasch p rule → IsLegal old → IsNext rule dice old new tally
    → AllMoveAhead (nasch_car_speed p dice old) old new

-- in a step of a legal road under a `vdr` rule with braking probabilities p0 / 2 ^ 31 of stopped cars and
-- p / 2 ^ 31 of moving cars, each car moves by its speed in the VDR model of Barlovic et al. (1998)
abbrev pub VdrOnCells : Type 0
VdrOnCells = (p p0 : ℕ) (rule : Programs) (dice : Dice) (old new : Cells) (tally : StepTally)
    → IsVdr p p0 rule → IsLegal old → IsNext rule dice old new tally
    → AllMoveAhead (vdr_car_speed p p0 dice old) old new

-- in a step of a legal road under a `rickert` rule with braking probability p / 2 ^ 31 and lane-change
-- probability c / 2 ^ 31, all cars first change lanes as in Rickert et al. (1996), which gives a legal road
-- with these cars only, and from there each car moves by its speed in the Nagel-Schreckenberg model
abbrev pub RickertOnCells : Type 0
RickertOnCells = (p c : ℕ) (rule : Programs) (dice : Dice) (old new : Cells) (tally : StepTally)
    → IsRickert p c rule → IsLegal old → IsNext rule dice old new tally
    → (middle : Cells) × IsLegal middle × (cars middle ≡ cars old)
    × CarsCrossIf (rickert_car_crosses c dice old) old middle
    × AllMoveAhead (nasch_car_speed p dice middle) middle new

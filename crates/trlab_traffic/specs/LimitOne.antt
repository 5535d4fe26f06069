-- The Nagel-Schreckenberg model with v_max = 1, in which only taken and empty cells matter. Without
-- randomization it is rule 184; with it, a step depends on the set of the cars that brake. Laws:
-- `nasch_is_rule_184`, `rule_184_classifies_density`, `nasch_steps_rings`.
use Rattle.std.specs.Prelude.{◌≡◌, ℕ, ◌+◌, ◌*◌, ◌/◌, ◌%◌, ◌^◌, ◌<◌, ◌≤◌, Bool, true, false, not, ◌&&◌, ◌||◌}
use Rattle.std.specs.Prelude.{Option, Some, None, is_some, List, map, length, slice_index_or, count_by}
use Rattle.std.specs.Prelude.{sum_by, nat_eq, if◌then◌else◌, zero, suc, ◌-◌, [], ◌∷◌, ◌++◌, Contains}
use Rattle.std.specs.{Prelude.flat_map, List.range_with_len, Bool.beq}
use Rattle.trlab_words.specs.Words.{happens_on, random_word}
use Rattle.trlab_road.specs.Cells.{Cell, Lane, Cells, lane_of, lane_car_count, IsLegal}
use Rattle.trlab_road.specs.Gaps.{ahead, behind}
use Rattle.trlab_rules.specs.Rules.{Programs, IsNasch}
use Rattle.trlab_machine.specs.declared.dice.Dice.{Dice}
use Rattle.trlab_step.specs.{declared.tally.StepTally.StepTally, Next.IsNext, Run.{Seed, IsRoadAt}}
use Rattle.trlab_traffic.specs.Terms.{always, is_taken, min_of_cars_and_empty_cells}
use Rattle.trlab_bounds.specs.declared.programs.TheConstants.{CERTAIN}

-- Rule 184 of Wolfram's elementary cellular automata (1983).

-- 1 for a taken cell, and 0 for an empty one
abbrev pub digit : Bool → ℕ
digit taken = if taken then 1 else 0

-- is a cell taken after a step of Wolfram's elementary automaton `number`? It is if digit k of `number` in
-- binary, counted from 0 at the right, is 1; the binary digits of k are the cells behind, own and ahead
-- before the step, 1 if taken. For example, 184 is 10111000, and cells 1, 0, 0 give k = 4: a car comes from
-- behind
abbrev pub elementary_rule : ℕ → Bool → Bool → Bool → Bool
elementary_rule number behind own ahead =
    nat_eq (number / 2 ^ (4 * digit behind + 2 * digit own + digit ahead) % 2) 1

-- lane `new` is lane `old`, a ring, after a step of the elementary automaton `number`: the state of each cell
-- follows from the cell behind, the cell itself and the cell ahead on `old`
abbrev pub IsElementaryStep : ℕ → Lane → Lane → Type 0
IsElementaryStep number old new = (x : ℕ) → x < length old
    → let taken_behind = is_taken old (behind (length old) x 1) in
    let taken_ahead = is_taken old (ahead (length old) x 1) in
    is_taken new x ≡ elementary_rule number taken_behind (is_taken old x) taken_ahead

-- with v_max = 1 and without randomization a step of the Nagel-Schreckenberg model is a step of rule 184 on
-- each lane of a legal road, for any speeds of its cars
abbrev pub NaschIsRule184 : Type 0
NaschIsRule184 =
    (rule : Programs) (dice : Dice) (old new : Cells) (tally : StepTally) (l : ℕ)
    → IsNasch 0 rule → IsLegal old → old.limit ≡ 1 → IsNext rule dice old new tally
    → l < length old.lanes → IsElementaryStep 184 (lane_of old l) (lane_of new l)

-- particle-hole symmetry: exchanging taken with empty, and behind with ahead, leaves rule 184 as it is, so
-- empty cells move as cars do, in the other direction round the ring
abbrev pub Rule184HasParticleHoleSymmetry : Type 0
Rule184HasParticleHoleSymmetry = (behind own ahead : Bool)
    → not (elementary_rule 184 behind own ahead) ≡ elementary_rule 184 (not ahead) (not own) (not behind)

-- The empty cells of a lane, which follow rule 184 backwards.

-- lane `holes` is the mirrored complement of a lane: it has as many cells, and each is taken exactly if the
-- cell of the lane at this place, counted from the other end, is empty. For example, `..0.` is the mirrored
-- complement of `0.00`
abbrev pub IsMirroredComplement : Lane → Lane → Type 0
IsMirroredComplement lane holes = (length holes ≡ length lane)
    × ((x y : ℕ) → x + y + 1 ≡ length lane → is_taken holes x ≡ not (is_taken lane y))

-- empty cells follow rule 184 backwards: if lane `new` is lane `old` after a step of rule 184, the mirrored
-- complement of `new` is that of `old` after a step of rule 184
abbrev pub EmptyCellsFollowRule184 : Type 0
EmptyCellsFollowRule184 = (old new old_holes new_holes : Lane)
    → length new ≡ length old → IsElementaryStep 184 old new
    → IsMirroredComplement old old_holes → IsMirroredComplement new new_holes
    → IsElementaryStep 184 old_holes new_holes

-- Density classification (Capcarrere, Sipper and Tomassini 1996): after at most n / 2 steps on n cells, the
-- pattern of rule 184 shows everywhere whether more than half of the cells are taken.

-- no two neighbouring cells of the ring are both taken
abbrev pub NoTwoCarsAreNeighbours : Lane → Type 0
NoTwoCarsAreNeighbours lane = (x : ℕ) → x < length lane
    → is_taken lane x ≡ true → is_taken lane (ahead (length lane) x 1) ≡ false

-- no two neighbouring cells of the ring are both empty
abbrev pub NoTwoEmptyCellsAreNeighbours : Lane → Type 0
NoTwoEmptyCellsAreNeighbours lane = (x : ℕ) → x < length lane
    → is_taken lane x ≡ false → is_taken lane (ahead (length lane) x 1) ≡ true

-- the pattern of lane `now` shows the density of lane `start`: if at most half of the cells of `start` are
-- taken, no two cars of `now` are neighbours, and if at least half of them are, no two empty cells
pub record ShowsDensity (start now : Lane) : Type 0 where
  pub few : 2 * lane_car_count start ≤ length start → NoTwoCarsAreNeighbours now
  pub many : length start ≤ 2 * lane_car_count start → NoTwoEmptyCellsAreNeighbours now

-- in the Nagel-Schreckenberg model with v_max = 1 and without randomization, which is rule 184, the pattern
-- of a lane with N cars and E empty cells shows its density from step min(N, E) - 1 on, for any initial
-- speeds
abbrev pub Rule184ClassifiesDensity : Type 0
Rule184ClassifiesDensity =
    (rule : Programs) (seed : Seed) (step : ℕ) (road : Cells) (l : ℕ)
    → IsNasch 0 rule → IsLegal seed.road → seed.road.limit ≡ 1 → l < length seed.road.lanes
    → min_of_cars_and_empty_cells (lane_of seed.road l) ≤ step + 1 → IsRoadAt seed (always rule) step road
    → ShowsDensity (lane_of seed.road l) (lane_of road l)

-- A step on a ring of cells that are taken or empty, for any set of braking cars.

-- a lane as a ring of cells, each taken (`true`) or empty (`false`), which determine the next step if
-- v_max = 1. A set of cars on a ring has the same type: it is `true` at the cells of its cars
abbrev pub Ring : Type 0
Ring = List Bool

-- is cell x taken, or its car in the set?
abbrev pub is_in : Ring → ℕ → Bool
is_in ring x = slice_index_or ring x false

-- the number of cars on a ring, or of cars in a set
abbrev pub size : Ring → ℕ
size ring = count_by (λ (taken : Bool). taken) ring

-- is there a free car in cell x, one with an empty cell ahead?
abbrev pub is_free_car : Ring → ℕ → Bool
is_free_car ring x = is_in ring x && not (is_in ring (ahead (length ring) x 1))

-- is there a car in cell x that moves in a step in which the cars of the set `braking` brake?
abbrev pub is_moving_car : Ring → Ring → ℕ → Bool
is_moving_car ring braking x = is_free_car ring x && not (is_in braking x)

-- the number of cars that move in a step in which the cars of the set `braking` brake
abbrev pub moving_cars : Ring → Ring → ℕ
moving_cars ring braking = count_by (is_moving_car ring braking) (range_with_len 0 (length ring))

-- is cell x taken after a step in which the cars of the set `braking` brake? It is if its car stays, or if
-- the car in the cell behind moves
abbrev pub is_taken_after : Ring → Ring → ℕ → Bool
is_taken_after ring braking x =
    (is_in ring x && not (is_moving_car ring braking x))
    || is_moving_car ring braking (behind (length ring) x 1)

-- the ring after a step in which the cars of the set `braking` brake
abbrev pub ring_after : Ring → Ring → Ring
ring_after ring braking = map (is_taken_after ring braking) (range_with_len 0 (length ring))

-- a step keeps the number of cars of a ring
abbrev pub StepsKeepCars : Type 0
StepsKeepCars = (ring braking : Ring)
    → length braking ≡ length ring → size (ring_after ring braking) ≡ size ring

-- the ring of a lane
abbrev pub ring_of : Lane → Ring
ring_of lane = map is_some lane

-- one random word for each car of a ring, cell by cell, and `None` for an empty cell
abbrev pub CarWords : Type 0
CarWords = List (Option ℕ)

-- does the car of a cell brake on its random word, if the braking probability is p / 2 ^ 31?
abbrev pub is_braking : ℕ → Option ℕ → Bool
is_braking p None = false
is_braking p (Some word) = happens_on p word

-- the set of the cars that brake on their random words
abbrev pub braking_set : ℕ → CarWords → Ring
braking_set p draws = map (is_braking p) draws

-- the random word 0 of the car in a cell, on which it brakes
abbrev pub draw : Dice → Cell → Option ℕ
draw dice None = None
draw dice (Some car) = Some (random_word dice.key dice.road car.0 dice.step 0)

-- the random words 0 of the cars of a lane
abbrev pub draws_of : Dice → Lane → CarWords
draws_of dice lane = map (draw dice) lane

-- the cars of a lane that brake in a step with these dice, if the braking probability is p / 2 ^ 31
abbrev pub braking_on : ℕ → Dice → Lane → Ring
braking_on p dice lane = braking_set p (draws_of dice lane)

-- with v_max = 1 a step of the Nagel-Schreckenberg model is a step of the ring of each lane, in which those
-- cars brake that do so on their random words
abbrev pub NaschStepsRings : Type 0
NaschStepsRings =
    (p : ℕ) (rule : Programs) (dice : Dice) (old new : Cells) (tally : StepTally) (l : ℕ)
    → IsNasch p rule → IsLegal old → old.limit ≡ 1 → IsNext rule dice old new tally → l < length old.lanes
    → ring_of (lane_of new l) ≡ ring_after (ring_of (lane_of old l)) (braking_on p dice (lane_of old l))

-- with v_max = 1 the distance of a step of the Nagel-Schreckenberg model is the number of cars that move on
-- the rings of all lanes
abbrev pub NaschGoesByRings : Type 0
NaschGoesByRings =
    (p : ℕ) (rule : Programs) (dice : Dice) (old new : Cells) (tally : StepTally)
    → IsNasch p rule → IsLegal old → old.limit ≡ 1 → IsNext rule dice old new tally
    → tally.distance ≡ sum_by (λ (lane : Lane). moving_cars (ring_of lane) (braking_on p dice lane)) old.lanes

-- The stationary state of the Nagel-Schreckenberg model with v_max = 1 on a ring, for every braking
-- probability, and its exact flow, counted over all rings and all random words (Schreckenberg,
-- Schadschneider, Nagel and Ito 1995, Phys. Rev. E 51, 2939; Evans 1997, J. Phys. A 30, 5669, for the same
-- model as a parallel exclusion process). Laws: `nasch_has_stationary_state`, `stationary_flow_is_exact`.

-- are the same cells taken on two rings?
abbrev pub is_same : Ring → Ring → Bool
is_same [] [] = true
is_same [] (b ∷ s) = false
is_same (a ∷ r) [] = false
is_same (a ∷ r) (b ∷ s) = beq a b && is_same r s

-- all rings of n cells
abbrev pub all_rings : ℕ → List Ring
all_rings zero = [] ∷ []
all_rings (suc n) =
    map (λ (ring : Ring). false ∷ ring) (all_rings n) ++ map (λ (ring : Ring). true ∷ ring) (all_rings n)

-- all sets of cars on a ring
abbrev pub car_sets : Ring → List Ring
car_sets [] = [] ∷ []
car_sets (false ∷ ring) = map (λ (set : Ring). false ∷ set) (car_sets ring)
car_sets (true ∷ ring) =
    map (λ (set : Ring). false ∷ set) (car_sets ring) ++ map (λ (set : Ring). true ∷ set) (car_sets ring)

-- the number of cars on a ring with an empty cell ahead
abbrev pub free_cars : Ring → ℕ
free_cars ring = count_by (is_free_car ring) (range_with_len 0 (length ring))

-- the probability, times CERTAIN ^ N, that of the N cars on a ring exactly those of the set `braking`
-- brake, if each brakes with probability p / CERTAIN
abbrev pub braking_weight : ℕ → Ring → Ring → ℕ
braking_weight p ring braking = p ^ size braking * (CERTAIN - p) ^ (size ring - size braking)

-- the probability, times CERTAIN ^ N, of a step from ring `old`, with N cars, to ring `new`
abbrev pub step_weight : ℕ → Ring → Ring → ℕ
step_weight p old new =
    sum_by (λ (set : Ring). if is_same (ring_after old set) new then braking_weight p old set else 0)
    (car_sets old)

-- the weight of a ring in the stationary state: a factor CERTAIN for each car with an empty cell ahead, and
-- a factor p for each other car
abbrev pub stationary_weight : ℕ → Ring → ℕ
stationary_weight p ring = p ^ (size ring - free_cars ring) * CERTAIN ^ free_cars ring

-- the probabilities of the steps from a ring to all rings add up to 1
abbrev pub StepWeightsAddUp : Type 0
StepWeightsAddUp = (p : ℕ) (old : Ring) → p ≤ CERTAIN
    → sum_by (step_weight p old) (all_rings (length old)) ≡ CERTAIN ^ size old

-- the weights `weight` of rings are stationary, which means that a step does not change them: the weights
-- of all rings `old`, each times the probability of a step from `old` to `new`, add up to the weight of
-- `new`
abbrev pub IsStationary : ℕ → (Ring → ℕ) → Type 0
IsStationary p weight = (new : Ring)
    → sum_by (λ (old : Ring). weight old * step_weight p old new) (all_rings (length new))
    ≡ CERTAIN ^ size new * weight new

-- the stationary weights are stationary, for every braking probability p / CERTAIN
abbrev pub WeightsAreStationary : Type 0
WeightsAreStationary = (p : ℕ) → p ≤ CERTAIN → IsStationary p (stationary_weight p)

-- if the braking probability is above 0 and below 1, there are no others: on rings with the same numbers of
-- cells and cars, all weights that are stationary are proportional to these
abbrev pub StationaryWeightsAreUnique : Type 0
StationaryWeightsAreUnique = (p : ℕ) (weight : Ring → ℕ) (ring other : Ring) → 0 < p → p < CERTAIN
    → IsStationary p weight → length ring ≡ length other → size ring ≡ size other
    → weight ring * stationary_weight p other ≡ weight other * stationary_weight p ring

-- all ways in which each car of a ring can draw one of this number of random words
abbrev pub all_draws : ℕ → Ring → List CarWords
all_draws words [] = [] ∷ []
all_draws words (false ∷ ring) = map (λ (draws : CarWords). None ∷ draws) (all_draws words ring)
all_draws words (true ∷ ring) =
    flat_map (λ (draws : CarWords). map (λ (word : ℕ). Some word ∷ draws) (range_with_len 0 words))
    (all_draws words ring)

-- the number of ways in which each car of ring `old` can draw one of this number of random words such that
-- a step leads to ring `new`
abbrev pub word_count : ℕ → ℕ → Ring → Ring → ℕ
word_count p words old new =
    count_by (λ (draws : CarWords). is_same (ring_after old (braking_set p draws)) new) (all_draws words old)

-- the step weights count random words of 32 bits: times 2 ^ N, the weight of a step from ring `old` to ring
-- `new` is the number of ways in which the N cars can draw such words and the step leads to `new`
abbrev pub StepWeightsCountWords : Type 0
StepWeightsCountWords = (p words : ℕ) (old new : Ring) → p ≤ CERTAIN → words ≡ 2 ^ 32
    → word_count p words old new ≡ 2 ^ size old * step_weight p old new

-- a step does not change the stationary weights, counted over all random words of 32 bits: the weights of
-- all rings `old`, each times the number of ways in which its N cars can draw words and the step leads to
-- `new`, add up to the weight of `new`, times the number of all ways in which N cars can draw words
abbrev pub WeightsAreStationaryOverWords : Type 0
WeightsAreStationaryOverWords = (p words : ℕ) (new : Ring) → p ≤ CERTAIN → words ≡ 2 ^ 32
    → sum_by (λ (old : Ring). stationary_weight p old * word_count p words old new) (all_rings (length new))
    ≡ words ^ size new * stationary_weight p new

-- the random words that the cars of a lane draw in a step are among those that are counted
abbrev pub DrawsAreCounted : Type 0
DrawsAreCounted = (words : ℕ) (dice : Dice) (lane : Lane) → words ≡ 2 ^ 32
    → Contains (all_draws words (ring_of lane)) (draws_of dice lane)

-- The exact flow of the stationary state on every finite ring.

-- the number of ways to choose k of n things: the binomial coefficient
abbrev pub choose : ℕ → ℕ → ℕ
choose n zero = 1
choose zero (suc k) = 0
choose (suc n) (suc k) = choose n k + choose n (suc k)

-- the number of ways to split a row of n things into k parts, none of them empty: the compositions of n
abbrev pub splits : ℕ → ℕ → ℕ
splits zero zero = 1
splits zero (suc k) = 0
splits (suc n) zero = 0
splits (suc n) (suc k) = choose n k

-- the number of rings with this many cars and empty cells whose cars form k clusters. The first term counts
-- the rings whose cell 0 is taken, and the second those whose cell 0 is empty. With N cars, E empty cells
-- and n = N + E the sum is n / k * choose (N - 1) (k - 1) * choose (E - 1) (k - 1)
abbrev pub clustered_rings : ℕ → ℕ → ℕ → ℕ
clustered_rings cars empty k = choose cars k * splits empty k + splits cars k * choose empty k

-- does a ring have this many cars, k of them with an empty cell ahead, so that its cars form k clusters?
abbrev pub has_clusters : ℕ → ℕ → Ring → Bool
has_clusters cars k ring = nat_eq (size ring) cars && nat_eq (free_cars ring) k

-- `clustered_rings` counts the rings with k clusters
abbrev pub RingsAreClustered : Type 0
RingsAreClustered = (cars empty k : ℕ) → 0 < cars + empty
    → count_by (has_clusters cars k) (all_rings (cars + empty)) ≡ clustered_rings cars empty k

-- the sum of f over all rings with this many cars and empty cells
abbrev pub sum_over_rings : ℕ → ℕ → (Ring → ℕ) → ℕ
sum_over_rings cars empty f =
    sum_by (λ (ring : Ring). if nat_eq (size ring) cars then f ring else 0) (all_rings (cars + empty))

-- the mean distance of a step from a ring with N cars, times CERTAIN ^ N
abbrev pub distance_weight : ℕ → Ring → ℕ
distance_weight p ring =
    sum_by (λ (braking : Ring). braking_weight p ring braking * moving_cars ring braking) (car_sets ring)

-- the sum over k = 0 to N of f k times the stationary weight of a ring with N cars in k clusters
abbrev pub sum_over_clusters : ℕ → ℕ → (ℕ → ℕ) → ℕ
sum_over_clusters p cars f =
    sum_by (λ (k : ℕ). f k * (p ^ (cars - k) * CERTAIN ^ k)) (range_with_len 0 (cars + 1))

-- the exact flow of the stationary state with N cars and E empty cells. `weights` is the sum of all
-- weights, and `distances` that of the weights times the mean distances of a step, times CERTAIN ^ (N + 1).
-- Their quotient, divided by CERTAIN ^ (N + 1) and by N + E cells, is the mean flow
pub record IsExactFlow (p cars empty : ℕ) : Type 0 where
  pub weights : sum_over_rings cars empty (stationary_weight p)
      ≡ sum_over_clusters p cars (clustered_rings cars empty)
  pub distances :
      CERTAIN * sum_over_rings cars empty (λ (ring : Ring). stationary_weight p ring * distance_weight p ring)
      ≡ CERTAIN ^ cars * (CERTAIN - p)
      * ((cars + empty) * sum_over_clusters p cars (λ (k : ℕ). splits cars k * splits empty k))

-- the flow of the stationary state is exact for every braking probability p / CERTAIN, and on every ring
-- with at least one cell
abbrev pub FlowIsExact : Type 0
FlowIsExact = (p cars empty : ℕ) → p ≤ CERTAIN → 0 < cars + empty → IsExactFlow p cars empty

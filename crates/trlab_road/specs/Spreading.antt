-- Roads with evenly spaced cars of speed 0.
use Rattle.std.specs.Prelude.{◌≡◌, ℕ, ◌*◌, ◌/◌, ◌%◌, ◌<◌, ◌≤◌, Some, length}
use Rattle.trlab_road.specs.declared.fault.RoadFault.{RoadFault}
use Rattle.trlab_road.specs.declared.fault.RoadFault.TheVariants.{Lanes, Length, Limit, Character}
use Rattle.trlab_road.specs.declared.fault.RoadFault.TheVariants.{SpeedAboveLimit, Memory, TooManyCars}
use Rattle.trlab_road.specs.Cells.{Lane, Cells, at, lane_of, LanesFit, LengthFits, LimitFits}

-- the cell of car i, one of n evenly spaced cars on `lanes` lanes of `cells` cells, as one number: place *
-- `lanes` + lane; for example, 4 cars on 2 lanes of 6 cells have the flat cells 0, 3, 6 and 9
abbrev pub flat_cell : ℕ → ℕ → ℕ → ℕ → ℕ
flat_cell lanes cells n i = i * (lanes * cells) / n

-- the lane of car i, one of n evenly spaced cars on `lanes` lanes of `cells` cells; for example, 4 cars on 2
-- lanes of 6 cells are on the lanes 0, 1, 0 and 1
abbrev pub even_lane : ℕ → ℕ → ℕ → ℕ → ℕ
even_lane lanes cells n i = flat_cell lanes cells n i % lanes

-- the place of car i, one of n evenly spaced cars on `lanes` lanes of `cells` cells; for example, 4 cars on 2
-- lanes of 6 cells are at the places 0, 1, 3 and 4
abbrev pub even_place : ℕ → ℕ → ℕ → ℕ → ℕ
even_place lanes cells n i = flat_cell lanes cells n i / lanes

-- the car with this number is one of n evenly spaced cars, on lane l at place x
pub record IsEvenlySpacedAt (lanes cells n number l x : ℕ) : Type 0 where
  pub numbered : number < n
  pub on_lane : even_lane lanes cells n number ≡ l
  pub at_place : even_place lanes cells n number ≡ x

-- `lane` is lane l of a road with n evenly spaced cars: it has `cells` cells, the cars of lane l are at their
-- places with speed 0, and there are no others
pub record IsEvenlySpacedLane (lanes cells n l : ℕ) (lane : Lane) : Type 0 where
  pub same_length : length lane ≡ cells
  pub stands : (i : ℕ) → i < n → even_lane lanes cells n i ≡ l
      → at lane (even_place lanes cells n i) ≡ Some (i, 0)
  pub nothing_else : (x number speed : ℕ)
      → at lane x ≡ Some (number, speed) → IsEvenlySpacedAt lanes cells n number l x

-- the road has `lanes` lanes of `cells` cells, this limit, and n evenly spaced cars with speed 0
pub record IsEvenlySpaced (lanes cells limit n : ℕ) (road : Cells) : Type 0 where
  pub same_limit : road.limit ≡ limit
  pub same_lanes : length road.lanes ≡ lanes
  pub each_lane : (l : ℕ) → l < lanes → IsEvenlySpacedLane lanes cells n l (lane_of road l)

-- there are 1 to MAX_LANES lanes of 1 to MAX_LENGTH cells, the limit is 1 to MAX_LIMIT, and n is at most the
-- number of cells of all lanes
pub record CanSpread (lanes cells limit n : ℕ) : Type 0 where
  pub lanes_fit : LanesFit lanes
  pub length_fits : LengthFits cells
  pub limit_fits : LimitFits limit
  pub room : n ≤ lanes * cells

-- the first fault of the number of lanes, their length, the limit and the number n of cars, in this order;
-- `Memory`, a failed allocation, is always possible, and faults of characters never
abbrev pub IsEvenSpacingFault : ℕ → ℕ → ℕ → ℕ → RoadFault → Type 0
IsEvenSpacingFault lanes cells limit n Lanes = ¬ (LanesFit lanes)
IsEvenSpacingFault lanes cells limit n Length = LanesFit lanes × ¬ (LengthFits cells)
IsEvenSpacingFault lanes cells limit n Limit = LanesFit lanes × LengthFits cells × ¬ (LimitFits limit)
IsEvenSpacingFault lanes cells limit n TooManyCars =
    LanesFit lanes × LengthFits cells × LimitFits limit × (lanes * cells < n)
IsEvenSpacingFault lanes cells limit n (Character l x) = ⊥
IsEvenSpacingFault lanes cells limit n (SpeedAboveLimit l x) = ⊥
IsEvenSpacingFault lanes cells limit n Memory = Unit {0}

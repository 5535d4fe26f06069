-- Laws of pictures, of the next car ahead, of the two phases of a step and of evenly spread cars, for every
-- road, independent of the code that moves the cars.
use Rattle.std.specs.Prelude.{◌≢◌, List, map, ◌≡◌, ℕ, ◌+◌, ◌<◌, ◌↔◌, Bool, Some, None, Result, Ok, Err}
use Rattle.std.specs.Prelude.{length}
use Rattle.trlab_road.specs.{declared.fault.RoadFault.{RoadFault, TheVariants.Memory}, Cells.{Lane, Cells}}
use Rattle.trlab_road.specs.{Cells.{AgreeAtCars, HasNumber, at, cars, IsLegal}, Gaps.{ahead, headspeed}}
use Rattle.trlab_road.specs.Pictures.{IsFirstPictureFault, AreValidPictures, AreNumberedInOrder, PicturesShow}
use Rattle.trlab_road.specs.{Pictures.picture, LaneChange.{ChangesLanes, CrossesToEmpty, IsCleanLaneChange}}
use Rattle.trlab_road.specs.{LaneChange.road_after_change, Spreading.{CanSpread, IsEvenlySpaced}}
use Rattle.trlab_road.specs.{Spreading.IsEvenSpacingFault, Motion.{IsCleanMotion, Fits, IsClearAhead, Moves}}

-- a limit and pictures show at most one road
abbrev pub PicturesShowOneRoad : Type 0
PicturesShowOneRoad = (limit : ℕ) (pictures : List (List ℕ)) (road other : Cells)
    → PicturesShow limit pictures road → PicturesShow limit pictures other → road ≡ other

-- every road that valid pictures show is legal
abbrev pub ValidPicturesShowLegalRoads : Type 0
ValidPicturesShowLegalRoads = (limit : ℕ) (pictures : List (List ℕ)) (road : Cells)
    → AreValidPictures limit pictures → PicturesShow limit pictures road → IsLegal road

-- a limit and pictures have at most one first fault, apart from `Memory` (a failed allocation)
abbrev pub OneFirstFault : Type 0
OneFirstFault = (limit : ℕ) (pictures : List (List ℕ)) (fault other : RoadFault)
    → IsFirstPictureFault limit pictures fault → IsFirstPictureFault limit pictures other
    → fault ≢ Memory → other ≢ Memory → fault ≡ other

-- a limit and valid pictures have no fault, apart from `Memory` (a failed allocation)
abbrev pub ValidPicturesHaveNoFault : Type 0
ValidPicturesHaveNoFault = (limit : ℕ) (pictures : List (List ℕ)) (fault : RoadFault)
    → AreValidPictures limit pictures → IsFirstPictureFault limit pictures fault → fault ≡ Memory

-- the meaning of a limit and pictures: the legal road that they show, or their first fault; never `Memory`, a
-- failed allocation
abbrev pub PicturesMean : ℕ → List (List ℕ) → Result Cells RoadFault → Type 0
PicturesMean limit pictures (Ok road) = PicturesShow limit pictures road × IsLegal road
PicturesMean limit pictures (Err fault) = IsFirstPictureFault limit pictures fault × (fault ≢ Memory)

-- any limit and pictures have a meaning: a legal road or a first fault
abbrev pub PicturesHaveMeaning : Type 0
PicturesHaveMeaning = (limit : ℕ) (pictures : List (List ℕ))
    → (meaning : Result Cells RoadFault) × PicturesMean limit pictures meaning

-- a limit and pictures have at most one meaning
abbrev pub PicturesHaveOneMeaning : Type 0
PicturesHaveOneMeaning = (limit : ℕ) (pictures : List (List ℕ)) (meaning other : Result Cells RoadFault)
    → PicturesMean limit pictures meaning → PicturesMean limit pictures other → meaning ≡ other

-- the pictures of a legal road are valid under its limit
abbrev pub PicturesOfLegalRoads : Type 0
PicturesOfLegalRoads = (road : Cells) → IsLegal road → AreValidPictures road.limit (map picture road.lanes)

-- if the cars of a legal road are numbered in standing order, its limit and its pictures mean this road, and
-- nothing else
abbrev pub PicturesMeanTheRoad : Type 0
PicturesMeanTheRoad = (road : Cells) (meaning : Result Cells RoadFault)
    → IsLegal road → AreNumberedInOrder road
    → PicturesMean road.limit (map picture road.lanes) meaning ↔ (meaning ≡ Ok road)

-- if the g cells ahead of place x are empty and the cell after them holds a car, the headspeed at x is the
-- speed of this car, which is the car at x itself if g is the lane length minus 1
abbrev pub HeadspeedIsSpeedOfNextCar : Type 0
HeadspeedIsSpeedOfNextCar = (lane : Lane) (x g number speed : ℕ) → g < length lane → IsClearAhead lane x g
    → at lane (ahead (length lane) x (g + 1)) ≡ Some (number, speed) → headspeed lane x ≡ speed

-- if the car at place x is the only car of its lane, the headspeed at x is its own speed
abbrev pub HeadspeedOfLoneCar : Type 0
HeadspeedOfLoneCar = (lane : Lane) (x number speed : ℕ) → at lane x ≡ Some (number, speed)
    → ((y : ℕ) → y ≢ x → at lane y ≡ None) → headspeed lane x ≡ speed

-- if the answer of each car is at most its gap and the limit, there is a road after the motion
abbrev pub SomeRoadAfterMotion : Type 0
SomeRoadAfterMotion = (answer : ℕ → ℕ → ℕ) (old : Cells)
    → Fits answer old → (new : Cells) × Moves answer old new

-- from one road, with the same answers, there is at most one road after the motion
abbrev pub OneRoadAfterMotion : Type 0
OneRoadAfterMotion = (answer : ℕ → ℕ → ℕ) (old new other : Cells)
    → Moves answer old new → Moves answer old other → new ≡ other

-- the motion depends only on the answers at cars: if the functions `answer` and `other` agree at the cars of
-- a road, its motion is the same with both
abbrev pub MotionDependsOnlyOnCars : Type 0
MotionDependsOnlyOnCars = (answer other : ℕ → ℕ → ℕ) (old new : Cells)
    → AgreeAtCars answer other old → Moves answer old new → Moves other old new

-- in the motion of a legal road no car is lost or added, and each moves ahead over empty cells, if the answer
-- of each car is at most its gap and the limit
abbrev pub MotionIsClean : Type 0
MotionIsClean = (answer : ℕ → ℕ → ℕ) (old new : Cells)
    → IsLegal old → Fits answer old → Moves answer old new → IsCleanMotion old new

-- a legal road is legal after the motion if the answer of each car is at most its gap and the limit
abbrev pub MotionKeepsRoadLegal : Type 0
MotionKeepsRoadLegal = (answer : ℕ → ℕ → ℕ) (old new : Cells)
    → IsLegal old → Fits answer old → Moves answer old new → IsLegal new

-- a legal road has as many cars after the motion as before if the answer of each car is at most its gap and
-- the limit
abbrev pub MotionKeepsCars : Type 0
MotionKeepsCars = (answer : ℕ → ℕ → ℕ) (old new : Cells)
    → IsLegal old → Fits answer old → Moves answer old new → cars new ≡ cars old

-- on a legal road, each number below the number of cars is the number of a car
abbrev pub LegalRoadHasAllNumbers : Type 0
LegalRoadHasAllNumbers = (road : Cells)
    → IsLegal road → (number : ℕ) → number < cars road → HasNumber road number

-- there is exactly one road after the lane change of a road: `road_after_change`
abbrev pub OneRoadAfterLaneChange : Type 0
OneRoadAfterLaneChange = (crosses : ℕ → ℕ → Bool) (old new : Cells)
    → ChangesLanes crosses old new ↔ (new ≡ road_after_change crosses old)

-- the lane change depends only on the answers at cars: if the functions `crosses` and `others` agree at the
-- cars of a road, its lane change is the same with both
abbrev pub LaneChangeDependsOnlyOnCars : Type 0
LaneChangeDependsOnlyOnCars = (crosses others : ℕ → ℕ → Bool) (old new : Cells)
    → AgreeAtCars crosses others old → ChangesLanes crosses old new → ChangesLanes others old new

-- in the lane change of a legal road with two lanes no car is lost or added, and each stays or crosses to an
-- empty side cell, if cars cross only to empty side cells
abbrev pub LaneChangeIsClean : Type 0
LaneChangeIsClean = (crosses : ℕ → ℕ → Bool) (old new : Cells)
    → IsLegal old → CrossesToEmpty crosses old → ChangesLanes crosses old new → IsCleanLaneChange old new

-- a legal road with two lanes is legal after the lane change if cars cross only to empty side cells
abbrev pub LaneChangeKeepsRoadLegal : Type 0
LaneChangeKeepsRoadLegal = (crosses : ℕ → ℕ → Bool) (old new : Cells)
    → IsLegal old → CrossesToEmpty crosses old → ChangesLanes crosses old new → IsLegal new

-- the meaning of n evenly spaced cars on `lanes` lanes of `cells` cells with a limit: the legal road with
-- these cars, or the first fault; never `Memory`, a failed allocation
abbrev pub EvenCarsMean : ℕ → ℕ → ℕ → ℕ → Result Cells RoadFault → Type 0
EvenCarsMean lanes cells limit n (Ok road) =
    CanSpread lanes cells limit n × IsEvenlySpaced lanes cells limit n road × IsLegal road
EvenCarsMean lanes cells limit n (Err fault) = IsEvenSpacingFault lanes cells limit n fault × (fault ≢ Memory)

-- any numbers of lanes, cells and evenly spaced cars, with any limit, mean a legal road or have a first fault
abbrev pub EvenCarsHaveMeaning : Type 0
EvenCarsHaveMeaning = (lanes cells limit n : ℕ)
    → (meaning : Result Cells RoadFault) × EvenCarsMean lanes cells limit n meaning

-- numbers of lanes, cells and evenly spaced cars, with a limit, have at most one meaning
abbrev pub EvenCarsHaveOneMeaning : Type 0
EvenCarsHaveOneMeaning = (lanes cells limit n : ℕ) (meaning other : Result Cells RoadFault)
    → EvenCarsMean lanes cells limit n meaning → EvenCarsMean lanes cells limit n other → meaning ≡ other

-- at most one road has `lanes` lanes of `cells` cells, this limit, and n evenly spaced cars
abbrev pub OneEvenRoad : Type 0
OneEvenRoad = (lanes cells limit n : ℕ) (road other : Cells)
    → IsEvenlySpaced lanes cells limit n road → IsEvenlySpaced lanes cells limit n other → road ≡ other

-- a road with evenly spaced cars is legal if the lanes, their length and the limit are in range and there is
-- a cell for each car
abbrev pub EvenRoadIsLegal : Type 0
EvenRoadIsLegal = (lanes cells limit n : ℕ) (road : Cells)
    → CanSpread lanes cells limit n → IsEvenlySpaced lanes cells limit n road → IsLegal road

-- a road with n evenly spaced cars has exactly n cars if the lanes, their length and the limit are in range
-- and there is a cell for each car
abbrev pub EvenRoadHasAllCars : Type 0
EvenRoadHasAllCars = (lanes cells limit n : ℕ) (road : Cells)
    → CanSpread lanes cells limit n → IsEvenlySpaced lanes cells limit n road → cars road ≡ n

-- numbers of lanes, cells and evenly spaced cars, with a limit, have at most one first fault, apart from
-- `Memory` (a failed allocation)
abbrev pub OneEvenFault : Type 0
OneEvenFault = (lanes cells limit n : ℕ) (fault other : RoadFault)
    → IsEvenSpacingFault lanes cells limit n fault → IsEvenSpacingFault lanes cells limit n other
    → fault ≢ Memory → other ≢ Memory → fault ≡ other

-- if the lanes, their length and the limit are in range and there is a cell for each of n cars, there is no
-- fault, apart from `Memory` (a failed allocation)
abbrev pub FittingCarsHaveNoFault : Type 0
FittingCarsHaveNoFault = (lanes cells limit n : ℕ) (fault : RoadFault)
    → CanSpread lanes cells limit n → IsEvenSpacingFault lanes cells limit n fault → fault ≡ Memory

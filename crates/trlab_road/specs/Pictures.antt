-- Pictures of roads: `.` for an empty cell, the character of its speed for a car. A character is a number,
-- its ASCII code.
use Rattle.std.specs.Prelude.{◌≡◌, ℕ, ◌+◌, ◌-◌, ◌<◌, ◌≤◌, cond, nat_lt, Some, None, List, [], map, length}
use Rattle.std.specs.{Prelude.{slice_index, slice_index_or, ◌⊎◌}, Borrow.Bor, List.range_with_len}
use Rattle.trlab_bounds.specs.declared.roads.TheConstants.{MAX_LIMIT}
use Rattle.trlab_road.specs.declared.{car.Car.Car, fault.RoadFault.RoadFault}
use Rattle.trlab_road.specs.declared.fault.RoadFault.TheVariants.{Lanes, Length, Limit, Character}
use Rattle.trlab_road.specs.declared.fault.RoadFault.TheVariants.{SpeedAboveLimit, Memory, TooManyCars}
use Rattle.trlab_road.specs.Cells.{Cell, Lane, Cells, cars, LanesFit, LengthFits, LimitFits, standing}

-- the character of an empty cell, `.`
abbrev pub dot : ℕ
dot = 46

-- the character of a speed: a digit up to 9, then a small letter, `a` for 10 up to `z` for 35
abbrev pub speed_character : ℕ → ℕ
speed_character speed = cond (nat_lt speed 10) (48 + speed) (97 + (speed - 10))

-- the character of a cell: `.` if it is empty, otherwise the character of its car's speed
abbrev pub character : Cell → ℕ
character None = dot
character (Some car) = speed_character car.1

-- the picture of a lane: the character of each cell; for example, `2..0` shows a car of speed 2, two empty
-- cells and a stopped car
abbrev pub picture : Lane → List ℕ
picture lane = map character lane

-- the cars of a road are numbered 0, 1, 2 and so on in standing order
pub record AreNumberedInOrder (road : Cells) : Type 0 where
  pub numbers : map (λ (car : Car). car.number) (standing road) ≡ range_with_len 0 (cars road)

-- a limit and pictures show a road: it has this limit, its lanes have these pictures, and its cars are
-- numbered in standing order
pub record PicturesShow (limit : ℕ) (pictures : List (List ℕ)) (road : Cells) : Type 0 where
  pub same_limit : road.limit ≡ limit
  pub drawn : map picture road.lanes ≡ pictures
  pub numbered : AreNumberedInOrder road

-- the pictures to which a list of references refers
abbrev pub pictures_of : List (Bor (List ℕ)) → List (List ℕ)
pictures_of references = map (λ picture. picture.now) references

-- the picture of lane l; empty if there is no picture l
abbrev pub picture_at : List (List ℕ) → ℕ → List ℕ
picture_at pictures l = slice_index_or pictures l []

-- the character at place x in the picture of lane l; 0 if there is none
abbrev pub character_at : List (List ℕ) → ℕ → ℕ → ℕ
character_at pictures l x = slice_index (picture_at pictures l) x

-- all pictures have the length of the first, 1 to MAX_LENGTH cells
pub record HaveEqualLengths (pictures : List (List ℕ)) : Type 0 where
  pub cells : LengthFits (length (picture_at pictures 0))
  pub equal : (l : ℕ) → l < length pictures
      → length (picture_at pictures l) ≡ length (picture_at pictures 0)

-- the limit is 1 to MAX_LIMIT, and there are 1 to MAX_LANES pictures of the same length, 1 to MAX_LENGTH
-- cells
pub record HaveValidShape (limit : ℕ) (pictures : List (List ℕ)) : Type 0 where
  pub lanes : LanesFit (length pictures)
  pub lengths : HaveEqualLengths pictures
  pub limit_fits : LimitFits limit

-- the character is that of some speed up to `most`
pub record ShowsSpeed (most character : ℕ) : Type 0 where
  pub speed : ℕ
  pub within : speed ≤ most
  pub shown : character ≡ speed_character speed

-- the character is that of a cell: `.`, or the character of a speed of at most the limit
abbrev pub ShowsCell : ℕ → ℕ → Type 0
ShowsCell limit character = (character ≡ dot) ⊎ ShowsSpeed limit character

-- the limit is 1 to MAX_LIMIT, there are 1 to MAX_LANES pictures of the same length, 1 to MAX_LENGTH cells,
-- and each character shows a cell: `.`, or the character of a speed of at most the limit
pub record AreValidPictures (limit : ℕ) (pictures : List (List ℕ)) : Type 0 where
  pub shape : HaveValidShape limit pictures
  pub cells : (l x : ℕ) → l < length pictures → x < length (picture_at pictures l)
      → ShowsCell limit (character_at pictures l x)

-- the character of lane l at place x is the first that shows no cell, lane by lane and from left to right
pub record IsFirstBadCharacter (limit : ℕ) (pictures : List (List ℕ)) (l x : ℕ) : Type 0 where
  pub on_lane : l < length pictures
  pub inside : x < length (picture_at pictures l)
  pub bad : ¬ (ShowsCell limit (character_at pictures l x))
  pub earlier_lanes : (m y : ℕ) → m < l → y < length (picture_at pictures m)
      → ShowsCell limit (character_at pictures m y)
  pub earlier_places : (y : ℕ) → y < x → ShowsCell limit (character_at pictures l y)

-- the limit is 1 to MAX_LIMIT, there are 1 to MAX_LANES pictures of the same length, 1 to MAX_LENGTH cells,
-- and the first character that shows no cell is in lane l at place x
abbrev pub IsFaultAt : ℕ → List (List ℕ) → ℕ → ℕ → Type 0
IsFaultAt limit pictures l x = HaveValidShape limit pictures × IsFirstBadCharacter limit pictures l x

-- the character of lane l at place x is that of some speed up to MAX_LIMIT, possibly above the road's limit
abbrev pub ShowsAnySpeed : List (List ℕ) → ℕ → ℕ → Type 0
ShowsAnySpeed pictures l x = ShowsSpeed MAX_LIMIT (character_at pictures l x)

-- the first fault of a limit and pictures: first of the number of pictures, then of their lengths, the limit
-- and the characters; `Memory`, a failed allocation, is always possible, and `TooManyCars` never
abbrev pub IsFirstPictureFault : ℕ → List (List ℕ) → RoadFault → Type 0
IsFirstPictureFault limit pictures Lanes = ¬ (LanesFit (length pictures))
IsFirstPictureFault limit pictures Length = LanesFit (length pictures) × ¬ (HaveEqualLengths pictures)
IsFirstPictureFault limit pictures Limit =
    LanesFit (length pictures) × HaveEqualLengths pictures × ¬ (LimitFits limit)
IsFirstPictureFault limit pictures (Character l x) =
    IsFaultAt limit pictures l x × ¬ (ShowsAnySpeed pictures l x)
IsFirstPictureFault limit pictures (SpeedAboveLimit l x) =
    IsFaultAt limit pictures l x × ShowsAnySpeed pictures l x
IsFirstPictureFault limit pictures Memory = Unit {0}
IsFirstPictureFault limit pictures TooManyCars = ⊥

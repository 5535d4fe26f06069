-- Job texts: a key, the lanes of a road, a rule, the number of steps, and rules of later steps.
use Rattle.std.specs.Prelude.{◌≡◌, ◌≢◌, ℕ, ◌+◌, ◌==◌, List, ◌∷◌, codes, Option, None, Some, Result, Ok, Err}
use Rattle.std.specs.Prelude.{option_to_list, if◌then◌else◌, length, bytes_eq}
use Rattle.trlab_road.specs.{Cells.{Cells, IsLegal}, Pictures.{PicturesShow, IsFirstPictureFault}}
use Rattle.trlab_road.specs.declared.fault.RoadFault.{RoadFault}
use Rattle.trlab_road.specs.declared.fault.RoadFault.TheVariants.{Lanes, Length, Limit, Character}
use Rattle.trlab_road.specs.declared.fault.RoadFault.TheVariants.{SpeedAboveLimit, Memory, TooManyCars}
use Rattle.trlab_texts.specs.declared.fault.Cause.{Cause, TheVariants.{Road, Line, Key}}
use Rattle.trlab_texts.specs.Words.{word_after, next_word_is, number_within}
use Rattle.trlab_texts.specs.Reading.{LocatedFault, Reading, ◌>>=◌, line, exactly, read_if, before, all_lines}
use Rattle.trlab_texts.specs.Reading.{Rest, give, ◌>>◌, TextParsesTo}
use Rattle.hex.specs.{Hex.decode_sized, declared.error.FromHexError.FromHexError}
use Rattle.trlab_bounds.specs.declared.{roads.TheConstants.MAX_LIMIT, runs.TheConstants.MAX_STEPS}
use Rattle.trlab_rules.specs.Rules.{Programs}
use Rattle.trlab_step.specs.Run.{Seed, Sheet, sheet_with}
use Rattle.trlab_jobs.specs.RuleParts.{rule, later_rules}

-- The lanes of a road: the pictures of one or two lines, which are judged together.

-- the word P on the line `lane P`, which should be the picture of a lane; the cause `Line` for any other line
abbrev pub lane_word : List ℕ → Result (List ℕ) Cause
lane_word text = word_after (codes "lane ") text

-- reads the picture of a second lane if the first word of the next line is `lane`; otherwise reads no line
-- and gives none
abbrev pub second_lane : Reading (Option (List ℕ))
second_lane rest out = read_if (next_word_is (codes "lane") rest.left) (line (exactly lane_word)) rest out

-- the number of the line of the last lane: `first`, or `first + 1` if there is a second lane
abbrev pub line_of_last_lane : ℕ → Option (List ℕ) → ℕ
line_of_last_lane first None = first
line_of_last_lane first (Some second) = first + 1

-- the line of a lane: `first` for lane 0, and `last` for any other lane
abbrev pub line_of_lane : ℕ → ℕ → ℕ → ℕ
line_of_lane first last lane = if lane == 0 then first else last

-- the line of a fault in the pictures of lanes, on the lines from `first` to `last`: the line of the lane for
-- a wrong character or a speed above the limit, and `last` for any other fault
abbrev pub line_of_fault : ℕ → ℕ → RoadFault → ℕ
line_of_fault first last Lanes = last
line_of_fault first last Length = last
line_of_fault first last Limit = last
line_of_fault first last (Character lane place) = line_of_lane first last lane
line_of_fault first last (SpeedAboveLimit lane place) = line_of_lane first last lane
line_of_fault first last Memory = last
line_of_fault first last TooManyCars = last

-- the result for the pictures of lanes on the lines from `first` to `last`, with this limit: the legal road
-- that they show, or their first fault, at its line; a failed allocation is not a fault of pictures
abbrev pub LanesParseTo : ℕ → ℕ → ℕ → List (List ℕ) → Result Cells LocatedFault → Type 0
LanesParseTo first last limit pictures (Ok road) = IsLegal road × PicturesShow limit pictures road
LanesParseTo first last limit pictures (Err fault) =
    (wrong : RoadFault) × (IsFirstPictureFault limit pictures wrong × ((wrong ≢ Memory)
    × (fault ≡ record { line = line_of_fault first last wrong; cause = Road wrong })))

-- the result for one or two pictures of lanes with this limit; the first is on the line `first`
abbrev pub PicturesParseTo : ℕ → ℕ → List ℕ → Option (List ℕ) → Result Cells LocatedFault → Type 0
PicturesParseTo first limit picture second result =
    LanesParseTo first (line_of_last_lane first second) limit (picture ∷ option_to_list second) result

-- gives the road of one or two pictures with this limit, or their first fault; the pictures were read
-- already, the first on the line `first`
abbrev pub road_of : ℕ → ℕ → List ℕ → Option (List ℕ) → Reading Cells
road_of first limit picture second rest out =
    (result : Result Cells LocatedFault)
    × (PicturesParseTo first limit picture second result × (out ≡ before rest result))

-- reads a road with this limit: the line `lane P`, and a second one if the first word of the next line is
-- `lane`
abbrev pub lanes : ℕ → Reading Cells
lanes limit rest out =
    (line (exactly lane_word) >>= λ picture. second_lane >>= road_of rest.number limit picture) rest out

-- Job texts: a key, a road, a rule, the number of steps, and rules of later steps.

-- a job: the 32 bytes of the key, the initial road, the rule from step 0 on, the later rules with
-- their steps, and the number of steps
pub record Job : Type 0 where
  pub key : List ℕ
  pub road : Cells
  pub first : Programs
  pub later : Sheet
  pub steps : ℕ

-- the first line of a job text, `road 1`; the cause `Line` for any other line
abbrev pub road_line : List ℕ → Result (Unit {0}) Cause
road_line text = if bytes_eq text (codes "road 1") then Ok tt else Err Line

-- the key, 32 bytes, that was decoded from hexadecimal digits; the cause `Key` if the digits are invalid
abbrev pub decoded_key : Result (List ℕ) FromHexError → Result (List ℕ) Cause
decoded_key (Ok key) = Ok key
decoded_key (Err fault) = Err Key

-- the key that a word spells in 64 hexadecimal digits of either case; the cause `Key` for any other word,
-- and the cause that is given instead of a word if there is none
abbrev pub key_of : Result (List ℕ) Cause → Result (List ℕ) Cause
key_of (Ok word) = decoded_key (decode_sized word 32)
key_of (Err cause) = Err cause

-- the key on the line `key H`, where H is 64 hexadecimal digits; the cause `Line` or `Key` for any other line
abbrev pub key_line : List ℕ → Result (List ℕ) Cause
key_line text = key_of (word_after (codes "key ") text)

-- the limit, the maximum speed of a car in cells per step, on the line `limit n`, from 1 to MAX_LIMIT
abbrev pub limit_line : List ℕ → Result ℕ Cause
limit_line text = number_within 1 MAX_LIMIT (word_after (codes "limit ") text)

-- the number of steps on the line `steps n`, from 0 to MAX_STEPS
abbrev pub steps_line : List ℕ → Result ℕ Cause
steps_line text = number_within 0 MAX_STEPS (word_after (codes "steps ") text)

-- reads the lines of a job text after its lanes, and gives the job with this key and road: a rule, the number
-- of steps, and rules of later steps
abbrev pub job_after : List ℕ → Cells → Reading Job
job_after key road = do
  first ← rule (length road.lanes)
  steps ← line (exactly steps_line)
  later ← later_rules (length road.lanes) steps
  give (record { key = key; road = road; first = first; later = later; steps = steps })

-- reads a job, line by line: `road 1`, the key, the limit, the lanes, a rule, the number of steps, and rules
-- of later steps
unfoldable pub job : Reading Job
job = do
  line (exactly road_line)
  key ← line (exactly key_line)
  limit ← line (exactly limit_line)
  road ← lanes limit
  job_after key road

-- `reading` has this result from `place` on: its value, whatever rest comes after it, or its fault
abbrev pub ReadingHasResult : {A : Type 0} → Reading A → Rest → Result A LocatedFault → Type 0
ReadingHasResult reading place (Ok x) = (rest : Rest) × reading place (Ok (x, rest))
ReadingHasResult reading place (Err fault) = reading place (Err fault)

-- the result for the lines of a job text: a job, or the first fault
abbrev pub JobLinesParseTo : List ℕ → Result Job LocatedFault → Type 0
JobLinesParseTo text = ReadingHasResult job (all_lines text)

-- the result for a job text: a job, or the first fault; for a text that is too long, this is `TooBig`
abbrev pub ParsesAsJob : List ℕ → Result Job LocatedFault → Type 0
ParsesAsJob text result = TextParsesTo JobLinesParseTo text result

-- the seed of a job's run: its road and key, with the road number 0, and tallies counted from step 0 on
abbrev pub seed_of : Job → Seed
seed_of job = record { road = job.road; key = job.key; number = 0; warm = 0 }

-- the sheet of a job: its first rule from step 0 on, and its later rules; a later rule for step 0 replaces
-- the first rule
abbrev pub sheet_of : Job → Sheet
sheet_of job = sheet_with job.first job.later

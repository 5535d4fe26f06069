-- Parts, which are the answers for the cars of one segment, and the results of a phase so far.
use Rattle.std.specs.Prelude.{◌≡◌, ℕ, ◌+◌, ◌<◌, true, Bool, List, All, map, length, get_or, slice_get, Some}
use Rattle.std.specs.{Prelude.{Result, IfOk, Vec, vec_len, [], Option, IfSome, MatchOption}, Borrow.Bor}
use Rattle.trlab_machine.specs.declared.dice.Dice.{Dice}
use Rattle.trlab_road.specs.{Cells.{Cells, cars}, declared.road.Road.Road}
use Rattle.trlab_segments.specs.{declared.parts.Part.Part, Drawers.ticket_count, Segments.first_car}
use Rattle.trlab_segments.specs.declared.{phase.Phase.Phase, tickets.Drawer.Drawer, pool.brief.Brief.Brief}
use Rattle.trlab_segments.specs.declared.{tickets.Tickets.Tickets, pool.results.Results.Results}
use Rattle.trlab_segments.specs.Drawers.{IsDrawerOf, is_ended, passes_of, tickets_of, HasDrawnNone}
use Rattle.trlab_step.specs.Answers.{IsCrossingsPart, IsSpeedsPart}
use Rattle.trlab_verify.specs.Verified.{CheckedProgram}

-- Parts: the answers of a program for the cars of one segment of a road, and the parts that a worker returns.

-- a road on which a motion program can run: any road
abbrev pub IsAnyRoad : Cells → Type 0
IsAnyRoad road = Unit {0}

-- a road on which a change program can run: it has two lanes
abbrev pub HasTwoLanes : Cells → Type 0
HasTwoLanes road = length road.lanes ≡ 2

-- the ticket of a part, which is the number of its segment
abbrev pub ticket_of : {A : Type 0} → Part A → ℕ
ticket_of part = part.number

-- the part has the program's answers for the cars of its segment, if the cars of the road are cut into
-- `count` segments. `answers` is the relation of a program, dice and a road to its answers for the cars from
-- one index up to another, as `IsSpeedsPart`
abbrev pub AnswersSegment : {P A : Type 0} → (P → Dice → Cells → ℕ → ℕ → List A → Type 0)
    → P → Dice → Cells → ℕ → Part A → Type 0
AnswersSegment answers program dice road count part =
    let first = first_car (cars road) count in
    answers program dice road (first part.number) (first (part.number + 1)) part.answers.items

-- a part has the answers of the phase's program for the cars of its segment, with the dice and the road of
-- the phase. The last two arguments are the number of segments and the part; `answers` is as in
-- `AnswersSegment`
abbrev pub IsPartOfPhase : {P A : Type 0} → (P → Dice → Cells → ℕ → ℕ → List A → Type 0)
    → Phase P → ℕ → Part A → Type 0
IsPartOfPhase answers phase = AnswersSegment answers phase.program.now phase.dice.now phase.road.now

-- the drawer has found that no ticket is left, and `parts` has one part for each ticket that it drew, in the
-- same order; `Fits` holds for each part
pub record HasParts {A : Type 0} (Fits : Part A → Type 0) (drawer : Drawer)
    (parts : List (Part A)) : Type 0 where
  pub tickets : map ticket_of parts ≡ tickets_of drawer
  pub right : All Fits parts
  pub ended : is_ended drawer ≡ true

-- the outcome of a worker that had the drawer `old`: a drawer of the same tickets with as many passes, and
-- its parts, for each of which `Fits` holds; or an error instead of the parts, if an allocation failed
abbrev pub HasWorked : {A B E : Type 0} → (Part A → Type 0) → Tickets → Drawer
    → Drawer × Result (Vec (Part A) B) E → Type 0
HasWorked Fits tickets old outcome =
    IsDrawerOf tickets outcome.0 × (passes_of outcome.0 ≡ passes_of old)
    × IfOk outcome.1 (λ parts. HasParts Fits outcome.0 parts.items)

-- the part at this index of the list has this ticket
abbrev pub IsIndexOfTicket : {A : Type 0} → List (Part A) → ℕ → ℕ → Type 0
IsIndexOfTicket parts index ticket = slice_get (map ticket_of parts) index ≡ Some ticket

-- for each of `count` tickets, in order, the index of the part that has it
abbrev pub HasIndices : {A B : Type 0} → List (Part A) → ℕ → Vec ℕ B → Type 0
HasIndices parts count indices =
    (vec_len indices ≡ count)
    × ((ticket : ℕ) → ticket < count → IsIndexOfTicket parts (get_or indices.items ticket 0) ticket)

-- a call with precondition `pre` and postcondition `post` can be made on any road and, unless an allocation
-- fails, returns the speeds that the motion program answers for its cars, in standing order
abbrev pub ReturnsSpeeds : {A B E : Type 0} → (A → Bor Road → Bor CheckedProgram → Bor Dice → Type 0)
    → (A → Bor Road → Bor CheckedProgram → Bor Dice → Result (Vec ℕ B) E → Type 0) → Type 0
ReturnsSpeeds pre post = (alloc : _) (road : Bor Road) (motion : Bor CheckedProgram) (dice : Bor Dice)
    → pre alloc road motion dice
    × ((outcome : _) → post alloc road motion dice outcome
    → IfOk outcome (λ speeds. IsSpeedsPart motion.now dice.now road.now 0 (cars road.now) speeds.items))

-- a call with precondition `pre` and postcondition `post` can be made on any road of two lanes and, unless an
-- allocation fails, returns for each of its cars, in standing order, whether it crosses by the change program
abbrev pub ReturnsCrossings : {A B E : Type 0} → (A → Bor Road → Bor CheckedProgram → Bor Dice → Type 0)
    → (A → Bor Road → Bor CheckedProgram → Bor Dice → Result (Vec Bool B) E → Type 0) → Type 0
ReturnsCrossings pre post = (alloc : _) (road : Bor Road) (change : Bor CheckedProgram) (dice : Bor Dice)
    → HasTwoLanes road.now → pre alloc road change dice
    × ((outcome : _) → post alloc road change dice outcome
    → IfOk outcome (λ crosses. IsCrossingsPart change.now dice.now road.now 0 (cars road.now) crosses.items))

-- The results of a phase so far: the passes that no helper has taken, and the deposits of helpers, that is,
-- their drawers and their parts. `answers` is always the relation of a program, dice and a road to its
-- answers for the cars from one index up to another, as `IsSpeedsPart`.

-- the brief is to run this program with these dice for the cars of this road
abbrev pub IsBriefOf : {P : Type 0} → P → Dice → Cells → Brief P → Type 0
IsBriefOf program dice road brief = (brief.program ≡ program) × (brief.dice ≡ dice) × (brief.road ≡ road)

-- the last segment of a brief ends with the last car of its road
abbrev pub CoversAllCars : {P : Type 0} → Brief P → Type 0
CoversAllCars brief =
    first_car (cars brief.road) (ticket_count brief.tickets) (ticket_count brief.tickets) ≡ cars brief.road

-- a part has the answers of the brief's program for the cars of its segment
abbrev pub IsPartOfBrief : {P A : Type 0} → (P → Dice → Cells → ℕ → ℕ → List A → Type 0)
    → Brief P → Part A → Type 0
IsPartOfBrief answers brief =
    AnswersSegment answers brief.program brief.dice brief.road (ticket_count brief.tickets)

-- the drawer belongs to the brief's tickets and has found none left, and `parts` has the right part for each
-- ticket that it drew, in its order
abbrev pub HasDone : {P A : Type 0} → (P → Dice → Cells → ℕ → ℕ → List A → Type 0)
    → Brief P → Drawer → List (Part A) → Type 0
HasDone answers brief drawer parts =
    IsDrawerOf brief.tickets drawer × HasParts (IsPartOfBrief answers brief) drawer parts

-- the drawer belongs to the brief's tickets; and unless an allocation failed, it has found none left, and
-- there is the right part for each ticket that it drew
abbrev pub IsRightResult : {P A B E : Type 0} → (P → Dice → Cells → ℕ → ℕ → List A → Type 0)
    → Brief P → Drawer → Result (Vec (Part A) B) E → Type 0
IsRightResult answers brief drawer parts_or_error =
    IsDrawerOf brief.tickets drawer
    × IfOk parts_or_error (λ parts. HasParts (IsPartOfBrief answers brief) drawer parts.items)

-- the deposit of the helpers is right. With no drawer (`None`), no helper has deposited, and there are no
-- parts; otherwise the drawer and the parts are a right result. In both cases there may be an error instead
-- of the parts, if an allocation failed
abbrev pub IsDeposited : {P A B E : Type 0} → (P → Dice → Cells → ℕ → ℕ → List A → Type 0)
    → Brief P → Option Drawer → Result (Vec (Part A) B) E → Type 0
IsDeposited answers brief deposited parts_or_error =
    MatchOption deposited (IfOk parts_or_error (λ parts. parts.items ≡ []))
    (λ drawer. IsRightResult answers brief drawer parts_or_error)

-- the list `found` has the answers of the brief's program for all cars of its road, in standing order
abbrev pub AnswersAll : {P A : Type 0} → (P → Dice → Cells → ℕ → ℕ → List A → Type 0)
    → Brief P → List A → Type 0
AnswersAll answers brief found = answers brief.program brief.dice brief.road 0 (cars brief.road) found

-- the results of a phase so far are right: the brief's program can run on its road (`can_ask`), the drawer
-- with the passes in reserve, if there is one, has drawn no ticket, and the deposit is right
pub record AreResults {P A : Type 0} (answers : P → Dice → Cells → ℕ → ℕ → List A → Type 0)
    (can_ask : Cells → Type 0) (brief : Brief P) (results : Results A) : Type 0 where
  pub lanes : can_ask brief.road
  pub reserve : IfSome results.reserve (HasDrawnNone brief.tickets)
  pub done : IsDeposited answers brief results.done results.parts

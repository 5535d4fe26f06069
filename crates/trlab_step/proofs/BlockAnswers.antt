-- The answers of the cars of a block, which are appended to the answers before them.
use Rattle.std.proofs.Common.{◌≡◌, ◌∙◌, ℕ, ◌+◌, ◌%◌, ◌<◌, ◌≤◌, List, ◌++◌, Bool, false, length, take, get_or}
use Rattle.std.proofs.Common.{get_or-take, length-take, sym, subst, arith, slice_index, slice_index_or}
use Rattle.trlab_bounds.specs.declared.roads.TheConstants.{MAX_LIMIT}
use Rattle.trlab_code.specs.declared.program.Kind.TheVariants.{Motion, Change}
use Rattle.trlab_machine.specs.declared.{dice.Dice.Dice, views.Views.Views}
use Rattle.trlab_machine.specs.Blocks.{CrossesWith, MovesWith, car_words, view_of}
use Rattle.trlab_road.specs.Cells.{Cells}
use Rattle.trlab_step.specs.Answers.{AnswersCrossing, AnswersCrossingsPart, AnswersSpeed, AnswersSpeedsPart}
use Rattle.trlab_step.specs.Answers.{CrossingsFitPart, SpeedsFitPart, DescribesCar}
use Rattle.trlab_step.proofs.{AskedCars.{CrossesBy, GoesBy, crosses_by, goes_by}, PartLaws.more_answers}
use Rattle.trlab_step.proofs.Parts.{more_fits, more_free}
use Rattle.trlab_verify.specs.Verified.{CheckedProgram}

-- the first cars of a block
module _ {n : ℕ} (size : ℕ) (few : size ≤ n) where
  inside : {X : Type 0} (all : List X) (j : ℕ) → j < length (take size all) → j < size
  inside all j below = let short = length-take size all in omega (arith, short, below)

  near : (j : ℕ) → j < size → j < n
  near j low = omega (arith, low, few)

  module _ (program : CheckedProgram) (dice : Dice) (road : Cells) (begin : ℕ) (views : Views n) (many : views.cars ≡ size) where
    -- a speed within the limit that a view shows is its own lowest byte
    byte_same : (speed limit : ℕ) → speed ≤ limit → limit ≤ MAX_LIMIT → speed % 256 ≡ speed
    byte_same speed limit within low = omega (arith, within, low)

    -- the speeds of a block, one byte each, are those of its cars
    pub block_goes : (column bytes : List ℕ) → ((j : ℕ) → j < size → DescribesCar Motion road (begin + j) (view_of views j) (slice_index views.number j))
        → ((j : ℕ) → j < n → j < views.cars → MovesWith program.program.instrs (view_of views j) (car_words dice views j) program.budget (slice_index column j))
        → ((j : ℕ) → j < n → slice_index bytes j ≡ slice_index column j % 256)
        → (j : ℕ) → j < length (take size bytes) → GoesBy program dice road (begin + j) (get_or (take size bytes) j 0)
    block_goes column bytes asked moves low j below =
        let first = inside bytes j below in
        let seen = asked j first in
        let moved = moves j (near j first) (rw many first) in
        let same = byte_same (slice_index column j) (view_of views j).limit moved.allowed.limit seen.is_view.limit in
        let is = get_or-take size bytes j 0 first ∙ low j (near j first) ∙ same in
        subst (GoesBy program dice road (begin + j)) (sym is) (goes_by program dice road (begin + j) (view_of views j) (slice_index views.number j) (slice_index column j) seen moved)

    -- which cars of a block change lanes
    pub block_crosses : (flags : List Bool) → ((j : ℕ) → j < size → DescribesCar Change road (begin + j) (view_of views j) (slice_index views.number j))
        → ((j : ℕ) → j < n → j < views.cars → CrossesWith program.program.instrs (view_of views j) (car_words dice views j) program.budget (slice_index_or flags j false))
        → (j : ℕ) → j < length (take size flags) → CrossesBy program dice road (begin + j) (get_or (take size flags) j false)
    block_crosses flags asked chooses j below =
        let first = inside flags j below in
        let seen = asked j first in
        let chosen = chooses j (near j first) (rw many first) in
        subst (CrossesBy program dice road (begin + j)) (sym (get_or-take size flags j false first))
        (crosses_by program dice road (begin + j) (view_of views j) (slice_index views.number j) (slice_index_or flags j false) seen chosen)

module _ (program : CheckedProgram) (dice : Dice) (road : Cells) (from middle to : ℕ) where
  -- the speeds of a part, and of a block after it
  module _ (speeds block : List ℕ) (end : middle + length block ≡ to) (goes : (k : ℕ) → k < length block → GoesBy program dice road (middle + k) (get_or block k 0)) where
    pub more_speeds : AnswersSpeedsPart program dice road from middle speeds → AnswersSpeedsPart program dice road from to (speeds ++ block)
    more_speeds part =
        subst (λ m. AnswersSpeedsPart program dice road from m (speeds ++ block)) end
        (more_answers 0 (AnswersSpeed program dice road) road from middle speeds block part (λ k car below here. (goes k below).answer car here))

    pub more_fit : AnswersSpeedsPart program dice road from middle speeds → SpeedsFitPart road from speeds → SpeedsFitPart road from (speeds ++ block)
    more_fit part fits = more_fits road from middle speeds block part.one_each fits (λ k below. (goes k below).gap) (λ k below. (goes k below).limit)

  -- the lane changes of a part, and of a block after it
  module _ (crosses block : List Bool) (end : middle + length block ≡ to) (goes : (k : ℕ) → k < length block → CrossesBy program dice road (middle + k) (get_or block k false)) where
    pub more_crossings : AnswersCrossingsPart program dice road from middle crosses → AnswersCrossingsPart program dice road from to (crosses ++ block)
    more_crossings part =
        subst (λ m. AnswersCrossingsPart program dice road from m (crosses ++ block)) end
        (more_answers false (AnswersCrossing program dice road) road from middle crosses block part (λ k car below here. (goes k below).answer car here))

    pub more_are_free : AnswersCrossingsPart program dice road from middle crosses → CrossingsFitPart road from crosses → CrossingsFitPart road from (crosses ++ block)
    more_are_free part free = more_free road from middle crosses block part.one_each free (λ k below. (goes k below).side)

use Rattle.std.proofs.Common.{◌≡◌, ℕ, ◌<◌, List, slice_index}
use Rattle.rand_chacha.specs.Block.{column_round, double_rounds}
use Rattle.trlab_words.specs.States.{with_car, car_column, state_in}
use Rattle.trlab_words.proofs.block.block_word_of_cars.Given as goal

abbrev pub invariant-rounds : goal.invariant-rounds
invariant-rounds l =
    (j : ℕ) → j < 8 → (first : List ℕ)
    → column_round first ≡ car_column (with_car l.start.columns (slice_index l.cars j))
    → state_in j l.x ≡ double_rounds l._round first

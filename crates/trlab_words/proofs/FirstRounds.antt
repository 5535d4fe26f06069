-- The first column round of a block, done in two parts.
use Rattle.std.proofs.Common.{◌≡◌, ℕ, ◌<◌, ◌+◌, ◌*◌, ◌/◌, ◌%◌, ◌^◌, List, slice_index, ◌≢◌, arith, refl}
use Rattle.rand_chacha.specs.Block.{column_round, initial_state}
use Rattle.trlab_words.specs.States.{with_car, step_state, shared_columns, car_column}
use Rattle.trlab_words.proofs.LaneLemmas.{below_sixteen}

-- the words other than that of the car do not change
pub slice_index-with_car : (x : List ℕ) (car k : ℕ) → k < 16 → k ≢ 14
    → slice_index x k ≡ slice_index (with_car x car) k
slice_index-with_car x car =
    below_sixteen (λ k. k ≢ 14 → slice_index x k ≡ slice_index (with_car x car) k)
    (λ n. refl) (λ n. refl) (λ n. refl) (λ n. refl) (λ n. refl) (λ n. refl) (λ n. refl) (λ n. refl)
    (λ n. refl) (λ n. refl) (λ n. refl) (λ n. refl) (λ n. refl) (λ n. refl) (λ n. absurd (omega (arith, n))) (λ n. refl)

module _ (key : List ℕ) (road step car : ℕ) (small : car < 2 ^ 32) where
  high : road * 2 ^ 32 / 2 ^ 32 ≡ road
  high = omega arith

  low_of_both : (road * 2 ^ 32 + car) % 2 ^ 32 ≡ car
  low_of_both = omega (arith, small)

  high_of_both : (road * 2 ^ 32 + car) / 2 ^ 32 ≡ road
  high_of_both = omega (arith, small)

  -- the state that a car's block begins with
  pub started : with_car (step_state key road step) car ≡ initial_state key step (road * 2 ^ 32 + car)
  started = rw (high, low_of_both, high_of_both) refl

  -- both parts of the first column round
  pub both_parts : car_column (with_car (shared_columns (step_state key road step)) car)
      ≡ column_round (initial_state key step (road * 2 ^ 32 + car))
  unfolding shared_columns car_column column_round
  both_parts = rw (high, low_of_both, high_of_both) refl

use Rattle.std.proofs.Common.{◌≡◌, ℕ, suc, ◌+◌, ◌*◌, ◌^◌, ◌<◌, List, refl, sym, ap, ap₂, slice_index, ◌∙◌}
use Rattle.std.proofs.Common.{arith, add-one}
use Rattle.rand_chacha.specs.Block.{add32, column_round, diagonal_round, double_rounds, block_word}
use Rattle.rand_chacha.specs.Block.{initial_state}
use Rattle.trlab_words.{specs.States.{with_car, car_column}, proofs.FirstRounds.{started, both_parts}}
use Rattle.trlab_words.proofs.block.block_word_of_cars.Goals as goal

pub rounds-init : goal.rounds-init
unfolding double_rounds
rounds-init c j h first is_first =
    c.diagonal_round-x.ensures j h
    ∙ ap diagonal_round (c.car_column.ensures j h ∙ ap car_column (c.with_cars.ensures.states j h) ∙ sym is_first)

pub rounds-preserved : goal.rounds-preserved
unfolding double_rounds
rounds-preserved c j h first is_first =
    rw add-one (c.diagonal_round-x-in-rounds.ensures j h
    ∙ ap diagonal_round (c.column_round.ensures j h ∙ ap column_round (c.rounds.invariant j h first is_first)))

-- the last double round
one_more_round : (n : ℕ) (x : List ℕ) → diagonal_round (column_round (double_rounds n x)) ≡ double_rounds (suc n) x
unfolding double_rounds
one_more_round n x = refl

pub returns : goal.returns
unfolding block_word
returns c key starts j lane =
    let k = c.args.k in
    let road = c.args.start.now.road in
    let step = c.args.start.now.step in
    let car = slice_index c.args.cars j in
    let small : car < 2 ^ 32 = c.with_cars.ensures.cars j lane in
    let first = initial_state key step (road * 2 ^ 32 + car) in
    let is_first = sym (ap (λ x. car_column (with_car x car)) starts.1 ∙ both_parts key road step car small) in
    let done : c.rounds._round ≡ 9 = omega arith in
    let before = c.rounds.invariant j lane first is_first ∙ ap (λ n. double_rounds n first) done in
    let last = c.column_round-2.ensures j lane ∙ ap column_round before in
    c.add.ensures j lane
    ∙ ap₂ add32
    (c.diagonal_word.ensures j lane ∙ ap (λ x. slice_index x k) (ap diagonal_round last ∙ one_more_round 9 _))
    (c.initial_word.ensures j lane ∙ ap (λ x. slice_index x k) (ap (λ x. with_car x car) starts.0 ∙ started key road step car small))

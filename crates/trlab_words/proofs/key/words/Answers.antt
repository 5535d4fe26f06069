use Rattle.std.proofs.{Common.{◌≡◌, ◌≤◌, length, arith, rules}, lemmas.List.FromFn.fill_by_all}
use Rattle.trlab_words.specs.Words.{random_words, random_word}
use Rattle.trlab_words.proofs.key.words.Goals as goal

pub returns : goal.returns
unfolding random_words
returns c =
    let all : length c.loop-word.word-items ≡ 16 = search rules in
    let done : 16 ≤ c.loop-word.word-index = omega arith in
    fill_by_all (random_word c.args.key.now.0 c.args.road c.args.car c.args.step) _ 16 0 all (λ k below. c.loop-word.invariant.so_far k (omega arith))

pub loop-word-init : goal.loop-word-init
loop-word-init c = search rules

use Rattle.std.proofs.Common.{◌≡◌, ◌+◌, ◌*◌, ◌/◌, ◌%◌, arith}
use Rattle.trlab_words.proofs.KeyBytes.{key_of-seed_of}
use Rattle.trlab_words.proofs.key.word_of_cars.Goals as goal

pub returns-then-key-step : goal.returns-then-key-step
returns-then-key-step c j lane =
    let block : (16 * c.args.step + c.args.k) / 16 ≡ c.args.step = omega (arith, c.requires) in
    let word : (16 * c.args.step + c.args.k) % 16 ≡ c.args.k = omega (arith, c.requires) in
    let key = key_of-seed_of c.key.inside.key_words c.key.told c.key.invariant.0 in
    rw (block, word, ← c.key.view_is, key, ← c.if-key-road.true, ← c.if-key-step.true)
    (c.block_word_of_cars.ensures c.key.inside.key_words c.key.invariant.1 j lane)

pub returns-else-key-road : goal.returns-else-key-road
returns-else-key-road c j lane =
    let block : (16 * c.args.step + c.args.k) / 16 ≡ c.args.step = omega (arith, c.requires) in
    let word : (16 * c.args.step + c.args.k) % 16 ≡ c.args.k = omega (arith, c.requires) in
    let key = key_of-seed_of c.key.inside.key_words c.key.told c.key.invariant.0 in
    rw (block, word, ← c.key.view_is, key, ← c.new.ensures.road, ← c.new.ensures.step)
    (c.block_word_of_cars-else-key-road.ensures c.key.inside.key_words
    (rw (c.new.ensures.road, c.new.ensures.step) c.new.ensures.starts) j lane)

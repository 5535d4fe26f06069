use Rattle.std.proofs.{Common.rules, lemmas.Simd.get_or-replicate}
use Rattle.trlab_words.proofs.LaneLemmas.{below_eight}
use Rattle.trlab_words.proofs.block.splat_with_cars.Goals as goal

pub returns-clause-words : goal.returns-clause-words
returns-clause-words c j h =
    rw (c.bytes_of.ensures j h, get_or-replicate 8 j c.args.a 0 h, get_or-replicate 8 j c.args.b 0 h, get_or-replicate 8 j c.args.c 0 h)

pub returns-clause-cars : goal.returns-clause-cars
returns-clause-cars c = below_eight _ (search rules) (search rules) (search rules) (search rules) (search rules) (search rules) (search rules) (search rules)

use Rattle.std.proofs.lemmas.Simd.{get_or-replicate}
use Rattle.trlab_words.proofs.block.splat.Goals as goal

pub returns : goal.returns
returns c j h =
    rw (c.bytes_of.ensures j h, get_or-replicate 8 j c.args.a 0 h, get_or-replicate 8 j c.args.b 0 h, get_or-replicate 8 j c.args.c 0 h, get_or-replicate 8 j c.args.d 0 h)

use Rattle.trlab_words.proofs.KeyBytes.{seed_of-key_of}
use Rattle.trlab_words.proofs.key.read_key_words.Goals as goal

pub returns-clause-bytes : goal.returns-clause-bytes
returns-clause-bytes c =
    rw (
      c.read_u32.ensures,
      c.read_u32-2.ensures,
      c.read_u32-3.ensures,
      c.read_u32-4.ensures,
      c.read_u32-5.ensures,
      c.read_u32-6.ensures,
      c.read_u32-7.ensures,
      c.read_u32-8.ensures,
    ) (seed_of-key_of c.args.bytes.now c.requires (λ k. (c.type_inv.bytes k).fits))

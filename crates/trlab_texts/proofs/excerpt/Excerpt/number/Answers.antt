use Rattle.std.proofs.Common.{rules}
use Rattle.trlab_texts.proofs.excerpt.Excerpt.number.Goals as goal

pub not_a_number-requires : goal.not_a_number-requires
not_a_number-requires c = search rules

use Rattle.std.proofs.Common.{rules}
use Rattle.trlab_words.proofs.key.PreparedKey.copy.Goals as goal

pub returns : goal.returns
returns c = search rules

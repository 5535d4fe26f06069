use Rattle.std.proofs.Common.{rules}
use Rattle.trlab_texts.proofs.program.accepted.Goals as goal

pub new-requires : goal.new-requires
new-requires g c = search rules

use Rattle.std.proofs.Common.{append_assoc, rules}
use Rattle.trlab_explain.proofs.repair.edited.Goals as goal

pub returns : goal.returns
returns c = search (rules, append_assoc)

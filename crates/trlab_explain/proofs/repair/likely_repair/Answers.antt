use Rattle.std.proofs.Common.{rules}
use Rattle.trlab_explain.proofs.repair.likely_repair.Goals as goal

pub returns-then-branch : goal.returns-then-branch
returns-then-branch c = search rules

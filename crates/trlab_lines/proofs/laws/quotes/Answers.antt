use Rattle.std.proofs.Common.{rules}
use Rattle.trlab_lines.proofs.laws.quotes.Goals as goal

pub returns : goal.returns
returns c = search rules

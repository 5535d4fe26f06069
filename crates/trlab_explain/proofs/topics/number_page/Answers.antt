use Rattle.std.proofs.Common.{rules}
use Rattle.trlab_explain.proofs.topics.number_page.Goals as goal

pub returns : goal.returns
returns c = search rules

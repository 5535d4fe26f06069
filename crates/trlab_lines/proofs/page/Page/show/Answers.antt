use Rattle.std.proofs.Common.{rules}
use Rattle.trlab_lines.proofs.page.Page.show.Goals as goal

pub push-requires : goal.push-requires
push-requires c = search rules

use Rattle.std.proofs.Common.{rules}
use Rattle.trlab_texts.proofs.rest.Rest.start.Goals as goal

pub returns : goal.returns
returns c = search rules

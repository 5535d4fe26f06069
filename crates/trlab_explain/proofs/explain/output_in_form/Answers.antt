use Rattle.std.proofs.Common.{rules}
use Rattle.trlab_explain.proofs.explain.output_in_form.Goals as goal

pub returns-clause-head : goal.returns-clause-head
returns-clause-head c = search rules

use Rattle.std.proofs.Common.{rules}
use Rattle.trlab_explain.proofs.explain.write_explanation.Goals as goal

pub returns-in-Err-clause-answer : goal.returns-in-Err-clause-answer
returns-in-Err-clause-answer c = search rules

use Rattle.std.proofs.Common.{rules}
use Rattle.trlab_words.proofs.step_start.initial_state.Goals as goal

pub returns : goal.returns
returns c = search rules

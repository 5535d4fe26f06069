use Rattle.trlab_words.specs.States.{shared_columns}
use Rattle.trlab_words.proofs.step_start.shared_columns.Goals as goal

pub returns : goal.returns
unfolding shared_columns
returns c =
    rw (
      ← c.quarter_round-a0.ensures,
      ← c.quarter_round-a1.ensures,
      ← c.quarter_round-a3.ensures,
    )

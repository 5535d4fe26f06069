use Rattle.trlab_words.specs.States.{car_column}
use Rattle.trlab_words.proofs.block.car_column.Goals as goal

pub returns : goal.returns
unfolding car_column
returns c j h = rw (← c.quarter_round_on.ensures j h)

use Rattle.std.proofs.{Common.arith, lemmas.Grind.common_steps}
use Rattle.trlab_jobs.proofs.lane.second_lane.Goals as goal

pub returns-in_err-picture : goal.returns-in_err-picture
returns-in_err-picture c = grind (arith, common_steps)

pub returns-in_ok-picture : goal.returns-in_ok-picture
returns-in_ok-picture c = grind (arith, common_steps)

pub returns-else-next_word_is : goal.returns-else-next_word_is
returns-else-next_word_is c = grind (arith, common_steps)

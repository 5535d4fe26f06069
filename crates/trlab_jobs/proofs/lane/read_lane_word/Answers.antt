use Rattle.trlab_jobs.proofs.lane.read_lane_word.Goals as goal

pub returns : goal.returns
returns c = rw (c.name_and_space.ensures, c.of.ensures) at c.word_after.ensures

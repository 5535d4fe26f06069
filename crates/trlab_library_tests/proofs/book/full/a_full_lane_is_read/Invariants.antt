use Rattle.trlab_strands.specs.Tokens.{name_of}
use Rattle.trlab_library_tests.proofs.book.full.a_full_lane_is_read.Given as goal

abbrev pub ghosts-has_full_lane : goal.ghosts-has_full_lane
ghosts-has_full_lane g a = record { name = name_of a.blank }

use Rattle.trlab_strands.specs.Tokens.{name_of}
use Rattle.trlab_library_tests.proofs.book.full.a_full_history_closes.Given as goal

abbrev pub ghosts-has_full_history : goal.ghosts-has_full_history
ghosts-has_full_history g a = record { name = name_of a.blank }

use Rattle.trlab_strands.specs.Tokens.{name_of}
use Rattle.trlab_library_tests.proofs.book.desks.four_threads_call_one_book.Given as goal

abbrev pub ghosts-four_threads : goal.ghosts-four_threads
ghosts-four_threads g a = record { name = name_of a.blank }

use Rattle.trlab_strands.specs.Tokens.{name_of}
use Rattle.trlab_library_tests.proofs.book.desks.a_book_that_does_not_close_stays_as_it_was.Given as goal

abbrev pub ghosts-needs_both_desks : goal.ghosts-needs_both_desks
ghosts-needs_both_desks g a = record { name = name_of a.blank }

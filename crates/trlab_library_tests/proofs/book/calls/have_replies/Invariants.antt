use Rattle.trlab_strands.specs.Tokens.{name_of}
use Rattle.trlab_library_tests.proofs.book.calls.have_replies.Given as goal

abbrev pub ghosts-have_replies_in : goal.ghosts-have_replies_in
ghosts-have_replies_in g a = record { name = name_of a.blank }

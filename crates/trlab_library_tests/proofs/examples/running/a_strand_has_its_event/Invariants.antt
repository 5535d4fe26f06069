use Rattle.trlab_strands.specs.Tokens.{name_of}
use Rattle.trlab_library_tests.proofs.examples.running.a_strand_has_its_event.Given as goal

abbrev pub ghosts-note : goal.ghosts-note
ghosts-note g a = record { name = name_of a.blank }

use Rattle.trlab_strands.specs.Tokens.{name_of}
use Rattle.trlab_library_tests.proofs.book.gates.a_lease_ends_while_its_runner_is_held.Given as goal

abbrev pub ghosts-is_refused_once : goal.ghosts-is_refused_once
ghosts-is_refused_once g a = record { name = name_of a.blank }

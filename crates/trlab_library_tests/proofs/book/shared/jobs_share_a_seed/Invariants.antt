use Rattle.trlab_strands.specs.Tokens.{name_of}
use Rattle.trlab_library_tests.proofs.book.shared.jobs_share_a_seed.Given as goal

abbrev pub ghosts-has_both : goal.ghosts-has_both
ghosts-has_both g a = record { name = name_of a.blank }

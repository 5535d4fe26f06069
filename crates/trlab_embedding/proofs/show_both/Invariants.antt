use Rattle.trlab_strands.specs.Tokens.{name_of}
use Rattle.trlab_embedding.proofs.show_both.Given as goal

abbrev pub ghosts-share : goal.ghosts-share
ghosts-share g a = record { name = name_of a.blank }

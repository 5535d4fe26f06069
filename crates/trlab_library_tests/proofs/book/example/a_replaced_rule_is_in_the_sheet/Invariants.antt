use Rattle.trlab_strands.specs.Tokens.{name_of}
use Rattle.trlab_library_tests.proofs.book.example.a_replaced_rule_is_in_the_sheet.Given as goal

abbrev pub ghosts-is_in_the_sheet : goal.ghosts-is_in_the_sheet
ghosts-is_in_the_sheet g a = record { name = name_of a.blank }

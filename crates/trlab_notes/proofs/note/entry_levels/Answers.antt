use Rattle.std.proofs.Common.{◌∙◌, [], ap, map, get_or, refl}
use Rattle.trlab_code.specs.Machine.{variable_number}
use Rattle.trlab_notes.{specs.Notes.entry_level, proofs.Variables.{variables, at_variable}}
use Rattle.trlab_notes.proofs.note.entry_levels.Goals as goal

pub returns : goal.returns
returns c = λ x y.
    ap (λ row. get_or row (variable_number y) 0) (at_variable (λ z. map (entry_level z) variables) [] _ refl x)
    ∙ at_variable (entry_level x) 0 _ refl y

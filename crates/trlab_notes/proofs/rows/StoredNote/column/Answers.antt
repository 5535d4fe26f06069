use Rattle.std.proofs.Common.{◌∙◌, ap, sym}
use Rattle.trlab_code.specs.Machine.{variable_number}
use Rattle.trlab_notes.{specs.Rows.level_of, proofs.{Variables.below, Tables.known_is}}
use Rattle.trlab_notes.proofs.rows.StoredNote.column.Goals as goal

pub returns : goal.returns
returns c =
    let a = c.args.self.now in
    λ x. ap (λ k. level_of a.columns k (variable_number x)) c.number.ensures.value ∙ a.transposed (variable_number x) (variable_number c.args.variable) (below x) (below c.args.variable) ∙ sym (known_is a.values a.rows a.side a.ranges x c.args.variable)

use Rattle.std.proofs.Common.{◌∙◌, ap, sym}
use Rattle.trlab_code.specs.Machine.{variable_number}
use Rattle.trlab_notes.{specs.Rows.level_of, proofs.Tables.known_is}
use Rattle.trlab_notes.proofs.rows.StoredNote.row.Goals as goal

pub returns : goal.returns
returns c = let a = c.args.self.now in λ y. ap (λ k. level_of a.rows k (variable_number y)) c.number.ensures.value ∙ sym (known_is a.values a.rows a.side a.ranges c.args.variable y)

use Rattle.std.proofs.Common.{◌∙◌, subst, sym}
use Rattle.trlab_notes.specs.Notes.{entry}
use Rattle.trlab_verify.{specs.Tables.HasInputRanges, proofs.Inputs.{entry_shows, closure_shows}}
use Rattle.trlab_verify.proofs.Forms.{first_is}
use Rattle.trlab_verify.proofs.note.first_note.Goals as goal

pub write-note-requires : goal.write-note-requires
write-note-requires c = subst (HasInputRanges c.args.kind) (sym c.entry.ensures) (closure_shows c.args.kind (entry c.args.kind) (entry_shows c.args.kind))

pub returns : goal.returns
returns c = first_is c.args.kind c.write-note.result c.entry_levels-levels.result (c.write-note.ensures ∙ c.entry.ensures) c.entry_levels-levels.ensures

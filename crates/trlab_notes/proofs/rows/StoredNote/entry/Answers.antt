use Rattle.std.proofs.Common.{◌∙◌}
use Rattle.trlab_notes.proofs.Tables.{entry_is, entry_fits}
use Rattle.trlab_notes.proofs.rows.StoredNote.entry.Goals as goal

pub returns : goal.returns
returns c = c.new.ensures ∙ entry_is c.args.kind c.entry_values.result c.entry_levels.result c.entry_values.ensures c.entry_levels.ensures

pub new-requires : goal.new-requires
new-requires c = entry_fits c.entry_values.result c.entry_levels.result c.entry_levels.ensures

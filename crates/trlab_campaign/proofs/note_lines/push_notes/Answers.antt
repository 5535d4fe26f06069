use Rattle.trlab_campaign.proofs.NoteTables.{notes_put}
use Rattle.trlab_campaign.proofs.note_lines.push_notes.Goals as goal

pub returns-in-Ok : goal.returns-in-Ok
returns-in-Ok c =
    let put = rw c.deref.ensures.value at c.push_table.ensures in
    notes_put c.push_table.result c.args.code.now c.in-Ok.table.items c.args.out.now.items c.push_table.new.out.items c.in-Ok.ensures.best put

use Rattle.std.proofs.Common.{◌++◌, refl, decimal, codes}
use Rattle.trlab_verify.specs.Tables.{meaning}
use Rattle.trlab_campaign.{specs.CheckOutput.{registers_text, side_text}, proofs.NoteTables.note_put}
use Rattle.trlab_campaign.proofs.note_lines.push_note.Goals as goal

pub returns : goal.returns
returns c = λ kind.
    let head = codes "note " ++ decimal c.args.pc in
    let end = rw c.line_end.ensures at c.extend_from_slice.ensures.items in
    note_put c.extend_from_slice.result c.args.pc (registers_text (meaning kind c.args.note.now)) (side_text c.args.note.now.side) head c.args.out.now.items
    c.push_text.new.out.items c.push_registers.new.out.items c.extend_from_slice.new.self.items refl (c.in_ok-push_text.ensures head c.format-head.ensures.ok) (c.in_ok-push_registers.ensures kind) end

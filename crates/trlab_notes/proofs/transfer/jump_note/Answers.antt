use Rattle.std.proofs.Common.{rules}
use Rattle.trlab_notes.proofs.transfer.jump_note.Goals as goal

pub returns-in-JumpLess : goal.returns-in-JumpLess
returns-in-JumpLess c = search rules

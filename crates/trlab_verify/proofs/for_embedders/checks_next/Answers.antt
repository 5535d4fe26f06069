use Rattle.std.proofs.Common.{suc, add-one, arith}
use Rattle.trlab_notes.specs.{Stored.note_of, Transfer.next_note}
use Rattle.trlab_verify.{specs.Tables.meaning_at, proofs.Forms.{sent_in, sent_out}}
use Rattle.trlab_verify.proofs.for_embedders.checks_next.Goals as goal

pub returns-in-Some : goal.returns-in-Some
returns-in-Some c =
    let l = meaning_at c.args.kind c.args.table.now (suc c.args.pc) in
    let o = next_note (note_of c.args.note.now) c.args.instr in
    let within = rw add-one at c.is_within.ensures in (
      λ e lt. sent_in l o (note_of c.in-Some.falling) c.in-Some.ensures (within.0 e),
      λ h. within.1 (sent_out l o (note_of c.in-Some.falling) c.in-Some.ensures (h (let lt = c.if-next-table.false in omega (arith, lt)))),
    )

use Rattle.trlab_notes.proofs.{Tables.trust_is, rows.StoredNote.refine_flag.Goals.{then-self, else-self}}
use Rattle.trlab_notes.proofs.rows.StoredNote.refine_flag.Goals as goal

pub returns : goal.returns
returns c = trust_is c.args.self.now c.args.register c.if-self.result (elim c.if-self.branch [
  | then-self w ↦ cc (w.result-is, w.if-self.true)
  | else-self w ↦ cc (w.result-is, w.if-self.false, w.implies.ensures, w.register_value.ensures)
])

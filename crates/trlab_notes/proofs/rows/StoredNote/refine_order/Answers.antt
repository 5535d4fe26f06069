use Rattle.trlab_notes.proofs.Tables.{learn_is, learn_tells, learn_back}
use Rattle.trlab_notes.proofs.rows.StoredNote.refine_order.Goals as goal

pub invariant_of-result : goal.invariant_of-result
invariant_of-result c = record {
  ranges = learn_tells c.args.self.now c.number.result c.number-2.result c.args.level c.refine_rows.result c.number.ensures.in_range c.number-2.ensures.in_range c.refine_rows.ensures;
  transposed = learn_back c.args.self.now c.number.result c.number-2.result c.args.level c.refine_rows.result c.refine_rows-2.result c.refine_rows.ensures c.refine_rows-2.ensures;
}

pub returns : goal.returns
returns c = learn_is c.args.self.now c.number.result c.number-2.result c.args.level c.refine_rows.result c.number.ensures.in_range c.number-2.ensures.in_range c.refine_rows.ensures c.args.p c.args.q c.number.ensures.value c.number-2.ensures.value

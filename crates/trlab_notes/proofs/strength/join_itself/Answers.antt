use Rattle.trlab_notes.proofs.Tables.{join_itself_is, join_itself_tells}
use Rattle.trlab_notes.proofs.strength.join_itself.Goals as goal

pub invariant_of-result : goal.invariant_of-result
invariant_of-result c = record {
  ranges = join_itself_tells c.args.note.now c.join_variables.result c.join_variables.ensures;
  transposed = c.args.note.now.transposed;
}

pub returns : goal.returns
returns c = join_itself_is c.args.note.now c.join_variables.result c.join_variables.ensures

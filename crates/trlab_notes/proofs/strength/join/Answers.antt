use Rattle.trlab_notes.proofs.{Tables.{join_is, join_tells, join_back}, strength.join.Goals.{then-a, else-a}}
use Rattle.trlab_notes.proofs.strength.join.Goals as goal

pub invariant_of-result : goal.invariant_of-result
invariant_of-result c = record {
  ranges = join_tells c.args.a.now c.args.b.now c.join_variables.result c.join_rows.result c.join_variables.ensures c.join_rows.ensures;
  transposed = join_back c.args.a.now c.args.b.now c.join_rows.result c.join_rows-2.result c.join_rows.ensures c.join_rows-2.ensures;
}

pub returns : goal.returns
returns c =
    let a = c.args.a.now in
    let b = c.args.b.now in
    join_is a b c.join_variables.result c.join_rows.result c.if-a.result c.join_variables.ensures c.join_rows.ensures (elim c.if-a.branch [
      | then-a w ↦ cc (w.result-is, w.if-a.true)
      | else-a w ↦ cc (w.result-is, w.if-a.false)
    ])

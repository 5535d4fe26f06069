use Rattle.std.proofs.Common.{nat_eq, get_or, rules}
use Rattle.trlab_notes.specs.{declared.note.AbstractValue.TheVariants.Unknown, Notes.level_between}
use Rattle.trlab_notes.{specs.Rows.level_in, proofs.Filling.more_variables}
use Rattle.trlab_notes.proofs.result.known_row_and_column.Goals as goal

pub loop-x-preserved : goal.loop-x-preserved
loop-x-preserved c = let values = c.args.values.now in record {
  to = more_variables (λ k. level_between (get_or values c.args.variable Unknown) (get_or values k Unknown) (nat_eq c.args.variable k) (level_in c.args.to k))
      c.with-row.result c.loop-x.row c.loop-x.x c.level_between.result c.with-row.ensures c.loop-x-test.true (search rules) c.loop-x.invariant.to;
  from = more_variables (λ k. level_between (get_or values k Unknown) (get_or values c.args.variable Unknown) (nat_eq k c.args.variable) (level_in c.args.from k))
      c.with-column.result c.loop-x.column c.loop-x.x c.level_between-in-loop-x.result c.with-column.ensures c.loop-x-test.true (search rules) c.loop-x.invariant.from;
}

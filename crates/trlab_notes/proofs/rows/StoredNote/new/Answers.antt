use Rattle.std.proofs.Common.{[], get_or}
use Rattle.trlab_notes.proofs.Tables.{new_is, rows_tell}
use Rattle.trlab_notes.proofs.rows.StoredNote.new.Goals as goal

pub invariant_of-result : goal.invariant_of-result
invariant_of-result c = record {
  ranges = rows_tell c.args.values c.known_rows-rows.result (λ x y. get_or (get_or c.args.levels.now x []) y 0) c.known_rows-rows.ensures;
  transposed = c.columns.ensures;
}

pub returns : goal.returns
returns c = new_is c.args.values c.known_rows-rows.result (λ x y. get_or (get_or c.args.levels.now x []) y 0) c.args.side c.known_rows-rows.ensures

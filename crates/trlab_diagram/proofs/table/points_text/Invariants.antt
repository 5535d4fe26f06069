use Rattle.std.proofs.Common.{◌≡◌, ◌++◌, take, false}
use Rattle.csv.specs.Writing.{default_writer, fields_written, has_written, writer_pending, writer_setup}
use Rattle.csv.specs.Writing.{writer_under}
use Rattle.trlab_diagram.specs.Tables.{points_text}
use Rattle.trlab_diagram.proofs.table.points_text.Given as goal

abbrev pub invariant-loop-point : goal.invariant-loop-point
invariant-loop-point l = record {
  setup : writer_setup l.writer ≡ default_writer;
  fields : fields_written l.writer ≡ 0;
  wrote : has_written l.writer ≡ false;
  text : (writer_under l.writer).items ++ writer_pending l.writer ≡ points_text (take l.point-index l.points);
}

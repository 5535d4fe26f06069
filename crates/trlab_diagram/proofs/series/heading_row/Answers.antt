use Rattle.std.proofs.Common.{◌≡◌, arith}
use Rattle.csv.specs.Records.{fields_of}
use Rattle.trlab_diagram.proofs.Rows.{series_columns, series_row}
use Rattle.trlab_diagram.proofs.series.heading_row.Goals as goal

pub returns : goal.returns
returns c =
    let all : c.loop-name.name-index ≡ 14 = omega (arith, c.loop-name-test.false, c.loop-name.auto.name-index-end) in
    let fields : fields_of c.loop-name.row ≡ series_columns = rw all at c.loop-name.invariant.fields in
    rw fields series_row

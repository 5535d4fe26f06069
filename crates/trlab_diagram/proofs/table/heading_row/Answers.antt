use Rattle.std.proofs.Common.{◌≡◌, rules}
use Rattle.csv.specs.Records.{fields_of}
use Rattle.trlab_diagram.proofs.Rows.{columns, heading_row}
use Rattle.trlab_diagram.proofs.table.heading_row.Goals as goal

pub returns : goal.returns
returns c =
    let fields : fields_of c.loop-name.row ≡ columns = search rules in
    rw fields heading_row

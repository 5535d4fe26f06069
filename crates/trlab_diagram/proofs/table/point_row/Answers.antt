use Rattle.std.proofs.Common.{◌≡◌, ◌<◌, ◌^◌, map, decimal, arith, rules}
use Rattle.csv.specs.Records.{fields_of}
use Rattle.trlab_diagram.{specs.Tables.{flow_of, point_columns}, proofs.Rows.point_row}
use Rattle.trlab_diagram.proofs.table.point_row.Goals as goal

pub returns : goal.returns
returns c =
    let p = c.args.point.now in
    let fields : fields_of c.push_field-2.new.self ≡ map decimal (point_columns p) = search rules in
    let flow : flow_of p < 2 ^ 128 = omega (arith, c.flow.ensures, c.flow.type_inv) in
    rw fields (point_row p (omega arith) (omega arith) (omega arith) (omega arith) (omega arith) (omega arith) flow)

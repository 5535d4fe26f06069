use Rattle.std.proofs.Common.{◌≡◌, [], map, take}
use Rattle.csv.specs.Records.{fields_of, partial_of}
use Rattle.trlab_diagram.proofs.series.heading_row.Given as goal

abbrev pub invariant-loop-name : goal.invariant-loop-name
invariant-loop-name l = record {
  fields : fields_of l.row ≡ map (λ name. name.now) (take l.name-index l.name-items);
  whole : partial_of l.row ≡ [];
}

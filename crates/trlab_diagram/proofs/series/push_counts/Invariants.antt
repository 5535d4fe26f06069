use Rattle.std.proofs.Common.{◌≡◌, ◌++◌, [], map, take, decimal}
use Rattle.csv.specs.Records.{fields_of, partial_of}
use Rattle.trlab_diagram.proofs.series.push_counts.Given as goal

abbrev pub invariant-loop-count : goal.invariant-loop-count
invariant-loop-count l = record {
  fields : fields_of l.row ≡ fields_of l.fn.row ++ map decimal (take l.count-index l.counts);
  whole : partial_of l.row ≡ [];
}

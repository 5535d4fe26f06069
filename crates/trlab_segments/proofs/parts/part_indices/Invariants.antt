use Rattle.std.proofs.Common.{◌≡◌, length, map}
use Rattle.trlab_segments.{specs.Answered.ticket_of, proofs.Indices.HasNoted}
use Rattle.trlab_segments.proofs.parts.part_indices.Given as goal

abbrev pub invariant-loop-index : goal.invariant-loop-index
invariant-loop-index g l = record {
  count : length l.indices.items ≡ l.count;
  noted : HasNoted (map ticket_of l.parts) l.index l.indices.items;
}

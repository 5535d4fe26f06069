use Rattle.std.proofs.Common.{◌≡◌, ◌≤◌, take, count_by}
use Rattle.trlab_step.proofs.tally.count_lane_changes.Given as goal

abbrev pub invariant-loop-is_crossing : goal.invariant-loop-is_crossing
invariant-loop-is_crossing l = record {
  counted : l.count ≡ count_by (λ crosses. crosses) (take l.is_crossing-index l.crosses);
  few : l.count ≤ l.is_crossing-index;
}

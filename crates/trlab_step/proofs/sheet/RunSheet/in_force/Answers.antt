use Rattle.std.proofs.Common.{◌≡◌, ◌-◌, ◌+◌, leb, arith, rules}
use Rattle.std.proofs.lemmas.List.Sorted.{IsPartitionPoint-from_clause, IsPartitionedBy-leb}
use Rattle.trlab_step.proofs.InForce.{steps_rise, first_in_force, later_in_force}
use Rattle.trlab_step.proofs.sheet.RunSheet.in_force.Goals as goal

pub returns-then-begun-eq0 : goal.returns-then-begun-eq0
returns-then-begun-eq0 c =
    let later = c.self.inside.later.items in
    let parted = IsPartitionedBy-leb (λ entry. entry.0) later c.args.step (steps_rise 1 later c.self.invariant) in
    let clause = rw c.deref.ensures.value at c.partition_point-begun.ensures.partitioned in
    let point = IsPartitionPoint-from_clause (λ entry. leb entry.0 c.args.step) later c.partition_point-begun.result clause parted (λ a r q k. search rules) in
    let none = rw c.if-begun-eq0.true at point.1 in
    rw (← c.self.view_is) (first_in_force c.self.inside.first later c.args.step none)

pub returns-else-begun-eq0 : goal.returns-else-begun-eq0
returns-else-begun-eq0 c =
    let later = c.self.inside.later.items in
    let parted = IsPartitionedBy-leb (λ entry. entry.0) later c.args.step (steps_rise 1 later c.self.invariant) in
    let clause = rw c.deref.ensures.value at c.partition_point-begun.ensures.partitioned in
    let point = IsPartitionPoint-from_clause (λ entry. leb entry.0 c.args.step) later c.partition_point-begun.result clause parted (λ a r q k. search rules) in
    let some = c.if-begun-eq0.false in
    let bound = rw c.deref.ensures.value at c.partition_point-begun.ensures.bound in
    let begun : c.partition_point-begun.result - 1 + 1 ≡ c.partition_point-begun.result = omega arith in
    let come = rw (← begun) at point.0 in
    let late = rw (← begun) at point.1 in
    rw (← c.self.view_is, c.index.ensures) (later_in_force c.self.inside.first later c.args.step (c.partition_point-begun.result - 1) c.index.result.now (omega arith) come late)

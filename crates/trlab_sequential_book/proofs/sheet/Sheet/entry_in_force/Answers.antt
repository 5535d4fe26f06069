use Rattle.std.proofs.Common.{rules, ◌≡◌, ◌-◌, ◌+◌, ◌∙◌, sym, ap, leb, arith, option_map}
use Rattle.std.proofs.lemmas.List.Sorted.{IsPartitionPoint-from_clause, IsPartitionedBy-leb}
use Rattle.trlab_step.proofs.InForce.{steps_rise}
use Rattle.trlab_rules.specs.Rules.{Programs}
use Rattle.trlab_sequential_book.proofs.InForce.{first_begun, rises_from_0, rule_in_force, some_begun}
use Rattle.trlab_sequential_book.proofs.sheet.Sheet.entry_in_force.Goals as goal

pub overflow_sub-begun : goal.overflow_sub-begun
overflow_sub-begun c =
    let sheet = c.self.inside.entries.items in
    let is = c.self.invariant.is_sheet in
    let parted = IsPartitionedBy-leb (λ entry. entry.0) sheet c.args.step (steps_rise 0 sheet (rises_from_0 sheet is)) in
    let clause = rw c.deref.ensures.value at c.partition_point-begun.ensures.partitioned in
    let point = IsPartitionPoint-from_clause (λ entry. leb entry.0 c.args.step) sheet c.partition_point-begun.result clause parted (λ a r q k. search rules) in
    first_begun sheet c.args.step c.partition_point-begun.result is point.1

pub returns-clause-entry : goal.returns-clause-entry
returns-clause-entry c =
    let sheet = c.self.inside.entries.items in
    let is = c.self.invariant.is_sheet in
    let parted = IsPartitionedBy-leb (λ entry. entry.0) sheet c.args.step (steps_rise 0 sheet (rises_from_0 sheet is)) in
    let clause = rw c.deref.ensures.value at c.partition_point-begun.ensures.partitioned in
    let point = IsPartitionPoint-from_clause (λ entry. leb entry.0 c.args.step) sheet c.partition_point-begun.result clause parted (λ a r q k. search rules) in
    let some = first_begun sheet c.args.step c.partition_point-begun.result is point.1 in
    let bound = rw c.deref.ensures.value at c.partition_point-begun.ensures.bound in
    let begun : c.partition_point-begun.result - 1 + 1 ≡ c.partition_point-begun.result = omega arith in
    let come = rw (← begun) at point.0 in
    let late = rw (← begun) at point.1 in
    rw (← c.self.view_is, c.index.ensures) (some_begun sheet c.args.step (c.partition_point-begun.result - 1) c.index.result.now (omega arith) come late)

pub returns-clause-rule : goal.returns-clause-rule
returns-clause-rule c =
    sym (rule_in_force c.args.self.now c.args.step) ∙ ap (option_map (λ (entry : _ × Programs). entry.1)) (returns-clause-entry c)

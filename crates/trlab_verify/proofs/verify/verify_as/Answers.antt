use Rattle.std.proofs.Common.{refl}
use Rattle.trlab_verify.proofs.{Accepted.{checked, forward}, Refusals.{called, own}}
use Rattle.trlab_verify.proofs.{VerdictChecks.table_checks, Runs.sound}
use Rattle.trlab_verify.proofs.verify.verify_as.Goals as goal

pub longest_path-budget-requires-clause-forward : goal.longest_path-budget-requires-clause-forward
longest_path-budget-requires-clause-forward g c =
    let accepted = rw (c.in-Ok-None.field-0-is, c.KIND.ensures) at c.in-Ok-None.ensures in
    rw c.instrs.ensures.value (forward g.K.ProgramKind.KIND c.args.code accepted)

pub new-requires : goal.new-requires
new-requires g c =
    let accepted = rw (c.in-Ok-None.field-0-is, c.KIND.ensures) at c.in-Ok-None.ensures in
    let longest = rw c.instrs.ensures.value at c.longest_path-budget.ensures in
    checked g.K.ProgramKind.KIND c.args.code c.longest_path-budget.result c.instrs.ensures.program accepted longest

pub returns-in-Ok-None : goal.returns-in-Ok-None
returns-in-Ok-None g c =
    let accepted = rw (c.in-Ok-None.field-0-is, c.KIND.ensures) at c.in-Ok-None.ensures in
    let longest = rw c.instrs.ensures.value at c.longest_path-budget.ensures in
    let found = table_checks g.K.ProgramKind.KIND c.args.code accepted in
    record {
      same = c.new.ensures.program;
      accepted = accepted;
      longest = rw c.new.ensures.budget longest;
      safe = rw c.new.ensures.budget (sound g.K.ProgramKind.KIND c.args.code c.longest_path-budget.result accepted longest);
      some_table = (found.0, found.2);
    }

pub returns-in-Ok-Some : goal.returns-in-Ok-Some
returns-in-Ok-Some g c =
    let refused = rw (c.in-Ok-Some.field-0-is, c.KIND.ensures) at c.in-Ok-Some.ensures in
    record {
      same = refl;
      refused = rw c.number.ensures.value refused;
      no_table = rw c.number.ensures.value (called g.K.ProgramKind.KIND c.args.code _ _ refused, own g.K.ProgramKind.KIND c.args.code _ _ refused);
    }

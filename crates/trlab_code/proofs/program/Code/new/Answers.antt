use Rattle.std.proofs.{Common.{refl, rules, arith}, lemmas.Grind.common_steps}
use Rattle.trlab_code.proofs.program.Code.new.Goals as goal

pub returns-then-is_empty-clause-exact : goal.returns-then-is_empty-clause-exact
returns-then-is_empty-clause-exact c = grind (arith, common_steps)

pub invariant_of-result : goal.invariant_of-result
invariant_of-result c = record { some = grind arith; few = omega arith; in_range = search rules }

pub returns-then-all-clause-exact : goal.returns-then-all-clause-exact
returns-then-all-clause-exact c = refl

pub returns-else-all-clause-exact : goal.returns-else-all-clause-exact
returns-else-all-clause-exact c = grind (arith, common_steps)

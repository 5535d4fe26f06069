use Rattle.std.proofs.Common.{rules}
use Rattle.trlab_lines.proofs.oddity.oddity_of.Goals as goal

pub returns-then-contains-2 : goal.returns-then-contains-2
returns-then-contains-2 c = search rules

pub returns-then-eq : goal.returns-then-eq
returns-then-eq c = search rules

use Rattle.std.proofs.Common.{refl, nat_eq}
use Rattle.trlab_notes.proofs.Bits.{set_is, clear_is}
use Rattle.trlab_notes.proofs.rows.with_bit.Goals as goal

pub returns-then-is_on : goal.returns-then-is_on
returns-then-is_on c = λ y within. set_is c.args.bits c.args.variable y c.args.is_on (nat_eq y c.args.variable) c.requires c.if-is_on.true refl

pub returns-else-is_on : goal.returns-else-is_on
returns-else-is_on c = λ y within. clear_is c.args.bits c.args.variable y c.args.is_on (nat_eq y c.args.variable) c.requires within c.if-is_on.false refl

use Rattle.std.proofs.Common.{ap, subst, sym, ◌∙◌}
use Rattle.trlab_sequential_book.specs.Sheets.{BeginBy, with_rule_from}
use Rattle.trlab_sequential_book.proofs.sheet.Sheet.enter.Goals as goal

pub make_room-requires-clause-begin : goal.make_room-requires-clause-begin
make_room-requires-clause-begin c = subst (BeginBy c.args.from) (sym c.self.view_is) c.requires

pub invariant_of-self-2 : goal.invariant_of-self-2
invariant_of-self-2 c = rw c.push_reserved.ensures.items (c.in_ok-make_room.ensures.sheet c.in_ok-rule.rule)

pub returns-clause-ok : goal.returns-clause-ok
returns-clause-ok c = (
  c.push_reserved.ensures.items ∙ c.in_ok-make_room.ensures.ok c.in_ok-rule.rule ∙ ap (λ v. with_rule_from v c.args.from c.in_ok-rule.rule) c.self.view_is ∙ ap (λ rule. with_rule_from c.args.self.now c.args.from rule) c.in_ok-rule.ensures,
  (invariant_of-self-2 c).at_most_max,
  (invariant_of-self-2 c).is_sheet,
)

use Rattle.std.proofs.Common.{rules, ◌≡◌, ◌∙◌, sym, IsTrue}
use Rattle.trlab_sequential_book.proofs.EncodedRules.{same_bytes, same_rule}
use Rattle.trlab_sequential_book.proofs.rule.EncodedRule.equals.Goals as goal

pub returns-then-eq : goal.returns-then-eq
returns-then-eq c =
    let first : c.self.inside.motion.items ≡ c.other.inside.motion.items = search (rules, c.if-eq.ensures) in
    let second : (IsTrue c.eq-then-eq.result → c.self.inside.change.items ≡ c.other.inside.change.items)
    × (c.self.inside.change.items ≡ c.other.inside.change.items → IsTrue c.eq-then-eq.result) = search rules in (
      λ same. sym c.self.view_is ∙ same_rule _ _ _ _ _ _ c.self.invariant c.other.invariant first (second.0 same) ∙ c.other.view_is,
      λ same. second.1 (same_bytes _ _ _ _ _ _ c.self.invariant c.other.invariant (c.self.view_is ∙ same ∙ sym c.other.view_is)).1,
    )

use Rattle.std.proofs.Common.{◌∙◌, ◌++◌, ◌∷◌, [], ap}
use Rattle.json.specs.Print.{print}
use Rattle.trlab_explain.proofs.PlainTokens.{plain_line}
use Rattle.trlab_explain.proofs.object.Object.into_line.Goals as goal

pub returns-clause-plain : goal.returns-clause-plain
returns-clause-plain c =
    let tokens = c.self.inside.out.tokens in
    plain_line tokens c.push.new.self.items
    (c.in_ok-push.ensures.items ∙ ap (λ text. text ++ 10 ∷ []) (c.into_inner-text.ensures.items ∙ ap (λ before. before ++ print tokens) c.self.invariant.0)) c.self.invariant.1

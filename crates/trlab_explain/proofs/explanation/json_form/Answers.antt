use Rattle.trlab_explain.proofs.PlainTokens.{object_line}
use Rattle.trlab_explain.proofs.explanation.json_form.Goals as goal

pub returns-clause-object : goal.returns-clause-object
returns-clause-object c = object_line c.into_line.result (λ v. v.items) c.add_body.new.out c.finish.new.self _ _ c.in_ok-finish.ensures c.into_line.ensures.text

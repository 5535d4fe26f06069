use Rattle.trlab_explain.{specs.Explanations.IsNumberPage, proofs.Endings.{output_ends_so, nothing_written}}
use Rattle.trlab_explain.proofs.topics.explain_number.Goals as goal

pub returns-clause-ends : goal.returns-clause-ends
returns-clause-ends g c = record {
  answer = output_ends_so c.number_page.result (λ o. o.is_rejected) (λ o. o.bytes.items) (IsNumberPage c.args.topic c.args.number) _ _ _ c.number_page.ensures c.write_explanation.ensures.answer;
  handed = c.write_explanation.ensures.handed;
  device = c.write_explanation.ensures.device;
}

pub returns-clause-kept : goal.returns-clause-kept
returns-clause-kept g c = λ is. nothing_written c.number_page.result (λ o. o.is_rejected) (λ o. o.bytes.items) _ _ _ c.write_explanation.ensures.answer is

use Rattle.trlab_explain.specs.Explanations.{Explains}
use Rattle.trlab_explain.proofs.Endings.{reads, output_ends_so, nothing_written}
use Rattle.trlab_explain.proofs.explain.ExplainEngineEngine.write.Goals as goal

pub returns-clause-ends : goal.returns-clause-ends
returns-clause-ends g c = λ input read. record {
  answer = output_ends_so c.explain_input.result (λ o. o.is_rejected) (λ o. o.bytes.items) (Explains c.args.self.form c.args.self.subject input) _ _ _ (reads c.explain_input.result (λ o. o.is_rejected) (λ o. o.bytes.items) c.args.self.form c.args.self.subject c.args.text.now input read c.explain_input.ensures) c.write_explanation.ensures.answer;
  handed = c.write_explanation.ensures.handed;
  device = c.write_explanation.ensures.device;
}

pub returns-clause-kept : goal.returns-clause-kept
returns-clause-kept g c = λ at_once is. nothing_written c.explain_input.result (λ o. o.is_rejected) (λ o. o.bytes.items) _ _ _ c.write_explanation.ensures.answer is

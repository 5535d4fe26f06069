use Rattle.std.proofs.Common.{List, ℕ, true, Ok, Err}
use Rattle.trlab_lines.specs.Lines.{lines_of}
use Rattle.trlab_texts.specs.Reading.{LocatedFault}
use Rattle.trlab_jobs.specs.Check.{CheckLinesParseTo, ParsesAsCheck}
use Rattle.trlab_campaign.specs.CheckOutput.{IsCheckOutput, IsOutputForCheck}
use Rattle.trlab_campaign.proofs.Endings.{kept_at_memory, memory_ends, output_ends, read_says, rejection_ends}
use Rattle.trlab_campaign.proofs.{Endings.said_ends, WrittenBytes.kept}
use Rattle.trlab_campaign.proofs.check.CheckEngineEngine.write.Goals as goal

pub returns-in-Err-At-clause-ends : goal.returns-in-Err-At-clause-ends
returns-in-Err-At-clause-ends g c = λ input read.
    let fault : LocatedFault = record { line = c.in-Err-At.line; cause = c.in-Err-At.cause } in
    let told = rw c.in-Err-At.field-0-is at c.in-Err-At.ensures.reported in
    let says = read_says (λ (text : List ℕ). CheckLinesParseTo (lines_of text)) c.args.text.now input (Err fault) read told in
    record {
      answer = rejection_ends ParsesAsCheck IsOutputForCheck c.reject.result input fault _ _ says c.reject.ensures.answer;
      handed = c.reject.ensures.handed;
      device = c.reject.ensures.device;
    }

pub returns-in-Ok-verdict_of-clause-ends : goal.returns-in-Ok-verdict_of-clause-ends
returns-in-Ok-verdict_of-clause-ends g c = λ input read.
    let check = c.in-Ok.check in
    let verdict = c.in-Ok-verdict_of.verdict in
    let says = read_says (λ (text : List ℕ). CheckLinesParseTo (lines_of text)) c.args.text.now input (Ok check) read c.in-Ok.ensures.reported in
    let ends = rw c.deref.ensures.value at c.write_output.ensures.ends.answer in
    record {
      answer = said_ends ParsesAsCheck IsOutputForCheck c.write_output.result input check _ _ says
          (output_ends (IsOutputForCheck check) verdict.is_rejection verdict.text.items c.write_output.result _ _ c.in-Ok-verdict_of.ensures ends);
      handed = c.write_output.ensures.ends.handed;
      device = c.write_output.ensures.ends.device;
    }

pub returns-in-Err-Memory-clause-ends : goal.returns-in-Err-Memory-clause-ends
returns-in-Err-Memory-clause-ends g c = λ input read. memory_ends g.K.Sink (IsCheckOutput input) c.args.writer.now c.requires.works

pub returns-in-Err-clause-ends : goal.returns-in-Err-clause-ends
returns-in-Err-clause-ends g c = λ input read. memory_ends g.K.Sink (IsCheckOutput input) c.args.writer.now c.requires.works

pub returns-in-Err-At-clause-kept : goal.returns-in-Err-At-clause-kept
returns-in-Err-At-clause-kept g c = λ at_once is. kept_at_memory true _ c.reject.result _ _ c.reject.ensures.answer is

pub returns-in-Ok-verdict_of-clause-kept : goal.returns-in-Ok-verdict_of-clause-kept
returns-in-Ok-verdict_of-clause-kept g c = λ at_once is. kept_at_memory _ _ c.write_output.result _ _ c.write_output.ensures.ends.answer is

pub returns-in-Err-Memory-clause-kept : goal.returns-in-Err-Memory-clause-kept
returns-in-Err-Memory-clause-kept g c = λ at_once is. kept _

pub returns-in-Err-clause-kept : goal.returns-in-Err-clause-kept
returns-in-Err-clause-kept g c = λ at_once is. kept _

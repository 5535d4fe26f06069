use Rattle.std.proofs.Common.{true, Ok, Err}
use Rattle.trlab_texts.specs.Reading.{LocatedFault}
use Rattle.trlab_jobs.specs.Sweep.{SweepLinesParseTo, ParsesAsSweep}
use Rattle.trlab_campaign.{specs.SweepOutput.{IsSweepOutput, IsOutputForSweep}, proofs.WrittenBytes.kept}
use Rattle.trlab_campaign.proofs.Endings.{kept_at_memory, memory_ends, read_says, rejection_ends, said_ends}
use Rattle.trlab_campaign.proofs.sweep.SweepEngineEngine.write.Goals as goal

pub returns-in-Err-At-clause-ends : goal.returns-in-Err-At-clause-ends
returns-in-Err-At-clause-ends g c = λ input read.
    let fault : LocatedFault = record { line = c.in-Err-At.line; cause = c.in-Err-At.cause } in
    let told = rw c.in-Err-At.field-0-is at c.in-Err-At.ensures.reported in
    let says = read_says SweepLinesParseTo c.args.text.now input (Err fault) read told in
    record {
      answer = rejection_ends ParsesAsSweep IsOutputForSweep c.reject.result input fault _ _ says c.reject.ensures.answer;
      handed = c.reject.ensures.handed;
      device = c.reject.ensures.device;
    }

pub returns-clause-ends : goal.returns-clause-ends
returns-clause-ends g c = λ input read.
    let ends = c.write_table-end.ensures.ends in
    let says = read_says SweepLinesParseTo c.args.text.now input (Ok c.in-Ok.sweep) read c.in-Ok.ensures.reported in
    record {
      answer = said_ends ParsesAsSweep IsOutputForSweep c.write_table-end.result input c.in-Ok.sweep _ _ says ends.answer;
      handed = ends.handed;
      device = ends.device;
    }

pub returns-in-Err-Memory-clause-ends : goal.returns-in-Err-Memory-clause-ends
returns-in-Err-Memory-clause-ends g c = λ input read. memory_ends g.K.Sink (IsSweepOutput input) c.args.writer.now c.requires.works

pub reject-requires : goal.reject-requires
reject-requires g c = c.requires.works

pub write_table-end-requires-clause-made : goal.write_table-end-requires-clause-made
write_table-end-requires-clause-made g c = (c.requires.ready c.args.alloc _).1 _ c.table-table.ensures

pub returns-in-Err-At-clause-kept : goal.returns-in-Err-At-clause-kept
returns-in-Err-At-clause-kept g c = λ at_once is. kept_at_memory true _ c.reject.result _ _ c.reject.ensures.answer is

pub returns-clause-kept : goal.returns-clause-kept
returns-clause-kept g c = λ at_once is. c.write_table-end.ensures.kept is

pub returns-in-Err-Memory-clause-kept : goal.returns-in-Err-Memory-clause-kept
returns-in-Err-Memory-clause-kept g c = λ at_once is. kept _

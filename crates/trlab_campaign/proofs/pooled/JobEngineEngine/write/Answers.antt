use Rattle.std.specs.Prelude.{Ok, Err}
use Rattle.trlab_texts.specs.Reading.{LocatedFault}
use Rattle.trlab_jobs.specs.Job.{ParsesAsJob, JobLinesParseTo}
use Rattle.trlab_campaign.specs.{Output.IsOutputForJobText, Writers.bytes_of}
use Rattle.trlab_campaign.proofs.Endings.{memory_ends, read_says, rejection_ends, said_ends}
use Rattle.trlab_campaign.proofs.pooled.JobEngineEngine.write.Goals as goal

pub returns-in-Err-At-clause-ends : goal.returns-in-Err-At-clause-ends
returns-in-Err-At-clause-ends g c = λ input read.
    let fault : LocatedFault = record { line = c.in-Err-At.line; cause = c.in-Err-At.cause } in
    let told = rw c.in-Err-At.field-0-is at c.in-Err-At.ensures.reported in
    let answer = rw c.in-Err-At.field-0-is at c.reject.ensures.answer in
    let output = g.C.Account.outputs c.args.self.account.now in
    let says = read_says JobLinesParseTo c.args.text.now input (Err fault) read told in
    record {
      answer = rejection_ends ParsesAsJob output c.reject.result input fault (bytes_of g.K.Sink c.args.writer.now) (bytes_of g.K.Sink c.reject.new.writer) says answer;
      handed = c.reject.ensures.handed;
      device = c.reject.ensures.device;
    }

pub returns-in-Err-Memory-clause-ends : goal.returns-in-Err-Memory-clause-ends
returns-in-Err-Memory-clause-ends g c = λ input read.
    memory_ends g.K.Sink (IsOutputForJobText (g.C.Account.outputs c.args.self.account.now) input) c.args.writer.now c.requires.works

pub returns-clause-ends : goal.returns-clause-ends
returns-clause-ends g c = λ input read.
    let output = g.C.Account.outputs c.args.self.account.now in
    let ends = c.drive.ensures in
    let says = read_says JobLinesParseTo c.args.text.now input (Ok c.in-Ok.job) read c.in-Ok.ensures.reported in
    record {
      answer = said_ends ParsesAsJob output c.drive.result input c.in-Ok.job _ _ says ends.answer;
      handed = ends.handed;
      device = ends.device;
    }

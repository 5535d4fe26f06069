use Rattle.trlab_sequential_book.specs.{declared.event.Call.TheVariants.Read, Histories.read_reply}
use Rattle.trlab_book.{specs.Desks.ReadShowsJob, proofs.Noting.{full_after, has_come, is_made}}
use Rattle.trlab_book.proofs.desk.SharedBook.read.Goals as goal

pub invariant_of-deref_mut : goal.invariant_of-deref_mut
invariant_of-deref_mut g c =
    let kept = c.deref_mut.result.now.kept in
    let call = Read c.args.job in
    let told = read_reply c.read-answer.result in
    record { noted = (c.note_event.ensures call told (has_come kept c.read-answer.new.self call told _ c.read-answer.ensures.made c.deref_mut.result.now.noted) (full_after kept c.read-answer.new.self call told c.read-answer.ensures.made c.read-answer.ensures.full_history)).0 }

pub returns : goal.returns
returns g c =
    let kept = c.deref_mut.result.now.kept in
    let call = Read c.args.job in
    let told = read_reply c.read-answer.result in
    is_made (ReadShowsJob c.args.job c.read-answer.result) kept c.read-answer.new.self call told _ c.args.desk.now c.note_event.new.self c.read-answer.ensures.made c.deref_mut.result.now.noted (λ is. c.read-answer.ensures.seen) c.read-answer.ensures.full_history
    (c.note_event.ensures call told (has_come kept c.read-answer.new.self call told _ c.read-answer.ensures.made c.deref_mut.result.now.noted) (full_after kept c.read-answer.new.self call told c.read-answer.ensures.made c.read-answer.ensures.full_history)).1

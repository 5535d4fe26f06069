use Rattle.trlab_sequential_book.specs.{declared.event.Call.TheVariants.Cancel, Histories.done_reply}
use Rattle.trlab_book.proofs.Noting.{full_after, has_come, is_made}
use Rattle.trlab_book.proofs.desk.SharedBook.cancel.Goals as goal

pub invariant_of-deref_mut : goal.invariant_of-deref_mut
invariant_of-deref_mut g c =
    let kept = c.deref_mut.result.now.kept in
    let call = Cancel c.args.job in
    let told = done_reply c.cancel-answer.result in
    record { noted = (c.note_event.ensures call told (has_come kept c.cancel-answer.new.self call told _ c.cancel-answer.ensures.made c.deref_mut.result.now.noted) (full_after kept c.cancel-answer.new.self call told c.cancel-answer.ensures.made c.cancel-answer.ensures.full_history)).0 }

pub returns : goal.returns
returns g c =
    let kept = c.deref_mut.result.now.kept in
    let call = Cancel c.args.job in
    let told = done_reply c.cancel-answer.result in
    is_made (λ book. Unit {0}) kept c.cancel-answer.new.self call told _ c.args.desk.now c.note_event.new.self c.cancel-answer.ensures.made c.deref_mut.result.now.noted (λ is. tt) c.cancel-answer.ensures.full_history
    (c.note_event.ensures call told (has_come kept c.cancel-answer.new.self call told _ c.cancel-answer.ensures.made c.deref_mut.result.now.noted) (full_after kept c.cancel-answer.new.self call told c.cancel-answer.ensures.made c.cancel-answer.ensures.full_history)).1

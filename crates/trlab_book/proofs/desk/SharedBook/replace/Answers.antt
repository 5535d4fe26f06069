use Rattle.trlab_sequential_book.specs.{declared.event.Call.TheVariants.Replace, Histories.number_reply}
use Rattle.trlab_book.proofs.Noting.{full_after, has_come, is_made}
use Rattle.trlab_book.proofs.desk.SharedBook.replace.Goals as goal

pub invariant_of-deref_mut : goal.invariant_of-deref_mut
invariant_of-deref_mut g c =
    let kept = c.deref_mut.result.now.kept in
    let call = Replace c.args.job c.args.rule in
    let told = number_reply c.replace-answer.result in
    record { noted = (c.note_event.ensures call told (has_come kept c.replace-answer.new.self call told _ c.replace-answer.ensures.made c.deref_mut.result.now.noted) (full_after kept c.replace-answer.new.self call told c.replace-answer.ensures.made c.replace-answer.ensures.full_history)).0 }

pub returns : goal.returns
returns g c =
    let kept = c.deref_mut.result.now.kept in
    let call = Replace c.args.job c.args.rule in
    let told = number_reply c.replace-answer.result in
    is_made (λ book. Unit {0}) kept c.replace-answer.new.self call told _ c.args.desk.now c.note_event.new.self c.replace-answer.ensures.made c.deref_mut.result.now.noted (λ is. tt) c.replace-answer.ensures.full_history
    (c.note_event.ensures call told (has_come kept c.replace-answer.new.self call told _ c.replace-answer.ensures.made c.deref_mut.result.now.noted) (full_after kept c.replace-answer.new.self call told c.replace-answer.ensures.made c.replace-answer.ensures.full_history)).1

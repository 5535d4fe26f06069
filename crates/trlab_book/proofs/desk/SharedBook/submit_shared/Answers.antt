use Rattle.trlab_sequential_book.specs.{declared.event.Call.TheVariants.Submit, Histories.number_reply}
use Rattle.trlab_book.proofs.Noting.{full_after, has_come, is_made}
use Rattle.trlab_book.proofs.desk.SharedBook.submit_shared.Goals as goal

pub invariant_of-deref_mut : goal.invariant_of-deref_mut
invariant_of-deref_mut g c =
    let kept = c.deref_mut.result.now.kept in
    let call = Submit c.args.seed c.args.rule c.args.steps in
    let told = number_reply c.submit-answer.result in
    record { noted = (c.note_event.ensures call told (has_come kept c.submit-answer.new.self call told _ c.submit-answer.ensures.made c.deref_mut.result.now.noted) (full_after kept c.submit-answer.new.self call told c.submit-answer.ensures.made c.submit-answer.ensures.full_history)).0 }

pub returns : goal.returns
returns g c =
    let kept = c.deref_mut.result.now.kept in
    let call = Submit c.args.seed c.args.rule c.args.steps in
    let told = number_reply c.submit-answer.result in
    is_made (λ book. Unit {0}) kept c.submit-answer.new.self call told _ c.args.desk.now c.note_event.new.self c.submit-answer.ensures.made c.deref_mut.result.now.noted (λ is. tt) c.submit-answer.ensures.full_history
    (c.note_event.ensures call told (has_come kept c.submit-answer.new.self call told _ c.submit-answer.ensures.made c.deref_mut.result.now.noted) (full_after kept c.submit-answer.new.self call told c.submit-answer.ensures.made c.submit-answer.ensures.full_history)).1

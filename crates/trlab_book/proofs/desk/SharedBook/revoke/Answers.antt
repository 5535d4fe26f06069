use Rattle.trlab_sequential_book.specs.{declared.event.Call.TheVariants.Revoke, Histories.done_reply}
use Rattle.trlab_book.proofs.Noting.{full_after, has_come, is_made}
use Rattle.trlab_book.proofs.desk.SharedBook.revoke.Goals as goal

pub invariant_of-deref_mut : goal.invariant_of-deref_mut
invariant_of-deref_mut g c =
    let kept = c.deref_mut.result.now.kept in
    let call = Revoke c.args.job in
    let told = done_reply c.revoke-answer.result in
    record { noted = (c.note_event.ensures call told (has_come kept c.revoke-answer.new.self call told _ c.revoke-answer.ensures.made c.deref_mut.result.now.noted) (full_after kept c.revoke-answer.new.self call told c.revoke-answer.ensures.made c.revoke-answer.ensures.full_history)).0 }

pub returns : goal.returns
returns g c =
    let kept = c.deref_mut.result.now.kept in
    let call = Revoke c.args.job in
    let told = done_reply c.revoke-answer.result in
    is_made (λ book. Unit {0}) kept c.revoke-answer.new.self call told _ c.args.desk.now c.note_event.new.self c.revoke-answer.ensures.made c.deref_mut.result.now.noted (λ is. tt) c.revoke-answer.ensures.full_history
    (c.note_event.ensures call told (has_come kept c.revoke-answer.new.self call told _ c.revoke-answer.ensures.made c.deref_mut.result.now.noted) (full_after kept c.revoke-answer.new.self call told c.revoke-answer.ensures.made c.revoke-answer.ensures.full_history)).1

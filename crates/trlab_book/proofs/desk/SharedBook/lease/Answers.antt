use Rattle.trlab_sequential_book.specs.{Comparison.LeaseCall, Histories.lease_reply}
use Rattle.trlab_book.{specs.Desks.LeaseIsFresh, proofs.Noting.{full_after, has_come, is_made}}
use Rattle.trlab_book.proofs.desk.SharedBook.lease.Goals as goal

pub invariant_of-deref_mut : goal.invariant_of-deref_mut
invariant_of-deref_mut g c =
    let kept = c.deref_mut.result.now.kept in
    let call = LeaseCall in
    let told = lease_reply c.lease-answer.result in
    record { noted = (c.note_event.ensures call told (has_come kept c.lease-answer.new.self call told _ c.lease-answer.ensures.made c.deref_mut.result.now.noted) (full_after kept c.lease-answer.new.self call told c.lease-answer.ensures.made c.lease-answer.ensures.full_history)).0 }

pub returns : goal.returns
returns g c =
    let kept = c.deref_mut.result.now.kept in
    let call = LeaseCall in
    let told = lease_reply c.lease-answer.result in
    is_made (LeaseIsFresh c.lease-answer.result) kept c.lease-answer.new.self call told _ c.args.desk.now c.note_event.new.self c.lease-answer.ensures.made c.deref_mut.result.now.noted (λ is. c.lease-answer.ensures.lent) c.lease-answer.ensures.full_history
    (c.note_event.ensures call told (has_come kept c.lease-answer.new.self call told _ c.lease-answer.ensures.made c.deref_mut.result.now.noted) (full_after kept c.lease-answer.new.self call told c.lease-answer.ensures.made c.lease-answer.ensures.full_history)).1

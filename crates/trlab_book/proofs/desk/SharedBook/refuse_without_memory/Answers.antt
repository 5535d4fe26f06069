use Rattle.trlab_sequential_book.specs.{Comparison.LeaseCall, declared.event.Reply.TheVariants.Refused}
use Rattle.trlab_book.proofs.Noting.{full_told, is_none}
use Rattle.trlab_book.proofs.desk.SharedBook.refuse_without_memory.Goals as goal

pub invariant_of-deref_mut : goal.invariant_of-deref_mut
invariant_of-deref_mut g c =
    let fault = c.fault_without_memory-fault in
    record {
      noted = (c.note_event.ensures LeaseCall (Refused fault.result) (rw fault.ensures.none c.deref_mut.result.now.noted) (λ _. full_told c.deref_mut.result.now.kept (Refused fault.result) fault.ensures.full_history)).0;
    }

pub returns-clause-desk : goal.returns-clause-desk
returns-clause-desk g c =
    let fault = c.fault_without_memory-fault in
    let put = (c.note_event.ensures LeaseCall (Refused fault.result) (rw fault.ensures.none c.deref_mut.result.now.noted) (λ _. full_told c.deref_mut.result.now.kept (Refused fault.result) fault.ensures.full_history)).1 in
    let down = rw fault.ensures.none at put.1 in
    (put.0, is_none c.deref_mut.result.now.kept (Refused fault.result) _ c.args.desk.now c.note_event.new.self put.0 c.deref_mut.result.now.noted fault.ensures.full_history down)

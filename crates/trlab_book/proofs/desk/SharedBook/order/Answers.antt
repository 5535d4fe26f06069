use Rattle.std.proofs.lemmas.Bool.{OnTrue_at}
use Rattle.trlab_sequential_book.specs.{Comparison.{OrderCall, offered}, Histories.order_reply}
use Rattle.trlab_book.specs.Desks.{IsCorrectVerdict, OrderHasRuleInForce}
use Rattle.trlab_book.proofs.Noting.{full_after, has_come, is_made}
use Rattle.trlab_book.proofs.desk.SharedBook.order.Goals as goal

pub invariant_of-deref_mut : goal.invariant_of-deref_mut
invariant_of-deref_mut g c =
    let kept = c.deref_mut.result.now.kept in
    let same = c.order-answer.ensures.noted.0 in
    let call = OrderCall (offered c.args.lease.now same) in
    let told = order_reply c.order-answer.result in
    record { noted = (c.note_event.ensures call told (has_come kept c.order-answer.new.self call told _ c.order-answer.ensures.noted.2 c.deref_mut.result.now.noted) (full_after kept c.order-answer.new.self call told c.order-answer.ensures.noted.2 c.order-answer.ensures.full_history)).0 }

pub returns-clause-made : goal.returns-clause-made
returns-clause-made g c =
    let kept = c.deref_mut.result.now.kept in
    let same = c.order-answer.ensures.noted.0 in
    let call = OrderCall (offered c.args.lease.now same) in
    let told = order_reply c.order-answer.result in (
      same,
      is_made (λ book. IsCorrectVerdict c.args.lease.now same book × OrderHasRuleInForce c.order-answer.result book) kept c.order-answer.new.self call told _ c.args.desk.now c.note_event.new.self c.order-answer.ensures.noted.2 c.deref_mut.result.now.noted (λ is. (OnTrue_at is c.order-answer.ensures.noted.1, c.order-answer.ensures.rule)) c.order-answer.ensures.full_history
          (c.note_event.ensures call told (has_come kept c.order-answer.new.self call told _ c.order-answer.ensures.noted.2 c.deref_mut.result.now.noted) (full_after kept c.order-answer.new.self call told c.order-answer.ensures.noted.2 c.order-answer.ensures.full_history)).1,
    )

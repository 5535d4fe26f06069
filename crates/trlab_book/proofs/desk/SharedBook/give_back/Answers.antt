use Rattle.std.proofs.lemmas.Bool.{OnTrue_at}
use Rattle.trlab_sequential_book.specs.{Comparison.offered, declared.event.Call.TheVariants.GiveBack}
use Rattle.trlab_sequential_book.specs.Histories.{give_back_reply}
use Rattle.trlab_book.{specs.Desks.IsCorrectVerdict, proofs.Noting.{full_after, has_come, is_made}}
use Rattle.trlab_book.proofs.desk.SharedBook.give_back.Goals as goal

pub invariant_of-deref_mut : goal.invariant_of-deref_mut
invariant_of-deref_mut g c =
    let kept = c.deref_mut.result.now.kept in
    let same = c.give_back-answer.ensures.noted.0 in
    let call = GiveBack (offered c.args.lease same) in
    let told = give_back_reply c.give_back-answer.result in
    record { noted = (c.note_event.ensures call told (has_come kept c.give_back-answer.new.self call told _ c.give_back-answer.ensures.noted.2 c.deref_mut.result.now.noted) (full_after kept c.give_back-answer.new.self call told c.give_back-answer.ensures.noted.2 c.give_back-answer.ensures.full_history)).0 }

pub returns-clause-made : goal.returns-clause-made
returns-clause-made g c =
    let kept = c.deref_mut.result.now.kept in
    let same = c.give_back-answer.ensures.noted.0 in
    let call = GiveBack (offered c.args.lease same) in
    let told = give_back_reply c.give_back-answer.result in (
      same,
      is_made (IsCorrectVerdict c.args.lease same) kept c.give_back-answer.new.self call told _ c.args.desk.now c.note_event.new.self c.give_back-answer.ensures.noted.2 c.deref_mut.result.now.noted (λ is. OnTrue_at is c.give_back-answer.ensures.noted.1) c.give_back-answer.ensures.full_history
          (c.note_event.ensures call told (has_come kept c.give_back-answer.new.self call told _ c.give_back-answer.ensures.noted.2 c.deref_mut.result.now.noted) (full_after kept c.give_back-answer.new.self call told c.give_back-answer.ensures.noted.2 c.give_back-answer.ensures.full_history)).1,
    )

use Rattle.std.proofs.Common.{sym, ◌∙◌}
use Rattle.trlab_sequential_book.specs.declared.event.Call.TheVariants.{Submit}
use Rattle.trlab_sequential_book.proofs.Booking.{full_stays, full_told}
use Rattle.trlab_sequential_book.proofs.book.Book.submit_shared.Goals as goal

pub returns-then-has_full_history-clause-reply : goal.returns-then-has_full_history-clause-reply
returns-then-has_full_history-clause-reply c = full_told c.args.self.now (Submit c.args.seed c.args.rule c.args.steps) (sym c.has_full_history.ensures ∙ c.if-has_full_history.true)

pub returns-then-has_full_history-clause-state : goal.returns-then-has_full_history-clause-state
returns-then-has_full_history-clause-state c = full_stays c.args.self.now (Submit c.args.seed c.args.rule c.args.steps) (sym c.has_full_history.ensures ∙ c.if-has_full_history.true)

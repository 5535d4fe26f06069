use Rattle.std.proofs.Common.{subst}
use Rattle.trlab_book.specs.Desks.{HasEnded}
use Rattle.trlab_book.proofs.running.run_jobs.Goals as goal

pub returns-in-Ok : goal.returns-in-Ok
returns-in-Ok g c = subst (λ ended. HasEnded c.args.runners ended c.args.desk c.run_all-desk.result.0) c.in-Ok.is c.run_all-desk.ensures

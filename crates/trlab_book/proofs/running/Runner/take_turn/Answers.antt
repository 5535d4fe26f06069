use Rattle.trlab_book.specs.HeldLeases.{Idle, Running}
use Rattle.trlab_book.proofs.GoingOn.{back_goes, dropped, ended_none, goes_both, refused_back}
use Rattle.trlab_book.proofs.running.Runner.take_turn.Goals as goal

pub returns-in-Ok-give_back-clause-turn : goal.returns-in-Ok-give_back-clause-turn
returns-in-Ok-give_back-clause-turn g c =
    let lease = c.run_steps.new.lease in
    ended_none (Running c.args.lease) Idle c.args.desk.now c.give_back.new.desk
    (goes_both (Running c.args.lease) (Running lease) Idle c.args.desk.now c.run_steps.new.desk c.give_back.new.desk c.in-Ok.ensures.ran
    (back_goes c.run_steps.new.desk c.give_back.new.desk lease c.in-Ok-give_back.ensures.made))

pub returns-in-Err-give_back-clause-turn : goal.returns-in-Err-give_back-clause-turn
returns-in-Err-give_back-clause-turn g c =
    let lease = c.run_steps.new.lease in
    dropped (Running c.args.lease) c.args.desk.now c.give_back.new.desk c.end_lease.new.desk c.in-Err-give_back.fault c.end_lease.result
    (refused_back (Running c.args.lease) c.args.desk.now c.run_steps.new.desk c.give_back.new.desk lease c.in-Err-give_back.fault c.in-Ok.ensures.ran c.in-Err-give_back.ensures.made)
    c.end_lease.ensures.on c.end_lease.ensures.over c.end_lease.ensures.full_history

pub returns-in-Err-clause-turn : goal.returns-in-Err-clause-turn
returns-in-Err-clause-turn g c =
    dropped (Running c.args.lease) c.args.desk.now c.run_steps.new.desk c.end_lease-in-Err.new.desk c.in-Err.fault c.end_lease-in-Err.result
    c.in-Err.ensures.ran c.end_lease-in-Err.ensures.on c.end_lease-in-Err.ensures.over c.end_lease-in-Err.ensures.full_history

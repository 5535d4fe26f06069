use Rattle.std.proofs.Common.{Ok, subst}
use Rattle.trlab_sequential_book.specs.{Histories.lease_reply, Comparison.LeaseCall}
use Rattle.trlab_book.specs.{Desks.{LeaseIsFresh, MakesCallOn}, HeldLeases.{Idle, Running}}
use Rattle.trlab_book.proofs.GoingOn.{goes_both, leased_goes, none_left}
use Rattle.trlab_book.proofs.running.Runner.take_free.Goals as goal

pub returns-in-Ok : goal.returns-in-Ok
returns-in-Ok g c =
    let lease = c.in-Ok-Some.lease in
    let ended = c.in-Ok.ensures.turn in
    goes_both Idle (Running lease) Idle c.args.desk.now c.lease.new.desk c.take_turn.new.desk
    (leased_goes c.args.desk.now c.lease.new.desk lease c.take_turn.ensures.lease
    (subst (λ lent. MakesCallOn (LeaseIsFresh (Ok lent)) c.args.desk.now LeaseCall (lease_reply (Ok lent)) c.lease.new.desk) c.in-Ok-Some.field-0-is c.in-Ok-Some.ensures)) (record { on = ended.on; stage = ended.stage; leases = ended.leases })

pub returns-in-Ok-None : goal.returns-in-Ok-None
returns-in-Ok-None g c = none_left c.args.desk.now c.lease.new.desk
    (subst (λ lent. MakesCallOn (LeaseIsFresh (Ok lent)) c.args.desk.now LeaseCall (lease_reply (Ok lent)) c.lease.new.desk) c.in-Ok-None.field-0-is c.in-Ok-None.ensures)

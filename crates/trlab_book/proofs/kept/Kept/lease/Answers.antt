use Rattle.std.proofs.Common.{refl, ap}
use Rattle.trlab_sequential_book.specs.{Histories.{is_memory, lease_reply}, Comparison.LeaseCall}
use Rattle.trlab_book.proofs.Replaying.{IsPut, makes_put, memory_free, memory_is, put, replays_put, tells_put}
use Rattle.trlab_book.proofs.kept.Kept.lease.Goals as goal

event : (c : goal.After-put_event)
    → IsPut c.make_room.new.self.book c.lease-answer.new.self LeaseCall (lease_reply c.lease-answer.result) c.make_room.new.self.history.items c.put_event.new.history.items
event c = put (is_memory c.lease-answer.result) (memory_free c.lease-answer.result _ c.lease-answer.ensures.full_history) (λ is. ap lease_reply (memory_is c.lease-answer.result is)) c.lease-answer.ensures.reply c.lease-answer.ensures.state refl c.reply_to_lease-reply.ensures c.put_event.ensures

pub invariant_of-self : goal.invariant_of-self
invariant_of-self c = record { replays = replays_put (event c) c.make_room.new.self.replays }

pub returns-clause-made : goal.returns-clause-made
returns-clause-made c = makes_put c.args.self.now c.make_room.new.self _ LeaseCall (lease_reply c.lease-answer.result) c.make_room.ensures.unchanged (event c.before)

pub returns-clause-full_history : goal.returns-clause-full_history
returns-clause-full_history c = tells_put c.args.self.now c.make_room.new.self (lease_reply c.lease-answer.result) c.make_room.ensures.unchanged (event c.before)

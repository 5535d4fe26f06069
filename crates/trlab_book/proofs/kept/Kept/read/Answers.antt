use Rattle.std.proofs.Common.{refl, ap}
use Rattle.trlab_sequential_book.specs.Histories.{is_memory, read_reply}
use Rattle.trlab_sequential_book.specs.declared.event.Call.TheVariants.{Read}
use Rattle.trlab_book.proofs.Replaying.{IsPut, makes_put, memory_free, memory_is, put, replays_put, tells_put}
use Rattle.trlab_book.proofs.kept.Kept.read.Goals as goal

event : (c : goal.After-put_event)
    → IsPut c.make_room.new.self.book c.read-answer.new.self (Read c.args.job) (read_reply c.read-answer.result) c.make_room.new.self.history.items c.put_event.new.history.items
event c = put (is_memory c.read-answer.result) (memory_free c.read-answer.result _ c.read-answer.ensures.full_history) (λ is. ap read_reply (memory_is c.read-answer.result is)) c.read-answer.ensures.reply c.read-answer.ensures.state refl c.reply_to_read-reply.ensures c.put_event.ensures

pub invariant_of-self : goal.invariant_of-self
invariant_of-self c = record { replays = replays_put (event c) c.make_room.new.self.replays }

pub returns-clause-made : goal.returns-clause-made
returns-clause-made c = makes_put c.args.self.now c.make_room.new.self _ (Read c.args.job) (read_reply c.read-answer.result) c.make_room.ensures.unchanged (event c.before)

pub returns-clause-full_history : goal.returns-clause-full_history
returns-clause-full_history c = tells_put c.args.self.now c.make_room.new.self (read_reply c.read-answer.result) c.make_room.ensures.unchanged (event c.before)

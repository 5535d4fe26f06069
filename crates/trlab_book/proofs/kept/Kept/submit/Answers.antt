use Rattle.std.proofs.Common.{ap}
use Rattle.trlab_sequential_book.specs.Histories.{is_memory, number_reply}
use Rattle.trlab_sequential_book.specs.declared.event.Call.TheVariants.{Submit}
use Rattle.trlab_book.proofs.Replaying.{IsPut, makes_put, memory_free, memory_is, put, replays_put, tells_put}
use Rattle.trlab_book.proofs.kept.Kept.submit.Goals as goal

event : (c : goal.After-put_event)
    → IsPut c.make_room.new.self.book c.submit_shared-answer.new.self (Submit c.args.seed c.args.rule c.args.steps) (number_reply c.submit_shared-answer.result) c.make_room.new.self.history.items c.put_event.new.history.items
event c = put (is_memory c.submit_shared-answer.result) (memory_free c.submit_shared-answer.result _ c.submit_shared-answer.ensures.full_history) (λ is. ap number_reply (memory_is c.submit_shared-answer.result is)) c.submit_shared-answer.ensures.reply c.submit_shared-answer.ensures.state c.requires c.reply_to_number-reply.ensures c.put_event.ensures

pub invariant_of-self : goal.invariant_of-self
invariant_of-self c = record { replays = replays_put (event c) c.make_room.new.self.replays }

pub returns-clause-made : goal.returns-clause-made
returns-clause-made c = makes_put c.args.self.now c.make_room.new.self _ (Submit c.args.seed c.args.rule c.args.steps) (number_reply c.submit_shared-answer.result) c.make_room.ensures.unchanged (event c.before)

pub returns-clause-full_history : goal.returns-clause-full_history
returns-clause-full_history c = tells_put c.args.self.now c.make_room.new.self (number_reply c.submit_shared-answer.result) c.make_room.ensures.unchanged (event c.before)

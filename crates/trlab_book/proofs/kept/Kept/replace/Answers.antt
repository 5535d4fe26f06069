use Rattle.std.proofs.Common.{ap}
use Rattle.trlab_sequential_book.specs.Histories.{is_memory, number_reply}
use Rattle.trlab_sequential_book.specs.declared.event.Call.TheVariants.{Replace}
use Rattle.trlab_book.proofs.Replaying.{IsPut, makes_put, memory_free, memory_is, put, replays_put, tells_put}
use Rattle.trlab_book.proofs.kept.Kept.replace.Goals as goal

event : (c : goal.After-put_event)
    → IsPut c.make_room.new.self.book c.replace-answer.new.self (Replace c.args.job c.args.rule) (number_reply c.replace-answer.result) c.make_room.new.self.history.items c.put_event.new.history.items
event c = put (is_memory c.replace-answer.result) (memory_free c.replace-answer.result _ c.replace-answer.ensures.full_history) (λ is. ap number_reply (memory_is c.replace-answer.result is)) c.replace-answer.ensures.reply c.replace-answer.ensures.state c.requires c.reply_to_number-reply.ensures c.put_event.ensures

pub invariant_of-self : goal.invariant_of-self
invariant_of-self c = record { replays = replays_put (event c) c.make_room.new.self.replays }

pub returns-clause-made : goal.returns-clause-made
returns-clause-made c = makes_put c.args.self.now c.make_room.new.self _ (Replace c.args.job c.args.rule) (number_reply c.replace-answer.result) c.make_room.ensures.unchanged (event c.before)

pub returns-clause-full_history : goal.returns-clause-full_history
returns-clause-full_history c = tells_put c.args.self.now c.make_room.new.self (number_reply c.replace-answer.result) c.make_room.ensures.unchanged (event c.before)

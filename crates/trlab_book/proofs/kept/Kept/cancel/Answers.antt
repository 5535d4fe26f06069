use Rattle.std.proofs.{Common.{refl, false}, lemmas.Bool.{false≢true}}
use Rattle.trlab_sequential_book.specs.{Histories.done_reply, declared.event.Call.TheVariants.Cancel}
use Rattle.trlab_book.proofs.Replaying.{IsPut, makes_put, put, replays_put, tells_put}
use Rattle.trlab_book.proofs.kept.Kept.cancel.Goals as goal

event : (c : goal.After-put_event)
    → IsPut c.make_room.new.self.book c.cancel-answer.new.self (Cancel c.args.job) (done_reply c.cancel-answer.result) c.make_room.new.self.history.items c.put_event.new.history.items
event c = put false (λ is. absurd (false≢true is)) (λ is. absurd (false≢true is)) c.cancel-answer.ensures.reply c.cancel-answer.ensures.state refl c.reply_to_done-reply.ensures c.put_event.ensures

pub invariant_of-self : goal.invariant_of-self
invariant_of-self c = record { replays = replays_put (event c) c.make_room.new.self.replays }

pub returns-clause-made : goal.returns-clause-made
returns-clause-made c = makes_put c.args.self.now c.make_room.new.self _ (Cancel c.args.job) (done_reply c.cancel-answer.result) c.make_room.ensures.unchanged (event c.before)

pub returns-clause-full_history : goal.returns-clause-full_history
returns-clause-full_history c = tells_put c.args.self.now c.make_room.new.self (done_reply c.cancel-answer.result) c.make_room.ensures.unchanged (event c.before)

use Rattle.std.proofs.{Common.{refl, false}, lemmas.Bool.{false≢true}}
use Rattle.trlab_sequential_book.specs.{Histories.done_reply, declared.event.Call.TheVariants.Revoke}
use Rattle.trlab_book.proofs.Replaying.{IsPut, makes_put, put, replays_put, tells_put}
use Rattle.trlab_book.proofs.kept.Kept.revoke.Goals as goal

event : (c : goal.After-put_event)
    → IsPut c.make_room.new.self.book c.revoke-answer.new.self (Revoke c.args.job) (done_reply c.revoke-answer.result) c.make_room.new.self.history.items c.put_event.new.history.items
event c = put false (λ is. absurd (false≢true is)) (λ is. absurd (false≢true is)) c.revoke-answer.ensures.reply c.revoke-answer.ensures.state refl c.reply_to_done-reply.ensures c.put_event.ensures

pub invariant_of-self : goal.invariant_of-self
invariant_of-self c = record { replays = replays_put (event c) c.make_room.new.self.replays }

pub returns-clause-made : goal.returns-clause-made
returns-clause-made c = makes_put c.args.self.now c.make_room.new.self _ (Revoke c.args.job) (done_reply c.revoke-answer.result) c.make_room.ensures.unchanged (event c.before)

pub returns-clause-full_history : goal.returns-clause-full_history
returns-clause-full_history c = tells_put c.args.self.now c.make_room.new.self (done_reply c.revoke-answer.result) c.make_room.ensures.unchanged (event c.before)

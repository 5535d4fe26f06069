use Rattle.std.proofs.{Common.{◌↔◌, IsTrue, false, ap, subst}, lemmas.Bool.{OnTrue_from, false≢true}}
use Rattle.trlab_sequential_book.specs.{Histories.give_back_reply, Comparison.{RunsRoadOfItsJob, offered}}
use Rattle.trlab_sequential_book.specs.{Machine.BookState, declared.event.Call.TheVariants.GiveBack}
use Rattle.trlab_book.proofs.Replaying.{IsPut, makes_offered, put, replays_put, tells_put}
use Rattle.trlab_book.proofs.kept.Kept.give_back.Goals as goal

event : (c : goal.After-put_event)
    → IsPut c.make_room.new.self.book c.give_back_as-answer.new.self (GiveBack (offered c.args.lease c.lease_runs_its_road-runs_its_road.result)) (give_back_reply c.give_back_as-answer.result) c.make_room.new.self.history.items c.put_event.new.history.items
event c = put false (λ is. absurd (false≢true is)) (λ is. absurd (false≢true is)) c.give_back_as-answer.ensures.reply c.give_back_as-answer.ensures.state (ap GiveBack c.offered.ensures) c.reply_to_give_back-reply.ensures c.put_event.ensures

pub invariant_of-self : goal.invariant_of-self
invariant_of-self c = record { replays = replays_put (event c) c.make_room.new.self.replays }

pub returns-clause-made : goal.returns-clause-made
returns-clause-made c = λ other is.
    makes_offered GiveBack c.args.self.now c.make_room.new.self _ c.args.lease c.lease_runs_its_road-runs_its_road.result other (give_back_reply c.give_back_as-answer.result) c.make_room.ensures.unchanged c.lease_runs_its_road-runs_its_road.ensures is (event c.before)

pub returns-clause-noted : goal.returns-clause-noted
returns-clause-noted c =
    let same = c.lease_runs_its_road-runs_its_road.result in
    let is = subst (λ (b : BookState). IsTrue same ↔ RunsRoadOfItsJob b.jobs c.args.lease) c.make_room.ensures.unchanged.book c.lease_runs_its_road-runs_its_road.ensures in
    (same, OnTrue_from _ _ (λ _. is), returns-clause-made c same is)

pub returns-clause-returned : goal.returns-clause-returned
returns-clause-returned c = c.give_back_as-answer.ensures.returned

pub returns-clause-full_history : goal.returns-clause-full_history
returns-clause-full_history c = tells_put c.args.self.now c.make_room.new.self (give_back_reply c.give_back_as-answer.result) c.make_room.ensures.unchanged (event c.before)

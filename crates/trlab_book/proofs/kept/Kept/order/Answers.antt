use Rattle.std.proofs.{Common.{◌↔◌, IsTrue, IfOk, ap, subst}, lemmas.Bool.OnTrue_from}
use Rattle.trlab_sequential_book.specs.{Histories.{is_memory, order_reply}, Comparison.HasRuleInForce}
use Rattle.trlab_sequential_book.specs.{Comparison.{RunsRoadOfItsJob, OrderCall, offered}, Machine.BookState}
use Rattle.trlab_book.proofs.Replaying.{IsPut, makes_offered, memory_free, memory_is, put, replays_put}
use Rattle.trlab_book.proofs.Replaying.{tells_put}
use Rattle.trlab_book.proofs.kept.Kept.order.Goals as goal

event : (c : goal.After-put_event)
    → IsPut c.make_room.new.self.book c.order_as-answer.new.self (OrderCall (offered c.args.lease.now c.lease_runs_its_road-runs_its_road.result)) (order_reply c.order_as-answer.result) c.make_room.new.self.history.items c.put_event.new.history.items
event c = put (is_memory c.order_as-answer.result) (memory_free c.order_as-answer.result _ c.order_as-answer.ensures.full_history) (λ is. ap order_reply (memory_is c.order_as-answer.result is)) c.order_as-answer.ensures.reply c.order_as-answer.ensures.state (ap OrderCall c.offered.ensures) c.reply_to_order-reply.ensures c.put_event.ensures

pub invariant_of-self : goal.invariant_of-self
invariant_of-self c = record { replays = replays_put (event c) c.make_room.new.self.replays }

pub returns-clause-made : goal.returns-clause-made
returns-clause-made c = λ other is.
    makes_offered OrderCall c.args.self.now c.make_room.new.self _ c.args.lease.now c.lease_runs_its_road-runs_its_road.result other (order_reply c.order_as-answer.result) c.make_room.ensures.unchanged c.lease_runs_its_road-runs_its_road.ensures is (event c.before)

pub returns-clause-noted : goal.returns-clause-noted
returns-clause-noted c =
    let same = c.lease_runs_its_road-runs_its_road.result in
    let is = subst (λ (b : BookState). IsTrue same ↔ RunsRoadOfItsJob b.jobs c.args.lease.now) c.make_room.ensures.unchanged.book c.lease_runs_its_road-runs_its_road.ensures in
    (same, OnTrue_from _ _ (λ _. is), returns-clause-made c same is)

pub returns-clause-rule : goal.returns-clause-rule
returns-clause-rule c =
    subst (λ (b : BookState). IfOk c.order_as-answer.result (λ o. HasRuleInForce b.jobs o)) c.make_room.ensures.unchanged.book c.order_as-answer.ensures.rule

pub returns-clause-full_history : goal.returns-clause-full_history
returns-clause-full_history c = tells_put c.args.self.now c.make_room.new.self (order_reply c.order_as-answer.result) c.make_room.ensures.unchanged (event c.before)

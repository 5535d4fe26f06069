-- Each lease of a runner's log ends.
use Rattle.std.proofs.Common.{◌≡◌, ℕ, ◌+◌, ◌==◌, Bool, true, false, List, [], ◌∷◌, ◌++◌, refl, sym, ap, subst}
use Rattle.std.proofs.{Common.{◌∙◌, ◌&&◌, ltb, if◌then◌else◌}, lemmas.List.Elements.{All-nil, All-cons}}
use Rattle.std.proofs.lemmas.List.Sums.{fold-append}
use Rattle.trlab_sequential_book.specs.declared.event.{Call.Call, Event.Event, Offered.Offered, Reply.Reply}
use Rattle.trlab_sequential_book.specs.Histories.{event}
use Rattle.trlab_sequential_book.specs.declared.event.Call.TheVariants as call
use Rattle.trlab_sequential_book.specs.declared.event.Reply.TheVariants as reply
use Rattle.trlab_strands.specs.declared.knowledge.Noted.{Noted}
use Rattle.trlab_book.specs.Turns.{IsEndedIn, LeasesEnd, ends_lease, is_lease_of, is_order_of, Astray, Free}
use Rattle.trlab_book.specs.Turns.{InTurn, Stage, Finished, Turn, after_giving_back, after_ordering}
use Rattle.trlab_book.specs.Turns.{is_of_turn, last_stage, stage_after, with_lease}

-- after a call that no runner makes, no further calls complete the log of a runner
astray : (events : List (Noted Event)) → last_stage Astray events ≡ Finished → ⊥
astray [] is = cc
astray (made ∷ events) is = astray events is

own_pair : (a b c d : Bool) → (a && (b && (c && d))) ≡ true → (a && b) ≡ true
own_pair true true c d is = refl
own_pair true false c d is = absurd (cc is)
own_pair false b c d is = absurd (cc is)

left : (a b : Bool) → (a && b) ≡ true → a ≡ true
left true b is = refl
left false b is = absurd (cc is)

own : (turn : Turn) (lease : Offered) → is_of_turn turn lease ≡ true → is_lease_of turn.job turn.number lease ≡ true
own turn lease is = own_pair (turn.job == lease.job) (turn.number == lease.number) (turn.base == lease.base) (turn.step == lease.step) is

module _ (turn : Turn) (made : Noted Event) (events : List (Noted Event))
    (rest : (t : Turn) → last_stage (InTurn t) events ≡ Finished → IsEndedIn t.job t.number events) where
  ends_here : (c : Call) (r : Reply) → made.event.call ≡ c → made.event.reply ≡ r → ends_lease turn.job turn.number c r ≡ true → IsEndedIn turn.job turn.number (made ∷ events)
  ends_here c r is_call is_reply ends = record {
    orders = [];
    last = made;
    later = events;
    events_are = refl;
    ordered = All-nil _;
    ends = rw (is_call, is_reply) ends;
  }

  by_order : (lease : Offered) (r : Reply) → made.event.call ≡ call.Order lease → made.event.reply ≡ r → is_of_turn turn lease ≡ true → last_stage (after_ordering turn r) events ≡ Finished → IsEndedIn turn.job turn.number (made ∷ events)
  by_order lease (reply.Ordered job number step from) is_call is_reply mine is =
      let more = rest (record turn { step = turn.step + 1 }) is in
      let here : is_order_of turn.job turn.number made.event.call made.event.reply ≡ true = rw (is_call, is_reply) (own turn lease mine) in
      record {
        orders = made ∷ more.orders;
        last = more.last;
        later = more.later;
        events_are = ap (λ (l : List (Noted Event)). made ∷ l) more.events_are;
        ordered = All-cons (λ (m : Noted Event). is_order_of turn.job turn.number m.event.call m.event.reply ≡ true) made more.orders here more.ordered;
        ends = more.ends;
      }
  by_order lease (reply.Refused fault) is_call is_reply mine is = ends_here (call.Order lease) (reply.Refused fault) is_call is_reply (own turn lease mine)
  by_order lease (reply.Number n) is_call is_reply mine is = absurd (astray events is)
  by_order lease (reply.Leased job number step steps) is_call is_reply mine is = absurd (astray events is)
  by_order lease reply.NoLease is_call is_reply mine is = absurd (astray events is)
  by_order lease reply.Done is_call is_reply mine is = absurd (astray events is)
  by_order lease (reply.Seen step entries) is_call is_reply mine is = absurd (astray events is)

  by_back : (lease : Offered) (r : Reply) → made.event.call ≡ call.GiveBack lease → made.event.reply ≡ r → is_of_turn turn lease ≡ true → last_stage (after_giving_back r) events ≡ Finished → IsEndedIn turn.job turn.number (made ∷ events)
  by_back lease reply.Done is_call is_reply mine is = ends_here (call.GiveBack lease) reply.Done is_call is_reply (own turn lease mine)
  by_back lease (reply.Refused fault) is_call is_reply mine is = ends_here (call.GiveBack lease) (reply.Refused fault) is_call is_reply (own turn lease mine)
  by_back lease (reply.Number n) is_call is_reply mine is = absurd (astray events is)
  by_back lease (reply.Leased job number step steps) is_call is_reply mine is = absurd (astray events is)
  by_back lease reply.NoLease is_call is_reply mine is = absurd (astray events is)
  by_back lease (reply.Ordered job number step from) is_call is_reply mine is = absurd (astray events is)
  by_back lease (reply.Seen step entries) is_call is_reply mine is = absurd (astray events is)

  order_if : (lease : Offered) (yes : Bool) → (is_of_turn turn lease && ltb turn.step turn.steps) ≡ yes → made.event.call ≡ call.Order lease
      → last_stage (if yes then after_ordering turn made.event.reply else Astray) events ≡ Finished → IsEndedIn turn.job turn.number (made ∷ events)
  order_if lease true mine is_call is = by_order lease made.event.reply is_call refl (left (is_of_turn turn lease) (ltb turn.step turn.steps) mine) is
  order_if lease false mine is_call is = absurd (astray events is)

  back_if : (lease : Offered) (yes : Bool) → is_of_turn turn lease ≡ yes → made.event.call ≡ call.GiveBack lease
      → last_stage (if yes then after_giving_back made.event.reply else Astray) events ≡ Finished → IsEndedIn turn.job turn.number (made ∷ events)
  back_if lease true mine is_call is = by_back lease made.event.reply is_call refl mine is
  back_if lease false mine is_call is = absurd (astray events is)

  by_call : (c : Call) → made.event.call ≡ c → last_stage (with_lease turn c made.event.reply) events ≡ Finished → IsEndedIn turn.job turn.number (made ∷ events)
  by_call (call.Order lease) is_call is = order_if lease (is_of_turn turn lease && ltb turn.step turn.steps) refl is_call is
  by_call (call.GiveBack lease) is_call is = back_if lease (is_of_turn turn lease) refl is_call is
  by_call (call.Submit seed rule steps) is_call is = absurd (astray events is)
  by_call (call.Replace job rule) is_call is = absurd (astray events is)
  by_call call.Lease is_call is = absurd (astray events is)
  by_call (call.Revoke job) is_call is = absurd (astray events is)
  by_call (call.Cancel job) is_call is = absurd (astray events is)
  by_call (call.Read job) is_call is = absurd (astray events is)

ends_from : (turn : Turn) (events : List (Noted Event)) → last_stage (InTurn turn) events ≡ Finished → IsEndedIn turn.job turn.number events
ends_from turn [] is = absurd (cc is)
ends_from turn (made ∷ events) is = by_call turn made events (λ t. ends_from t events) made.event.call refl is

-- a lease goes out only at a runner that has none
module _ (after : List (Noted Event)) (job number step steps : ℕ) where
  if_astray : (yes : Bool) → last_stage (if yes then Astray else Astray) after ≡ Finished → ⊥
  if_astray true is = astray after is
  if_astray false is = astray after is

  free_by : (c : Call) → last_stage (stage_after Free (event c (reply.Leased job number step steps))) after ≡ Finished → IsEndedIn job number after
  free_by call.Lease is = ends_from (record { job = job; number = number; base = step; step = step; steps = steps }) after is
  free_by (call.Order lease) is = absurd (astray after is)
  free_by (call.GiveBack lease) is = absurd (astray after is)
  free_by (call.Submit seed rule n) is = absurd (astray after is)
  free_by (call.Replace j rule) is = absurd (astray after is)
  free_by (call.Revoke j) is = absurd (astray after is)
  free_by (call.Cancel j) is = absurd (astray after is)
  free_by (call.Read j) is = absurd (astray after is)

  has_by : (turn : Turn) (c : Call) → last_stage (stage_after (InTurn turn) (event c (reply.Leased job number step steps))) after ≡ Finished → ⊥
  has_by turn (call.Order lease) is = if_astray (is_of_turn turn lease && ltb turn.step turn.steps) is
  has_by turn (call.GiveBack lease) is = if_astray (is_of_turn turn lease) is
  has_by turn call.Lease is = astray after is
  has_by turn (call.Submit seed rule n) is = astray after is
  has_by turn (call.Replace j rule) is = astray after is
  has_by turn (call.Revoke j) is = astray after is
  has_by turn (call.Cancel j) is = astray after is
  has_by turn (call.Read j) is = astray after is

  by_stage : (s : Stage) (c : Call) → last_stage (stage_after s (event c (reply.Leased job number step steps))) after ≡ Finished → IsEndedIn job number after
  by_stage Free c is = free_by c is
  by_stage (InTurn turn) c is = absurd (has_by turn c is)
  by_stage Finished c is = absurd (astray after is)
  by_stage Astray c is = absurd (astray after is)

pub leases_end : LeasesEnd
leases_end log before after made job number step steps is split told =
    let whole : last_stage Free (before ++ made ∷ after) ≡ Finished = subst (λ (l : List (Noted Event)). last_stage Free l ≡ Finished) split is.stage in
    let s = last_stage Free before in
    let rest : last_stage (stage_after s made.event) after ≡ Finished =
    sym (fold-append (λ (stage : Stage) (m : Noted Event). stage_after stage m.event) Free before (made ∷ after)) ∙ whole in
    by_stage after job number step steps s made.event.call (subst (λ (r : Reply). last_stage (stage_after s (event made.event.call r)) after ≡ Finished) told rest)

-- A lease that is out and ran only ordered steps runs the road of its job, so that the book accepts it.
use Rattle.std.proofs.Common.{◌≡◌, ℕ, ◌+◌, ◌<◌, ◌==◌, ◌&&◌, ◌||◌, not, ltb, max, Bool, true, false, List, []}
use Rattle.std.proofs.Common.{◌∷◌, ◌++◌, Option, Some, None, map, refl, sym, ◌∙◌, ap, subst, true≢false, inl}
use Rattle.std.proofs.Common.{inr, arith, length-append, slice_get, slice_set, MatchOption, Ok, is_some, ◌↔◌}
use Rattle.std.proofs.{Common.{IsTrue, if◌then◌else◌, position, eq-eqb, le-ltb}, lemmas.Bool.cond-false}
use Rattle.std.proofs.lemmas.{Bool.and_parts, List.Quantifiers.position-Some, Option.get_or_from_slice_get}
use Rattle.trlab_rules.specs.Rules.{Programs}
use Rattle.trlab_road.specs.Cells.{Cells}
use Rattle.trlab_step.specs.{declared.tally.StepTally.StepTally, Run.in_force}
use Rattle.trlab_sequential_book.specs.{declared.event.Event.Event, Leases.{LeaseState, with_executed_step}}
use Rattle.trlab_sequential_book.specs.{declared.event.Call.Call, Histories.state_from, Sheets.begin_in_force}
use Rattle.trlab_sequential_book.specs.{declared.event.Reply.Reply, Comparison.{RunsRoadOfJob, offered}}
use Rattle.trlab_sequential_book.specs.declared.{fault.BookFault.BookFault, lease.ExecutedStep.ExecutedStep}
use Rattle.trlab_sequential_book.{specs.declared.order.Order.Order, proofs.Booking.{back_taken, on_found}}
use Rattle.trlab_sequential_book.specs.Histories.{is_event, lease_reply, order_reply, GoesThrough, IsNotOut}
use Rattle.trlab_sequential_book.specs.Histories.{Offers, RanStep, RefusedLeasesAreNotOut, WentOut}
use Rattle.trlab_sequential_book.specs.Histories.{book_after, call_of, event, replies_from, reply_of_event}
use Rattle.trlab_sequential_book.specs.Comparison.{HasRuleInForce, IsFresh, IsFreshIfLent, RunsRoadOfItsJob}
use Rattle.trlab_sequential_book.specs.Machine.{JobState, JobOutcome, JobsOutcome, BookState, accepts_lease}
use Rattle.trlab_sequential_book.specs.Machine.{after, empty_book, give_back_outcome, has_full_history}
use Rattle.trlab_sequential_book.specs.Machine.{is_free, is_out, lease_outcome, next_after, on_free, on_job}
use Rattle.trlab_sequential_book.specs.Machine.{order_outcome, outcome_of_call, refusal, reply_of}
use Rattle.trlab_sequential_book.proofs.LeaseTracking.{same_number, apart, set_here, push_was, Knows}
use Rattle.trlab_sequential_book.proofs.LeaseTracking.{IsOnStep, next_grows, made_on, tracks_on, IsOutFor}
use Rattle.trlab_sequential_book.proofs.LeaseTracking.{At, Tracks}
use Rattle.trlab_sequential_book.proofs.OrderedSteps.{AreOrdered, ordered_after, none_at_first}
use Rattle.trlab_sequential_book.specs.declared.event.Call.TheVariants as call
use Rattle.trlab_sequential_book.specs.declared.event.Reply.TheVariants as reply
use Rattle.trlab_sequential_book.specs.declared.fault.BookFault.TheVariants as fault

-- replies that are not of a full book

room_if : (full : Bool) (told said : Reply) → (if full then reply.Refused fault.HistoryFull else told) ≡ said → (said ≡ reply.Refused fault.HistoryFull → ⊥) → (full ≡ false) × (told ≡ said)
room_if true told said is other = absurd (other (sym is))
room_if false told said is other = (refl, is)

after_room : (book : BookState) (made : Call) → has_full_history book ≡ false → after book made ≡ made_on book made
after_room book made room = cond-false (has_full_history book) book (made_on book made) room

-- a lease goes out

free_parts : (job : JobState) → is_free job ≡ true → job.cancelled ≡ false
free_parts job is =
    let a = (and_parts (not (is_some job.out)) (not job.cancelled && ltb job.done job.steps) is).1 in
    not_true job.cancelled (and_parts (not job.cancelled) (ltb job.done job.steps) a).0
  where
    not_true : (b : Bool) → not b ≡ true → b ≡ false
    not_true true h = sym h
    not_true false h = refl

leased_parts : {j k m n s t a b : ℕ} → reply.Leased j m s a ≡ reply.Leased k n t b → (j ≡ k) × (m ≡ n)
leased_parts h = (cc, cc)

fresh_of : (lease : LeaseState) (jobs : List JobState) (next : ℕ) (job : JobState) → slice_get jobs lease.job ≡ Some job → IsFreshIfLent jobs next (Some lease) → IsFresh job next lease
fresh_of lease jobs next job at fresh = subst (λ (o : Option JobState). MatchOption o ⊥ (λ (k : JobState). IsFresh k next lease)) at fresh

module _ (lease : LeaseState) (book : BookState) (fresh : IsFreshIfLent book.jobs book.next (Some lease)) (are : AreOrdered book.jobs) where
  lent_by : (index : ℕ) → position is_free book.jobs ≡ Some index → (found : Option JobState) → slice_get book.jobs index ≡ found
      → (on_job book.jobs index (lease_outcome index book.next)).reply ≡ lease_reply (Ok (Some lease)) → At lease (on_job book.jobs index (lease_outcome index book.next)).jobs
  lent_by index first None none told =
      let t : Option JobState → JobsOutcome = λ o. elim o [ None ↦ record { reply = reply.Refused fault.NoSuchJob; jobs = book.jobs } | Some k ↦ record { reply = (lease_outcome index book.next k).reply; jobs = slice_set book.jobs index (lease_outcome index book.next k).job } ] in
      let other : reply.Refused fault.NoSuchJob ≡ lease_reply (Ok (Some lease)) = sym (ap (λ (s : JobsOutcome). s.reply) (ap t none)) ∙ told in
      absurd cc
  lent_by index first (Some job) found told =
      let ended = on_found book.jobs index job (lease_outcome index book.next) found in
      let parts = leased_parts (sym (ap (λ (s : JobsOutcome). s.reply) ended) ∙ told) in
      let now : JobState = record job { out = Some book.next } in
      let at : slice_get book.jobs lease.job ≡ Some job = ap (slice_get book.jobs) (sym parts.0) ∙ found in
      let is = fresh_of lease book.jobs book.next job at fresh in
      let free = (position-Some is_free book.jobs index job first).1 in
      let own = is.own in
      subst (At lease) (sym (ap (λ (s : JobsOutcome). s.jobs) ended)) (record {
        job = now;
        at = ap (slice_get (slice_set book.jobs index now)) (sym parts.0) ∙ set_here book.jobs index now job found;
        knows = inl (record {
          out = ap Some (sym is.number_is);
          going = free_parts job (subst (λ (k : JobState). is_free k ≡ true) (get_or_from_slice_get book.jobs index job job found) free);
          steps = is.steps;
          base = is.base_step;
          ordered = (let low = are index job found in omega (arith, low, is.step));
          own = record { key = own.key; number = own.number; base = own.base; rules = own.rules };
        });
      })

  lent_at : (free : Option ℕ) → position is_free book.jobs ≡ free → (on_free book.jobs book.next free).reply ≡ lease_reply (Ok (Some lease)) → At lease (on_free book.jobs book.next free).jobs
  lent_at None none told = absurd cc
  lent_at (Some index) first told = lent_by index first (slice_get book.jobs index) refl told

not_full_leased : (job number step steps : ℕ) → reply.Leased job number step steps ≡ reply.Refused fault.HistoryFull → ⊥
not_full_leased job number step steps h = cc

number_of : (lease : LeaseState) (jobs : List JobState) (next : ℕ) (found : Option JobState) → slice_get jobs lease.job ≡ found → IsFreshIfLent jobs next (Some lease) → lease.number ≡ next
number_of lease jobs next None at fresh = absurd (subst (λ (o : Option JobState). MatchOption o ⊥ (λ (k : JobState). IsFresh k next lease)) at fresh)
number_of lease jobs next (Some job) at fresh = (fresh_of lease jobs next job at fresh).number_is

went_on : (lease : LeaseState) (book : BookState) (out : Event) → WentOut book out lease → out.reply ≡ reply_of book out.call → AreOrdered book.jobs → Tracks lease (after book out.call)
went_on lease book out went told are =
    let is_call : out.call ≡ call.Lease = ap (λ (e : Event). e.call) went.made_is in
    let is_reply : out.reply ≡ lease_reply (Ok (Some lease)) = ap (λ (e : Event). e.reply) went.made_is in
    let said : reply_of book call.Lease ≡ lease_reply (Ok (Some lease)) = ap (reply_of book) (sym is_call) ∙ (sym told ∙ is_reply) in
    let room = room_if (has_full_history book) (outcome_of_call book call.Lease).reply (lease_reply (Ok (Some lease))) said (not_full_leased lease.job lease.number lease.step lease.steps) in
    let next : next_after book.next (outcome_of_call book call.Lease).reply ≡ book.next + 1 = ap (next_after book.next) room.1 in
    let number = number_of lease book.jobs book.next (slice_get book.jobs lease.job) refl went.fresh in
    let there : Tracks lease (made_on book call.Lease) = record {
      low = omega (arith, next, number);
      on = went.is_lease.steps_run;
      here = lent_at lease book went.fresh are (position is_free book.jobs) refl room.1;
    } in
    subst (λ (c : Call). Tracks lease (after book c)) (sym is_call) (subst (Tracks lease) (sym (after_room book call.Lease room.0)) there)

-- a lease runs an ordered step

ordered_by : (b c : Bool) (job now : JobState) (told said : Reply) → ((why : BookFault) → reply.Refused why ≡ said → ⊥)
    → let ended : JobOutcome = if b then refusal fault.Ended job else if c then record { reply = told; job = now } else refusal fault.StrangerLease job in
    ended.reply ≡ said → ended.job ≡ now
ordered_by true c job now told said other is = absurd (other fault.Ended is)
ordered_by false true job now told said other is = refl
ordered_by false false job now told said other is = absurd (other fault.StrangerLease is)

not_ordered : (order : Order) (why : BookFault) → reply.Refused why ≡ order_reply (Ok order) → ⊥
not_ordered order why h = cc

-- the lease after the step
module _ (old : LeaseState) (rule : Programs) (tally : StepTally) (road : Cells) where
  abbrev stepped : LeaseState
  stepped = with_executed_step old rule tally road

  stepped_rules : (job : JobState) → IsOnStep old → in_force job.sheet old.step ≡ Some rule → RunsRoadOfJob job old → RunsRoadOfJob job stepped
  stepped_rules job on under own = record {
    key = own.key;
    number = own.number;
    base = own.base;
    rules = λ k ran at. elim (push_was old.applied (record { rule = rule; tally = tally }) ran k at) [
      | inl before ↦ own.rules k ran before
      | inr last ↦
          let here : old.base.step + k ≡ old.step = omega (arith, on, last.0) in
          ap (in_force job.sheet) here ∙ (under ∙ ap (λ (e : ExecutedStep). Some e.rule) (sym last.1))
    ];
  }

  stepped_on : IsOnStep old → IsOnStep stepped
  stepped_on on = let size = length-append old.applied (record { rule = rule; tally = tally } ∷ []) in omega (arith, on, size)

rule_of_job : (jobs : List JobState) (order : Order) (number : ℕ) (job : JobState) → order.job ≡ number → slice_get jobs number ≡ Some job → HasRuleInForce jobs order → in_force job.sheet order.step ≡ Some order.rule
rule_of_job jobs order number job own at rule =
    subst (λ (o : Option JobState). MatchOption o ⊥ (λ (k : JobState). in_force k.sheet order.step ≡ Some order.rule)) (ap (slice_get jobs) own ∙ at) rule

module _ (old : LeaseState) (book : BookState) (order : Order) (same : Bool) (tally : StepTally) (road : Cells)
    (rule : HasRuleInForce book.jobs order) (own_job : order.job ≡ old.job) (own_step : order.step ≡ old.step)
    (tracks : Tracks old book) (told : (on_job book.jobs old.job (order_outcome (offered old same))).reply ≡ order_reply (Ok order)) where
  abbrev ran_lease : LeaseState
  ran_lease = with_executed_step old order.rule tally road

  abbrev its_job : JobState
  its_job = tracks.here.job

  abbrev ordered_job : JobState
  ordered_job = record its_job { high = max its_job.high (old.step + 1) }

  step_at : At ran_lease (on_job book.jobs old.job (order_outcome (offered old same))).jobs
  step_at =
      let ended = on_found book.jobs old.job its_job (order_outcome (offered old same)) tracks.here.at in
      let said : (order_outcome (offered old same) its_job).reply ≡ order_reply (Ok order) = sym (ap (λ (s : JobsOutcome). s.reply) ended) ∙ told in
      let is : (order_outcome (offered old same) its_job).job ≡ ordered_job = ordered_by (its_job.cancelled || (old.step == its_job.steps)) (accepts_lease (offered old same) its_job) its_job ordered_job _ _ (not_ordered order) said in
      let under = rule_of_job book.jobs order old.job its_job own_job tracks.here.at rule in
      let put = (order_outcome (offered old same) its_job).job in
      let known : Knows ran_lease ordered_job = elim tracks.here.knows [
        | inl out ↦
            let own = stepped_rules old order.rule tally road its_job tracks.on (subst (λ (n : ℕ). in_force its_job.sheet n ≡ Some order.rule) own_step under) out.own in
            inl (record { out = out.out; going = out.going; steps = out.steps; base = out.base; ordered = omega arith; own = record { key = own.key; number = own.number; base = own.base; rules = own.rules } })
        | inr other ↦ inr other
      ] in
      subst (At ran_lease) (sym (ap (λ (s : JobsOutcome). s.jobs) ended)) (record {
        job = put;
        at = set_here book.jobs old.job put its_job tracks.here.at;
        knows = subst (Knows ran_lease) (sym is) known;
      })

ran_on : (old new : LeaseState) (book : BookState) (made : Event) → RanStep book made old new → made.reply ≡ reply_of book made.call → Tracks old book → Tracks new (after book made.call)
ran_on old new book made step told tracks =
    let order = step.order in
    let c = call.Order (offered old step.same) in
    let is_call : made.call ≡ c = ap (λ (e : Event). e.call) step.made_is in
    let is_reply : made.reply ≡ order_reply (Ok order) = ap (λ (e : Event). e.reply) step.made_is in
    let said : reply_of book c ≡ order_reply (Ok order) = ap (reply_of book) (sym is_call) ∙ (sym told ∙ is_reply) in
    let room = room_if (has_full_history book) (outcome_of_call book c).reply (order_reply (Ok order)) said (λ is. absurd (not_ordered order fault.HistoryFull (sym is))) in
    let grows = next_grows book.next (outcome_of_call book c).reply in
    let there : Tracks (with_executed_step old order.rule step.ran.tally new.road) (made_on book c) = record {
      low = omega (arith, grows, tracks.low);
      on = stepped_on old order.rule step.ran.tally new.road tracks.on;
      here = step_at old book order step.same step.ran.tally new.road step.rule step.ran.fits.job step.ran.fits.step tracks room.1;
    } in
    subst (λ (e : Call). Tracks new (after book e)) (sym is_call) (subst (Tracks new) (sym (after_room book c room.0)) (subst (λ (l : LeaseState). Tracks l (made_on book c)) (sym step.ran.grown) there))

-- the events of a history, one after another

head_is : (x y : Reply) (xs ys : List Reply) → x ∷ xs ≡ y ∷ ys → x ≡ y
head_is x y xs ys is = cc

tail_is : (x y : Reply) (xs ys : List Reply) → x ∷ xs ≡ y ∷ ys → xs ≡ ys
tail_is x y xs ys is = cc

-- these events have the replies of this book
abbrev Told : BookState → List Event → Type 0
Told book events = map reply_of_event events ≡ replies_from book (map call_of events)

first_told : (book : BookState) (made : Event) (events : List Event) → Told book (made ∷ events) → made.reply ≡ reply_of book made.call
first_told book made events told = head_is made.reply (reply_of book made.call) (map reply_of_event events) (replies_from (after book made.call) (map call_of events)) told

rest_told : (book : BookState) (made : Event) (events : List Event) → Told book (made ∷ events) → Told (after book made.call) events
rest_told book made events told = tail_is made.reply (reply_of book made.call) (map reply_of_event events) (replies_from (after book made.call) (map call_of events)) told

told_after : (book : BookState) (before events : List Event) → Told book (before ++ events) → Told (state_from book (map call_of before)) events
told_after book [] events told = told
told_after book (made ∷ before) events told = told_after (after book made.call) before events (rest_told book made (before ++ events) told)

state_after : (book : BookState) (before events : List Event) → state_from book (map call_of (before ++ events)) ≡ state_from (state_from book (map call_of before)) (map call_of events)
state_after book [] events = refl
state_after book (made ∷ before) events = state_after (after book made.call) before events

goes : (book : BookState) (events later : List Event) (old new : LeaseState) → Told book (events ++ later) → Tracks old book → GoesThrough book events old new → Tracks new (state_from book (map call_of events))
goes book [] later old new told tracks is = subst (λ (l : LeaseState). Tracks l book) (sym is) tracks
goes book (made ∷ events) later old new told tracks through =
    let next = through.0 in
    let first = first_told book made (events ++ later) told in
    let on : Tracks next (after book made.call) = elim through.1 [
      | inl stays ↦ subst (λ (l : LeaseState). Tracks l (after book made.call)) (sym stays) (tracks_on old book made.call tracks)
      | inr ran ↦ ran_on old next book made ran first tracks
    ] in
    goes (after book made.call) events later next new (rest_told book made (events ++ later) told) on through.2

-- the book does not refuse a lease that is out

all_true : (a b c d : Bool) → a ≡ true → b ≡ true → c ≡ true → d ≡ true → (a && (b && (c && d))) ≡ true
all_true true true true d ha hb hc hd = hd
all_true true true false d ha hb hc hd = absurd (cc hc)
all_true true false c d ha hb hc hd = absurd (cc hb)
all_true false b c d ha hb hc hd = absurd (cc ha)

neither : (a b : Bool) → a ≡ false → b ≡ false → (a || b) ≡ false
neither true b ha hb = absurd (cc ha)
neither false b ha hb = hb

chosen : (b c : Bool) (x y z : JobOutcome) → b ≡ false → c ≡ true → (if b then x else if c then y else z) ≡ y
chosen true c x y z hb hc = absurd (cc hb)
chosen false true x y z hb hc = refl
chosen false false x y z hb hc = absurd (cc hc)

module _ (lease : LeaseState) (job : JobState) (out : IsOutFor job lease) where
  accepted : (same : Bool) → same ≡ true → accepts_lease (offered lease same) job ≡ true
  accepted same runs =
      all_true (is_out lease.number job.out) (lease.base.step == job.done) (not (ltb job.high lease.step)) same
      (ap (is_out lease.number) out.out ∙ same_number lease.number) (eq-eqb lease.base.step job.done out.base) (ap not (le-ltb job.high lease.step out.ordered)) runs

  orderable : lease.step < lease.steps → (job.cancelled || (lease.step == job.steps)) ≡ false
  orderable more = neither job.cancelled (lease.step == job.steps) out.going (apart lease.step job.steps (λ same. absurd (omega (arith, more, same, out.steps))))

no_refusal : (why : BookFault) → reply.Done ≡ reply.Refused why → ⊥
no_refusal why h = cc

no_refused_order : (why : BookFault) (job number step from : ℕ) → reply.Ordered job number step from ≡ reply.Refused why → ⊥
no_refused_order why job number step from h = cc

not_event : (why : BookFault) → is_event (reply.Refused why) ≡ true → reply.Refused why ≡ reply.Refused fault.HistoryFull → ⊥
not_event why one is = absurd (true≢false (sym one ∙ ap is_event is))

module _ (lease : LeaseState) (book : BookState) (same : Bool) (why : BookFault) (tracks : Tracks lease book) (out : IsOutFor tracks.here.job lease)
    (verdict : IsTrue same ↔ RunsRoadOfItsJob book.jobs lease) (is_one : is_event (reply.Refused why) ≡ true) where
  abbrev its : JobState
  its = tracks.here.job

  runs : same ≡ true
  runs = verdict.1 (subst (λ (o : Option JobState). MatchOption o ⊥ (λ (k : JobState). RunsRoadOfJob k lease)) (sym tracks.here.at) out.own)

  taken_back : reply.Refused why ≡ reply_of book (call.GiveBack (offered lease same)) → ⊥
  taken_back told =
      let offer = offered lease same in
      let room = room_if (has_full_history book) (outcome_of_call book (call.GiveBack offer)).reply (reply.Refused why) (sym told) (not_event why is_one) in
      let ended = on_found book.jobs lease.job its (give_back_outcome offer) tracks.here.at in
      no_refusal why (back_taken offer its (accepted lease its out same runs) ∙ (sym (ap (λ (s : JobsOutcome). s.reply) ended) ∙ room.1))

  taken_on : lease.step < lease.steps → reply.Refused why ≡ reply_of book (call.Order (offered lease same)) → ⊥
  taken_on more told =
      let offer = offered lease same in
      let room = room_if (has_full_history book) (outcome_of_call book (call.Order offer)).reply (reply.Refused why) (sym told) (not_event why is_one) in
      let ended = on_found book.jobs lease.job its (order_outcome offer) tracks.here.at in
      let said : (order_outcome offer its).reply ≡ reply.Refused why = sym (ap (λ (s : JobsOutcome). s.reply) ended) ∙ room.1 in
      let more_high : JobState = record its { high = max its.high (lease.step + 1) } in
      let ordered : JobOutcome = record { reply = reply.Ordered lease.job lease.number lease.step (begin_in_force its.sheet lease.step); job = more_high } in
      let taken : order_outcome offer its ≡ ordered = chosen (its.cancelled || (lease.step == its.steps)) (accepts_lease offer its) (refusal fault.Ended its) ordered (refusal fault.StrangerLease its) (orderable lease its out more) (accepted lease its out same runs) in
      no_refused_order why _ _ _ _ (sym (ap (λ (o : JobOutcome). o.reply) taken) ∙ said)

  not_refused : (made : Call) → Offers made lease same → reply.Refused why ≡ reply_of book made → ⊥
  not_refused made offers told = elim offers [
    | inl back ↦ taken_back (told ∙ ap (reply_of book) back)
    | inr order ↦ taken_on order.1 (told ∙ ap (reply_of book) order.0)
  ]

not_out : (lease : LeaseState) (book : BookState) (made : Call) (same : Bool) (why : BookFault) → Tracks lease book → reply.Refused why ≡ reply_of book made → Offers made lease same
    → IsTrue same ↔ RunsRoadOfItsJob book.jobs lease → is_event (reply.Refused why) ≡ true → IsNotOut book lease
not_out lease book made same why tracks told offers verdict is_one = elim tracks.here.knows [
  | inl out ↦ absurd (not_refused lease book same why tracks out verdict is_one made offers told)
  | inr other ↦ subst (λ (o : Option JobState). MatchOption o ⊥ (λ (k : JobState). is_out lease.number k.out ≡ false)) (sym tracks.here.at) other
]

pub refused_leases_are_not_out : RefusedLeasesAreNotOut
refused_leases_are_not_out history before events later out book lease last made same why replays split went through offers verdict is_one =
    let rest = events ++ event made (reply.Refused why) ∷ later in
    let start = book_after before in
    let told : Told empty_book (before ++ out ∷ rest) = subst (Told empty_book) split replays.replies in
    let told_out = told_after empty_book before (out ∷ rest) told in
    let first = first_told start out rest told_out in
    let told_rest = rest_told start out rest told_out in
    let are = ordered_after empty_book (map call_of before) none_at_first in
    let gone = goes (after start out.call) events (event made (reply.Refused why) ∷ later) lease last told_rest (went_on lease start out went first are) through in
    let there = state_from (after start out.call) (map call_of events) in
    let here : book_after (before ++ out ∷ events) ≡ there = state_after empty_book before (out ∷ events) in
    let reply_is = first_told there (event made (reply.Refused why)) later (told_after (after start out.call) events (event made (reply.Refused why) ∷ later) told_rest) in
    subst (λ (b : BookState). IsNotOut b last) (sym here)
    (not_out last there made same why gone reply_is offers (subst (λ (b : BookState). IsTrue same ↔ RunsRoadOfItsJob b.jobs last) here verdict) is_one)

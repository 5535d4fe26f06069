-- One more event is one more call to replay.
use Rattle.std.proofs.Common.{position, ◌≡◌, ℕ, ◌+◌, ◌==◌, ◌||◌, inl, inr, max, ◌↔◌, IsTrue, Bool, List, []}
use Rattle.std.proofs.Common.{◌∷◌, ◌++◌, true, false, map, refl, sym, ap, subst, ◌∙◌, arith, length-append}
use Rattle.std.proofs.Common.{MatchBool, Option, Some, None, slice_get, slice_set, Result, Ok, Err, ◌⊎◌}
use Rattle.std.proofs.Common.{is_some, not, ltb, length, if◌then◌else◌}
use Rattle.std.proofs.lemmas.Bool.{MatchBool-at_false, MatchBool-at_true, cond-false, cond-true, cond_both}
use Rattle.std.proofs.{lemmas.{Bool.{false≢true}, List.map-append}, Math.Logic.{∥∥₁_map}}
use Rattle.trlab_sequential_book.specs.declared.{book.TheConstants.MAX_JOBS, sheet.TheConstants.MAX_ENTRIES}
use Rattle.trlab_sequential_book.specs.declared.{event.{Call.Call, Reply.Reply}, fault.BookFault.BookFault}
use Rattle.trlab_sequential_book.specs.declared.event.Call.TheVariants.{Cancel, GiveBack, Read, Replace}
use Rattle.trlab_sequential_book.specs.declared.event.{Call.TheVariants.{Revoke, Submit}, Offered.Offered}
use Rattle.trlab_sequential_book.specs.{declared.event.Event.Event, Sheets.{begin_in_force, with_rule_from}}
use Rattle.trlab_sequential_book.specs.declared.event.Reply.TheVariants.{Done, Number, Ordered, Refused}
use Rattle.trlab_sequential_book.specs.declared.fault.BookFault.TheVariants.{Ended, Full, HistoryFull}
use Rattle.trlab_sequential_book.specs.declared.fault.BookFault.TheVariants.{LanesMismatch, Memory, NoSuchJob}
use Rattle.trlab_sequential_book.specs.declared.fault.BookFault.TheVariants.{SheetFull, StrangerLease}
use Rattle.trlab_sequential_book.specs.{declared.seed.Seed.Seed, Leases.LeaseState, Machine.submit_outcome}
use Rattle.trlab_sequential_book.specs.Histories.{LeadsAs, RepliesAs, is_event, is_memory, Replays, call_of}
use Rattle.trlab_sequential_book.specs.Histories.{event, replies_from, state_from, reply_of_event}
use Rattle.trlab_sequential_book.specs.Comparison.{RunsRoadOfItsJob, LeaseCall, OrderCall, offered}
use Rattle.trlab_sequential_book.specs.Machine.{JobState, JobOutcome, JobsOutcome, BookState, after}
use Rattle.trlab_sequential_book.specs.Machine.{cancel_outcome, give_back_outcome, is_free, has_full_history}
use Rattle.trlab_sequential_book.specs.Machine.{accepts_lease, lease_outcome, new_job, next_after, on_free}
use Rattle.trlab_sequential_book.specs.Machine.{on_job, order_outcome, read_outcome, refusal, replace_outcome}
use Rattle.trlab_sequential_book.specs.Machine.{reply_of, revoke_outcome, outcome_of_call, empty_book}
use Rattle.trlab_sequential_book.specs.declared.event.Call.TheVariants as call
use Rattle.trlab_step.specs.Run.{suits}
use Rattle.trlab_rules.specs.Rules.{Programs}
use Rattle.trlab_book.specs.{declared.kept.Kept.Kept, Events.{Appends, IsUnchanged, Records, RefusesIfFull}}

replies_more : (s : BookState) (cs : List Call) (c : Call)
    → replies_from s (cs ++ c ∷ []) ≡ replies_from s cs ++ reply_of (state_from s cs) c ∷ []
replies_more s [] c = refl
replies_more s (d ∷ cs) c = ap (λ rs. reply_of s d ∷ rs) (replies_more (after s d) cs c)

state_more : (s : BookState) (cs : List Call) (c : Call) → state_from s (cs ++ c ∷ []) ≡ after (state_from s cs) c
state_more s [] c = refl
state_more s (d ∷ cs) c = state_more (after s d) cs c

replays_more : (history : List Event) (s : BookState) (c : Call) → Replays history s → has_full_history s ≡ false
    → Replays (history ++ event c (reply_of s c) ∷ []) (after s c)
replays_more history s c r room =
    let calls : map call_of (history ++ event c (reply_of s c) ∷ []) ≡ map call_of history ++ c ∷ [] =
    map-append call_of history (event c (reply_of s c) ∷ []) in
    let made : BookState =
    record { count = s.count + 1; next = next_after s.next (outcome_of_call s c).reply; jobs = (outcome_of_call s c).jobs } in
    let count : (after s c).count ≡ s.count + 1 = ap (λ t. t.count) (cond-false (has_full_history s) s made room) in
    let len = length-append history (event c (reply_of s c) ∷ []) in
    record {
      replies = map-append reply_of_event history (event c (reply_of s c) ∷ [])
          ∙ ap (λ rs. rs ++ reply_of s c ∷ []) r.replies
          ∙ ap (λ t. replies_from empty_book (map call_of history) ++ reply_of t c ∷ []) r.state_is
          ∙ sym (replies_more empty_book (map call_of history) c)
          ∙ sym (ap (replies_from empty_book) calls);
      state_is = ap (λ t. after t c) r.state_is ∙ sym (state_more empty_book (map call_of history) c)
          ∙ sym (ap (state_from empty_book) calls);
      count_is = omega (arith, count, len, r.count_is);
    }

-- no event replays to the empty book
pub replays_start : (items : List Event) (s : BookState) → items ≡ [] → s ≡ empty_book → ∥ Replays items s ∥₁
replays_start items s none begun = rw (none, begun) (∣ record { replies = refl; state_is = refl; count_is = refl } ∣₁)

-- a history with a call and its reply after it replays to the state after the call
replays_on : (history items : List Event) (s t : BookState) (c : Call) (told : Reply)
    → ∥ Replays history s ∥₁ → has_full_history s ≡ false → items ≡ history ++ event c told ∷ []
    → told ≡ reply_of s c → t ≡ after s c → ∥ Replays items t ∥₁
replays_on history items s t c told replays room items_are answered state_is =
    rw (items_are, answered, state_is) (∥∥₁_map replays (λ r. replays_more history s c r room))

-- the reply to a call is that of an event, if the book is not full and the reply of its job is
job_is_event : (jobs : List JobState) (i : ℕ) (made : JobState → JobOutcome) → ((job : JobState) → is_event (made job).reply ≡ true) → is_event (on_job jobs i made).reply ≡ true
job_is_event jobs i made each = of_job (slice_get jobs i)
  where
    by_job : Option JobState → JobsOutcome
    by_job found = elim found [
      | None ↦ record { reply = Refused NoSuchJob; jobs = jobs }
      | Some job ↦ record { reply = (made job).reply; jobs = slice_set jobs i (made job).job }
    ]

    of_job : (found : Option JobState) → is_event (by_job found).reply ≡ true
    of_job None = refl
    of_job (Some job) = each job

reply_is_event : (s : BookState) (call : Call) → has_full_history s ≡ false → is_event (outcome_of_call s call).reply ≡ true → is_event (reply_of s call) ≡ true
reply_is_event s call free is_one =
    ap is_event (cond-false (has_full_history s) (Refused HistoryFull) (outcome_of_call s call).reply free) ∙ is_one

back_is_event : (s : BookState) (lease : Offered) → has_full_history s ≡ false → is_event (reply_of s (GiveBack lease)) ≡ true
back_is_event s lease free = reply_is_event s (GiveBack lease) free (job_is_event s.jobs lease.job (give_back_outcome lease) taken)
  where
    taken : (job : JobState) → is_event (give_back_outcome lease job).reply ≡ true
    taken job =
        let done : JobOutcome = record { reply = Done; job = record job { done = lease.step; out = None } } in
        cond_both (accepts_lease lease job) done (refusal StrangerLease job) (λ (o : JobOutcome). is_event o.reply ≡ true) (λ _. refl) (λ _. refl)

order_is_event : (s : BookState) (lease : Offered) → has_full_history s ≡ false → is_event (reply_of s (OrderCall lease)) ≡ true
order_is_event s lease free = reply_is_event s (OrderCall lease) free (job_is_event s.jobs lease.job (order_outcome lease) taken)
  where
    taken : (job : JobState) → is_event (order_outcome lease job).reply ≡ true
    taken job =
        let stranger = refusal StrangerLease job in
        let told : JobOutcome = record {
          reply = Ordered lease.job lease.number lease.step (begin_in_force job.sheet lease.step);
          job = record job { high = max job.high (lease.step + 1) };
        } in
        let going : JobOutcome = if accepts_lease lease job then told else stranger in
        let P : JobOutcome → Type 0 = λ (o : JobOutcome). is_event o.reply ≡ true in
        cond_both (job.cancelled || (lease.step == job.steps)) (refusal Ended job) going P (λ _. refl)
        (λ _. cond_both (accepts_lease lease job) told stranger P (λ _. refl) (λ _. refl))

revoke_is_event : (s : BookState) (i : ℕ) → has_full_history s ≡ false → is_event (reply_of s (Revoke i)) ≡ true
revoke_is_event s i free = reply_is_event s (Revoke i) free (job_is_event s.jobs i revoke_outcome taken)
  where
    taken : (job : JobState) → is_event (revoke_outcome job).reply ≡ true
    taken job =
        let done : JobOutcome = record { reply = Done; job = record job { out = None } } in
        cond_both (is_some job.out) done (refusal StrangerLease job) (λ (o : JobOutcome). is_event o.reply ≡ true) (λ _. refl) (λ _. refl)

replace_is_event : (s : BookState) (i : ℕ) (rule : Programs) → has_full_history s ≡ false → is_event (reply_of s (Replace i rule)) ≡ true
replace_is_event s i rule free = reply_is_event s (Replace i rule) free (job_is_event s.jobs i (replace_outcome rule) taken)
  where
    taken : (job : JobState) → is_event (replace_outcome rule job).reply ≡ true
    taken job =
        let sheet = with_rule_from job.sheet job.high rule in
        let made : JobOutcome = record { reply = Number job.high; job = record job { sheet = sheet } } in
        let full : JobOutcome = if ltb MAX_ENTRIES (length sheet) then refusal SheetFull job else made in
        let lanes : JobOutcome = if not (suits rule job.seed.road) then refusal LanesMismatch job else full in
        let P : JobOutcome → Type 0 = λ (o : JobOutcome). is_event o.reply ≡ true in
        cond_both (job.cancelled || (job.high == job.steps)) (refusal Ended job) lanes P (λ _. refl)
        (λ _. cond_both (not (suits rule job.seed.road)) (refusal LanesMismatch job) full P (λ _. refl)
        (λ _. cond_both (ltb MAX_ENTRIES (length sheet)) (refusal SheetFull job) made P (λ _. refl) (λ _. refl)))

submit_is_event : (s : BookState) (seed : Seed) (rule : Programs) (steps : ℕ) → has_full_history s ≡ false → is_event (reply_of s (Submit seed rule steps)) ≡ true
submit_is_event s seed rule steps free = reply_is_event s (Submit seed rule steps) free taken
  where
    taken : is_event (submit_outcome s.jobs seed rule steps).reply ≡ true
    taken =
        let lanes : JobsOutcome = record { reply = Refused LanesMismatch; jobs = s.jobs } in
        let made : JobsOutcome = record { reply = Number (length s.jobs); jobs = s.jobs ++ new_job seed rule steps ∷ [] } in
        let full : JobsOutcome = record { reply = Refused Full; jobs = s.jobs } in
        let some : JobsOutcome = if ltb (length s.jobs) MAX_JOBS then made else full in
        let P : JobsOutcome → Type 0 = λ (o : JobsOutcome). is_event o.reply ≡ true in
        cond_both (not (suits rule seed.road)) lanes some P (λ _. refl)
        (λ _. cond_both (ltb (length s.jobs) MAX_JOBS) made full P (λ _. refl) (λ _. refl))

read_is_event : (s : BookState) (i : ℕ) → has_full_history s ≡ false → is_event (reply_of s (Read i)) ≡ true
read_is_event s i free = reply_is_event s (Read i) free (job_is_event s.jobs i read_outcome (λ _. refl))

lease_is_event : (s : BookState) → has_full_history s ≡ false → is_event (reply_of s LeaseCall) ≡ true
lease_is_event s free = reply_is_event s LeaseCall free (of_free (position is_free s.jobs))
  where
    of_free : (found : Option ℕ) → is_event (on_free s.jobs s.next found).reply ≡ true
    of_free None = refl
    of_free (Some i) = job_is_event s.jobs i (lease_outcome i s.next) (λ _. refl)

cancel_is_event : (s : BookState) (i : ℕ) → has_full_history s ≡ false → is_event (reply_of s (Cancel i)) ≡ true
cancel_is_event s i free = reply_is_event s (Cancel i) free (job_is_event s.jobs i cancel_outcome taken)
  where
    taken : (job : JobState) → is_event (cancel_outcome job).reply ≡ true
    taken job =
        let done : JobOutcome = record { reply = Done; job = record job { cancelled = true; out = None } } in
        cond_both (job.cancelled || (job.done == job.steps)) (refusal Ended job) done (λ (o : JobOutcome). is_event o.reply ≡ true) (λ _. refl) (λ _. refl)

call_is_event : (s : BookState) (call : Call) → has_full_history s ≡ false → is_event (reply_of s call) ≡ true
call_is_event s (Submit seed rule steps) free = submit_is_event s seed rule steps free
call_is_event s (Replace job rule) free = replace_is_event s job rule free
call_is_event s call.Lease free = lease_is_event s free
call_is_event s (call.Order lease) free = order_is_event s lease free
call_is_event s (GiveBack lease) free = back_is_event s lease free
call_is_event s (Revoke job) free = revoke_is_event s job free
call_is_event s (Cancel job) free = cancel_is_event s job free
call_is_event s (Read job) free = read_is_event s job free

-- a reply that reports a failed allocation
pub memory_is : {A : Type 0} (answer : Result A BookFault) → is_memory answer ≡ true → answer ≡ Err Memory
memory_is {A} (Ok done) is = absurd (false≢true is)
memory_is {A} (Err fault) is = ap Err (by fault is)
  where
    by : (fault : BookFault) → is_memory {A = A} (Err fault) ≡ true → fault ≡ Memory
    by Memory is = refl
    by Full is = absurd (false≢true is)
    by NoSuchJob is = absurd (false≢true is)
    by Ended is = absurd (false≢true is)
    by LanesMismatch is = absurd (false≢true is)
    by SheetFull is = absurd (false≢true is)
    by StrangerLease is = absurd (false≢true is)
    by HistoryFull is = absurd (false≢true is)

-- a full book does not report a failed allocation
pub memory_free : {A : Type 0} (answer : Result A BookFault) (full : Bool) → (full ≡ true → answer ≡ Err HistoryFull) → is_memory answer ≡ true → full ≡ false
memory_free answer false says is = refl
memory_free answer true says is = absurd (false≢true (sym (ap is_memory (says refl)) ∙ is))

-- a call of a book, the reply, and the history before and after it
pub record IsPut (s t : BookState) (call : Call) (said : Reply) (history items : List Event) : Type 0 where
  pub ran_out : Bool
  pub free : ran_out ≡ true → has_full_history s ≡ false
  pub memory : ran_out ≡ true → said ≡ Refused Memory
  pub replies : RepliesAs ran_out said s call
  pub leads : LeadsAs ran_out s call t
  pub items_are : MatchBool (is_event said) (items ≡ history ++ event call said ∷ []) (items ≡ history)

-- `put_event` establishes it
pub put : {s t : BookState} {call noted : Call} {told said : Reply} {history items : List Event} (ran_out : Bool) → (ran_out ≡ true → has_full_history s ≡ false)
    → (ran_out ≡ true → said ≡ Refused Memory) → RepliesAs ran_out said s call → LeadsAs ran_out s call t → noted ≡ call → told ≡ said
    → MatchBool (is_event told) (items ≡ history ++ event noted told ∷ []) (items ≡ history) → IsPut s t call said history items
put {s} {t} {call} {noted} {told} {said} {history} {items} ran_out free memory replies leads noted_is told_is ensured =
    let P : Call → Reply → Type 0 = λ c r. MatchBool (is_event r) (items ≡ history ++ event c r ∷ []) (items ≡ history) in
    record {
      ran_out = ran_out;
      free = free;
      memory = memory;
      replies = replies;
      leads = leads;
      items_are = subst (λ (r : Reply). P call r) told_is (subst (λ (c : Call). P c told) noted_is ensured);
    }

-- if the book is full, or an allocation failed, nothing has changed
record Stays (s t : BookState) (said : Reply) (history items : List Event) : Type 0 where
  none : is_event said ≡ false
  full : (said ≡ Refused HistoryFull) ↔ (has_full_history s ≡ true)
  state : t ≡ s
  items_are : items ≡ history

-- otherwise there is one more event
record Grows (s t : BookState) (call : Call) (said : Reply) (history items : List Event) : Type 0 where
  free : has_full_history s ≡ false
  reply : said ≡ reply_of s call
  is_one : is_event said ≡ true
  state : t ≡ after s call
  items_are : items ≡ history ++ event call said ∷ []

settled : {s t : BookState} {call : Call} {said : Reply} {history items : List Event} → IsPut s t call said history items
    → Stays s t said history items ⊎ Grows s t call said history items
settled {s} {t} {call} {said} {history} {items} p = by p.ran_out p.free p.memory p.replies p.leads
  where
    clash : said ≡ Refused Memory → said ≡ Refused HistoryFull → ⊥
    clash memory full = cc

    judged : said ≡ reply_of s call → t ≡ after s call → (full : Bool) → has_full_history s ≡ full
        → Stays s t said history items ⊎ Grows s t call said history items
    judged replies leads true is =
        let made : BookState =
        record { count = s.count + 1; next = next_after s.next (outcome_of_call s call).reply; jobs = (outcome_of_call s call).jobs } in
        let refused_full : said ≡ Refused HistoryFull =
        replies ∙ cond-true (has_full_history s) (Refused HistoryFull) (outcome_of_call s call).reply is in
        let none : is_event said ≡ false = ap is_event refused_full in
        inl (record {
          none = none;
          full = (λ _. is, λ _. refused_full);
          state = leads ∙ cond-true (has_full_history s) s made is;
          items_are = MatchBool-at_false _ _ none p.items_are;
        })
    judged replies leads false is =
        let one : is_event said ≡ true = ap is_event replies ∙ call_is_event s call is in
        inr (record { free = is; reply = replies; is_one = one; state = leads; items_are = MatchBool-at_true _ _ one p.items_are })

    by : (ran_out : Bool) → (ran_out ≡ true → has_full_history s ≡ false) → (ran_out ≡ true → said ≡ Refused Memory) → RepliesAs ran_out said s call → LeadsAs ran_out s call t
        → Stays s t said history items ⊎ Grows s t call said history items
    by true free memory replies leads = inl (record {
      none = ap is_event (memory refl);
      full = (λ full. absurd (clash (memory refl) full), λ full. absurd (false≢true (sym (free refl) ∙ full)));
      state = leads;
      items_are = MatchBool-at_false _ _ (ap is_event (memory refl)) p.items_are;
    })
    by false free memory replies leads = judged replies leads (has_full_history s) refl

-- the history replays to the book, as it did before
pub replays_put : {s t : BookState} {call : Call} {said : Reply} {history items : List Event} → IsPut s t call said history items
    → ∥ Replays history s ∥₁ → ∥ Replays items t ∥₁
replays_put {s} {t} {call} {said} {history} {items} p replays = by (settled p)
  where
    by : Stays s t said history items ⊎ Grows s t call said history items → ∥ Replays items t ∥₁
    by (inl stays) = rw (stays.items_are, stays.state) replays
    by (inr grows) = replays_on history items s t call said replays grows.free grows.items_are grows.reply grows.state

-- the effect of the call on the book and its history
pub makes_put : (old ready new : Kept) (call : Call) (said : Reply) → IsUnchanged old ready
    → IsPut ready.book new.book call said ready.history.items new.history.items → Records old call said new
makes_put old ready new call said same p = by (settled p)
  where
    P : Bool → Type 0
    P one = MatchBool one (Appends old call said new) (IsUnchanged old new)

    by : Stays ready.book new.book said ready.history.items new.history.items ⊎ Grows ready.book new.book call said ready.history.items new.history.items
        → Records old call said new
    by (inl stays) = subst P (sym stays.none) (record {
      history = stays.items_are ∙ same.history;
      book = stays.state ∙ same.book;
    })
    by (inr grows) = subst P (sym grows.is_one) (record {
      history = grows.items_are ∙ ap (λ r. ready.history.items ++ event call r ∷ []) grows.reply
          ∙ ap (λ b. ready.history.items ++ event call (reply_of b call) ∷ []) same.book
          ∙ ap (λ xs. xs ++ event call (reply_of old.book call) ∷ []) same.history;
      book = grows.state ∙ ap (λ b. after b call) same.book;
      answered = grows.reply ∙ ap (λ b. reply_of b call) same.book;
    })

-- the reply is that the history is full exactly if it is full
pub tells_put : {t : BookState} {call : Call} {items : List Event} (old ready : Kept) (said : Reply) → IsUnchanged old ready
    → IsPut ready.book t call said ready.history.items items → RefusesIfFull old said
tells_put {t} {call} {items} old ready said same p =
    subst (λ (b : BookState). (said ≡ Refused HistoryFull) ↔ (has_full_history b ≡ true)) same.book (by (settled p))
  where
    by : Stays ready.book t said ready.history.items items ⊎ Grows ready.book t call said ready.history.items items
        → (said ≡ Refused HistoryFull) ↔ (has_full_history ready.book ≡ true)
    by (inl stays) = stays.full
    by (inr grows) = (
      λ full. absurd (false≢true (sym (ap is_event full) ∙ grows.is_one)),
      λ full. absurd (false≢true (sym grows.free ∙ full)),
    )

-- two tests of the same property are equal
one_answer : (a b : Bool) (P : Type 0) → (IsTrue a ↔ P) → (IsTrue b ↔ P) → a ≡ b
one_answer true true P x y = refl
one_answer false false P x y = refl
one_answer true false P x y = absurd (false≢true (y.1 (x.0 refl)))
one_answer false true P x y = absurd (false≢true (x.1 (y.0 refl)))

-- a call that offers a lease, with any value of `same` that is right
pub makes_offered : (call : Offered → Call) (old ready new : Kept) (lease : LeaseState) (same other : Bool) (said : Reply) → IsUnchanged old ready
    → IsTrue same ↔ RunsRoadOfItsJob ready.book.jobs lease → IsTrue other ↔ RunsRoadOfItsJob old.book.jobs lease
    → IsPut ready.book new.book (call (offered lease same)) said ready.history.items new.history.items → Records old (call (offered lease other)) said new
makes_offered call old ready new lease same other said unchanged is is_other p =
    let mine = subst (λ (b : BookState). IsTrue other ↔ RunsRoadOfItsJob b.jobs lease) (sym unchanged.book) is_other in
    let one = one_answer same other (RunsRoadOfItsJob ready.book.jobs lease) is mine in
    subst (λ (s : Bool). Records old (call (offered lease s)) said new) one (makes_put old ready new (call (offered lease same)) said unchanged p)

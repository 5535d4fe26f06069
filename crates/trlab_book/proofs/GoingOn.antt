-- The calls of runners at a desk, one after another.
use Rattle.std.proofs.Common.{Result, Ok, Err, OnOk, IsOk, ◌↔◌, ◌⊎◌, MatchOption, ◌==◌, ◌≡◌, cond, subst, inl}
use Rattle.std.proofs.Common.{inr, ℕ, zero, suc, ◌+◌, ◌<◌, ◌≤◌, max, Option, None, Some, slice_get, Bool}
use Rattle.std.proofs.Common.{true, false, List, [], ◌∷◌, ◌++◌, refl, sym, ap, ◌∙◌, arith, append_assoc}
use Rattle.std.proofs.{Common.{append-nil, All, MatchBool, eq-eqb, lt-ltb}, lemmas.List.Sums.sum_by-append}
use Rattle.std.proofs.lemmas.List.{Sums.fold-append, Elements.{All-nil, All-push, All-append, All-weaker}}
use Rattle.std.proofs.lemmas.{List.Elements.{All-head, All-tail}, Bool.MatchBool-at_true}
use Rattle.trlab_sequential_book.specs.declared.event.{Call.{Call, TheVariants.GiveBack}, Event.Event}
use Rattle.trlab_sequential_book.specs.declared.event.Reply.{Reply, TheVariants.{Refused, Done, NoLease}}
use Rattle.trlab_sequential_book.specs.declared.{order.Order.Order, fault.BookFault.BookFault}
use Rattle.trlab_sequential_book.specs.declared.book.TheConstants.{MAX_EVENTS}
use Rattle.trlab_sequential_book.specs.Histories.{is_event, is_history_full, lease_reply, order_reply, event}
use Rattle.trlab_sequential_book.specs.Comparison.{IsFresh, LeaseCall, OrderCall, offered}
use Rattle.trlab_sequential_book.specs.{Leases.{LeaseState, HasRun, IsLease}, Machine.{BookState, JobState}}
use Rattle.trlab_book.specs.declared.{running.RunFault.RunFault, desk.Desk.Desk}
use Rattle.trlab_book.specs.HeldLeases.{RunnerState, Idle, Running, Over, CallsAs, RunsLeases}
use Rattle.trlab_book.specs.Turns.{Stage, Free, InTurn, turn_of, AreInOrderFrom, is_of_turn}
use Rattle.trlab_book.specs.Turns.{stage_of, stage_after, last_stage, AreLogs}
use Rattle.trlab_book.specs.Desks.{AreRunnerCalls, AddsRunnerCalls, EndsAt, Goes, HasEnded, LeaseIsFresh}
use Rattle.trlab_book.specs.Desks.{IsCorrectVerdict, OrderHasRuleInForce}
use Rattle.trlab_book.specs.Desks.{HasSeen, MakesNoEvent, MakesEvent, MakesCallOn, subhistory_of}
use Rattle.trlab_book.specs.Desks.{is_runner_call, finds_no_job, clock_of, no_job_count, part_count}
use Rattle.trlab_book.specs.declared.running.RunFault.TheVariants as run
use Rattle.trlab_strands.specs.declared.knowledge.{Ledger.Ghosts, Noted.Noted}
use Rattle.trlab_strands.specs.{Knowledge.{noted, event_number}, Tokens.IsSameStrand}

-- calls within a span are within a wider one
pub wider : (from to below above : ℕ) (numbered : List (Noted Event)) → below ≤ from → to ≤ above → AreRunnerCalls from to numbered → AreRunnerCalls below above numbered
wider from to below above numbered low high are = All-weaker
    (λ (x : Noted Event). (from ≤ event_number x) × (event_number x < to) × (is_runner_call x.event.call ≡ true))
    (λ (x : Noted Event). (below ≤ event_number x) × (event_number x < above) × (is_runner_call x.event.call ≡ true))
    (λ x is. (omega (arith, is.0), omega (arith, is.1), is.2))
    numbered are

-- the calls of two lists within one span
pub both : (from to : ℕ) (xs ys : List (Noted Event)) → AreRunnerCalls from to xs → AreRunnerCalls from to ys → AreRunnerCalls from to (xs ++ ys)
both from to xs ys first second =
    All-append (λ (x : Noted Event). (from ≤ event_number x) × (event_number x < to) × (is_runner_call x.event.call ≡ true)) xs ys first second

-- a runner has ended with this fault
abbrev pub failed : RunFault → Result (Unit {0}) RunFault
failed fault = Err fault

-- the logs of some runners, and those of others after them
logs_append : (m n : ℕ) (xs ys : List (Noted Event)) → AreLogs m xs → AreLogs n ys → AreLogs (m + n) (xs ++ ys)
logs_append zero n xs ys first second =
    let all : n ≡ zero + n = omega arith in
    subst (λ (k : ℕ). AreLogs k (xs ++ ys)) all (subst (λ (l : List (Noted Event)). AreLogs n (l ++ ys)) (sym first) second)
logs_append (suc m) n xs ys first second =
    let more : AreLogs (suc (m + n)) (xs ++ ys) =
    (first.0, first.1 ++ ys, ap (λ (l : List (Noted Event)). l ++ ys) first.2 ∙ append_assoc first.0 first.1 ys, first.3, first.4, logs_append m n first.1 ys first.5 second) in
    let all : suc (m + n) ≡ suc m + n = omega arith in
    subst (λ (k : ℕ). AreLogs k (xs ++ ys)) all more

-- calls of a runner, and its calls after them
runs_append : (s t u : RunnerState) (xs ys : List (Noted Event)) → RunsLeases s xs t → RunsLeases t ys u → RunsLeases s (xs ++ ys) u
runs_append s t u [] ys first second = subst (λ (r : RunnerState). RunsLeases r ys u) first second
runs_append s t u (x ∷ xs) ys first second = (first.0, first.1, first.2, first.3, runs_append first.0 t u xs ys first.4 second)

same_number : (n : ℕ) → (n == n) ≡ true
same_number n = eq-eqb n n refl

-- events that come late enough
lower : (from below : ℕ) (events : List (Noted Event)) → below ≤ from → AreInOrderFrom from events → AreInOrderFrom below events
lower from below [] low rise = tt
lower from below (made ∷ more) low rise = (omega (arith, low, rise.0), rise.1)

-- events that come after others
rise_append : (from to : ℕ) (xs ys : List (Noted Event)) → from ≤ to → All (λ (x : Noted Event). event_number x < to) xs → AreInOrderFrom from xs → AreInOrderFrom to ys → AreInOrderFrom from (xs ++ ys)
rise_append from to [] ys low all first second = lower to from ys low second
rise_append from to (x ∷ xs) ys low all first second =
    let here : event_number x < to = All-head (λ (z : Noted Event). event_number z < to) x xs all in
    (first.0, rise_append (event_number x + 1) to xs ys (omega (arith, here)) (All-tail (λ (z : Noted Event). event_number z < to) x xs all) first.1 second)

-- a lease is offered in its own turn
offers_own : (lease : LeaseState) (same : Bool) → is_of_turn (turn_of lease) (offered lease same) ≡ true
offers_own lease same = rw (same_number lease.job, same_number lease.number, same_number lease.base.step, same_number lease.step) refl

module _ {L : Type 0} {ledger : Ghosts L} where
  abbrev pub goes_on : (a b c : Desk L ledger) → AddsRunnerCalls a b → AddsRunnerCalls b c → AddsRunnerCalls a c
  goes_on a b c first second = record {
    parts = second.parts ∙ first.parts;
    least = let p = first.least in let q = second.least in omega arith;
    more = first.more ++ second.more;
    subhistory = second.subhistory ∙ (ap (λ (l : List (Noted Event)). l ++ second.more) first.subhistory ∙ append_assoc (subhistory_of a) first.more second.more);
    runners = both (clock_of a) (clock_of c) first.more second.more
        (wider (clock_of a) (clock_of b) (clock_of a) (clock_of c) first.more (omega arith) second.least first.runners)
        (wider (clock_of b) (clock_of c) (clock_of a) (clock_of c) second.more first.least (omega arith) second.runners);
  }

  -- a call that is not an event adds nothing to the desk's calls, and the clock does not go back
  is_none : (a b : Desk L ledger) (told : Reply) → MakesNoEvent a told b → (subhistory_of b ≡ subhistory_of a) × (clock_of a ≤ clock_of b)
  is_none a b told none = by_full (is_history_full told) none
    where
      by_full : (whole : Bool) → MatchBool whole (HasSeen a MAX_EVENTS b) (IsSameStrand a.strand b.strand) → (subhistory_of b ≡ subhistory_of a) × (clock_of a ≤ clock_of b)
      by_full true seen = (seen.1, seen.2)
      by_full false kept = let q = kept.2 in (kept.1, omega arith)

  -- a desk with the same calls has added none
  abbrev pub stays : (a b : Desk L ledger) → part_count b ≡ part_count a → (subhistory_of b ≡ subhistory_of a) × (clock_of a ≤ clock_of b) → AddsRunnerCalls a b
  stays a b same kept = record {
    parts = same;
    least = kept.1;
    more = [];
    subhistory = kept.0 ∙ sym (append-nil (subhistory_of a));
    runners = All-nil _;
  }

  -- a call of a runner is added
  pub makes_goes : (Holds : BookState → Type 0) (a b : Desk L ledger) (call : Call) (told : Reply) → MakesCallOn Holds a call told b → is_runner_call call ≡ true → AddsRunnerCalls a b
  makes_goes Holds a b call told made of_runner = by_event (is_event told) made.0 made.1
    where
      by_event : (one : Bool) → part_count b ≡ part_count a
          → MatchBool one ((book : BookState) × MakesEvent a call told b book × Holds book) (MakesNoEvent a told b) → AddsRunnerCalls a b
      by_event true same one =
          let before = one.1.before in
          let adds = one.1.noted in
          record {
            parts = same;
            least = let p = adds.1 in let q = adds.3 in omega arith;
            more = noted before (event call told) ∷ [];
            subhistory = adds.2;
            runners = All-push (λ (x : Noted Event). (clock_of a ≤ event_number x) × (event_number x < clock_of b) × (is_runner_call x.event.call ≡ true)) [] (noted before (event call told)) (All-nil _)
                (adds.1, omega (arith, adds.3), of_runner);
          }
      by_event false same none = stays a b same (is_none a b told none)

  -- so is an order, for any value of `same`
  pub orders_on : (Holds : Bool → BookState → Type 0) (a b c : Desk L ledger) (lease : LeaseState) (told : Reply) → AddsRunnerCalls a b
      → (same : Bool) × MakesCallOn (Holds same) b (OrderCall (offered lease same)) told c → AddsRunnerCalls a c
  orders_on Holds a b c lease told on made = goes_on a b c on (makes_goes (Holds made.0) b c (OrderCall (offered lease made.0)) told made.1 refl)

  -- runners have called through both parts of a desk that was split, and the parts are gathered again
  abbrev pub gathers : (old kept given mine theirs new : Desk L ledger) → part_count kept + 1 ≡ part_count old → part_count given ≡ 1
      → subhistory_of kept ≡ subhistory_of old → subhistory_of given ≡ [] → clock_of kept ≡ clock_of old → clock_of given ≡ clock_of old
      → AddsRunnerCalls kept mine → AddsRunnerCalls given theirs
      → part_count new ≡ part_count mine + part_count theirs → subhistory_of new ≡ subhistory_of mine ++ subhistory_of theirs → clock_of new ≡ max (clock_of mine) (clock_of theirs)
      → AddsRunnerCalls old new
  gathers old kept given mine theirs new fewer one was free low least first second parts joined greater =
      let a = first.least in
      let b = second.least in
      let behind : subhistory_of theirs ≡ second.more = second.subhistory ∙ ap (λ (l : List (Noted Event)). l ++ second.more) free in
      record {
        parts = let p = first.parts in let q = second.parts in omega arith;
        least = omega arith;
        more = first.more ++ second.more;
        subhistory = joined ∙ (ap (λ (l : List (Noted Event)). subhistory_of mine ++ l) behind
            ∙ (ap (λ (l : List (Noted Event)). l ++ second.more) (first.subhistory ∙ ap (λ (l : List (Noted Event)). l ++ first.more) was)
            ∙ append_assoc (subhistory_of old) first.more second.more));
        runners = both (clock_of old) (clock_of new) first.more second.more
            (wider (clock_of kept) (clock_of mine) (clock_of old) (clock_of new) first.more (omega arith) (omega arith) first.runners)
            (wider (clock_of given) (clock_of theirs) (clock_of old) (clock_of new) second.more (omega arith) (omega arith) second.runners);
      }

-- the calls of two lists that found no job free
none_append : (xs ys : List (Noted Event)) → no_job_count (xs ++ ys) ≡ no_job_count xs + no_job_count ys
none_append xs ys = sum_by-append (λ (n : Noted Event). cond (finds_no_job n.event) 1 0) xs ys

module _ {L : Type 0} {ledger : Ghosts L} where
  -- a desk to which calls are added loses no such call
  none_rises : (a b : Desk L ledger) → AddsRunnerCalls a b → no_job_count (subhistory_of a) ≤ no_job_count (subhistory_of b)
  none_rises a b on =
      let all = ap no_job_count on.subhistory ∙ none_append (subhistory_of a) on.more in
      omega arith

  -- one event of a runner is added
  abbrev pub one_more : (a b : Desk L ledger) (call : Call) (told : Reply) (book : BookState) → part_count b ≡ part_count a → MakesEvent a call told b book
      → is_runner_call call ≡ true → AddsRunnerCalls a b
  one_more a b call told book same made of_runner = record {
    parts = same;
    least = let p = made.noted.1 in let q = made.noted.3 in omega arith;
    more = noted made.before (event call told) ∷ [];
    subhistory = made.noted.2;
    runners = All-push (λ (x : Noted Event). (clock_of a ≤ event_number x) × (event_number x < clock_of b) × (is_runner_call x.event.call ≡ true)) [] (noted made.before (event call told)) (All-nil _)
        (made.noted.1, omega (arith, made.noted.3), of_runner);
  }

  -- it leads to the next stage
  goes_one : (from to : RunnerState) (a b : Desk L ledger) (call : Call) (told : Reply) (book : BookState) → part_count b ≡ part_count a → MakesEvent a call told b book
      → is_runner_call call ≡ true → stage_after (stage_of from) (event call told) ≡ stage_of to → CallsAs from book (event call told) to → Goes from to a b
  goes_one from to a b call told book same made of_runner next calls = record {
    on = one_more a b call told book same made of_runner;
    stage = record { rise = (made.noted.1, tt); stage = next };
    leases = (to, book, made.replays, calls, refl);
  }

  -- calls are followed by others
  pub goes_both : (s t u : RunnerState) (a b c : Desk L ledger) → Goes s t a b → Goes t u b c → Goes s u a c
  goes_both s t u a b c first second = record {
    on = goes_on a b c first.on second.on;
    stage = record {
      rise = rise_append (clock_of a) (clock_of b) first.on.more second.on.more first.on.least
          (All-weaker (λ (x : Noted Event). (clock_of a ≤ event_number x) × (event_number x < clock_of b) × (is_runner_call x.event.call ≡ true)) (λ (x : Noted Event). event_number x < clock_of b) (λ x is. is.1) first.on.more first.on.runners) first.stage.rise second.stage.rise;
      stage = fold-append (λ (stage : Stage) (made : Noted Event). stage_after stage made.event) (stage_of s) first.on.more second.on.more
          ∙ (ap (λ (stage : Stage). last_stage stage second.on.more) first.stage.stage ∙ second.stage.stage);
    };
    leases = runs_append s t u first.on.more second.on.more first.leases second.leases;
  }

  -- a runner that makes no calls stays at its stage
  pub rests : (s : RunnerState) (a : Desk L ledger) → Goes s s a a
  rests s a = record { on = stays a a refl (refl, omega arith); stage = record { rise = tt; stage = refl }; leases = refl }

  -- a lease goes out
  pub leased_goes : (a b : Desk L ledger) (lease : LeaseState) → IsLease lease → MakesCallOn (LeaseIsFresh (Ok (Some lease))) a LeaseCall (lease_reply (Ok (Some lease))) b → Goes Idle (Running lease) a b
  leased_goes a b lease is made = goes_one Idle (Running lease) a b LeaseCall (lease_reply (Ok (Some lease))) made.1.0 made.0 made.1.1 refl
      (ap (λ (base : ℕ). InTurn (record { job = lease.job; number = lease.number; base = base; step = lease.step; steps = lease.steps })) (sym (base_is (slice_get made.1.0.jobs lease.job) made.1.2)))
      (record { made_is = refl; fresh = made.1.2; is_lease = is })
    where
      base_is : (found : Option JobState) → MatchOption found ⊥ (λ job. IsFresh job made.1.0.next lease) → lease.base.step ≡ lease.step
      base_is None none = absurd none
      base_is (Some job) fresh = fresh.base_step ∙ sym fresh.step

  -- the next step of a lease is ordered, and run
  pub ordered_goes : (a b : Desk L ledger) (lease next : LeaseState) (order : Order) → lease.step < lease.steps
      → (same : Bool) × MakesCallOn (λ book. IsCorrectVerdict lease same book × OrderHasRuleInForce (Ok order) book) a (OrderCall (offered lease same)) (order_reply (Ok order)) b
      → HasRun lease order next → Goes (Running lease) (Running next) a b
  ordered_goes a b lease next order left made ran =
      goes_one (Running lease) (Running next) a b (OrderCall (offered lease made.0)) (order_reply (Ok order)) made.1.1.0 made.1.0 made.1.1.1 refl
      (rw (offers_own lease made.0, lt-ltb lease.step lease.steps left) (ap (λ (now : LeaseState). InTurn (turn_of now)) (sym ran.grown)))
      (record { order = order; same = made.0; made_is = refl; rule = made.1.1.2.1; ran = ran })

  -- an order or the return of a lease is refused: if the call is an event, the lease has ended
  refused_goes : (Holds : BookState → Type 0) (s t : RunnerState) (a b c : Desk L ledger) (call : Call) (fault : BookFault) → Goes s t a b → MakesCallOn Holds b call (Refused fault) c
      → is_runner_call call ≡ true → stage_after (stage_of t) (event call (Refused fault)) ≡ Free
      → ((book : BookState) → is_event (Refused fault) ≡ true → Holds book → CallsAs t book (event call (Refused fault)) Idle)
      → MatchBool (is_event (Refused fault)) (Goes s Idle a c) (AddsRunnerCalls a c)
  refused_goes Holds s t a b c call fault before made of_runner next calls = by_event (is_event (Refused fault)) refl made.1
    where
      by_event : (one : Bool) → is_event (Refused fault) ≡ one → MatchBool one ((book : BookState) × MakesEvent b call (Refused fault) c book × Holds book) (MakesNoEvent b (Refused fault) c)
          → MatchBool one (Goes s Idle a c) (AddsRunnerCalls a c)
      by_event true is one = goes_both s t Idle a b c before (goes_one t Idle b c call (Refused fault) one.0 made.0 one.1 of_runner next (calls one.0 is one.2))
      by_event false is none = goes_on a b c before.on (stays b c made.0 (is_none b c (Refused fault) none))

  pub refused_order : (More : BookState → Type 0) (s : RunnerState) (a b c : Desk L ledger) (lease : LeaseState) (fault : BookFault) → lease.step < lease.steps → Goes s (Running lease) a b
      → (same : Bool) × MakesCallOn (λ book. IsCorrectVerdict lease same book × More book) b (OrderCall (offered lease same)) (Refused fault) c
      → MatchBool (is_event (Refused fault)) (Goes s Idle a c) (AddsRunnerCalls a c)
  refused_order More s a b c lease fault left before made =
      refused_goes (λ book. IsCorrectVerdict lease made.0 book × More book) s (Running lease) a b c (OrderCall (offered lease made.0)) fault before made.1 refl
      (rw (offers_own lease made.0, lt-ltb lease.step lease.steps left) refl)
      (λ book one holds. record { same = made.0; offers = inr (refl, left); verdict = holds.0; is_one = one })

  pub refused_back : (s : RunnerState) (a b c : Desk L ledger) (lease : LeaseState) (fault : BookFault) → Goes s (Running lease) a b
      → (same : Bool) × MakesCallOn (IsCorrectVerdict lease same) b (GiveBack (offered lease same)) (Refused fault) c → MatchBool (is_event (Refused fault)) (Goes s Idle a c) (AddsRunnerCalls a c)
  refused_back s a b c lease fault before made =
      refused_goes (IsCorrectVerdict lease made.0) s (Running lease) a b c (GiveBack (offered lease made.0)) fault before made.1 refl (rw (offers_own lease made.0) refl)
      (λ book one holds. record { same = made.0; offers = inl refl; verdict = holds; is_one = one })

  -- a lease is returned
  pub back_goes : (a b : Desk L ledger) (lease : LeaseState) → (same : Bool) × MakesCallOn (IsCorrectVerdict lease same) a (GiveBack (offered lease same)) Done b → Goes (Running lease) Idle a b
  back_goes a b lease made =
      goes_one (Running lease) Idle a b (GiveBack (offered lease made.0)) Done made.1.1.0 made.1.0 made.1.1.1 refl (rw (offers_own lease made.0) refl)
      (record { same = made.0; offers = inl refl; verdict = made.1.1.2; is_one = refl })

  -- no job is free, and the runner has ended
  pub none_left : (a b : Desk L ledger) → MakesCallOn (LeaseIsFresh (Ok None)) a LeaseCall NoLease b → EndsAt Idle Over 1 (Ok tt) a b
  none_left a b made =
      let one = one_more a b LeaseCall NoLease made.1.0 made.0 made.1.1 refl in
      let all = ap no_job_count one.subhistory ∙ none_append (subhistory_of a) one.more in
      record {
        on = one;
        stage = record { rise = (made.1.1.noted.1, tt); stage = refl };
        leases = (Over, made.1.0, made.1.1.replays, refl, refl);
        no_job = omega arith;
        full = λ e. absurd (cc e);
      }

  -- a result after other calls
  pub ended_after : (s t u : RunnerState) (count : ℕ) (ended : Result (Unit {0}) RunFault) (a b c : Desk L ledger) → Goes s t a b → EndsAt t u count ended b c → EndsAt s u count ended a c
  ended_after s t u count (Ok done) a b c go end =
      let both = goes_both s t u a b c go (record { on = end.on; stage = end.stage; leases = end.leases }) in
      let rises = none_rises a b go.on in
      let out = end.no_job in
      record { on = both.on; stage = both.stage; leases = both.leases; no_job = omega arith; full = end.full }
  ended_after s t u count (Err fault) a b c go end = record { on = goes_on a b c go.on end.on; stage = tt; leases = tt; no_job = tt; full = end.full }

  -- a runner that continues has not ended with a fault
  pub ended_none : (s t : RunnerState) (a b : Desk L ledger) → Goes s t a b → EndsAt s t 0 (Ok tt) a b
  ended_none s t a b go = let rises = none_rises a b go.on in record { on = go.on; stage = go.stage; leases = go.leases; no_job = omega arith; full = λ e. absurd (cc e) }

  -- after a fault only the kinds of the calls are known
  pub ended_fault : (s t : RunnerState) (count : ℕ) (fault : RunFault) (a b : Desk L ledger) → AddsRunnerCalls a b → (failed fault ≡ Err run.HistoryFull → MAX_EVENTS ≤ clock_of b) → EndsAt s t count (Err fault) a b
  ended_fault s t count fault a b on seen = record { on = on; stage = tt; leases = tt; no_job = tt; full = seen }

  -- a lease is dropped after a fault
  pub dropped : (s : RunnerState) (a b c : Desk L ledger) (fault : BookFault) (ended : Result (Unit {0}) RunFault)
      → MatchBool (is_event (Refused fault)) (Goes s Idle a b) (AddsRunnerCalls a b) → AddsRunnerCalls b c → (IsOk ended → (is_event (Refused fault) ≡ true) × (c ≡ b))
      → (ended ≡ Err run.HistoryFull → MAX_EVENTS ≤ clock_of c) → EndsAt s Idle 0 ended a c
  dropped s a b c fault (Ok done) before on over full =
      let is = over refl in
      subst (λ (d : Desk L ledger). EndsAt s Idle 0 (Ok done) a d) (sym is.1) (ended_none s Idle a b (MatchBool-at_true (Goes s Idle a b) (AddsRunnerCalls a b) is.0 before))
  dropped s a b c fault (Err why) before on over full = ended_fault s Idle 0 why a c (goes_on a b c (known (is_event (Refused fault)) before) on) full
    where
      known : (one : Bool) → MatchBool one (Goes s Idle a b) (AddsRunnerCalls a b) → AddsRunnerCalls a b
      known true go = go.on
      known false go = go

  -- one runner has ended
  pub one_ended : (ended : Result (Unit {0}) RunFault) (a b : Desk L ledger) → EndsAt Idle Over 1 ended a b → HasEnded 1 ended a b
  one_ended (Ok done) a b end = record { on = end.on; logs = (end.on.more, [], sym (append-nil end.on.more), record { rise = lower (clock_of a) 0 end.on.more (omega arith) end.stage.rise; stage = end.stage.stage }, end.leases, refl); no_job = end.no_job; full = end.full }
  one_ended (Err fault) a b end = record { on = end.on; logs = tt; no_job = tt; full = end.full }

  -- the ends of two runners, combined into one
  pub ended_both : (one others : ℕ) (first second told : Result (Unit {0}) RunFault) (old kept given mine theirs new : Desk L ledger)
      → part_count kept + 1 ≡ part_count old → part_count given ≡ 1
      → subhistory_of kept ≡ subhistory_of old → subhistory_of given ≡ [] → clock_of kept ≡ clock_of old → clock_of given ≡ clock_of old
      → HasEnded others second kept mine → HasEnded one first given theirs
      → part_count new ≡ part_count mine + part_count theirs → subhistory_of new ≡ subhistory_of mine ++ subhistory_of theirs → clock_of new ≡ max (clock_of mine) (clock_of theirs)
      → IsOk told ↔ (IsOk first × IsOk second) → (told ≡ Err run.HistoryFull) ↔ ((first ≡ Err run.HistoryFull) ⊎ (second ≡ Err run.HistoryFull))
      → HasEnded (one + others) told old new
  ended_both one others first second told old kept given mine theirs new fewer part was free low least second_end first_end parts joined greater fine full = record {
    on = gathers old kept given mine theirs new fewer part was free low least second_end.on first_end.on parts joined greater;
    logs = logs_told told refl;
    no_job = by_told told refl;
    full = λ e. elim (full.0 e) [
      | inl is ↦ let p = first_end.full is in omega arith
      | inr is ↦ let p = second_end.full is in omega arith
    ];
  }
    where
      out_of : (n : ℕ) (e : Result (Unit {0}) RunFault) (a b : Desk L ledger) → HasEnded n e a b → IsOk e → no_job_count (subhistory_of a) + n ≤ no_job_count (subhistory_of b)
      out_of n (Ok done) a b end is = end.no_job
      out_of n (Err fault) a b end is = absurd (cc is)

      by_told : (e : Result (Unit {0}) RunFault) → told ≡ e → OnOk e (no_job_count (subhistory_of old) + (one + others) ≤ no_job_count (subhistory_of new))
      by_told (Err fault) e = tt
      by_told (Ok done) e =
          let both = fine.0 (subst IsOk (sym e) refl) in
          let a = out_of one first given theirs first_end both.0 in
          let b = out_of others second kept mine second_end both.1 in
          let c : no_job_count (subhistory_of kept) ≡ no_job_count (subhistory_of old) = ap no_job_count was in
          let d : no_job_count (subhistory_of given) ≡ 0 = ap no_job_count free in
          let f : no_job_count (subhistory_of new) ≡ no_job_count (subhistory_of mine) + no_job_count (subhistory_of theirs) = ap no_job_count joined ∙ none_append (subhistory_of mine) (subhistory_of theirs) in
          omega arith

      logs_of : (n : ℕ) (e : Result (Unit {0}) RunFault) (a b : Desk L ledger) → (end : HasEnded n e a b) → IsOk e → AreLogs n end.on.more
      logs_of n (Ok done) a b end is = end.logs
      logs_of n (Err fault) a b end is = absurd (cc is)

      logs_told : (e : Result (Unit {0}) RunFault) → told ≡ e → OnOk e (AreLogs (one + others) (second_end.on.more ++ first_end.on.more))
      logs_told (Err fault) e = tt
      logs_told (Ok done) e =
          let both = fine.0 (subst IsOk (sym e) refl) in
          let all : others + one ≡ one + others = omega arith in
          subst (λ (n : ℕ). AreLogs n (second_end.on.more ++ first_end.on.more)) all
          (logs_append others one second_end.on.more first_end.on.more (logs_of others second kept mine second_end both.1) (logs_of one first given theirs first_end both.0))

-- Facts of the book machine.
use Rattle.std.proofs.Common.{◌≡◌, ℕ, ◌+◌, ◌<◌, ◌≤◌, ◌==◌, ◌&&◌, ◌↔◌, IsTrue, not, ltb, [], Bool, true, false}
use Rattle.std.proofs.Common.{List, Option, Some, None, length, ap, sym, ◌∙◌, refl, slice_get, slice_set}
use Rattle.std.proofs.Common.{slice_index_or, MatchBool, MatchOption, IfOk, Result, Ok, Err, subst, eqb-true}
use Rattle.std.proofs.Common.{ltb-false, if◌then◌else◌, position}
use Rattle.std.proofs.lemmas.{Option.{slice_get-get_or, get_or_from_slice_get}, List.set-get_or}
use Rattle.std.proofs.lemmas.Bool.{and_parts, cond-false, cond-true, false≢true}
use Rattle.trlab_road.specs.Cells.{Cells}
use Rattle.trlab_step.specs.{declared.tally.StepTally.StepTally, Run.{IsReachedByRun, Progress, IsRoadAt}}
use Rattle.trlab_step.{specs.Run.{Sheet, in_force}, proofs.RunLaws.road_at_is_one}
use Rattle.trlab_sequential_book.specs.declared.{event.{Call.Call, Reply.Reply}, order.Order.Order}
use Rattle.trlab_sequential_book.specs.declared.{event.Offered.Offered, lease.ExecutedStep.ExecutedStep}
use Rattle.trlab_sequential_book.specs.declared.event.Reply.TheVariants.{Done, Leased, NoLease, Refused, Seen}
use Rattle.trlab_sequential_book.specs.declared.fault.BookFault.{BookFault, TheVariants.StrangerLease}
use Rattle.trlab_sequential_book.specs.declared.fault.BookFault.TheVariants.{HistoryFull, NoSuchJob}
use Rattle.trlab_sequential_book.specs.{declared.seed.Seed.Seed, Machine.{refusal, reply_of, outcome_of_call}}
use Rattle.trlab_sequential_book.specs.Histories.{give_back_reply, done_reply, number_reply, order_reply}
use Rattle.trlab_sequential_book.specs.{Histories.read_reply, Sheets.RanUnderSheet}
use Rattle.trlab_sequential_book.specs.Comparison.{progress_of, run_seed, IsFresh, IsFreshIfLent}
use Rattle.trlab_sequential_book.specs.Comparison.{RunsRoadOfJob, HasRuleInForce, RunsRoadOfItsJob, ShowsJob}
use Rattle.trlab_sequential_book.specs.{Comparison.{IsSnapshotOf, LeaseCall}, Leases.{FitsOrder, LeaseState}}
use Rattle.trlab_sequential_book.specs.Machine.{JobState, JobOutcome, JobsOutcome, BookState, after, is_free}
use Rattle.trlab_sequential_book.specs.Machine.{has_full_history, is_out, accepts_lease, give_back_outcome}
use Rattle.trlab_sequential_book.specs.Machine.{lease_outcome, next_after, on_free, on_job, read_outcome}

-- a job with these fields
abbrev pub job_state : Seed → Sheet → ℕ → ℕ → ℕ → Bool → Option ℕ → JobState
job_state seed sheet steps high done cancelled out =
    record { seed = seed; sheet = sheet; steps = steps; high = high; done = done; cancelled = cancelled; out = out }

-- a job that exists
pub found : (jobs : List JobState) (i : ℕ) (j : JobState) → i < length jobs → j ≡ slice_index_or jobs i j → slice_get jobs i ≡ Some j
found jobs i j h e = slice_get-get_or jobs i j h ∙ sym (ap Some e)

pub on_found : (jobs : List JobState) (i : ℕ) (j : JobState) (f : JobState → JobOutcome) → slice_get jobs i ≡ Some j → on_job jobs i f ≡ record { reply = (f j).reply; jobs = slice_set jobs i (f j).job }
on_found jobs i j f e =
    let t : Option JobState → JobsOutcome = λ o. elim o [ None ↦ record { reply = Refused NoSuchJob; jobs = jobs } | Some k ↦ record { reply = (f k).reply; jobs = slice_set jobs i (f k).job } ] in
    ap t e

pub jobs_made : (jobs : List JobState) (i : ℕ) (old new : JobState) (f : JobState → JobOutcome) (m : Bool) → i < length jobs → old ≡ slice_index_or jobs i old → MatchBool m (new ≡ old) (new ≡ (f old).job) → MatchBool m (slice_set jobs i new ≡ jobs) (slice_set jobs i new ≡ (on_job jobs i f).jobs)
jobs_made jobs i old new f true h e n = ap (slice_set jobs i) (n ∙ e) ∙ set-get_or jobs i old
jobs_made jobs i old new f false h e n = ap (slice_set jobs i) n ∙ sym (ap (λ s. s.jobs) (on_found jobs i old f (found jobs i old h e)))

stays : (jobs : List JobState) (i : ℕ) (o : Option JobState) → slice_get jobs i ≡ o → (on_job jobs i read_outcome).jobs ≡ jobs
stays jobs i None e =
    let t : Option JobState → JobsOutcome = λ o. elim o [ None ↦ record { reply = Refused NoSuchJob; jobs = jobs } | Some k ↦ record { reply = (read_outcome k).reply; jobs = slice_set jobs i (read_outcome k).job } ] in
    ap (λ s. s.jobs) (ap t e)
stays jobs i (Some j) e =
    ap (λ s. s.jobs) (on_found jobs i j read_outcome e) ∙ sym (ap (slice_set jobs i) (get_or_from_slice_get jobs i j j e)) ∙ set-get_or jobs i j

-- a read changes no job
pub reading_stays : (jobs : List JobState) (i : ℕ) → (on_job jobs i read_outcome).jobs ≡ jobs
reading_stays jobs i = stays jobs i (slice_get jobs i) refl

pub rule_found : (jobs : List JobState) (lease : LeaseState) (j : JobState) (r : Result Order BookFault) → lease.job < length jobs → j ≡ slice_index_or jobs lease.job j → IfOk r (λ o. FitsOrder lease o) → IfOk r (λ o. in_force j.sheet o.step ≡ Some o.rule) → IfOk r (λ o. HasRuleInForce jobs o)
rule_found jobs lease j (Err f) h e fits k = tt
rule_found jobs lease j (Ok o) h e fits k =
    let here : slice_get jobs o.job ≡ Some j = ap (slice_get jobs) fits.job ∙ found jobs lease.job j h e in
    let P : Option JobState → Type 0 = λ x. MatchOption x ⊥ (λ s. in_force s.sheet o.step ≡ Some o.rule) in
    subst P (sym here) k

-- the reply to a call on a job that exists, and the jobs after it
pub reply_found : (jobs : List JobState) (i : ℕ) (j : JobState) (f : JobState → JobOutcome) → i < length jobs → j ≡ slice_index_or jobs i j → (f j).reply ≡ (on_job jobs i f).reply
reply_found jobs i j f h e = sym (ap (λ s. s.reply) (on_found jobs i j f (found jobs i j h e)))

pub reply_made : (jobs : List JobState) (i : ℕ) (old : JobState) (f : JobState → JobOutcome) (m : Bool) (told : Reply) → i < length jobs → old ≡ slice_index_or jobs i old → MatchBool m (Unit {0}) (told ≡ (f old).reply) → MatchBool m (Unit {0}) (told ≡ (on_job jobs i f).reply)
reply_made jobs i old f true told h e n = tt
reply_made jobs i old f false told h e n = n ∙ reply_found jobs i old f h e

pub jobs_found : (jobs : List JobState) (i : ℕ) (j : JobState) (f : JobState → JobOutcome) → i < length jobs → j ≡ slice_index_or jobs i j → slice_set jobs i (f j).job ≡ (on_job jobs i f).jobs
jobs_found jobs i j f h e = sym (ap (λ s. s.jobs) (on_found jobs i j f (found jobs i j h e)))

-- a snapshot of a job that exists
pub seen_found : (jobs : List JobState) (i : ℕ) (j : JobState) (seen : Progress) → i < length jobs → j ≡ slice_index_or jobs i j → IsSnapshotOf j seen → ShowsJob jobs i seen
seen_found jobs i j seen h e is =
    let P : Option JobState → Type 0 = λ o. MatchOption o ⊥ (λ k. IsSnapshotOf k seen) in
    subst P (sym (found jobs i j h e)) is

pub seen_told : (jobs : List JobState) (i : ℕ) (j : JobState) (seen : Progress) → i < length jobs → j ≡ slice_index_or jobs i j → IsSnapshotOf j seen → Seen seen.step (length seen.sheet) ≡ (on_job jobs i read_outcome).reply
seen_told jobs i j seen h e is =
    ap (λ n. Seen n (length seen.sheet)) is.step ∙ ap (λ (s : Sheet). Seen j.done (length s)) is.sheet ∙ reply_found jobs i j read_outcome h e

-- the lease of a job that exists runs its road
pub own_found : (jobs : List JobState) (i : ℕ) (j : JobState) (lease : LeaseState) → i < length jobs → j ≡ slice_index_or jobs i j → lease.job ≡ i → RunsRoadOfItsJob jobs lease → RunsRoadOfJob j lease
own_found jobs i j lease h e job same =
    let here : slice_get jobs lease.job ≡ Some j = ap (slice_get jobs) job ∙ found jobs i j h e in
    let P : Option JobState → Type 0 = λ o. MatchOption o ⊥ (λ k. RunsRoadOfJob k lease) in
    subst P here same

-- the call `lease` of a book in which a job is free
served_free : (s : BookState) (i : ℕ) (j : JobState) → position is_free s.jobs ≡ Some i → i < length s.jobs → j ≡ slice_index_or s.jobs i j
    → outcome_of_call s LeaseCall ≡ record { reply = Leased i s.next j.done j.steps; jobs = slice_set s.jobs i (lease_outcome i s.next j).job }
served_free s i j free h e = ap (on_free s.jobs s.next) free ∙ on_found s.jobs i j (lease_outcome i s.next) (found s.jobs i j h e)

pub lease_told : (s now : BookState) (i : ℕ) (j : JobState) (lease : LeaseState) → s ≡ now → has_full_history now ≡ false → position is_free s.jobs ≡ Some i → i < length s.jobs → j ≡ slice_index_or s.jobs i j
    → lease.job ≡ i → IsFresh j s.next lease → Leased lease.job lease.number lease.step lease.steps ≡ reply_of now LeaseCall
lease_told s now i j lease view room free h e job fresh =
    let told : reply_of s LeaseCall ≡ Leased i s.next j.done j.steps =
    cond-false (has_full_history s) (Refused HistoryFull) (outcome_of_call s LeaseCall).reply (ap has_full_history view ∙ room) ∙ ap (λ r. r.reply) (served_free s i j free h e) in
    let number = fresh.number_is in
    let step = fresh.step in
    let steps = fresh.steps in
    let mine : Leased lease.job lease.number lease.step lease.steps ≡ reply_of s LeaseCall = cc in
    mine ∙ ap (λ (t : BookState). reply_of t LeaseCall) view

pub lease_leads : (s now : BookState) (i : ℕ) (j new : JobState) → s ≡ now → has_full_history now ≡ false → position is_free s.jobs ≡ Some i → i < length s.jobs → j ≡ slice_index_or s.jobs i j
    → new ≡ (lease_outcome i s.next j).job → record { count = s.count + 1; next = s.next + 1; jobs = slice_set s.jobs i new } ≡ after now LeaseCall
lease_leads s now i j new view room free h e made =
    let with : JobState → BookState = λ k. record { count = s.count + 1; next = s.next + 1; jobs = slice_set s.jobs i k } in
    let by : JobsOutcome → BookState = λ r. record { count = s.count + 1; next = next_after s.next r.reply; jobs = r.jobs } in
    let leads : after s LeaseCall ≡ with (lease_outcome i s.next j).job =
    cond-false (has_full_history s) s (by (outcome_of_call s LeaseCall)) (ap has_full_history view ∙ room) ∙ ap by (served_free s i j free h e) in
    ap with made ∙ sym leads ∙ ap (λ (t : BookState). after t LeaseCall) view

pub lease_lent : (s now : BookState) (i : ℕ) (j : JobState) (lease : LeaseState) → s ≡ now → i < length s.jobs → j ≡ slice_index_or s.jobs i j
    → lease.job ≡ i → IsFresh j s.next lease → IsFreshIfLent now.jobs now.next (Some lease)
lease_lent s now i j lease view h e job fresh =
    let here : slice_get s.jobs lease.job ≡ Some j = ap (slice_get s.jobs) job ∙ found s.jobs i j h e in
    let P : Option JobState → Type 0 = λ o. MatchOption o ⊥ (λ k. IsFresh k s.next lease) in
    subst (λ (t : BookState). IsFreshIfLent t.jobs t.next (Some lease)) view (subst P (sym here) fresh)

-- the parts of `accepts_lease`
pub own_parts : (lease : Offered) (job : JobState) → accepts_lease lease job ≡ true → (lease.base ≡ job.done) × (lease.step ≤ job.high) × (lease.same ≡ true)
own_parts lease job h =
    let a = (and_parts (is_out lease.number job.out) ((lease.base == job.done) && (not (ltb job.high lease.step) && lease.same)) h).1 in
    let b = and_parts (lease.base == job.done) (not (ltb job.high lease.step) && lease.same) a in
    let d = and_parts (not (ltb job.high lease.step)) lease.same b.1 in
    (eqb-true lease.base job.done b.0, ltb-false job.high lease.step (not_true (ltb job.high lease.step) d.0), d.1)
  where
    not_true : (b : Bool) → not b ≡ true → b ≡ false
    not_true true h = sym h
    not_true false h = refl

-- the run of a job, seen from inside
of_job : (job now : JobState) (road : Cells) (sum : StepTally) → job ≡ now → IsReachedByRun (progress_of now.seed now.sheet now.done road sum) → IsReachedByRun (progress_of job.seed job.sheet job.done road sum)
of_job job now road sum view run = subst (λ (s : JobState). IsReachedByRun (progress_of s.seed s.sheet s.done road sum)) (sym view) run

-- a lease that has just gone out runs the road of its job
pub fresh_run : (job : JobState) (lease : LeaseState) (road : Cells) (sum : StepTally) → IsReachedByRun (progress_of job.seed job.sheet job.done road sum)
    → lease.key ≡ job.seed.key → lease.road_number ≡ job.seed.number → lease.base.road ≡ road → lease.applied ≡ [] → RunsRoadOfJob job lease
fresh_run job lease road sum run key number base none = record {
  key = key;
  number = number;
  base = subst (λ (r : Cells). IsRoadAt (run_seed job.seed) job.sheet job.done r) (sym base) (sum, run.comes);
  rules = λ k ran at. absurd (no_run k ran (subst (λ (xs : List ExecutedStep). slice_get xs k ≡ Some ran) none at));
}
  where
    no_run : (k : ℕ) (ran : ExecutedStep) → slice_get [] k ≡ Some ran → ⊥
    no_run k ran at = cc

-- a lease that goes out is fresh
pub lent : (job now : JobState) (number : ℕ) (lease : LeaseState) (road : Cells) (sum : StepTally) → job ≡ now → IsReachedByRun (progress_of now.seed now.sheet now.done road sum)
    → lease.key ≡ job.seed.key → lease.road_number ≡ job.seed.number → lease.base.road ≡ road → lease.applied ≡ []
    → lease.number ≡ number → lease.steps ≡ job.steps → lease.base.step ≡ job.done → lease.step ≡ job.done → IsFresh now number lease
lent job now number lease road sum view run key own base none number_is steps base_step step =
    subst (λ (s : JobState). IsFresh s number lease) view (record {
      number_is = number_is;
      steps = steps;
      base_step = base_step;
      step = step;
      own = fresh_run job lease road sum (of_job job now road sum view run) key own base none;
    })

-- a lease that began at the job's road, under its key and number, runs the road if its rules are in force
pub runs_where : (job now : JobState) (lease : LeaseState) (road : Cells) (sum : StepTally) (b : Bool) → job ≡ now → IsReachedByRun (progress_of now.seed now.sheet now.done road sum)
    → lease.key ≡ job.seed.key → lease.road_number ≡ job.seed.number → lease.base.road ≡ road
    → IsTrue b ↔ RanUnderSheet job.sheet lease.base.step lease.applied → IsTrue b ↔ RunsRoadOfJob now lease
runs_where job now lease road sum b view run key number base same =
    let B : Cells → Type 0 = λ r. IsRoadAt (run_seed job.seed) job.sheet job.done r in
    let mine = of_job job now road sum view run in
    subst (λ (s : JobState). IsTrue b ↔ RunsRoadOfJob s lease) view
    (λ h. record { key = key; number = number; base = subst B (sym base) (sum, mine.comes); rules = same.0 h }, λ own. same.1 own.rules)

-- one that began at another road does not run the job's
pub runs_not : (job now : JobState) (lease : LeaseState) (road : Cells) (sum : StepTally) → job ≡ now → IsReachedByRun (progress_of now.seed now.sheet now.done road sum)
    → (lease.base.road ≡ road → ⊥) → RunsRoadOfJob now lease → ⊥
runs_not job now lease road sum view run other own =
    other (road_at_is_one (run_seed now.seed) now.sheet now.done lease.base.road road own.base (sum, run.comes))

-- a lease that is returned is refused if it is not the one that is out, and accepted if it is
pub back_refused : (lease : Offered) (job : JobState) → accepts_lease lease job ≡ false → give_back_outcome lease job ≡ refusal StrangerLease job
back_refused lease job other = ap (λ own. if own then record { reply = Done; job = record job { done = lease.step; out = None } } else refusal StrangerLease job) other

pub back_taken : (lease : Offered) (job : JobState) → accepts_lease lease job ≡ true → Done ≡ (give_back_outcome lease job).reply
back_taken lease job own =
    sym (ap (λ own. (if own then record { reply = Done; job = record job { done = lease.step; out = None } } else refusal StrangerLease job).reply) own)

pub back_made : (lease : Offered) (job now : JobState) (step : ℕ) → job ≡ now → accepts_lease lease now ≡ true → step ≡ lease.step
    → record job { done = step; out = None } ≡ (give_back_outcome lease now).job
back_made lease job now step view own at =
    ap (λ (n : ℕ). record job { done = n; out = None }) at
    ∙ ap (λ (s : JobState). record s { done = lease.step; out = None }) view
    ∙ sym (ap (λ own. (if own then record { reply = Done; job = record now { done = lease.step; out = None } } else refusal StrangerLease now).job) own)

-- the reply to a call, and the state after it, of a book that is full
pub full_told : (s : BookState) (call : Call) → has_full_history s ≡ true → Refused HistoryFull ≡ reply_of s call
full_told s call full = sym (cond-true (has_full_history s) (Refused HistoryFull) (outcome_of_call s call).reply full)

pub full_stays : (s : BookState) (call : Call) → has_full_history s ≡ true → s ≡ after s call
full_stays s call full =
    let next : BookState = record { count = s.count + 1; next = next_after s.next (outcome_of_call s call).reply; jobs = (outcome_of_call s call).jobs } in
    sym (cond-true (has_full_history s) s next full)

-- the same for a book that is not full, and a call that lends nothing and in which an allocation may have
-- failed
pub told_made : (s now : BookState) (m : Bool) (call : Call) (told : Reply) → s ≡ now → has_full_history now ≡ false
    → MatchBool m (Unit {0}) (told ≡ (outcome_of_call s call).reply) → MatchBool m (Unit {0}) (told ≡ reply_of now call)
told_made s now true call told view room made = tt
told_made s now false call told view room made =
    made ∙ sym (cond-false (has_full_history s) (Refused HistoryFull) (outcome_of_call s call).reply (ap has_full_history view ∙ room)) ∙ ap (λ (t : BookState). reply_of t call) view

pub leads_made : (s now : BookState) (m : Bool) (call : Call) (told : Reply) (jobs : List JobState) → s ≡ now → has_full_history now ≡ false → m ≡ false → next_after s.next told ≡ s.next
    → MatchBool m (Unit {0}) (told ≡ (outcome_of_call s call).reply) → MatchBool m (jobs ≡ s.jobs) (jobs ≡ (outcome_of_call s call).jobs)
    → MatchBool m (record { count = s.count + 1; next = s.next; jobs = jobs } ≡ now) (record { count = s.count + 1; next = s.next; jobs = jobs } ≡ after now call)
leads_made s now true call told jobs view room kept next made put = absurd (false≢true (sym kept))
leads_made s now false call told jobs view room kept next made put =
    let by : ℕ → List JobState → BookState = λ n xs. record { count = s.count + 1; next = n; jobs = xs } in
    ap (by s.next) put ∙ ap (λ n. by n (outcome_of_call s call).jobs) (sym next ∙ ap (next_after s.next) made)
    ∙ sym (cond-false (has_full_history s) s (by (next_after s.next (outcome_of_call s call).reply) (outcome_of_call s call).jobs) (ap has_full_history view ∙ room))
    ∙ ap (λ (t : BookState). after t call) view

-- a call that lends nothing is counted, unless an allocation fails
pub counted : (s now : BookState) (m : Bool) (call : Call) (told : Reply) (jobs : List JobState) (count : ℕ) → s ≡ now → has_full_history now ≡ false → next_after s.next told ≡ s.next
    → MatchBool m (count ≡ s.count) (count ≡ s.count + 1)
    → MatchBool m (Unit {0}) (told ≡ (outcome_of_call s call).reply) → MatchBool m (jobs ≡ s.jobs) (jobs ≡ (outcome_of_call s call).jobs)
    → MatchBool m (record { count = count; next = s.next; jobs = jobs } ≡ now) (record { count = count; next = s.next; jobs = jobs } ≡ after now call)
counted s now true call told jobs count view room next more made put =
    let by : ℕ → List JobState → BookState = λ n xs. record { count = n; next = s.next; jobs = xs } in
    ap (λ (n : ℕ). by n jobs) more ∙ ap (by s.count) put ∙ view
counted s now false call told jobs count view room next more made put =
    let by : ℕ → BookState = λ n. record { count = n; next = s.next; jobs = jobs } in
    ap by more ∙ leads_made s now false call told jobs view room refl next made put

-- replies that lend nothing
pub next_number : (next : ℕ) (answer : Result ℕ BookFault) → next_after next (number_reply answer) ≡ next
next_number next (Ok number) = refl
next_number next (Err fault) = refl

pub next_order : (next : ℕ) (answer : Result Order BookFault) → next_after next (order_reply answer) ≡ next
next_order next (Ok order) = refl
next_order next (Err fault) = refl

pub next_seen : (next : ℕ) (answer : Result Progress BookFault) → next_after next (read_reply answer) ≡ next
next_seen next (Ok seen) = refl
next_seen next (Err fault) = refl

pub next_done : (next : ℕ) (answer : Result (Unit {0}) BookFault) → next_after next (done_reply answer) ≡ next
next_done next (Ok done) = refl
next_done next (Err fault) = refl

pub next_back : (next : ℕ) (answer : Result (Unit {0}) (LeaseState × BookFault)) → next_after next (give_back_reply answer) ≡ next
next_back next (Ok done) = refl
next_back next (Err handed) = refl

-- a call that changes no job, whether an allocation failed or not
pub same_jobs : (m : Bool) (jobs others : List JobState) → others ≡ jobs → MatchBool m (jobs ≡ jobs) (jobs ≡ others)
same_jobs true jobs others same = refl
same_jobs false jobs others same = sym same

pub told_seen : (jobs seen : List JobState) (i : ℕ) (m : Bool) (told : Reply) → seen ≡ jobs
    → MatchBool m (Unit {0}) (told ≡ (on_job seen i read_outcome).reply) → MatchBool m (Unit {0}) (told ≡ (on_job jobs i read_outcome).reply)
told_seen jobs seen i m told same made =
    subst (λ (xs : List JobState). MatchBool m (Unit {0}) (told ≡ (on_job xs i read_outcome).reply)) same made

-- the call `lease` of a book in which no job is free
pub none_told : (s now : BookState) → s ≡ now → has_full_history now ≡ false → position is_free s.jobs ≡ None → NoLease ≡ reply_of now LeaseCall
none_told s now view room none =
    told_made s now false LeaseCall NoLease view room (sym (ap (λ (o : Option ℕ). (on_free s.jobs s.next o).reply) none))

pub none_leads : (s now : BookState) → s ≡ now → has_full_history now ≡ false → position is_free s.jobs ≡ None → record { count = s.count + 1; next = s.next; jobs = s.jobs } ≡ after now LeaseCall
none_leads s now view room none =
    leads_made s now false LeaseCall NoLease s.jobs view room refl refl (sym (ap (λ (o : Option ℕ). (on_free s.jobs s.next o).reply) none))
    (sym (ap (λ (o : Option ℕ). (on_free s.jobs s.next o).jobs) none))

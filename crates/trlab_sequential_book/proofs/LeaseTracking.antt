-- A book knows a lease that is out: its job, and that it runs the road of this job.
use Rattle.std.proofs.Common.{◌≡◌, ℕ, zero, suc, ◌+◌, ◌<◌, ◌≤◌, ◌==◌, ◌||◌, not, ltb, max, Bool, true, false}
use Rattle.std.proofs.Common.{List, [], ◌∷◌, ◌++◌, Option, Some, None, length, refl, sym, ◌∙◌, ap, subst, inl}
use Rattle.std.proofs.Common.{inr, ◌⊎◌, arith, slice_get, slice_set, filter, is_some, if◌then◌else◌, position}
use Rattle.std.proofs.{Common.{eq-eqb, eqb-true, ltb-false, ltb-true}, lemmas.Bool.{cases_eq, cond_both}}
use Rattle.std.proofs.lemmas.Option.{none-some, same_Some, slice_get_within}
use Rattle.trlab_rules.specs.Rules.{Programs}
use Rattle.trlab_road.specs.Cells.{Cells}
use Rattle.trlab_step.specs.declared.tally.StepTally.{StepTally}
use Rattle.trlab_step.specs.Run.{ComesTo, IsSheet, Seed as RunSeed, Sheet, StepsIncreaseFrom, suits}
use Rattle.trlab_sequential_book.specs.declared.{book.TheConstants.MAX_JOBS, sheet.TheConstants.MAX_ENTRIES}
use Rattle.trlab_sequential_book.specs.declared.{seed.Seed.Seed, event.Call.Call, order.Order.Order}
use Rattle.trlab_sequential_book.specs.{declared.event.Offered.Offered, Comparison.{RunsRoadOfJob, run_seed}}
use Rattle.trlab_sequential_book.specs.{declared.event.Reply.Reply, Machine.{replace_outcome, revoke_outcome}}
use Rattle.trlab_sequential_book.{specs.{Leases.LeaseState, Sheets.with_rule_from}, proofs.Booking.on_found}
use Rattle.trlab_sequential_book.specs.Machine.{JobState, JobOutcome, JobsOutcome, BookState, accepts_lease}
use Rattle.trlab_sequential_book.specs.Machine.{after, cancel_outcome, give_back_outcome, has_full_history}
use Rattle.trlab_sequential_book.specs.Machine.{is_free, is_out, lease_outcome, new_job, next_after, on_free}
use Rattle.trlab_sequential_book.specs.Machine.{on_job, order_outcome, outcome_of_call, read_outcome}
use Rattle.trlab_sequential_book.proofs.{Entering.{comes_entered, in_force_entered}, InForce.rises_from_0}
use Rattle.trlab_sequential_book.specs.declared.event.Call.TheVariants as call
use Rattle.trlab_sequential_book.specs.declared.event.Reply.TheVariants as reply
use Rattle.trlab_sequential_book.specs.declared.fault.BookFault.TheVariants as fault

-- numbers and lists

pub same_number : (n : ℕ) → (n == n) ≡ true
same_number n = eq-eqb n n refl

apart_by : (m n : ℕ) (b : Bool) → (m == n) ≡ b → (m ≡ n → ⊥) → (m == n) ≡ false
apart_by m n true is other = absurd (other (eqb-true m n is))
apart_by m n false is other = is

pub apart : (m n : ℕ) → (m ≡ n → ⊥) → (m == n) ≡ false
apart m n other = apart_by m n (m == n) refl other

pub set_here : {A : Type 0} (xs : List A) (i : ℕ) (put was : A) → slice_get xs i ≡ Some was → slice_get (slice_set xs i put) i ≡ Some put
set_here [] i put was at = absurd (none-some was at)
set_here (x ∷ xs) zero put was at = refl
set_here (x ∷ xs) (suc i) put was at = set_here xs i put was at

pub set_there : {A : Type 0} (xs : List A) (i j : ℕ) (put : A) → (j ≡ i → ⊥) → slice_get (slice_set xs i put) j ≡ slice_get xs j
set_there [] i j put other = refl
set_there (x ∷ xs) zero zero put other = absurd (other refl)
set_there (x ∷ xs) zero (suc j) put other = refl
set_there (x ∷ xs) (suc i) zero put other = refl
set_there (x ∷ xs) (suc i) (suc j) put other = set_there xs i j put (λ same. other (ap suc same))

push_there : {A : Type 0} (xs : List A) (last x : A) (i : ℕ) → slice_get xs i ≡ Some x → slice_get (xs ++ last ∷ []) i ≡ Some x
push_there [] last x i at = absurd (none-some x at)
push_there (y ∷ xs) last x zero at = at
push_there (y ∷ xs) last x (suc i) at = push_there xs last x i at

pub push_was : {A : Type 0} (xs : List A) (last x : A) (i : ℕ) → slice_get (xs ++ last ∷ []) i ≡ Some x → (slice_get xs i ≡ Some x) ⊎ ((i ≡ length xs) × (x ≡ last))
push_was [] last x zero at = inr (refl, sym (same_Some last x at))
push_was [] last x (suc i) at = absurd (none-some x at)
push_was (y ∷ xs) last x zero at = inl at
push_was (y ∷ xs) last x (suc i) at = elim (push_was xs last x i at) [
  | inl before ↦ inl before
  | inr new ↦ inr (ap suc new.0, new.1)
]

-- sheets into which a rule enters

rises_less : (a b : ℕ) (sheet : Sheet) → b ≤ a → StepsIncreaseFrom a sheet → StepsIncreaseFrom b sheet
rises_less a b [] low rises = tt
rises_less a b (x ∷ sheet) low rises = (omega (arith, low, rises.0), rises.1)

rises_entered : (least from : ℕ) (rule : Programs) (sheet : Sheet) → least ≤ from → StepsIncreaseFrom least sheet → StepsIncreaseFrom least (with_rule_from sheet from rule)
rises_entered least from rule [] low rises = (low, tt)
rises_entered least from rule (x ∷ sheet) low rises =
    let rest = filter (λ (entry : ℕ × Programs). ltb entry.0 from) sheet in
    let P : Sheet → Type 0 = λ v. StepsIncreaseFrom least (v ++ (from, rule) ∷ []) in
    cond_both (ltb x.0 from) (x ∷ rest) rest P
    (λ before. let high = ltb-true x.0 from before in (rises.0, rises_entered (x.0 + 1) from rule sheet (omega (arith, high)) rises.1))
    (λ late. rises_entered least from rule sheet low (rises_less (x.0 + 1) least sheet (omega (arith, rises.0)) rises.1))

none_before : (least from : ℕ) (sheet : Sheet) → from ≤ least → StepsIncreaseFrom least sheet → filter (λ (entry : ℕ × Programs). ltb entry.0 from) sheet ≡ []
none_before least from [] low rises = refl
none_before least from (x ∷ sheet) low rises =
    let rest = filter (λ (entry : ℕ × Programs). ltb entry.0 from) sheet in
    cond_both (ltb x.0 from) (x ∷ rest) rest (λ (v : Sheet). v ≡ [])
    (λ before. let high = ltb-true x.0 from before in absurd (omega (arith, high, low, rises.0)))
    (λ late. none_before (x.0 + 1) from sheet (omega (arith, low, rises.0)) rises.1)

sheet_entered : (from : ℕ) (rule : Programs) (sheet : Sheet) → IsSheet sheet → IsSheet (with_rule_from sheet from rule)
sheet_entered from rule [] is = absurd is
sheet_entered from rule (first ∷ later) is =
    let rest = filter (λ (entry : ℕ × Programs). ltb entry.0 from) later in
    let P : Sheet → Type 0 = λ v. IsSheet (v ++ (from, rule) ∷ []) in
    cond_both (ltb first.0 from) (first ∷ rest) rest P
    (λ before. let high = ltb-true first.0 from before in (is.0, rises_entered 1 from rule later (omega (arith, high)) is.1))
    (λ late.
    let high = ltb-false first.0 from late in
    let start : from ≡ 0 = omega (arith, high, is.0) in
    subst P (sym (none_before 1 from later (omega (arith, start)) is.1)) (start, tt))

-- a run that has come to a road has a sheet
comes_sheet : (seed : RunSeed) (sheet : Sheet) (step : ℕ) (road : Cells) (sum : StepTally) → ComesTo seed sheet step road sum → IsSheet sheet
comes_sheet seed sheet zero road sum comes = comes.0
comes_sheet seed sheet (suc step) road sum comes = comes_sheet seed sheet step comes.0 comes.1 comes.4

-- ---- the job of a lease that ran only ordered steps

-- the lease is out for this job, began at the steps done, ran steps that were ordered, and runs the job's
-- road
pub record IsOutFor (job : JobState) (lease : LeaseState) : Type 0 where
  pub out : job.out ≡ Some lease.number
  pub going : job.cancelled ≡ false
  pub steps : lease.steps ≡ job.steps
  pub base : lease.base.step ≡ job.done
  pub ordered : lease.step ≤ job.high
  pub own : RunsRoadOfJob job lease

abbrev pub Knows : LeaseState → JobState → Type 0
Knows lease job = IsOutFor job lease ⊎ (is_out lease.number job.out ≡ false)

-- the lease has run as many steps as it is on
abbrev pub IsOnStep : LeaseState → Type 0
IsOnStep lease = lease.step ≡ lease.base.step + length lease.applied

pub by_if : (P : JobOutcome → Type 0) (b : Bool) (x y : JobOutcome) → P x → P y → P (if b then x else y)
by_if P true x y h k = h
by_if P false x y h k = k

replaced_own : (job : JobState) (rule : Programs) (lease : LeaseState) → IsOnStep lease → IsOutFor job lease → RunsRoadOfJob (record job { sheet = with_rule_from job.sheet job.high rule }) lease
replaced_own job rule lease on known =
    let own = known.own in
    let is = comes_sheet (run_seed job.seed) job.sheet job.done lease.base.road own.base.0 own.base.1 in
    let rises = rises_from_0 job.sheet is in
    record {
      key = own.key;
      number = own.number;
      base = (own.base.0, comes_entered (run_seed job.seed) job.sheet job.high rule job.done lease.base.road own.base.0 (omega (arith, on, known.base, known.ordered)) rises (sheet_entered job.high rule job.sheet is) own.base.1);
      rules = λ k ran at.
          let within = slice_get_within lease.applied k ran at in
          in_force_entered job.sheet 0 job.high (lease.base.step + k) rule rises (omega (arith, within, on, known.ordered)) ∙ own.rules k ran at;
    }

replacing : (rule : Programs) (lease : LeaseState) → IsOnStep lease → (job : JobState) → Knows lease job → Knows lease (replace_outcome rule job).job
replacing rule lease on job knows =
    let P : JobOutcome → Type 0 = λ (o : JobOutcome). Knows lease o.job in
    let now : JobState = record job { sheet = with_rule_from job.sheet job.high rule } in
    let replaced : Knows lease now = elim knows [
      | inl known ↦ inl (record { out = known.out; going = known.going; steps = known.steps; base = known.base; ordered = known.ordered; own = replaced_own job rule lease on known })
      | inr other ↦ inr other
    ] in
    by_if P (job.cancelled || (job.high == job.steps)) _ _ knows (by_if P (not (suits rule job.seed.road)) _ _ knows (by_if P (ltb MAX_ENTRIES (length (with_rule_from job.sheet job.high rule))) _ _ knows replaced))

ordering : (offer : Offered) (lease : LeaseState) (job : JobState) → Knows lease job → Knows lease (order_outcome offer job).job
ordering offer lease job knows =
    let P : JobOutcome → Type 0 = λ (o : JobOutcome). Knows lease o.job in
    let now : JobState = record job { high = max job.high (offer.step + 1) } in
    let more : Knows lease now = elim knows [
      | inl known ↦ inl (record { out = known.out; going = known.going; steps = known.steps; base = known.base; ordered = omega (arith, known.ordered); own = record { key = known.own.key; number = known.own.number; base = known.own.base; rules = known.own.rules } })
      | inr other ↦ inr other
    ] in
    by_if P (job.cancelled || (offer.step == job.steps)) _ _ knows (by_if P (accepts_lease offer job) _ _ more knows)

giving_back : (offer : Offered) (lease : LeaseState) (job : JobState) → Knows lease job → Knows lease (give_back_outcome offer job).job
giving_back offer lease job knows = by_if (λ (o : JobOutcome). Knows lease o.job) (accepts_lease offer job) _ _ (inr refl) knows

revoking : (lease : LeaseState) (job : JobState) → Knows lease job → Knows lease (revoke_outcome job).job
revoking lease job knows = by_if (λ (o : JobOutcome). Knows lease o.job) (is_some job.out) _ _ (inr refl) knows

cancelling : (lease : LeaseState) (job : JobState) → Knows lease job → Knows lease (cancel_outcome job).job
cancelling lease job knows = by_if (λ (o : JobOutcome). Knows lease o.job) (job.cancelled || (job.done == job.steps)) _ _ knows (inr refl)

leasing : (index next : ℕ) (lease : LeaseState) → lease.number < next → (job : JobState) → Knows lease (lease_outcome index next job).job
leasing index next lease low job = inr (apart next lease.number (λ same. absurd (omega (arith, low, same))))

-- the job of the lease, in a list of jobs
pub record At (lease : LeaseState) (jobs : List JobState) : Type 0 where
  pub job : JobState
  pub at : slice_get jobs lease.job ≡ Some job
  pub knows : Knows lease job

module _ (lease : LeaseState) (jobs : List JobState) (index : ℕ) (outcome : JobState → JobOutcome) (here : At lease jobs)
    (keeps : (job : JobState) → Knows lease job → Knows lease (outcome job).job) where
  on_by : (found : Option JobState) → slice_get jobs index ≡ found → At lease (on_job jobs index outcome).jobs
  on_by None none =
      let t : Option JobState → JobsOutcome = λ o. elim o [ None ↦ record { reply = reply.Refused fault.NoSuchJob; jobs = jobs } | Some k ↦ record { reply = (outcome k).reply; jobs = slice_set jobs index (outcome k).job } ] in
      subst (At lease) (sym (ap (λ (s : JobsOutcome). s.jobs) (ap t none))) here
  on_by (Some job) found =
      let same : (on_job jobs index outcome).jobs ≡ slice_set jobs index (outcome job).job = ap (λ (s : JobsOutcome). s.jobs) (on_found jobs index job outcome found) in
      subst (At lease) (sym same) (elim (cases_eq lease.job index) [
        | inl own ↦
            let mine : here.job ≡ job = same_Some here.job job (sym here.at ∙ (ap (slice_get jobs) own ∙ found)) in
            record {
              job = (outcome job).job;
              at = ap (slice_get (slice_set jobs index (outcome job).job)) own ∙ set_here jobs index (outcome job).job job found;
              knows = keeps job (subst (Knows lease) mine here.knows);
            }
        | inr other ↦ record {
          job = here.job;
          at = set_there jobs index lease.job (outcome job).job other ∙ here.at;
          knows = here.knows;
        }
      ])

  on_one : At lease (on_job jobs index outcome).jobs
  on_one = on_by (slice_get jobs index) refl

free_one : (lease : LeaseState) (jobs : List JobState) (next : ℕ) (free : Option ℕ) → lease.number < next → At lease jobs → At lease (on_free jobs next free).jobs
free_one lease jobs next None low here = here
free_one lease jobs next (Some index) low here = on_one lease jobs index (lease_outcome index next) here (λ job knows. leasing index next lease low job)

submit_by : (lease : LeaseState) (b c : Bool) (jobs : List JobState) (seed : Seed) (rule : Programs) (steps : ℕ) → At lease jobs
    → let ended : JobsOutcome = if b then record { reply = reply.Refused fault.LanesMismatch; jobs = jobs } else if c then record { reply = reply.Number (length jobs); jobs = jobs ++ new_job seed rule steps ∷ [] } else record { reply = reply.Refused fault.Full; jobs = jobs } in
    At lease ended.jobs
submit_by lease true c jobs seed rule steps here = here
submit_by lease false true jobs seed rule steps here = record { job = here.job; at = push_there jobs (new_job seed rule steps) here.job lease.job here.at; knows = here.knows }
submit_by lease false false jobs seed rule steps here = here

served : (book : BookState) (made : Call) (lease : LeaseState) → lease.number < book.next → IsOnStep lease → At lease book.jobs → At lease (outcome_of_call book made).jobs
served book (call.Submit seed rule steps) lease low on here = submit_by lease (not (suits rule seed.road)) (ltb (length book.jobs) MAX_JOBS) book.jobs seed rule steps here
served book (call.Replace job rule) lease low on here = on_one lease book.jobs job (replace_outcome rule) here (replacing rule lease on)
served book call.Lease lease low on here = free_one lease book.jobs book.next (position is_free book.jobs) low here
served book (call.Order offer) lease low on here = on_one lease book.jobs offer.job (order_outcome offer) here (ordering offer lease)
served book (call.GiveBack offer) lease low on here = on_one lease book.jobs offer.job (give_back_outcome offer) here (giving_back offer lease)
served book (call.Revoke job) lease low on here = on_one lease book.jobs job revoke_outcome here (revoking lease)
served book (call.Cancel job) lease low on here = on_one lease book.jobs job cancel_outcome here (cancelling lease)
served book (call.Read job) lease low on here = on_one lease book.jobs job read_outcome here (λ job knows. knows)

-- the book knows the lease: its job, and whether it is out
pub record Tracks (lease : LeaseState) (book : BookState) : Type 0 where
  pub low : lease.number < book.next
  pub on : IsOnStep lease
  pub here : At lease book.jobs

pub next_grows : (next : ℕ) (told : Reply) → next ≤ next_after next told
next_grows next (reply.Refused why) = omega arith
next_grows next (reply.Number number) = omega arith
next_grows next (reply.Leased job number step steps) = omega arith
next_grows next reply.NoLease = omega arith
next_grows next (reply.Ordered job number step from) = omega arith
next_grows next reply.Done = omega arith
next_grows next (reply.Seen step entries) = omega arith

abbrev pub made_on : BookState → Call → BookState
made_on book made = record {
  count = book.count + 1;
  next = next_after book.next (outcome_of_call book made).reply;
  jobs = (outcome_of_call book made).jobs;
}

pub book_if : (P : BookState → Type 0) (full : Bool) (book next : BookState) → P book → P next → P (if full then book else next)
book_if P true book next h k = h
book_if P false book next h k = k

pub tracks_on : (lease : LeaseState) (book : BookState) (made : Call) → Tracks lease book → Tracks lease (after book made)
tracks_on lease book made tracks =
    let grows = next_grows book.next (outcome_of_call book made).reply in
    book_if (Tracks lease) (has_full_history book) book (made_on book made) tracks (record {
      low = omega (arith, grows, tracks.low);
      on = tracks.on;
      here = served book made lease tracks.low tracks.on tracks.here;
    })

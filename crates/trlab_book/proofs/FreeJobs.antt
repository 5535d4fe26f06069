-- A call of `lease` that finds no free job.
use Rattle.std.proofs.Common.{◌≡◌, ◌≤◌, ℕ, Bool, true, false, List, [], ◌∷◌, ◌++◌, Option, Some, None, cond}
use Rattle.std.proofs.Common.{length, map, nat_lt, refl, sym, subst, arith, slice_get, slice_set, All}
use Rattle.std.{proofs.Common.{if◌then◌else◌, position, ltb-false}, specs.List.position_or_len}
use Rattle.std.proofs.lemmas.List.{Elements.{All-nil, All-from_get_or}, Sums.fails_before_first}
use Rattle.trlab_sequential_book.specs.declared.event.{Event.Event, Reply.TheVariants.{NoLease, Refused}}
use Rattle.trlab_sequential_book.specs.{declared.event.Reply.Reply, Machine.{outcome_of_call, reply_of}}
use Rattle.trlab_sequential_book.specs.declared.fault.BookFault.TheVariants.{HistoryFull, NoSuchJob}
use Rattle.trlab_sequential_book.specs.Machine.{BookState, JobState, JobsOutcome, after, empty_book}
use Rattle.trlab_sequential_book.specs.Machine.{has_full_history, is_free, lease_outcome, on_free}
use Rattle.trlab_sequential_book.specs.Histories.{call_of, event, replies_from, reply_of_event, state_from}
use Rattle.trlab_sequential_book.specs.declared.event.Call.TheVariants as call
use Rattle.trlab_book.specs.Turns.{NoJobIsFree}

-- none of these jobs is free
abbrev NoneFree : List JobState → Type 0
NoneFree jobs = All (λ (job : JobState). is_free job ≡ false) jobs

none_passes : (jobs : List JobState) → length jobs ≤ position_or_len is_free jobs → NoneFree jobs
none_passes [] far = All-nil _
none_passes (first ∷ jobs) far =
    All-from_get_or (λ (job : JobState). is_free job ≡ false) (first ∷ jobs) first (λ i low. fails_before_first is_free (first ∷ jobs) i first (omega (arith, low, far)))

far_by : (jobs : List JobState) (low : Bool) → nat_lt (position_or_len is_free jobs) (length jobs) ≡ low → cond low (Some (position_or_len is_free jobs)) None ≡ None → NoneFree jobs
far_by jobs true is none = absurd (cc none)
far_by jobs false is none = none_passes jobs (ltb-false (position_or_len is_free jobs) (length jobs) is)

-- if a lease goes out, the reply is not `NoLease`
lent_by : (jobs : List JobState) (index next : ℕ) (found : Option JobState)
    → let ended : JobsOutcome = elim found [ None ↦ record { reply = Refused NoSuchJob; jobs = jobs } | Some job ↦ record { reply = (lease_outcome index next job).reply; jobs = slice_set jobs index (lease_outcome index next job).job } ] in
    ended.reply ≡ NoLease → ⊥
lent_by jobs index next None is = cc
lent_by jobs index next (Some job) is = cc

none_by : (jobs : List JobState) (next : ℕ) (free : Option ℕ) → position is_free jobs ≡ free → (on_free jobs next free).reply ≡ NoLease → NoneFree jobs
none_by jobs next None none is = far_by jobs (nat_lt (position_or_len is_free jobs) (length jobs)) refl none
none_by jobs next (Some index) some is = absurd (lent_by jobs index next (slice_get jobs index) is)

room_by : (full : Bool) (told : Reply) → (if full then Refused HistoryFull else told) ≡ NoLease → told ≡ NoLease
room_by true told is = absurd (cc is)
room_by false told is = is

no_lease : (book : BookState) → reply_of book call.Lease ≡ NoLease → NoneFree book.jobs
no_lease book is = none_by book.jobs book.next (position is_free book.jobs) refl (room_by (has_full_history book) (outcome_of_call book call.Lease).reply is)

head_is : (x y : Reply) (xs ys : List Reply) → x ∷ xs ≡ y ∷ ys → x ≡ y
head_is x y xs ys is = cc

tail_is : (x y : Reply) (xs ys : List Reply) → x ∷ xs ≡ y ∷ ys → xs ≡ ys
tail_is x y xs ys is = cc

-- the reply of an event of a history is that of the book before it
reply_at : (book : BookState) (before later : List Event) (made : Event) → map reply_of_event (before ++ made ∷ later) ≡ replies_from book (map call_of (before ++ made ∷ later))
    → made.reply ≡ reply_of (state_from book (map call_of before)) made.call
reply_at book [] later made is = head_is made.reply (reply_of book made.call) (map reply_of_event later) (replies_from (after book made.call) (map call_of later)) is
reply_at book (first ∷ before) later made is =
    reply_at (after book first.call) before later made
    (tail_is first.reply (reply_of book first.call) (map reply_of_event (before ++ made ∷ later)) (replies_from (after book first.call) (map call_of (before ++ made ∷ later))) is)

pub no_job_is_free : NoJobIsFree
no_job_is_free history before later book replays split =
    let told = subst (λ (h : List Event). map reply_of_event h ≡ replies_from empty_book (map call_of h)) split replays.replies in
    no_lease (state_from empty_book (map call_of before)) (sym (reply_at empty_book before later (event call.Lease NoLease) told))

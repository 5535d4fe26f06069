-- A lease that the book refuses to a runner is not out.
use Rattle.std.proofs.Common.{◌≡◌, ◌↔◌, ℕ, ◌+◌, ◌≤◌, false, List, [], ◌∷◌, ◌++◌, Option, Some, None, length, map}
use Rattle.std.proofs.Common.{refl, sym, ◌∙◌, ap, subst, arith, inl, inr, MatchOption, slice_get, IsTrue}
use Rattle.std.proofs.Common.{Bool, append_assoc, length-append}
use Rattle.std.proofs.{Math.Logic.∥∥₁_elim, Props.props, lemmas.List.Elements.{All-head, All-tail}}
use Rattle.trlab_sequential_book.specs.declared.event.{Event.Event, Offered.Offered}
use Rattle.trlab_sequential_book.specs.declared.fault.BookFault.{BookFault}
use Rattle.trlab_sequential_book.specs.Comparison.{RunsRoadOfItsJob, offered}
use Rattle.trlab_sequential_book.specs.Histories.{GoesThrough, IsNotOut, Replays, WentOut, book_after}
use Rattle.trlab_sequential_book.specs.Histories.{Offers, call_of, event, is_event, state_from}
use Rattle.trlab_sequential_book.specs.{Leases.LeaseState, Machine.{BookState, JobState, after, empty_book, is_out}}
use Rattle.trlab_sequential_book.proofs.Refusals.{refused_leases_are_not_out}
use Rattle.trlab_sequential_book.specs.declared.event.Call.TheVariants as call
use Rattle.trlab_sequential_book.specs.declared.event.Reply.TheVariants as reply
use Rattle.trlab_strands.specs.{declared.knowledge.Noted.Noted, Knowledge.{AreInList, IsInList, event_number}}
use Rattle.trlab_book.specs.HeldLeases.{RunnerState, Idle, Running, Over, CallsAs, OffersLease, RunsLeases}
use Rattle.trlab_book.specs.Turns.{AreInOrderFrom, LeaseIsNotOut, LeasesRefusedToRunnersAreNotOut}
use Rattle.trlab_book.specs.Turns.{lease_offered_by}

-- lists with the same elements, and the shorter of two beginnings

head_is : {A : Type 0} (x y : A) (xs ys : List A) → x ∷ xs ≡ y ∷ ys → x ≡ y
head_is x y xs ys is = cc

tail_is : {A : Type 0} (x y : A) (xs ys : List A) → x ∷ xs ≡ y ∷ ys → xs ≡ ys
tail_is x y xs ys is = cc

pub begins_with : {A : Type 0} (xs us ys vs : List A) → xs ++ ys ≡ us ++ vs → length xs ≤ length us → (mid : List A) × (us ≡ xs ++ mid)
begins_with [] us ys vs is low = (us, refl)
begins_with (x ∷ xs) [] ys vs is low = absurd (omega (arith, low))
begins_with (x ∷ xs) (u ∷ us) ys vs is low =
    let first = head_is x u (xs ++ ys) (us ++ vs) is in
    let rest = begins_with xs us ys vs (tail_is x u (xs ++ ys) (us ++ vs) is) (omega (arith, low)) in
    (rest.0, ap (λ l. u ∷ l) rest.1 ∙ ap (λ y. y ∷ (xs ++ rest.0)) (sym first))

pub state_append : (book : BookState) (xs ys : List Event) → state_from book (map call_of (xs ++ ys)) ≡ state_from (state_from book (map call_of xs)) (map call_of ys)
state_append book [] ys = refl
state_append book (made ∷ xs) ys = state_append (after book made.call) xs ys

-- a lease in events, one after another

stays_through : (book : BookState) (events : List Event) (lease : LeaseState) → GoesThrough book events lease lease
stays_through book [] lease = refl
stays_through book (made ∷ events) lease = (lease, inl refl, stays_through (after book made.call) events lease)

through_append : (book : BookState) (xs ys : List Event) (old now new : LeaseState) → GoesThrough book xs old now → GoesThrough (state_from book (map call_of xs)) ys now new → GoesThrough book (xs ++ ys) old new
through_append book [] ys old now new first second = subst (λ (l : LeaseState). GoesThrough book ys l new) first second
through_append book (made ∷ xs) ys old now new first second = (first.0, first.1, through_append (after book made.call) xs ys first.0 now new first.2 second)

-- after these events a lease that went out in one of them has run only steps that the book ordered
record HasGone (past : List Event) (lease : LeaseState) : Type 0 where
  before : List Event
  out : Event
  events : List Event
  first : LeaseState
  past_is : past ≡ before ++ out ∷ events
  went : WentOut (book_after before) out first
  through : GoesThrough (after (book_after before) out.call) events first lease

-- the book after these events
book_of : (past : List Event) (lease : LeaseState) → (gone : HasGone past lease) → book_after past ≡ state_from (after (book_after gone.before) gone.out.call) (map call_of gone.events)
book_of past lease gone = ap book_after gone.past_is ∙ state_append empty_book gone.before (gone.out ∷ gone.events)

goes_on : (past more : List Event) (old new : LeaseState) → HasGone past old → GoesThrough (book_after past) more old new → HasGone (past ++ more) new
goes_on past more old new gone through = record {
  before = gone.before;
  out = gone.out;
  events = gone.events ++ more;
  first = gone.first;
  past_is = ap (λ (l : List Event). l ++ more) gone.past_is ∙ append_assoc gone.before (gone.out ∷ gone.events) more;
  went = gone.went;
  through = through_append (after (book_after gone.before) gone.out.call) gone.events more gone.first old new gone.through
      (subst (λ (b : BookState). GoesThrough b more old new) (book_of past old gone) through);
}

-- after these events a runner's lease, if it has one, has run only steps that the book ordered
abbrev Has : RunnerState → List Event → Type 0
Has (Running lease) past = HasGone past lease
Has Idle past = Unit {0}
Has Over past = Unit {0}

waits : (runner : RunnerState) (past more : List Event) → Has runner past → Has runner (past ++ more)
waits (Running lease) past more gone = goes_on past more lease lease gone (stays_through (book_after past) more lease)
waits Idle past more has = tt
waits Over past more has = tt

calls : (old new : RunnerState) (past : List Event) (made : Event) → Has old past → CallsAs old (book_after past) made new → Has new (past ++ made ∷ [])
calls Idle (Running lease) past made has went = record { before = past; out = made; events = []; first = lease; past_is = refl; went = went; through = refl }
calls Idle Idle past made has is = absurd is
calls Idle Over past made has is = tt
calls (Running old) (Running new) past made gone ran = goes_on past (made ∷ []) old new gone (new, inr ran, refl)
calls (Running old) Idle past made gone is = tt
calls (Running old) Over past made gone is = absurd is
calls Over new past made has is = absurd is

-- a lease is refused

some_is : (one other : Offered) → Some one ≡ Some other → one ≡ other
some_is one other is = cc

module _ (history later past : List Event) (book : BookState) (made : Event) (lease : Offered) (fault : BookFault)
    (replays : Replays history book) (split : history ≡ past ++ made ∷ later) (refused : made.reply ≡ reply.Refused fault) where
  refused_now : (old : LeaseState) → HasGone past old → OffersLease (book_after past) made old → LeaseIsNotOut (book_after past) old.job old.number
  refused_now old gone offers =
      let was = gone.past_is in
      let made_is : made ≡ event made.call (reply.Refused fault) = ap (event made.call) refused in
      let parts : history ≡ gone.before ++ gone.out ∷ (gone.events ++ event made.call (reply.Refused fault) ∷ later) =
      split ∙ (ap (λ (l : List Event). l ++ made ∷ later) was ∙ (append_assoc gone.before (gone.out ∷ gone.events) (made ∷ later)
      ∙ ap (λ (e : Event). gone.before ++ gone.out ∷ (gone.events ++ e ∷ later)) made_is)) in
      subst (λ (l : List Event). IsNotOut (book_after l) old) (sym was)
      (refused_leases_are_not_out history gone.before gone.events later gone.out book gone.first old made.call offers.same fault replays parts gone.went gone.through
      offers.offers (subst (λ (l : List Event). IsTrue offers.same ↔ RunsRoadOfItsJob (book_after l).jobs old) was offers.verdict) (ap is_event (sym refused) ∙ offers.is_one))

  offer_is : (old : LeaseState) (same : Bool) → Offers made.call old same → lease_offered_by made.call ≡ Some lease → offered old same ≡ lease
  offer_is old same (inl back) offers = some_is (offered old same) lease (ap lease_offered_by (sym back) ∙ offers)
  offer_is old same (inr order) offers = some_is (offered old same) lease (ap lease_offered_by (sym order.0) ∙ offers)

  none_offered : made.call ≡ call.Lease → lease_offered_by made.call ≡ Some lease → ⊥
  none_offered is offers = let other : None ≡ Some lease = ap lease_offered_by (sym is) ∙ offers in cc

  ordered : (job number step from : ℕ) → made.reply ≡ reply.Ordered job number step from → ⊥
  ordered job number step from is = let other : reply.Refused fault ≡ reply.Ordered job number step from = sym refused ∙ is in cc

  refused_by : (runner next : RunnerState) → Has runner past → CallsAs runner (book_after past) made next → lease_offered_by made.call ≡ Some lease → LeaseIsNotOut (book_after past) lease.job lease.number
  refused_by Idle (Running other) has went offers = absurd (none_offered (ap (λ (e : Event). e.call) went.made_is) offers)
  refused_by Idle Idle has is offers = absurd is
  refused_by Idle Over has is offers = absurd (none_offered (ap (λ (e : Event). e.call) is) offers)
  refused_by (Running old) (Running new) has ran offers = absurd (ordered ran.order.job ran.order.lease ran.order.step ran.order.from (ap (λ (e : Event). e.reply) ran.made_is))
  refused_by (Running old) Idle has is offers =
      subst (λ (o : Offered). LeaseIsNotOut (book_after past) o.job o.number) (offer_is old is.same is.offers offers) (refused_now old has is)
  refused_by (Running old) Over has is offers = absurd is
  refused_by Over next has is offers = absurd is

-- the calls of a runner, one after another

is_prop : (lease : ℕ) (found : Option JobState) → IsProp (MatchOption found ⊥ (λ (job : JobState). is_out lease job.out ≡ false))
is_prop lease None = hlevel props
is_prop lease (Some job) = hlevel props

module _ (history : List Event) (book : BookState) (replays : Replays history book) where
  -- the same before a runner's next call
  comes_to : (runner : RunnerState) (past rest : List Event) (from : ℕ) (made : Noted Event) → history ≡ past ++ rest → Has runner past → length past ≤ from → from ≤ event_number made
      → IsInList history made → Has runner made.before
  comes_to runner past rest from made split has low least is =
      let more = begins_with past made.before rest (made.event ∷ is.0) (sym split ∙ is.1) (omega (arith, low, least)) in
      subst (Has runner) (sym more.1) (waits runner past more.0 has)

  on_book : (runner next : RunnerState) (made : Noted Event) (there : BookState) → Replays made.before there → CallsAs runner there made.event next → CallsAs runner (book_after made.before) made.event next
  on_book runner next made there was is = subst (λ (b : BookState). CallsAs runner b made.event next) was.state_is is

  module _ (made : Noted Event) (later : List (Noted Event)) (lease : Offered) (fault : BookFault)
      (offers : lease_offered_by made.event.call ≡ Some lease) (refused : made.event.reply ≡ reply.Refused fault) where
    walk : (runner : RunnerState) (past rest : List Event) (from : ℕ) (before : List (Noted Event)) → history ≡ past ++ rest → Has runner past → length past ≤ from
        → AreInOrderFrom from (before ++ made ∷ later) → AreInList history (before ++ made ∷ later) → RunsLeases runner (before ++ made ∷ later) Over → LeaseIsNotOut (book_after made.before) lease.job lease.number
    walk runner past rest from [] split has low rise are runs =
        let is = All-head (IsInList history) made later are in
        let here = comes_to runner past rest from made split has low rise.0 is in
        ∥∥₁_elim runs.2 (is_prop lease.number (slice_get (book_after made.before).jobs lease.job)) (λ was.
        refused_by history is.0 made.before book made.event lease fault replays is.1 refused runner runs.0 here (on_book runner runs.0 made runs.1 was runs.3) offers)
    walk runner past rest from (first ∷ before) split has low rise are runs =
        let is = All-head (IsInList history) first (before ++ made ∷ later) are in
        let here = comes_to runner past rest from first split has low rise.0 is in
        let now : List Event = first.before ++ first.event ∷ [] in
        let size = length-append first.before (first.event ∷ []) in
        ∥∥₁_elim runs.2 (is_prop lease.number (slice_get (book_after made.before).jobs lease.job)) (λ was.
        walk runs.0 now is.0 (event_number first + 1) before (is.1 ∙ sym (append_assoc first.before (first.event ∷ []) is.0))
        (calls runner runs.0 first.before first.event here (on_book runner runs.0 first runs.1 was runs.3)) (omega (arith, size))
        rise.1 (All-tail (IsInList history) first (before ++ made ∷ later) are) runs.4)

pub leases_refused_to_runners_are_not_out : LeasesRefusedToRunnersAreNotOut
leases_refused_to_runners_are_not_out history book log before later made lease fault replays are is runs split offers refused =
    walk history book replays made later lease fault offers refused Idle [] history 0 before refl tt (omega arith)
    (subst (AreInOrderFrom 0) split is.rise) (subst (AreInList history) split are) (subst (λ (l : List (Noted Event)). RunsLeases Idle l Over) split runs)

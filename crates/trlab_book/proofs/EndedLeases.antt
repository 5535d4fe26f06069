-- A lease that went out to a runner is not out when the runner's log has ended.
use Rattle.std.proofs.Common.{◌≡◌, ℕ, ◌+◌, ◌<◌, ◌==◌, Bool, true, false, List, []}
use Rattle.std.proofs.Common.{◌∷◌, ◌++◌, Some, length, map, refl, sym, ◌∙◌, ap, subst, inl, inr, ◌⊎◌}
use Rattle.std.proofs.Common.{arith, All, append_assoc, length-append}
use Rattle.std.proofs.Common.{eqb-true}
use Rattle.std.proofs.lemmas.List.{Elements.{All-cons, All-nil, All-tail}}
use Rattle.std.proofs.lemmas.{Bool.{and_parts}}
use Rattle.trlab_sequential_book.specs.declared.event.{Call.Call, Event.Event, Offered.Offered, Reply.Reply}
use Rattle.trlab_sequential_book.specs.{declared.fault.BookFault.BookFault, Histories.{Replays, book_after}}
use Rattle.trlab_sequential_book.specs.Histories.{call_of, reply_of_event, state_from}
use Rattle.trlab_sequential_book.specs.Machine.{BookState, after, empty_book, reply_of}
use Rattle.trlab_sequential_book.specs.declared.event.Call.TheVariants as call
use Rattle.trlab_sequential_book.specs.declared.event.Reply.TheVariants as reply
use Rattle.trlab_strands.specs.declared.knowledge.Noted.{Noted}
use Rattle.trlab_strands.specs.Knowledge.{AreInList, IsInList, event_number}
use Rattle.trlab_book.specs.HeldLeases.{Idle, Over, RunsLeases}
use Rattle.trlab_book.specs.Turns.{AreInOrderFrom}
use Rattle.trlab_book.specs.Turns.{IsEndedIn, IsLog}
use Rattle.trlab_book.specs.Turns.{ends_lease, is_lease_of}
use Rattle.trlab_book.specs.Turns.{LeaseIsNotOut, lease_offered_by}
use Rattle.trlab_book.proofs.{LeasesEnd.leases_end}
use Rattle.trlab_book.proofs.RefusedLeases.{begins_with, leases_refused_to_runners_are_not_out, state_append}
use Rattle.trlab_book.proofs.BookJobs.{AllHave, IsNotOutFor, Told, back_not_out, first_told, leased_next, lends}
use Rattle.trlab_book.proofs.BookJobs.{never_lent, next_after_events, not_out_all, rest_told, stays_not_out}
use Rattle.trlab_book.proofs.BookJobs.{told_after}
use Rattle.trlab_book.proofs.RunnerLogs.{after_made, all_at}
use Rattle.trlab_book.proofs.RunnerLogs.{at_last}

pub told_before : (book : BookState) (xs ys : List Event) → Told book (xs ++ ys) → Told book xs
told_before book [] ys told = refl
told_before book (made ∷ xs) ys told =
    let first = first_told book made (xs ++ ys) told in
    let rest = told_before (after book made.call) xs ys (rest_told book made (xs ++ ys) told) in
    ap (λ (r : Reply). r ∷ map reply_of_event xs) first ∙ ap (λ (l : List Reply). reply_of book made.call ∷ l) rest

module _ (history : List Event) (book : BookState) (replays : Replays history book) where
  -- the events after those before an event
  pub told_from : (made : Noted Event) (later : List Event) → history ≡ made.before ++ made.event ∷ later → Told (book_after made.before) (made.event ∷ later)
  told_from made later split = told_after empty_book made.before (made.event ∷ later) (subst (Told empty_book) split replays.replies)

  -- an event with a greater number comes later
  later_than : (made : Noted Event) (past rest : List Event) → (is : IsInList history made) → history ≡ past ++ rest → event_number made < length past → (mid : List Event) × (past ≡ made.before ++ made.event ∷ mid)
  later_than made past rest is split low =
      let now : List Event = made.before ++ made.event ∷ [] in
      let size = length-append made.before (made.event ∷ []) in
      let more = begins_with now past is.0 rest (append_assoc made.before (made.event ∷ []) is.0 ∙ (sym is.1 ∙ split)) (omega (arith, size, low)) in
      (more.0, more.1 ∙ append_assoc made.before (made.event ∷ []) more.0)

  book_later : (made : Noted Event) (past mid : List Event) → past ≡ made.before ++ made.event ∷ mid → book_after past ≡ state_from (after (book_after made.before) made.event.call) (map call_of mid)
  book_later made past mid is = ap book_after is ∙ state_append empty_book made.before (made.event ∷ mid)

  module _ (number lease step steps : ℕ) (log before after_it : List (Noted Event)) (made : Noted Event) (is : IsLog log) (runs : RunsLeases Idle log Over)
      (split : log ≡ before ++ made ∷ after_it) (is_call : made.event.call ≡ call.Lease) (is_reply : made.event.reply ≡ reply.Leased number lease step steps)
      (are : AreInList history log) (past rest : List Event) (parts : history ≡ past ++ rest) (low : All (λ (m : Noted Event). event_number m < length past) log) where
    ended : IsEndedIn number lease after_it
    ended = leases_end log before after_it made number lease step steps is split is_reply

    abbrev last : Noted Event
    last = ended.last

    abbrev until : List (Noted Event)
    until = before ++ made ∷ ended.orders

    whole : log ≡ until ++ last ∷ ended.later
    whole = split ∙ (ap (λ (l : List (Noted Event)). before ++ made ∷ l) ended.events_are ∙ sym (append_assoc before (made ∷ ended.orders) (last ∷ ended.later)))

    made_in : IsInList history made
    made_in = all_at (IsInList history) before after_it made (subst (AreInList history) split are)

    last_in : IsInList history last
    last_in = all_at (IsInList history) until ended.later last (subst (AreInList history) whole are)

    last_low : event_number last < length past
    last_low = all_at (λ (m : Noted Event). event_number m < length past) until ended.later last (subst (All (λ (m : Noted Event). event_number m < length past)) whole low)

    in_order : event_number made < event_number last
    in_order =
        let here : AreInOrderFrom (event_number made + 1) (ended.orders ++ last ∷ ended.later) =
        subst (AreInOrderFrom (event_number made + 1)) ended.events_are (after_made 0 before after_it made (subst (AreInOrderFrom 0) split is.rise)) in
        let most = at_last (event_number made + 1) ended.orders ended.later last here in
        omega (arith, most)

    -- the next lease has a greater number
    later_number : lease < (book_after last.before).next
    later_number =
        let mid = later_than made last.before (last.event ∷ last_in.0) made_in last_in.1 in_order in
        let there : BookState = book_after made.before in
        let told = first_told there made.event made_in.0 (told_from made made_in.0 made_in.1) in
        let out = leased_next there number lease step steps (sym (ap (reply_of there) is_call) ∙ (sym told ∙ is_reply)) in
        let same : (after there made.event.call).next ≡ (after there call.Lease).next = ap (λ (c : Call). (after there c).next) is_call in
        let grows = next_after_events (after there made.event.call) mid.0 in
        let now : (book_after last.before).next ≡ (state_from (after there made.event.call) (map call_of mid.0)).next = ap (λ (b : BookState). b.next) (book_later made last.before mid.0 mid.1) in
        omega (arith, out.1, same, grows, now)

    mid_past : (mid : List Event) × (past ≡ last.before ++ last.event ∷ mid)
    mid_past = later_than last past rest last_in parts last_low

    told_last : Told (book_after last.before) (last.event ∷ mid_past.0)
    told_last = told_before (book_after last.before) (last.event ∷ mid_past.0) rest
        (told_from last (mid_past.0 ++ rest) (parts ∙ (ap (λ (l : List Event). l ++ rest) mid_past.1 ∙ append_assoc last.before (last.event ∷ mid_past.0) rest)))

    none_lent : All (λ (e : Event). lends number lease e.call e.reply ≡ false) (last.event ∷ mid_past.0)
    none_lent = never_lent number lease (book_after last.before) (last.event ∷ mid_past.0) told_last later_number

    abbrev NotOut : BookState → Type 0
    NotOut b = AllHave (IsNotOutFor number lease) b.jobs

    from_last : NotOut (book_after last.before) → NotOut (book_after past)
    from_last none = subst NotOut (sym (book_later last past mid_past.0 mid_past.1)) (stays_not_out number lease (book_after last.before) (last.event ∷ mid_past.0) told_last none_lent none)

    own_parts : (offer : Offered) → is_lease_of number lease offer ≡ true → (number ≡ offer.job) × (lease ≡ offer.number)
    own_parts offer own =
        let both = and_parts (number == offer.job) (lease == offer.number) own in
        (eqb-true number offer.job both.0, eqb-true lease offer.number both.1)

    refused : (offer : Offered) (why : BookFault) → lease_offered_by last.event.call ≡ Some offer → last.event.reply ≡ reply.Refused why → is_lease_of number lease offer ≡ true → NotOut (book_after past)
    refused offer why offers told own =
        let none = leases_refused_to_runners_are_not_out history book log until ended.later last offer why replays are is runs whole offers told in
        let mine = own_parts offer own in
        from_last (not_out_all (book_after last.before) number lease
        (subst (λ (n : ℕ). LeaseIsNotOut (book_after last.before) n lease) (sym mine.0) (subst (λ (n : ℕ). LeaseIsNotOut (book_after last.before) offer.job n) (sym mine.1) none)))

    returned : (offer : Offered) → last.event.call ≡ call.GiveBack offer → last.event.reply ≡ reply.Done → is_lease_of number lease offer ≡ true → NotOut (book_after past)
    returned offer is_back is_done own =
        let there : BookState = book_after last.before in
        let told = first_told there last.event mid_past.0 told_last in
        let mine = own_parts offer own in
        let back = back_not_out there offer lease (sym (ap (reply_of there) is_back) ∙ (sym told ∙ is_done)) in
        let now : NotOut (after there last.event.call) =
        subst (λ (c : Call). NotOut (after there c)) (sym is_back) (subst (λ (n : ℕ). AllHave (IsNotOutFor n lease) (after there (call.GiveBack offer)).jobs) (sym mine.0) back) in
        subst NotOut (sym (book_later last past mid_past.0 mid_past.1)) (stays_not_out number lease (after there last.event.call) mid_past.0 (rest_told there last.event mid_past.0 told_last)
        (All-tail (λ (e : Event). lends number lease e.call e.reply ≡ false) last.event mid_past.0 none_lent) now)

    by_end : (c : Call) (r : Reply) → last.event.call ≡ c → last.event.reply ≡ r → ends_lease number lease c r ≡ true → NotOut (book_after past)
    by_end (call.GiveBack offer) reply.Done is_c is_r own = returned offer is_c is_r own
    by_end (call.GiveBack offer) (reply.Refused why) is_c is_r own = refused offer why (ap lease_offered_by is_c) is_r own
    by_end (call.GiveBack offer) (reply.Number n) is_c is_r own = absurd (cc own)
    by_end (call.GiveBack offer) (reply.Leased a b c d) is_c is_r own = absurd (cc own)
    by_end (call.GiveBack offer) reply.NoLease is_c is_r own = absurd (cc own)
    by_end (call.GiveBack offer) (reply.Ordered a b c d) is_c is_r own = absurd (cc own)
    by_end (call.GiveBack offer) (reply.Seen a b) is_c is_r own = absurd (cc own)
    by_end (call.Order offer) (reply.Refused why) is_c is_r own = refused offer why (ap lease_offered_by is_c) is_r own
    by_end (call.Order offer) reply.Done is_c is_r own = absurd (cc own)
    by_end (call.Order offer) (reply.Number n) is_c is_r own = absurd (cc own)
    by_end (call.Order offer) (reply.Leased a b c d) is_c is_r own = absurd (cc own)
    by_end (call.Order offer) reply.NoLease is_c is_r own = absurd (cc own)
    by_end (call.Order offer) (reply.Ordered a b c d) is_c is_r own = absurd (cc own)
    by_end (call.Order offer) (reply.Seen a b) is_c is_r own = absurd (cc own)
    by_end call.Lease r is_c is_r own = absurd (cc own)
    by_end (call.Submit seed rule n) r is_c is_r own = absurd (cc own)
    by_end (call.Replace job rule) r is_c is_r own = absurd (cc own)
    by_end (call.Revoke job) r is_c is_r own = absurd (cc own)
    by_end (call.Cancel job) r is_c is_r own = absurd (cc own)
    by_end (call.Read job) r is_c is_r own = absurd (cc own)

    pub not_out_at_end : NotOut (book_after past)
    not_out_at_end = by_end last.event.call last.event.reply refl refl ended.ends

-- an event that lends a job

pub lends_true : (number lease : ℕ) (c : Call) (r : Reply) → lends number lease c r ≡ true → (step : ℕ) × (steps : ℕ) × (c ≡ call.Lease) × (r ≡ reply.Leased number lease step steps)
lends_true number lease call.Lease (reply.Leased job out step steps) is =
    let both = and_parts (job == number) (out == lease) is in
    (step, steps, refl, ap (λ (n : ℕ). reply.Leased n out step steps) (eqb-true job number both.0) ∙ ap (λ (n : ℕ). reply.Leased number n step steps) (eqb-true out lease both.1))
lends_true number lease call.Lease (reply.Refused why) is = absurd (cc is)
lends_true number lease call.Lease (reply.Number n) is = absurd (cc is)
lends_true number lease call.Lease reply.NoLease is = absurd (cc is)
lends_true number lease call.Lease (reply.Ordered a b c d) is = absurd (cc is)
lends_true number lease call.Lease reply.Done is = absurd (cc is)
lends_true number lease call.Lease (reply.Seen a b) is = absurd (cc is)
lends_true number lease (call.Submit seed rule n) r is = absurd (cc is)
lends_true number lease (call.Replace job rule) r is = absurd (cc is)
lends_true number lease (call.Order offer) r is = absurd (cc is)
lends_true number lease (call.GiveBack offer) r is = absurd (cc is)
lends_true number lease (call.Revoke job) r is = absurd (cc is)
lends_true number lease (call.Cancel job) r is = absurd (cc is)
lends_true number lease (call.Read job) r is = absurd (cc is)

pub record HasLent (number lease : ℕ) (events : List Event) : Type 0 where
  pub before : List Event
  pub made : Event
  pub later : List Event
  pub events_are : events ≡ before ++ made ∷ later
  pub is : lends number lease made.call made.reply ≡ true

pub find_lent : (number lease : ℕ) (events : List Event) → All (λ (e : Event). lends number lease e.call e.reply ≡ false) events ⊎ HasLent number lease events
find_lent number lease [] = inl (All-nil _)
find_lent number lease (made ∷ events) = by (lends number lease made.call made.reply) refl (find_lent number lease events)
  where
    by : (here : Bool) → lends number lease made.call made.reply ≡ here → All (λ (e : Event). lends number lease e.call e.reply ≡ false) events ⊎ HasLent number lease events
        → All (λ (e : Event). lends number lease e.call e.reply ≡ false) (made ∷ events) ⊎ HasLent number lease (made ∷ events)
    by true is rest = inr (record { before = []; made = made; later = events; events_are = refl; is = is })
    by false is (inl none) = inl (All-cons (λ (e : Event). lends number lease e.call e.reply ≡ false) made events is none)
    by false is (inr some) = inr (record { before = made ∷ some.before; made = some.made; later = some.later; events_are = ap (λ (l : List Event). made ∷ l) some.events_are; is = some.is })

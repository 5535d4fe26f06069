-- The calls in the logs of runners.
use Rattle.std.proofs.Common.{◌≡◌, ℕ, zero, suc, ◌+◌, ◌<◌, ◌≤◌, ◌&&◌, ltb, Bool, true, false, List, []}
use Rattle.std.proofs.Common.{◌∷◌, ◌++◌, length, refl, sym, ◌∙◌, ap, subst, inl, inr, ◌⊎◌}
use Rattle.std.proofs.Common.{arith, All, append_assoc, append-nil, cond, eqb}
use Rattle.std.proofs.Common.{eqb-true, if◌then◌else◌}
use Rattle.std.proofs.lemmas.List.{Elements.{All-append, All-cons, All-head, All-nil, All-tail, All-weaker}}
use Rattle.std.proofs.lemmas.{Bool.{cases_lt}}
use Rattle.std.proofs.lemmas.List.Sums.{sum_by-cons}
use Rattle.trlab_sequential_book.specs.declared.event.{Call.Call, Event.Event, Reply.Reply}
use Rattle.trlab_sequential_book.specs.Histories.{event}
use Rattle.trlab_sequential_book.specs.declared.event.Call.TheVariants as call
use Rattle.trlab_sequential_book.specs.declared.event.Reply.TheVariants as reply
use Rattle.trlab_strands.specs.declared.knowledge.Noted.{Noted}
use Rattle.trlab_strands.specs.Knowledge.{count_with_number, event_number}
use Rattle.trlab_book.specs.HeldLeases.{Idle, Over, RunsLeases}
use Rattle.trlab_book.specs.Turns.{AreInOrderFrom, AreLogs, Astray, Finished, Free, InTurn}
use Rattle.trlab_book.specs.Turns.{IsLog, Stage, Turn, after_giving_back}
use Rattle.trlab_book.specs.Turns.{after_ordering, is_of_turn}
use Rattle.trlab_book.specs.Turns.{last_stage, stage_after}

-- lists

head_is : {A : Type 0} (x y : A) (xs ys : List A) → x ∷ xs ≡ y ∷ ys → x ≡ y
head_is x y xs ys is = cc

tail_is : {A : Type 0} (x y : A) (xs ys : List A) → x ∷ xs ≡ y ∷ ys → xs ≡ ys
tail_is x y xs ys is = cc

-- an element at the same place of a list
pub same_place : {A : Type 0} (xs us ys vs : List A) (x u : A) → xs ++ x ∷ ys ≡ us ++ u ∷ vs → length xs ≡ length us → (xs ≡ us) × (x ≡ u)
same_place [] [] ys vs x u is size = (refl, head_is x u ys vs is)
same_place [] (b ∷ us) ys vs x u is size = absurd (omega (arith, size))
same_place (a ∷ xs) [] ys vs x u is size = absurd (omega (arith, size))
same_place (a ∷ xs) (b ∷ us) ys vs x u is size =
    let first = head_is a b (xs ++ x ∷ ys) (us ++ u ∷ vs) is in
    let rest = same_place xs us ys vs x u (tail_is a b (xs ++ x ∷ ys) (us ++ u ∷ vs) is) (omega (arith, size)) in
    (ap (λ l. a ∷ l) rest.0 ∙ ap (λ y. y ∷ us) first, rest.1)

-- an element of a list
pub record IsAmong {A : Type 0} (all : List A) (x : A) : Type 0 where
  pub before : List A
  pub later : List A
  pub all_is : all ≡ before ++ x ∷ later

among_more : {A : Type 0} (first x : A) (all : List A) → IsAmong all x → IsAmong (first ∷ all) x
among_more first x all is = record { before = first ∷ is.before; later = is.later; all_is = ap (λ l. first ∷ l) is.all_is }

pub all_at : {A : Type 0} (P : A → Type 0) (before later : List A) (x : A) → All P (before ++ x ∷ later) → P x
all_at P [] later x are = All-head P x later are
all_at P (first ∷ before) later x are = all_at P before later x (All-tail P first (before ++ x ∷ later) are)

pub all_among : {A : Type 0} (P : A → Type 0) (all : List A) (x : A) → IsAmong all x → All P all → P x
all_among P all x is are = all_at P is.before is.later x (subst (All P) is.all_is are)

-- an element of two lists is one of the first or of the second
pub among_two : {A : Type 0} (xs ys before later : List A) (x : A) → xs ++ ys ≡ before ++ x ∷ later → IsAmong xs x ⊎ IsAmong ys x
among_two [] ys before later x is = inr (record { before = before; later = later; all_is = is })
among_two (a ∷ xs) ys [] later x is = inl (record { before = []; later = xs; all_is = ap (λ y. y ∷ xs) (head_is a x (xs ++ ys) later is) })
among_two (a ∷ xs) ys (b ∷ before) later x is = elim (among_two xs ys before later x (tail_is a b (xs ++ ys) (before ++ x ∷ later) is)) [
  | inl here ↦ inl (among_more a x xs here)
  | inr there ↦ inr there
]

pub all_both : {A : Type 0} (P Q : A → Type 0) (xs : List A) → All P xs → All Q xs → All (λ x. P x × Q x) xs
all_both P Q [] ps qs = All-nil _
all_both P Q (x ∷ xs) ps qs = All-cons (λ y. P y × Q y) x xs (All-head P x xs ps, All-head Q x xs qs) (all_both P Q xs (All-tail P x xs ps) (All-tail Q x xs qs))

-- the event with a number
module _ (k : ℕ) where
  abbrev pub HasFound : List (Noted Event) → Type 0
  HasFound own = (made : Noted Event) × IsAmong own made × (event_number made ≡ k)

  found_by : (made : Noted Event) (own : List (Noted Event)) (here : Bool) → eqb (event_number made) k ≡ here → 0 < count_with_number k (made ∷ own)
      → (0 < count_with_number k own → HasFound own) → HasFound (made ∷ own)
  found_by made own true is some rest = (made, record { before = []; later = own; all_is = refl }, eqb-true (event_number made) k is)
  found_by made own false is some rest =
      let none : count_with_number k (made ∷ own) ≡ cond false 1 0 + count_with_number k own =
      subst (λ (b : Bool). count_with_number k (made ∷ own) ≡ cond b 1 0 + count_with_number k own) is (sum_by-cons (λ (m : Noted Event). cond (eqb (event_number m) k) 1 0) made own) in
      let found = rest (omega (arith, some, none)) in
      (found.0, among_more made found.0 own found.1, found.2)

  pub found_in : (own : List (Noted Event)) → 0 < count_with_number k own → HasFound own
  found_in [] some = absurd (omega (arith, some))
  found_in (made ∷ own) some = found_by made own (eqb (event_number made) k) refl some (λ more. found_in own more)

-- the last call of a log, and of several logs

free_finishes : (c : Call) (r : Reply) → stage_after Free (event c r) ≡ Finished → event c r ≡ event call.Lease reply.NoLease
free_finishes call.Lease reply.NoLease is = refl
free_finishes call.Lease (reply.Leased job number step steps) is = absurd (cc is)
free_finishes call.Lease (reply.Refused why) is = absurd (cc is)
free_finishes call.Lease (reply.Number number) is = absurd (cc is)
free_finishes call.Lease (reply.Ordered job number step from) is = absurd (cc is)
free_finishes call.Lease reply.Done is = absurd (cc is)
free_finishes call.Lease (reply.Seen step entries) is = absurd (cc is)
free_finishes (call.Submit seed rule steps) r is = absurd (cc is)
free_finishes (call.Replace job rule) r is = absurd (cc is)
free_finishes (call.Order offer) r is = absurd (cc is)
free_finishes (call.GiveBack offer) r is = absurd (cc is)
free_finishes (call.Revoke job) r is = absurd (cc is)
free_finishes (call.Cancel job) r is = absurd (cc is)
free_finishes (call.Read job) r is = absurd (cc is)

order_goes_on : (turn : Turn) (yes : Bool) (r : Reply) → (if yes then after_ordering turn r else Astray) ≡ Finished → ⊥
order_goes_on turn false r is = cc
order_goes_on turn true (reply.Ordered job number step from) is = cc
order_goes_on turn true (reply.Refused why) is = cc
order_goes_on turn true (reply.Number number) is = cc
order_goes_on turn true (reply.Leased job number step steps) is = cc
order_goes_on turn true reply.NoLease is = cc
order_goes_on turn true reply.Done is = cc
order_goes_on turn true (reply.Seen step entries) is = cc

back_goes_on : (yes : Bool) (r : Reply) → (if yes then after_giving_back r else Astray) ≡ Finished → ⊥
back_goes_on false r is = cc
back_goes_on true (reply.Ordered job number step from) is = cc
back_goes_on true (reply.Refused why) is = cc
back_goes_on true (reply.Number number) is = cc
back_goes_on true (reply.Leased job number step steps) is = cc
back_goes_on true reply.NoLease is = cc
back_goes_on true reply.Done is = cc
back_goes_on true (reply.Seen step entries) is = cc

turn_goes_on : (turn : Turn) (c : Call) (r : Reply) → stage_after (InTurn turn) (event c r) ≡ Finished → ⊥
turn_goes_on turn (call.Order offer) r is = order_goes_on turn (is_of_turn turn offer && ltb turn.step turn.steps) r is
turn_goes_on turn (call.GiveBack offer) r is = back_goes_on (is_of_turn turn offer) r is
turn_goes_on turn call.Lease r is = cc
turn_goes_on turn (call.Submit seed rule steps) r is = cc
turn_goes_on turn (call.Replace job rule) r is = cc
turn_goes_on turn (call.Revoke job) r is = cc
turn_goes_on turn (call.Cancel job) r is = cc
turn_goes_on turn (call.Read job) r is = cc

finishes : (s : Stage) (c : Call) (r : Reply) → stage_after s (event c r) ≡ Finished → event c r ≡ event call.Lease reply.NoLease
finishes Free c r is = free_finishes c r is
finishes (InTurn turn) c r is = absurd (turn_goes_on turn c r is)
finishes Finished c r is = absurd (cc is)
finishes Astray c r is = absurd (cc is)

-- the last of these calls, which found no free job
pub record LastCall (calls : List (Noted Event)) : Type 0 where
  pub last : Noted Event
  pub among : IsAmong calls last
  pub none : last.event ≡ event call.Lease reply.NoLease
  pub all : All (λ (m : Noted Event). event_number m ≤ event_number last) calls

last_of : (s : Stage) (from : ℕ) (first : Noted Event) (log : List (Noted Event)) → AreInOrderFrom from (first ∷ log) → last_stage s (first ∷ log) ≡ Finished
    → (end : LastCall (first ∷ log)) × (event_number first ≤ event_number end.last)
last_of s from first [] rise is = (
  record {
    last = first;
    among = record { before = []; later = []; all_is = refl };
    none = finishes s first.event.call first.event.reply is;
    all = All-cons (λ (m : Noted Event). event_number m ≤ event_number first) first [] (omega arith) (All-nil _);
  },
  omega arith,
)
last_of s from first (second ∷ log) rise is =
    let rest = last_of (stage_after s first.event) (event_number first + 1) second log rise.1 is in
    let end = rest.0 in
    let low : event_number first ≤ event_number end.last = omega (arith, rise.1.0, rest.1) in (
      record {
        last = end.last;
        among = among_more first end.last (second ∷ log) end.among;
        none = end.none;
        all = All-cons (λ (m : Noted Event). event_number m ≤ event_number end.last) first (second ∷ log) low end.all;
      },
      low,
    )

log_last : (log : List (Noted Event)) → IsLog log → LastCall log
log_last [] is = absurd (cc is.stage)
log_last (first ∷ log) is = (last_of Free 0 first log is.rise is.stage).0

both_last : (log more : List (Noted Event)) → LastCall log → LastCall more → LastCall (log ++ more)
both_last log more one two = elim (cases_lt (event_number one.last) (event_number two.last)) [
  | inl low ↦ record {
    last = two.last;
    among = record {
      before = log ++ two.among.before;
      later = two.among.later;
      all_is = ap (λ l. log ++ l) two.among.all_is ∙ sym (append_assoc log two.among.before (two.last ∷ two.among.later));
    };
    none = two.none;
    all = All-append (λ (m : Noted Event). event_number m ≤ event_number two.last) log more
        (All-weaker (λ (m : Noted Event). event_number m ≤ event_number one.last) (λ (m : Noted Event). event_number m ≤ event_number two.last) (λ m is. omega (arith, is, low)) log one.all) two.all;
  }
  | inr high ↦ record {
    last = one.last;
    among = record {
      before = one.among.before;
      later = one.among.later ++ more;
      all_is = ap (λ l. l ++ more) one.among.all_is ∙ append_assoc one.among.before (one.last ∷ one.among.later) more;
    };
    none = one.none;
    all = All-append (λ (m : Noted Event). event_number m ≤ event_number one.last) log more one.all
        (All-weaker (λ (m : Noted Event). event_number m ≤ event_number two.last) (λ (m : Noted Event). event_number m ≤ event_number one.last) (λ m is. omega (arith, is, high)) more two.all);
  }
]

latest : (n : ℕ) (calls : List (Noted Event)) → AreLogs (suc n) calls → LastCall calls
latest zero calls logs = subst LastCall (sym (logs.2 ∙ (ap (λ (l : List (Noted Event)). logs.0 ++ l) logs.5 ∙ append-nil logs.0))) (log_last logs.0 logs.3)
latest (suc n) calls logs = subst LastCall (sym logs.2) (both_last logs.0 logs.1 (log_last logs.0 logs.3) (latest n logs.1 logs.5))

pub some_latest : (runners : ℕ) (calls : List (Noted Event)) → 0 < runners → AreLogs runners calls → LastCall calls
some_latest zero calls some logs = absurd (omega (arith, some))
some_latest (suc n) calls some logs = latest n calls logs

-- the log of a call

pub all_left : {A : Type 0} (P : A → Type 0) (xs ys : List A) → All P (xs ++ ys) → All P xs
all_left P [] ys are = All-nil _
all_left P (x ∷ xs) ys are = All-cons P x xs (All-head P x (xs ++ ys) are) (all_left P xs ys (All-tail P x (xs ++ ys) are))

pub all_right : {A : Type 0} (P : A → Type 0) (xs ys : List A) → All P (xs ++ ys) → All P ys
all_right P [] ys are = are
all_right P (x ∷ xs) ys are = all_right P xs ys (All-tail P x (xs ++ ys) are)

none_among : {A : Type 0} (before later : List A) (x : A) → [] ≡ before ++ x ∷ later → ⊥
none_among [] later x is = cc
none_among (b ∷ before) later x is = cc

pub record HasLog (P : Noted Event → Type 0) (made : Noted Event) : Type 0 where
  pub log : List (Noted Event)
  pub among : IsAmong log made
  pub is : IsLog log
  pub runs : RunsLeases Idle log Over
  pub all : All P log

pub log_of : (P : Noted Event → Type 0) (runners : ℕ) (calls : List (Noted Event)) (made : Noted Event) → AreLogs runners calls → All P calls → IsAmong calls made → HasLog P made
log_of P zero calls made logs are is = absurd (none_among is.before is.later made (sym logs ∙ is.all_is))
log_of P (suc n) calls made logs are is =
    let parts : All P (logs.0 ++ logs.1) = subst (All P) logs.2 are in
    elim (among_two logs.0 logs.1 is.before is.later made (sym logs.2 ∙ is.all_is)) [
      | inl here ↦ record { log = logs.0; among = here; is = logs.3; runs = logs.4; all = all_left P logs.0 logs.1 parts }
      | inr there ↦ log_of P n logs.1 made logs.5 (all_right P logs.0 logs.1 parts) there
    ]

-- the order of calls in a log

pub after_made : (from : ℕ) (before later : List (Noted Event)) (made : Noted Event) → AreInOrderFrom from (before ++ made ∷ later) → AreInOrderFrom (event_number made + 1) later
after_made from [] later made rise = rise.1
after_made from (first ∷ before) later made rise = after_made (event_number first + 1) before later made rise.1

pub at_last : (from : ℕ) (before later : List (Noted Event)) (last : Noted Event) → AreInOrderFrom from (before ++ last ∷ later) → from ≤ event_number last
at_last from [] later last rise = rise.0
at_last from (first ∷ before) later last rise = let rest = at_last (event_number first + 1) before later last rise.1 in omega (arith, rest, rise.0)

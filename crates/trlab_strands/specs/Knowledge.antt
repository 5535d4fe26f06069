-- The knowledge of strands and of their keeper, and the invariant that it satisfies.
use Rattle.std.specs.Prelude.{◌≡◌, ℕ, ◌+◌, ◌-◌, max, true, false, cond, eqb, ltb, List, [], ◌∷◌, ◌++◌, length}
use Rattle.std.specs.Prelude.{count_by, All, ◌≤◌, sum_by}
use Rattle.trlab_strands.specs.declared.knowledge.{TheConstants.ALL_PARTS, Noted.Noted}
use Rattle.trlab_strands.specs.declared.knowledge.StrandKnowledge.{StrandKnowledge}
use mathlib.Core.Option.{some}
use lib.ListN.{get_elem?}
use Rattle.atomic_table.specs.Table.{State, Step, Me}

-- The knowledge of strands and their keeper. The events of a strand are those that it added to the list, each
-- with all earlier events of the list; the keeper knows the whole list.

-- 1 if k is below `count`, otherwise 0: how often k occurs in a list that has each number below `count`
-- exactly once, and no other number
abbrev pub once_below : ℕ → ℕ → ℕ
once_below k count = cond (ltb k count) 1 0

-- an event, with the list of all earlier events
abbrev pub noted : {E : Type 0} → List E → E → Noted E
noted before event = record { before = before; event = event }

-- the number of an event, which is its index in the list: the number of events before it
abbrev pub event_number : {E : Type 0} → Noted E → ℕ
event_number noted_event = length noted_event.before

-- how many events of a strand have the number k
abbrev pub count_with_number : {E : Type 0} → ℕ → List (Noted E) → ℕ
count_with_number k own = count_by (λ noted_event. eqb (event_number noted_event) k) own

-- the list `events` has this event right after the events before it, and possibly more events after it; for
-- example, b after [a] is in the list [a, b, c]
abbrev pub IsInList : {E : Type 0} → List E → Noted E → Type 0
IsInList {E} events noted_event =
    (later : List E) × (events ≡ noted_event.before ++ noted_event.event ∷ later)

-- each of the events `own` is in the list `events`, right after the events that it has before it
abbrev pub AreInList : {E : Type 0} → List E → List (Noted E) → Type 0
AreInList events own = All (IsInList events) own

-- the list `events` is a linearization of the events `own` (Herlihy and Wing 1990): it is exactly these
-- events, in the order of their numbers. For example, [a, b] is one of the events b after [a] and a after []
pub record IsLinearization {E : Type 0} (events : List E) (own : List (Noted E)) : Type 0 where
  pub count : length own ≡ length events
  pub in_list : AreInList events own
  pub once : (k : ℕ) → count_with_number k own ≡ once_below k (length events)

-- the knowledge of a seat that has been joined to another: no parts, no events, clock 0 and no list
abbrev pub no_knowledge : {E : Type 0} → StrandKnowledge E
no_knowledge = record { parts = 0; events = []; clock = 0; has_list = false; list = [] }

-- the knowledge of the first seat: it has all parts, no events, clock 0, and keeps the empty list
abbrev pub first_seat : {E : Type 0} → StrandKnowledge E
first_seat = record { parts = ALL_PARTS; events = []; clock = 0; has_list = true; list = [] }

-- the knowledge of the seat `old` after the list was taken from it; its parts, events and clock are as before
abbrev pub without_list : {E : Type 0} → StrandKnowledge E → StrandKnowledge E
without_list old = record old { has_list = false; list = [] }

-- the knowledge of a new seat that took the list from the seat `old`: it has no parts, no events and clock 0,
-- and keeps the list if `old` kept it
abbrev pub list_seat : {E : Type 0} → StrandKnowledge E → StrandKnowledge E
list_seat old = record no_knowledge { has_list = old.has_list; list = old.list }

-- the knowledge of the strand `old` after it has given one part away
abbrev pub without_one_part : {E : Type 0} → StrandKnowledge E → StrandKnowledge E
without_one_part old = record old { parts = old.parts - 1 }

-- the knowledge of a new strand that got one part from the strand `old`: it has no events and no list, and
-- the clock of `old`
abbrev pub one_part : {E : Type 0} → StrandKnowledge E → StrandKnowledge E
one_part old = record no_knowledge { parts = 1; clock = old.clock }

-- the knowledge of two seats that were joined, of which `one` did not keep the list: the parts and the events
-- of both, the larger clock, and the list if `other` kept it
abbrev pub both_seats : {E : Type 0} → StrandKnowledge E → StrandKnowledge E → StrandKnowledge E
both_seats one other = record {
  parts = one.parts + other.parts;
  events = one.events ++ other.events;
  clock = max one.clock other.clock;
  has_list = other.has_list;
  list = other.list;
}

-- the knowledge of a strand with the list after it has seen the whole list: its clock is the list's length
abbrev pub up_to_date : {E : Type 0} → StrandKnowledge E → StrandKnowledge E
up_to_date old = record old { clock = length old.list }

-- the knowledge of a strand with the list after one more event: the event is now the last of the list and the
-- last of the strand's own, and the clock is the list's new length
abbrev pub with_event : {E : Type 0} → StrandKnowledge E → E → StrandKnowledge E
with_event old event = record old {
  events = old.events ++ noted old.list event ∷ [];
  clock = length old.list + 1;
  list = old.list ++ event ∷ [];
}

-- The strand invariant: facts about the knowledge of strands and their keeper before and after each atomic
-- step; and the effects of the steps.

-- a strand is sound for the list `events`: without parts it has no events, its clock is at most the list's
-- length, its own events are in the list, and if it keeps a list, it is this one
pub record IsSoundStrand {E : Type 0} (events : List E) (strand : StrandKnowledge E) : Type 0 where
  pub idle : strand.parts ≡ 0 → strand.events ≡ []
  pub clock_within : strand.clock ≤ length events
  pub in_list : AreInList events strand.events
  pub list : strand.has_list ≡ true → strand.list ≡ events

-- the strands are sound for the list `events`: together they have all parts; exactly one keeps the list;
-- their own events are as many as the list has, and each number below its length occurs once; and each strand
-- is sound
pub record AreSoundStrands {E : Type 0} (events : List E) (known : List (StrandKnowledge E)) : Type 0 where
  pub parts : sum_by (λ strand. strand.parts) known ≡ ALL_PARTS
  pub keepers : sum_by (λ strand. cond strand.has_list 1 0) known ≡ 1
  pub count : sum_by (λ strand. length strand.events) known ≡ length events
  pub once : (n : ℕ)
      → sum_by (λ strand. count_with_number n strand.events) known ≡ once_below n (length events)
  pub each : (seat : ℕ) (strand : StrandKnowledge E)
      → get_elem? known seat ≡ some strand → IsSoundStrand events strand

-- the strand invariant, before and after each atomic step: there is a list of events for which the strands
-- are sound
abbrev pub SatisfiesStrandInvariant : {E : Type 0} → State E (StrandKnowledge E) → Type 0
SatisfiesStrandInvariant {E} state = (events : List E) × AreSoundStrands events state.views

-- the step that adds the event that it is given (`said`): the event is now the last of the list and the last
-- of the strand's own, and the strand's clock was at most the list's length. The number `found` in the shared
-- word does not matter
abbrev pub NotesEvent : {E : Type 0}
    → Step E → Me E (StrandKnowledge E) → ℕ → Me E (StrandKnowledge E) → Type 0
NotesEvent {E} step old found new =
    (event : E) → step.said ≡ some event
    → (new ≡ (with_event old.0 event, old.1)) × (old.0.clock ≤ length old.0.list)

-- facts about a strand that follow from the invariant. It has at most ALL_PARTS parts. If it keeps the
-- list, its events are in the list, and at most as many as the list has; with all parts, exactly as many; and
-- if they are as many, each event of the list is one of them, once
pub record AgreesWithList {E : Type 0} (strand : StrandKnowledge E) : Type 0 where
  pub few : strand.parts ≤ ALL_PARTS
  pub in_list : strand.has_list ≡ true → AreInList strand.list strand.events
  pub most : strand.has_list ≡ true → length strand.events ≤ length strand.list
  pub whole : strand.has_list ≡ true → strand.parts ≡ ALL_PARTS → length strand.events ≡ length strand.list
  pub once : strand.has_list ≡ true → length strand.events ≡ length strand.list
      → (n : ℕ) → count_with_number n strand.events ≡ once_below n (length strand.list)

-- the step that compares a strand with the list: it changes nothing, and shows that `AgreesWithList` holds
abbrev pub AuditsList : {E : Type 0}
    → Step E → Me E (StrandKnowledge E) → ℕ → Me E (StrandKnowledge E) → Type 0
AuditsList step old found new = (new ≡ old) × AgreesWithList old.0

-- the step in which a strand sees the whole list, which it keeps: its clock, which was at most the list's
-- length, becomes this length
abbrev pub SeesWholeList : {E : Type 0}
    → Step E → Me E (StrandKnowledge E) → ℕ → Me E (StrandKnowledge E) → Type 0
SeesWholeList step old found new = (new ≡ (up_to_date old.0, old.1)) × (old.0.clock ≤ length old.0.list)

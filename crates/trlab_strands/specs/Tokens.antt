-- Strands and their keeper as callers see them.
use Rattle.std.specs.Prelude.{◌≡◌, ℕ, ◌+◌, ◌≤◌, List, [], ◌∷◌, ◌++◌, length}
use Rattle.atomic_table.specs.Seated.{TableId}
use Rattle.trlab_strands.specs.declared.tokens.{Blank.Blank, Keeper.Keeper, Strand.Strand}
use Rattle.trlab_strands.specs.{declared.knowledge.{Ledger.Ghosts, Noted.Noted}, Knowledge.noted}

-- the name of the list that a blank is for; a ledger that opens the blank must have the same name
abbrev pub name_of : {E : Type 0} → Blank E → TableId
name_of blank = blank.table.shared.table_id

-- the list of all events, as its keeper knows it
abbrev pub keeper_list : {L E : Type 0} {ledger : Ghosts L} → Keeper L E ledger → List E
keeper_list keeper = keeper.seat.me.0.list

-- the number of parts of a strand (the invariant of `Strand` keeps it from 1 to ALL_PARTS)
abbrev pub strand_parts : {L E : Type 0} {ledger : Ghosts L} → Strand L E ledger → ℕ
strand_parts strand = strand.seat.me.0.parts

-- the events that a strand added to the list, in order, each with all earlier events of the list
abbrev pub strand_events : {L E : Type 0} {ledger : Ghosts L} → Strand L E ledger → List (Noted E)
strand_events strand = strand.seat.me.0.events

-- the clock of a strand: each event that it adds from now on has at least this number
abbrev pub strand_clock : {L E : Type 0} {ledger : Ghosts L} → Strand L E ledger → ℕ
strand_clock strand = strand.seat.me.0.clock

-- the strand `old` becomes `new` by adding `event` to the list `before`. The event is now its last one, its
-- clock, which was at most the length of `before`, is now this length plus 1, and its parts are unchanged
abbrev pub AddsEvent : {L E : Type 0} {ledger : Ghosts L}
    → Strand L E ledger → List E → E → Strand L E ledger → Type 0
AddsEvent old before event new =
    (strand_parts new ≡ strand_parts old) × (strand_clock old ≤ length before)
    × (strand_events new ≡ strand_events old ++ noted before event ∷ [])
    × (strand_clock new ≡ length before + 1)

-- the strand `new` has the same parts, events and clock as `old`
abbrev pub IsSameStrand : {L E : Type 0} {ledger : Ghosts L} → Strand L E ledger → Strand L E ledger → Type 0
IsSameStrand old new =
    (strand_parts new ≡ strand_parts old) × (strand_events new ≡ strand_events old)
    × (strand_clock new ≡ strand_clock old)

-- the strand has seen `count` events of the list: its clock, which was at most `count`, is now `count`; its
-- parts and its own events are as before
abbrev pub CatchesUp : {L E : Type 0} {ledger : Ghosts L} → Strand L E ledger → ℕ → Strand L E ledger → Type 0
CatchesUp old count new =
    (strand_parts new ≡ strand_parts old) × (strand_events new ≡ strand_events old)
    × (strand_clock old ≤ count) × (strand_clock new ≡ count)

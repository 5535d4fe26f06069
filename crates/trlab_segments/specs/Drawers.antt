-- Tickets and drawers as callers see them.
use Rattle.std.specs.Prelude.{◌≡◌, ℕ, ◌+◌, ◌<◌, ◌≤◌, Bool, false, ◌||◌, List, [], ◌∷◌, ◌++◌, Option}
use Rattle.std.specs.Prelude.{MatchOption}
use Rattle.trlab_segments.specs.declared.tickets.{Tickets.Tickets, Drawer.Drawer}

-- the number of tickets; for example, 3 tickets have the numbers 0, 1 and 2
abbrev pub ticket_count : Tickets → ℕ
ticket_count tickets = tickets.plan.count

-- the maximum number of drawers of these tickets, which is also the number of their passes
abbrev pub drawers_of : Tickets → ℕ
drawers_of tickets = tickets.plan.drawers

-- the number of passes (rights to draw) of a drawer, which is at least 1 by the invariant of `Drawer`
abbrev pub passes_of : Drawer → ℕ
passes_of drawer = drawer.passes

-- the tickets that a drawer drew, in order; if it was gathered from two drawers, the tickets of the first and
-- then the tickets of the second
abbrev pub tickets_of : Drawer → List ℕ
tickets_of drawer = drawer.seat.me.0.tickets

-- the smallest number that the next ticket of a drawer may have
abbrev pub least_next_ticket : Drawer → ℕ
least_next_ticket drawer = drawer.seat.me.0.least_next

-- has a drawer found that no ticket is left?
abbrev pub is_ended : Drawer → Bool
is_ended drawer = drawer.has_ended

-- the drawer belongs to these tickets: it draws from their counter, and has their plan
abbrev pub IsDrawerOf : Tickets → Drawer → Type 0
IsDrawerOf tickets drawer =
    (drawer.seat.table_id ≡ tickets.table.shared.table_id) × (drawer.seat.me.0.plan ≡ tickets.plan)

-- the drawer has drawn no ticket, and has not found that none is left
abbrev pub IsUnused : Drawer → Type 0
IsUnused drawer = (tickets_of drawer ≡ []) × (is_ended drawer ≡ false)

-- the drawer belongs to these tickets, and has drawn none of them; it may have found that none is left
abbrev pub HasDrawnNone : Tickets → Drawer → Type 0
HasDrawnNone tickets drawer = IsDrawerOf tickets drawer × (tickets_of drawer ≡ [])

-- the drawer has all passes of these tickets
abbrev pub HasAllPasses : Tickets → Drawer → Type 0
HasAllPasses tickets drawer = passes_of drawer ≡ drawers_of tickets

-- the drawer `old` has drawn this ticket, and is now `new`, which has not ended. The ticket is below the
-- number of tickets, and not below the smallest that the drawer could draw; the next one will be above it
abbrev pub HasDrawn : Tickets → Drawer → ℕ → Drawer → Type 0
HasDrawn tickets old ticket new =
    (ticket < ticket_count tickets) × (least_next_ticket old ≤ ticket)
    × (tickets_of new ≡ tickets_of old ++ ticket ∷ []) × (least_next_ticket new ≡ ticket + 1)
    × (is_ended new ≡ false)

-- both are the same drawer: they belong to the same tickets, and have the same knowledge, passes and end
abbrev pub IsSameDrawer : Drawer → Drawer → Type 0
IsSameDrawer one other =
    (one.seat.table_id ≡ other.seat.table_id) × (one.seat.me ≡ other.seat.me)
    × (one.passes ≡ other.passes) × (one.has_ended ≡ other.has_ended)

-- the drawer `all` has the drawn tickets of `one`, then those of `other`, and has ended if either of them has
pub record Joins (t : Tickets) (one other all : Drawer) : Type 0 where
  pub from : IsDrawerOf t all
  pub tickets : tickets_of all ≡ tickets_of one ++ tickets_of other
  pub ended : is_ended all ≡ (is_ended one || is_ended other)

-- the drawer `all` is `drawer`, joined to an earlier drawer if there is one: it has the tickets of the
-- earlier one, then those of `drawer`. For `None` it is `drawer`
abbrev pub IsJoined : Tickets → Option Drawer → Drawer → Drawer → Type 0
IsJoined tickets before drawer all =
    MatchOption before (all ≡ drawer) (λ earlier. Joins tickets earlier drawer all)

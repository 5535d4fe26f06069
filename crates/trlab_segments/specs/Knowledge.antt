-- The knowledge of drawers, and the ticket invariant, which it satisfies.
use Rattle.std.specs.Prelude.{◌≡◌, ℕ, ◌+◌, ◌-◌, true, false, cond, ◌||◌, eqb, List, [], ◌∷◌, ◌++◌, count_by}
use Rattle.std.specs.Prelude.{◌<◌, ◌≤◌, ◌^◌, min, length, slice_index, sum_by}
use Rattle.trlab_strands.specs.Knowledge.{once_below}
use Rattle.trlab_segments.specs.declared.ticket_rule.{Plan.Plan, TicketKnowledge.TicketKnowledge}
use mathlib.Core.Option.{some}
use lib.ListN.{get_elem?}
use Rattle.atomic_table.specs.Table.{State, Step, Me}
use Rattle.trlab_bounds.specs.declared.runs.TheConstants.{MAX_WORKERS}

-- The knowledge of drawers: their passes, and which tickets they drew. Tickets are the numbers below a count,
-- and each is drawn by at most one drawer.

-- the number of times that x occurs in a list of tickets
abbrev pub occurrences : ℕ → List ℕ → ℕ
occurrences x tickets = count_by (λ ticket. eqb ticket x) tickets

-- the list is a permutation of the numbers below `count`: it has each of them exactly once, and no other
-- number. An example with `count` 3 is [2, 0, 1]
abbrev pub IsPermutation : List ℕ → ℕ → Type 0
IsPermutation tickets count = (x : ℕ) → occurrences x tickets ≡ once_below x count

-- the knowledge of a seat whose drawer has been joined to another: no passes, no tickets, and the plan of no
-- tickets and no drawers
abbrev pub idle_knowledge : TicketKnowledge
idle_knowledge = record {
  plan = record { count = 0; drawers = 0 };
  passes = 0;
  tickets = [];
  least_next = 0;
  has_ended = false;
}

-- the knowledge of the first drawer of this plan: it has all passes and no tickets, and may draw any ticket
abbrev pub first_drawer : Plan → TicketKnowledge
first_drawer plan = record idle_knowledge { plan = plan; passes = plan.drawers }

-- the knowledge of the drawer `old` after it has drawn this ticket; its next ticket will be larger
abbrev pub with_ticket : TicketKnowledge → ℕ → TicketKnowledge
with_ticket old ticket = record old { tickets = old.tickets ++ ticket ∷ []; least_next = ticket + 1 }

-- the knowledge of the drawer `old` after it has found that no ticket is left
abbrev pub at_end : TicketKnowledge → TicketKnowledge
at_end old = record old { has_ended = true }

-- the knowledge of the drawer `old` after it has given one pass away
abbrev pub less_a_pass : TicketKnowledge → TicketKnowledge
less_a_pass old = record old { passes = old.passes - 1 }

-- the knowledge of a new drawer that got one pass from the drawer `old`: it has no tickets and may draw any,
-- and it has ended if `old` has
abbrev pub one_pass : TicketKnowledge → TicketKnowledge
one_pass old = record idle_knowledge { plan = old.plan; passes = 1; has_ended = old.has_ended }

-- the knowledge of two drawers of the same plan that were joined: the passes and the tickets of both. The
-- joined drawer may draw any ticket next, and has ended if one of the two has
abbrev pub both_drawers : TicketKnowledge → TicketKnowledge → TicketKnowledge
both_drawers one other = record {
  plan = one.plan;
  passes = one.passes + other.passes;
  tickets = one.tickets ++ other.tickets;
  least_next = 0;
  has_ended = one.has_ended || other.has_ended;
}

-- the number of passes of a drawer if it has found that no ticket is left, otherwise 0
abbrev pub passes_at_end : TicketKnowledge → ℕ
passes_at_end drawer = cond drawer.has_ended drawer.passes 0

-- The ticket invariant: facts about the drawers' shared counter, which is the next ticket, and about their
-- knowledge, before and after each atomic step; and the effects of the steps.

-- the counter, the word that drawers share: it is the next ticket, and all tickets below it were drawn
abbrev pub counter_of : State ℕ TicketKnowledge → ℕ
counter_of state = slice_index state.words 0

-- the knowledge of a seat is true for this plan and counter. A seat without passes knows nothing. Any other
-- knows the plan, has ended only if the counter has reached the number of tickets, and may draw the ticket of
-- the counter
pub record IsSoundDrawer (plan : Plan) (counter : ℕ) (drawer : TicketKnowledge) : Type 0 where
  pub idle : drawer.passes ≡ 0 → drawer ≡ idle_knowledge
  pub same_plan : 0 < drawer.passes → drawer.plan ≡ plan
  pub late : drawer.has_ended ≡ true → plan.count ≤ counter
  pub least_next_within : drawer.least_next ≤ counter

-- the knowledge of all seats is true for this plan and counter. Each ticket below the counter was drawn
-- exactly once, by one drawer, and no other number was drawn. The passes add up to the drawers of the plan,
-- and the counter exceeds the number of tickets at most by the passes of drawers that have ended
pub record AreSoundDrawers (plan : Plan) (counter : ℕ) (known : List TicketKnowledge) : Type 0 where
  pub passes : sum_by (λ drawer. drawer.passes) known ≡ plan.drawers
  pub once : (x : ℕ)
      → sum_by (λ drawer. occurrences x drawer.tickets) known ≡ once_below x (min plan.count counter)
  pub counter_is : counter ≤ plan.count + sum_by passes_at_end known
  pub each : (seat : ℕ) (drawer : TicketKnowledge)
      → get_elem? known seat ≡ some drawer → IsSoundDrawer plan counter drawer

-- the ticket invariant, before and after each atomic step: there is one shared word, the counter; there are
-- fewer than 2^32 tickets and at most MAX_WORKERS drawers; and the knowledge of all seats is true for the
-- plan and the counter
pub record SatisfiesTicketInvariant (plan : Plan) (state : State ℕ TicketKnowledge) : Type 0 where
  pub one_word : length state.words ≡ 1
  pub count : plan.count < 2 ^ 32
  pub drawers : plan.drawers ≤ MAX_WORKERS
  pub known : AreSoundDrawers plan (counter_of state) state.views

-- the step that draws a ticket: if the counter `found` is below the number of tickets, it is the drawer's
-- next ticket; otherwise no ticket is left, and the drawer has ended
abbrev pub DrawsTicket : Step ℕ → Me ℕ TicketKnowledge → ℕ → Me ℕ TicketKnowledge → Type 0
DrawsTicket step old found new =
    (new.1 ≡ old.1) × (old.0.least_next ≤ found)
    × (found < old.0.plan.count → new.0 ≡ with_ticket old.0 found)
    × (old.0.plan.count ≤ found → new.0 ≡ at_end old.0)

-- facts about a drawer that follow from the ticket invariant. It has at most all passes, of which there are
-- at most MAX_WORKERS; if it has all, it has drawn each ticket below the counter exactly once; if it has
-- ended, the counter has reached the number of tickets
pub record AgreesWithCounter (counter : ℕ) (drawer : TicketKnowledge) : Type 0 where
  pub passes : drawer.passes ≤ drawer.plan.drawers
  pub drawers : drawer.plan.drawers ≤ MAX_WORKERS
  pub whole : drawer.passes ≡ drawer.plan.drawers
      → IsPermutation drawer.tickets (min drawer.plan.count counter)
  pub late : drawer.has_ended ≡ true → drawer.plan.count ≤ counter

-- the step that reads the counter, `found`: it changes nothing, and shows that `AgreesWithCounter` holds
abbrev pub ReadsCounter : Step ℕ → Me ℕ TicketKnowledge → ℕ → Me ℕ TicketKnowledge → Type 0
ReadsCounter step old found new = (new ≡ old) × AgreesWithCounter found old.0

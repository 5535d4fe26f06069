-- Laws of tickets and segments.
use Rattle.std.specs.{Prelude.{◌≡◌, ℕ, ◌+◌, ◌<◌, ◌≤◌, ◌↔◌, map, flat_map}, List.range_with_len}
use mathlib.Core.Option.{some}
use lib.ListN.{get_elem?}
use Rattle.atomic_table.specs.Table.{State}
use Rattle.trlab_bounds.specs.declared.runs.TheConstants.{MAX_WORKERS}
use Rattle.trlab_segments.specs.declared.ticket_rule.{Plan.Plan, TicketKnowledge.TicketKnowledge}
use Rattle.trlab_segments.specs.Knowledge.{IsPermutation, SatisfiesTicketInvariant, counter_of}
use Rattle.trlab_segments.specs.Segments.{segment_count, first_car, segment}

-- if the ticket invariant holds, the counter is at most the number of tickets plus MAX_WORKERS
abbrev pub CounterIsBounded : Type 0
CounterIsBounded = (plan : Plan) (state : State ℕ TicketKnowledge)
    → SatisfiesTicketInvariant plan state → counter_of state ≤ plan.count + MAX_WORKERS

-- if the ticket invariant holds, a drawer with all passes has drawn each ticket exactly once if and only if
-- the counter has reached the number of tickets
abbrev pub AllPassesHaveAllTickets : Type 0
AllPassesHaveAllTickets = (plan : Plan) (state : State ℕ TicketKnowledge) (seat : ℕ) (mine : TicketKnowledge)
    → SatisfiesTicketInvariant plan state → get_elem? state.views seat ≡ some mine
    → mine.passes ≡ plan.drawers
    → IsPermutation mine.tickets plan.count ↔ (plan.count ≤ counter_of state)

-- the first of `count` segments begins with the first car, and the last one ends with the last car
abbrev pub SegmentsBeginAndEnd : Type 0
SegmentsBeginAndEnd = (cars count : ℕ) → 0 < count
    → (first_car cars count 0 ≡ 0) × (first_car cars count count ≡ cars)

-- no segment is empty if there are at most as many segments as cars
abbrev pub SegmentsHaveCars : Type 0
SegmentsHaveCars = (cars count i : ℕ) → 0 < count → count ≤ cars
    → first_car cars count i < first_car cars count (i + 1)

-- the cars of all segments, one segment after the other, are all cars in standing order, each once, for any
-- number of workers but 0
abbrev pub SegmentsAreAllCars : Type 0
SegmentsAreAllCars = (cars workers : ℕ) → 0 < workers
    → flat_map (segment cars (segment_count cars workers)) (range_with_len 0 (segment_count cars workers))
    ≡ range_with_len 0 cars

-- the answers of all segments, one segment after the other, are the answers of all cars in standing order;
-- the car with index k has the answer `answer k`
abbrev pub AnswersJoin : Type 0 → Type 0
AnswersJoin A = (cars workers : ℕ) (answer : ℕ → A) → 0 < workers
    → let count = segment_count cars workers in
    flat_map (λ i. map answer (segment cars count i)) (range_with_len 0 count)
    ≡ map answer (range_with_len 0 cars)

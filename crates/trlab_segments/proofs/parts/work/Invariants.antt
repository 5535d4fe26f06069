use Rattle.std.proofs.Common.{◌≡◌, ◌-◌, map, All}
use Rattle.trlab_segments.specs.Answered.{IsPartOfPhase, ticket_of}
use Rattle.trlab_segments.specs.Drawers.{IsDrawerOf, ticket_count, least_next_ticket, passes_of, tickets_of}
use Rattle.trlab_segments.proofs.parts.work.Given as goal

abbrev pub invariant-loop-number : goal.invariant-loop-number
invariant-loop-number g l = record {
  from : IsDrawerOf l.tickets l.drawer;
  passes : passes_of l.drawer ≡ passes_of l.initial.drawer;
  tickets : map ticket_of l.parts.items ≡ tickets_of l.drawer;
  right : All (IsPartOfPhase g.P.Asked.answers l.phase (ticket_count l.tickets)) l.parts.items;
}

abbrev pub decreases-loop-number : goal.decreases-loop-number
decreases-loop-number g l = ticket_count l.tickets - least_next_ticket l.drawer

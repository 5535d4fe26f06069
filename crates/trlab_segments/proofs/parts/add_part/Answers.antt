use Rattle.std.proofs.lemmas.List.{map-append, Elements.All-push}
use Rattle.trlab_segments.specs.Answered.{IsPartOfPhase, ticket_of}
use Rattle.trlab_segments.proofs.parts.add_part.Goals as goal

pub returns-clause-numbers : goal.returns-clause-numbers
returns-clause-numbers g c = rw c.in_ok-push.ensures.items (map-append ticket_of _ _)

pub returns-clause-right : goal.returns-clause-right
returns-clause-right g c =
    let part = rw (c.of-segment.ensures.from, c.of-segment.ensures.to, c.cars.ensures.value) at c.in_ok-ask.ensures in
    λ all. rw c.in_ok-push.ensures.items (All-push (IsPartOfPhase g.P.Asked.answers c.args.phase.now c.args.count) _ _ all part)

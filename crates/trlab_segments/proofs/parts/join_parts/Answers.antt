use Rattle.trlab_segments.proofs.parts.join_parts.Goals as goal

pub returns : goal.returns
returns g c = rw (c.in_ok-all.was, c.in_ok-other.was) c.in_ok-append.ensures.items

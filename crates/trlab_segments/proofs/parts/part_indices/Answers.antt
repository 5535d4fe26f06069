use Rattle.std.proofs.{Common.{arith, map, ◌∙◌, length-set}, lemmas.List.length-map}
use Rattle.trlab_segments.specs.Answered.{ticket_of}
use Rattle.trlab_segments.proofs.Indices.{all_noted, below_count, note_next, ticket_at}
use Rattle.trlab_segments.proofs.parts.part_indices.Goals as goal

pub index_mut-requires : goal.index_mut-requires
index_mut-requires g c =
    let part = c.index-parts-index.result in
    let here = ticket_at c.args.parts.now c.loop-index.index part c.loop-index-test.true c.index-parts-index.is in
    let below = below_count (map ticket_of c.args.parts.now) c.args.count c.loop-index.index part.number c.requires here in
    rw (← c.index-parts-index.is) (omega (arith, below, c.loop-index.invariant.count))

pub loop-index-preserved : goal.loop-index-preserved
loop-index-preserved g c =
    let part = c.index-parts-index.result in
    let old = c.loop-index.invariant in
    let here = ticket_at c.args.parts.now c.loop-index.index part c.loop-index-test.true c.index-parts-index.is in
    let below = below_count (map ticket_of c.args.parts.now) c.args.count c.loop-index.index part.number c.requires here in
    rw (← c.index-parts-index.is) (record {
      count = length-set c.loop-index.indices.items part.number c.loop-index.index ∙ old.count;
      noted = note_next (map ticket_of c.args.parts.now) c.loop-index.indices.items c.loop-index.index part.number here
          (omega (arith, below, old.count)) old.noted;
    })

pub returns : goal.returns
returns g c =
    let all = length-map c.args.parts.now ticket_of in (
      omega (arith, c.loop-index.invariant.count),
      all_noted (map ticket_of c.args.parts.now) c.loop-index.indices.items c.loop-index.index c.args.count c.requires
          (omega (arith, all, c.loop-index-test.false)) c.loop-index.invariant.noted,
    )

use Rattle.trlab_segments.{specs.Answered.IsPartOfBrief, proofs.Joining.all_told}
use Rattle.trlab_segments.proofs.pool.results.deposit.Goals as goal

pub returns : goal.returns
returns g c = record {
  lanes = c.requires.results.lanes;
  reserve = c.requires.results.reserve;
  done = all_told (IsPartOfBrief g.P.Asked.answers c.args.brief.now) c.args.brief.now.tickets c.args.results.done _ _ c.args.results.parts c.args.more _
      c.requires.results.done c.requires.done c.join_parts.ensures c.one_drawer.ensures;
}

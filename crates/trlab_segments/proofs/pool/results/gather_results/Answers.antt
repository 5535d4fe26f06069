use Rattle.trlab_segments.proofs.Joining.{all_told, joined_from, deposited_from, new_from, with_reserve}
use Rattle.trlab_segments.specs.Answered.{IsPartOfBrief}
use Rattle.trlab_segments.proofs.pool.results.gather_results.Goals as goal

pub one_drawer-drawn-requires : goal.one_drawer-drawn-requires
one_drawer-drawn-requires g c =
    record { before = deposited_from c.args.brief.now.tickets c.args.results.done _ _ c.requires.results.done; from = c.requires.done.0 }

pub one_drawer-drawer-requires : goal.one_drawer-drawer-requires
one_drawer-drawer-requires g c = record {
  before = new_from c.args.brief.now.tickets c.args.results.reserve c.requires.results.reserve;
  from = joined_from c.args.brief.now.tickets c.args.results.done _ _ c.requires.done.0 c.one_drawer-drawn.ensures;
}

pub returns : goal.returns
returns g c =
    let fits = IsPartOfBrief g.P.Asked.answers c.args.brief.now in
    let t = c.args.brief.now.tickets in
    with_reserve fits t c.args.results.reserve _ _ _ c.requires.results.reserve
    (all_told fits t c.args.results.done _ _ c.args.results.parts c.args.parts _ c.requires.results.done c.requires.done c.join_parts.ensures c.one_drawer-drawn.ensures)
    c.one_drawer-drawer.ensures

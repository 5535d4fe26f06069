use Rattle.std.proofs.Common.{◌∙◌, ap, refl, sym, subst}
use Rattle.trlab_road.{specs.{Stored.lists_of, Cells.IsLegal}, proofs.SameLists.{same_road, same_sorted}}
use Rattle.trlab_road.proofs.road.Road.copy.Goals as goal

pub invariant_of-result : goal.invariant_of-result
invariant_of-result c =
    let same = c.in_ok-lanes.ensures ∙ ap lists_of c.deref.ensures.value in
    record {
      legal = subst IsLegal (sym (same_road c.self.inside.limit c.self.inside.limit c.self.inside.cells c.self.inside.cells c.in_ok-lanes.lanes.items c.self.inside.lanes.items refl refl same)) c.self.invariant.legal;
      sorted = same_sorted c.self.inside.cells c.in_ok-lanes.lanes.items c.self.inside.lanes.items same c.self.invariant.sorted;
    }

pub returns : goal.returns
returns c = same_road c.self.inside.limit c.self.inside.limit c.self.inside.cells c.self.inside.cells c.in_ok-lanes.lanes.items c.self.inside.lanes.items refl refl (c.in_ok-lanes.ensures ∙ ap lists_of c.deref.ensures.value) ∙ c.self.view_is

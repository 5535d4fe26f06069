use Rattle.std.proofs.Common.{◌≡◌, ◌∙◌, sym, ap, eqb-true, eq-eqb}
use Rattle.trlab_road.{specs.Stored.lists_of, proofs.SameLists.{same_road, told_limit, told_length}}
use Rattle.trlab_road.proofs.{SameLists.told_road, road.Road.equals.Goals.{then-self-other, else-self-other}}
use Rattle.trlab_road.proofs.road.Road.equals.Goals as goal

pub returns-then-self-other-2 : goal.returns-then-self-other-2
returns-then-self-other-2 c =
    let a = c.self.inside in
    let b = c.other.inside in
    let same : (a.limit ≡ b.limit) × (a.cells ≡ b.cells) = elim c.if-self-other.branch [
      | then-self-other w ↦ (w.if-self-other.true, eqb-true _ _ (sym w.value-is ∙ c.if-self-other-2.true))
      | else-self-other w ↦ absurd (w.if-self-other.false (eqb-true _ _ (sym w.value-is ∙ c.if-self-other-2.true)))
    ] in
    let lists = ap lists_of c.deref.ensures.value in
    let others = ap lists_of c.deref-then-self-other-2.ensures.value in
    rw (← c.self.view_is, ← c.other.view_is) (
      λ h. same_road a.limit b.limit a.cells b.cells a.lanes.items b.lanes.items same.0 same.1 (sym lists ∙ c.are_same_lanes.ensures.0 h ∙ others),
      λ e. c.are_same_lanes.ensures.1 (lists ∙ told_road a.limit b.limit a.cells b.cells a.lanes.items b.lanes.items c.self.invariant c.other.invariant e ∙ sym others),
    )

pub returns-else-self-other-2 : goal.returns-else-self-other-2
returns-else-self-other-2 c =
    let a = c.self.inside in
    let b = c.other.inside in
    rw (← c.self.view_is, ← c.other.view_is) (
      λ h. (let f = c.if-self-other-2.false in absurd cc),
      λ e.
          let limit = told_limit a.limit b.limit a.cells b.cells a.lanes.items b.lanes.items c.self.invariant c.other.invariant e in
          let cells = told_length a.limit b.limit a.cells b.cells a.lanes.items b.lanes.items c.self.invariant c.other.invariant e in
          elim c.if-self-other.branch [
            | then-self-other w ↦ w.value-is ∙ eq-eqb _ _ cells
            | else-self-other w ↦ absurd (w.if-self-other.false limit)
          ],
    )

use Rattle.std.proofs.Common.{◌≡◌, min, sym, refl, ◌∙◌, subst, arith, true≢false}
use Rattle.trlab_segments.specs.{Drawers.tickets_of, Knowledge.IsPermutation}
use Rattle.trlab_segments.proofs.Steps.{adds_none, not_whole}
use Rattle.trlab_segments.proofs.tickets.Tickets.finish.Goals.{else-drawer-self-via-then-drawer-self+else-next-self}
use Rattle.trlab_segments.proofs.tickets.Tickets.finish.Goals.{else-drawer-self-via-else-drawer-self}
use Rattle.trlab_segments.proofs.tickets.Tickets.finish.Goals as goal

pub fetch_add-next-requires : goal.fetch_add-next-requires
fetch_add-next-requires c =
    let t = c.args.self in
    let d = c.args.drawer in (
      c.requires.0,
      omega (arith, t.one_word),
      adds_none _ _ _ d.seat.me (c.requires.1 ∙ sym t.same_plan) (omega (arith, d.some, d.passes_are)),
    )

pub returns-then-next-self-clause-ok : goal.returns-then-next-self-clause-ok
returns-then-next-self-clause-ok c =
    let all = c.if-drawer-self.true in
    let d = c.args.drawer in
    let plan = c.requires.1 in
    let known = c.fetch_add-next.ensures.2.1.whole (rw (plan, d.passes_are) all) in
    let enough : min c.args.self.plan.count c.fetch_add-next.result ≡ c.args.self.plan.count = omega (arith, c.if-next-self.true) in
    ((λ _. (all, subst (IsPermutation (tickets_of d)) enough (rw plan at known))), λ _. refl)

pub returns-else-drawer-self-clause-ok : goal.returns-else-drawer-self-clause-ok
returns-else-drawer-self-clause-ok c =
    let d = c.args.drawer in
    let plan = c.requires.1 in
    let e = c.fetch_add-next.ensures in (
      (λ ok. absurd (true≢false (sym ok))),
      λ has. elim c.else-drawer-self.branch [
        | else-drawer-self-via-then-drawer-self+else-next-self w ↦ absurd (not_whole (tickets_of d) _ _ w.if-next-self.false (rw plan at (e.2.1.whole (rw (plan, d.passes_are) has.0))) has.1)
        | else-drawer-self-via-else-drawer-self w ↦ absurd (w.if-drawer-self.false has.0)
      ],
    )

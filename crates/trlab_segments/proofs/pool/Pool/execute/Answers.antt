use Rattle.std.proofs.Common.{◌≡◌, OnOk, ap, subst, sym, ◌∙◌}
use Rattle.trlab_segments.specs.{Drawers.HasDrawnNone, Answered.{AnswersAll, CoversAllCars, IsRightResult}}
use Rattle.trlab_segments.specs.declared.pool.{brief.Brief.Brief, task.Task.Task}
use Rattle.trlab_segments.proofs.pool.Pool.execute.Goals as goal

-- the brief of a task
abbrev asked : {A P : Type 0} → Task A P → Brief P
asked task = task.brief

pub draw_all-parts-requires : goal.draw_all-parts-requires
draw_all-parts-requires g c =
    let shown = sym (ap asked c.deref.ensures ∙ c.in-Ok.ensures.ok) in record {
      new = subst (λ b. HasDrawnNone b.tickets c.split_pass-reserve.result.1) shown c.split_pass-reserve.ensures.pass;
      lanes = subst (λ b. g.P.Asked.can_ask b.road) shown c.requires.lanes;
    }

pub settle-requires : goal.settle-requires
settle-requires g c =
    let shown = ap asked c.deref.ensures ∙ c.in-Ok.ensures.ok in
    let left = sym (ap asked c.wait_for_helpers.ensures ∙ c.in-Ok.ensures.ok) in record {
      cut = subst CoversAllCars left c.requires.cut;
      done = subst (λ b. IsRightResult g.P.Asked.answers b c.draw_all-parts.new.drawer c.draw_all-parts.result)
          (shown ∙ left) (c.draw_all-parts.ensures.from, c.draw_all-parts.ensures.parts);
    }

pub returns-clause-road : goal.returns-clause-road
returns-clause-road g c =
    let left = ap asked c.wait_for_helpers.ensures ∙ c.in-Ok.ensures.ok in
    subst (λ b. c.settle.result.0 ≡ b.road) left c.settle.ensures.road

pub returns-clause-seen : goal.returns-clause-seen
returns-clause-seen g c =
    subst (λ b. g.O.StepObserver.observes c.args.observer.now b.road c.open.new.observer) c.in-Ok.ensures.ok c.open.ensures

pub returns-clause-answers : goal.returns-clause-answers
returns-clause-answers g c =
    let left = ap asked c.wait_for_helpers.ensures ∙ c.in-Ok.ensures.ok in
    subst (λ b. OnOk c.settle.result.1 (AnswersAll g.P.Asked.answers b c.settle.new.answers.items)) left c.settle.ensures.answers

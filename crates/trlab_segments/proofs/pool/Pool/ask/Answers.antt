use Rattle.std.proofs.Common.{ℕ, OnOk, List, Result, subst, sym, ◌∙◌}
use Rattle.trlab_machine.specs.declared.dice.Dice.{Dice}
use Rattle.trlab_road.specs.Cells.{Cells, cars}
use Rattle.trlab_segments.specs.{Answered.{AnswersAll, IsBriefOf}, declared.pool.brief.Brief.Brief}
use Rattle.trlab_segments.proofs.pool.Pool.ask.Goals as goal

-- the answers for a brief are those of its program, dice and road
as_asked : {A B E P : Type 0} (answers : P → Dice → Cells → ℕ → ℕ → List A → Type 0)
    → (program : P) (dice : Dice) (road : Cells) (b : Brief P) (asked : Result B E) (found : List A)
    → IsBriefOf program dice road b → OnOk asked (AnswersAll answers b found)
    → OnOk asked (answers program dice road 0 (cars road) found)
as_asked answers program dice road b asked found asks all =
    subst (λ r. OnOk asked (answers program dice r 0 (cars r) found)) asks.2
    (subst (λ d. OnOk asked (answers program d b.road 0 (cars b.road) found)) asks.1
    (subst (λ p. OnOk asked (answers p b.dice b.road 0 (cars b.road) found)) asks.0 all))

pub execute-back-requires : goal.execute-back-requires
execute-back-requires g c = record {
  new = c.in-Ok.ensures.new;
  cut = c.in-Ok.ensures.cut;
  lanes = subst g.P.Asked.can_ask (sym c.in-Ok.ensures.asked.2) c.requires.lanes;
}

pub returns-clause-unchanged : goal.returns-clause-unchanged
returns-clause-unchanged g c = c.execute-back.ensures.road ∙ c.in-Ok.ensures.asked.2

pub returns-clause-seen : goal.returns-clause-seen
returns-clause-seen g c =
    subst (λ road. g.O.StepObserver.observes c.args.observer.now road c.execute-back.new.observer) c.in-Ok.ensures.asked.2 c.execute-back.ensures.seen

pub returns-clause-answers : goal.returns-clause-answers
returns-clause-answers g c =
    as_asked g.P.Asked.answers _ _ _ c.in-Ok.brief c.execute-back.result.1 c.execute-back.new.answers.items c.in-Ok.ensures.asked c.execute-back.ensures.answers

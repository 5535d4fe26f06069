use Rattle.std.proofs.Common.{refl}
use Rattle.trlab_campaign.proofs.Shown.{last_shown, none_after}
use Rattle.trlab_campaign.proofs.run.ShownSteps.last.Goals as goal

pub returns-then-self-steps-clause-none_later : goal.returns-then-self-steps-clause-none_later
returns-then-self-steps-clause-none_later c = λ step after within.
    none_after c.args.self.now.every c.args.self.now.from c.args.steps _ step c.args.self.now.at_least_one_step c.if-self-steps.true refl after within

pub returns-then-self-steps-clause-shown : goal.returns-then-self-steps-clause-shown
returns-then-self-steps-clause-shown c = λ some.
    last_shown c.args.self.now.every c.args.self.now.from c.args.steps _ c.if-self-steps.true refl

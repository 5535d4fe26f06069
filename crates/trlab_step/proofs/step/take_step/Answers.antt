use Rattle.std.proofs.Common.{rules}
use Rattle.trlab_step.proofs.SafeCalls.{step_calls_safe}
use Rattle.trlab_step.proofs.step.take_step.Goals as goal

pub returns-in-None-clause-clean : goal.returns-in-None-clause-clean
returns-in-None-clause-clean g c =
    let calls = step_calls_safe c.args.rule.now c.args.context.now.dice.now c.args.road.now c.args.road.now c.motion-motion.ensures.rule c.requires.lanes c.snapshot-start.ensures.legal c.snapshot-start.ensures.legal in
    search (rules, calls)

pub returns-clause-clean : goal.returns-clause-clean
returns-clause-clean g c =
    let calls = step_calls_safe c.args.rule.now c.args.context.now.dice.now c.args.road.now c.in_ok-middle-in-Some.middle c.motion-motion.ensures.rule c.requires.lanes c.snapshot-start.ensures.legal c.in_ok-middle-in-Some.ensures.legal in
    search (rules, calls)

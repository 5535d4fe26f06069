use Rattle.std.proofs.Common.{◌≡◌, ℕ, ◌+◌, ◌-◌, arith, subst}
use Rattle.trlab_book.{specs.Desks.HasEnded, proofs.GoingOn.ended_both}
use Rattle.trlab_book.proofs.running.+fn-run_all-join+arg3+run_all.Goals as goal

pub returns : goal.returns
returns g t c =
    let split = c.split-theirs in
    let ran = c.join-theirs in
    let parts = split.ensures.parts in
    let events = split.ensures.events in
    let least = split.ensures.least in
    let all : 1 + (c.args.runners - 1) ≡ c.args.runners = omega (arith, c.requires.runners.0) in
    subst (λ (n : ℕ). HasEnded n c.first_fault.result c.args.desk c.gather.result) all
    (ended_both 1 (c.args.runners - 1) ran.result.0.1 ran.result.1.1 c.first_fault.result c.args.desk split.new.desk split.result ran.result.1.0 ran.result.0.0 c.gather.result
    parts.0 parts.1 events.0 events.1 least.0 least.1 ran.ensures.second ran.ensures.first c.gather.ensures.parts c.gather.ensures.events c.gather.ensures.least c.first_fault.ensures.fine c.first_fault.ensures.full_history)

pub returns-then-others-eq0 : goal.returns-then-others-eq0
returns-then-others-eq0 g t c =
    let one : 1 ≡ c.args.runners = omega (arith, c.if-others-eq0.true, c.requires.runners.0) in
    subst (λ (n : ℕ). HasEnded n c.run_one-ended.result c.args.desk c.run_one-ended.new.desk) one c.run_one-ended.ensures

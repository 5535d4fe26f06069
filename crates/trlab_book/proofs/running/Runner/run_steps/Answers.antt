use Rattle.std.proofs.Common.{Err, OnOk, arith, rules, subst, refl, inl, inr, ◌≡◌, ◌⊎◌, ℕ}
use Rattle.trlab_sequential_book.specs.{Histories.order_reply, Leases.{HasRun, IsLease, LeaseState}}
use Rattle.trlab_book.specs.{Desks.{IsCorrectVerdict, OrderHasRuleInForce}, HeldLeases.Running}
use Rattle.trlab_book.proofs.GoingOn.{goes_both, ordered_goes, orders_on, refused_order, rests}
use Rattle.trlab_book.proofs.running.Runner.run_steps.Goals as goal

-- the first call in the loop shows that the lease is one
first_lease : (count : ℕ) (first now : LeaseState) → ((count ≡ 0) × (now ≡ first)) ⊎ IsLease first → IsLease now → IsLease first
first_lease count first now (inl same) is = subst IsLease same.1 is
first_lease count first now (inr known) is = known

pub loop-init : goal.loop-init
loop-init g c = (rests (Running c.args.lease.now) c.args.desk.now, inl (refl, refl))

pub returns-in-Err-clause-ran : goal.returns-in-Err-clause-ran
returns-in-Err-clause-ran g c =
    let fault = c.in-Err.fault in
    refused_order (λ book. OrderHasRuleInForce (Err fault) book) (Running c.args.lease.now)
    c.args.desk.now c.loop.desk c.order.new.desk c.loop.lease fault (omega (arith, c.if-step-steps.false, c.step.ensures.value, c.steps.ensures)) c.loop.invariant.0 c.in-Err.ensures.made

pub returns-in-Err-WrongOrder-clause-ran : goal.returns-in-Err-WrongOrder-clause-ran
returns-in-Err-WrongOrder-clause-ran g c = absurd (c.take_step-ran.ensures.wrong.0 (search rules) c.in-Ok.ensures.fits)

pub returns-in-Err-Memory-clause-ran : goal.returns-in-Err-Memory-clause-ran
returns-in-Err-Memory-clause-ran g c = orders_on (λ same book. IsCorrectVerdict c.loop.lease same book × OrderHasRuleInForce c.order.result book) c.args.desk.now c.loop.desk c.order.new.desk c.loop.lease (order_reply c.order.result) c.loop.invariant.0.on c.order.ensures.made

pub loop-preserved : goal.loop-preserved
loop-preserved g c =
    let order = c.in-Ok.order in
    let next = c.take_step-ran.new.lease in (
      goes_both (Running c.args.lease.now) (Running c.loop.lease) (Running next) c.args.desk.now c.loop.desk c.order.new.desk c.loop.invariant.0
          (ordered_goes c.loop.desk c.order.new.desk c.loop.lease next order (omega (arith, c.if-step-steps.false, c.step.ensures.value, c.steps.ensures)) c.in-Ok.ensures.made
          (subst (λ r. OnOk r (HasRun c.loop.lease order next)) c.in-Ok-ran.is c.take_step-ran.ensures.ok)),
      inr (first_lease c.loop.counter c.args.lease.now c.loop.lease c.loop.invariant.1 c.step.ensures.lease),
    )

pub returns-then-step-steps-clause-ran : goal.returns-then-step-steps-clause-ran
returns-then-step-steps-clause-ran g c = c.loop.invariant.0

pub returns-then-step-steps-clause-lease : goal.returns-then-step-steps-clause-lease
returns-then-step-steps-clause-lease g c = first_lease c.loop.counter c.args.lease.now c.loop.lease c.loop.invariant.1 c.step.ensures.lease

pub returns-clause-ran : goal.returns-clause-ran
returns-clause-ran g c = c.loop.invariant.0

pub returns-clause-lease : goal.returns-clause-lease
returns-clause-lease g c = elim c.loop.invariant.1 [
  | inl none ↦ absurd (omega (arith, none.0, c.loop-test.false))
  | inr known ↦ known
]

pub returns-in-Err-clause-lease : goal.returns-in-Err-clause-lease
returns-in-Err-clause-lease g c = first_lease c.loop.counter c.args.lease.now c.loop.lease c.loop.invariant.1 c.step.ensures.lease

pub returns-in-Err-WrongOrder-clause-lease : goal.returns-in-Err-WrongOrder-clause-lease
returns-in-Err-WrongOrder-clause-lease g c = first_lease c.loop.counter c.args.lease.now c.loop.lease c.loop.invariant.1 c.step.ensures.lease

pub returns-in-Err-Memory-clause-lease : goal.returns-in-Err-Memory-clause-lease
returns-in-Err-Memory-clause-lease g c = first_lease c.loop.counter c.args.lease.now c.loop.lease c.loop.invariant.1 c.step.ensures.lease

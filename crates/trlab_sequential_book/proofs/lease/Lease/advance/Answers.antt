use Rattle.std.proofs.{Common.{◌≡◌, ◌∙◌, refl, sym, Result, Ok, Err, OnOk, OnErr}, lemmas.Bool.{false≢true}}
use Rattle.std.proofs.lemmas.Result.{err_from_is_err_and}
use Rattle.trlab_sequential_book.specs.declared.lease.LeaseFault.{LeaseFault}
use Rattle.trlab_sequential_book.specs.declared.lease.LeaseFault.TheVariants.{Memory, WrongOrder}
use Rattle.trlab_sequential_book.proofs.lease.Lease.advance.Goals as goal

-- the result if an allocation fails
no_step : (told : Result (Unit {0}) LeaseFault) (fault : LeaseFault) (P : Type 0) → told ≡ Err fault → OnOk told P
no_step (Ok done) fault P is = absurd cc
no_step (Err other) fault P is = tt

refused : (told : Result (Unit {0}) LeaseFault) (P : Type 0) → P → OnErr told P
refused (Ok done) P p = tt
refused (Err fault) P p = p

not_wrong : (told : Result (Unit {0}) LeaseFault) (fault : LeaseFault) → told ≡ Err fault → fault ≡ Memory → told ≡ Err WrongOrder → ⊥
not_wrong told fault is memory wrong = cc

done_not_wrong : (told : Result (Unit {0}) LeaseFault) (done : Unit {0}) → told ≡ Ok done → told ≡ Err WrongOrder → ⊥
done_not_wrong told done is wrong = cc

pub returns-then-not-fits-clause-unchanged : goal.returns-then-not-fits-clause-unchanged
returns-then-not-fits-clause-unchanged g c = refl

pub returns-then-not-fits-clause-wrong : goal.returns-then-not-fits-clause-wrong
returns-then-not-fits-clause-wrong g c =
    (λ _ fits. false≢true (sym c.if-not-fits.true ∙ c.fits.ensures.value.1 fits), λ _. refl)

pub returns-in_err-run-clause-ok : goal.returns-in_err-run-clause-ok
returns-in_err-run-clause-ok g c = let p = err_from_is_err_and c.from_residual.result c.from_residual.ensures.1 in no_step _ _ _ p.1

pub returns-in_err-run-clause-unchanged : goal.returns-in_err-run-clause-unchanged
returns-in_err-run-clause-unchanged g c = refused _ _ c.in_err-run.ensures.unchanged

pub returns-in_err-run-clause-wrong : goal.returns-in_err-run-clause-wrong
returns-in_err-run-clause-wrong g c =
    let p = err_from_is_err_and c.from_residual.result c.from_residual.ensures.1 in
    (λ e. absurd (not_wrong _ _ p.1 p.2 e), λ no. absurd (no (c.fits.ensures.value.0 c.if-not-fits.false)))

pub returns-clause-ok : goal.returns-clause-ok
returns-clause-ok g c =
    let step = c.in_ok-run.ensures.ok in
    record { fits = c.fits.ensures.value.0 c.if-not-fits.false; tally = step.0; next = step.1; grown = step.2 }

pub returns-clause-wrong : goal.returns-clause-wrong
returns-clause-wrong g c = (λ e. absurd (done_not_wrong _ _ refl e), λ no. absurd (no (c.fits.ensures.value.0 c.if-not-fits.false)))

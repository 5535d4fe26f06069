use Rattle.std.proofs.Common.{◌≡◌, ℕ, suc, [], ◌∷◌, ◌-◌, length, arith, ap, sym}
use Rattle.trlab_step.specs.Run.{Sheet, IsSheet}
use Rattle.trlab_sequential_book.proofs.InForce.{first_in_force, steady_in_force}
use Rattle.trlab_sequential_book.proofs.sheet.Sheet.are_in_force.Goals as goal

-- a sheet has a last entry
length_is : (sheet : Sheet) (n : ℕ) → IsSheet sheet → n ≡ length sheet - 1 → length sheet ≡ suc n
length_is [] n is at = absurd is
length_is (x ∷ more) n is at = omega arith

pub returns-then-from-first : goal.returns-then-from-first
returns-then-from-first c =
    let sheet = c.args.self.now in
    let is = c.len.ensures.rules in
    let long = length_is sheet (c.len.result - 1) is (ap (λ (n : ℕ). n - 1) c.len.ensures.value) in (
      λ same. steady_in_force sheet c.args.first _ _ _ c.args.applied.now is c.shared_entry-from.ensures long c.if-from-first.true
          (c.requires.steady c.if-is_steady.true) (sym c.in-Some.ensures.value) (c.equals.ensures.0 same),
      λ all. c.equals.ensures.1 (first_in_force sheet c.args.first _ _ _ c.args.applied.now is c.shared_entry-from.ensures long c.if-from-first.true (sym c.in-Some.ensures.value) all),
    )

use Rattle.std.proofs.Common.{◌≡◌, ◌∙◌, ℕ, suc, ◌&&◌, ◌||◌, sym, subst, refl, arith, nat_eq, below_more, Bool}
use Rattle.std.proofs.Common.{false, IsTrue, List, Some, get_or, slice_get}
use Rattle.std.proofs.lemmas.Option.{slice_get-get_or, slice_get_within}
use Rattle.trlab_code.specs.{Flow.{falls, target, on_target}, declared.instruction.Instr.Instr}
use Rattle.trlab_code.specs.declared.instruction.{Instr.TheVariants.Num, Register.TheVariants.R0}
use Rattle.trlab_verify.specs.Verdict.{Follows}
use Rattle.trlab_verify.proofs.for_embedders.is_reached.Goals as goal

not_from : (code : List Instr) (pc q : ℕ) (i : Instr) (r : Bool) → slice_get code pc ≡ Some i → r ≡ ((falls i && nat_eq q (suc pc)) || on_target (nat_eq q) (target i)) → r ≡ false → Follows code pc q → ⊥
not_from code pc q i r ei er ef (j, ej, h) =
    let same : j ≡ i = some_is j i (sym ej ∙ ei) in
    let yes : IsTrue ((falls i && nat_eq q (suc pc)) || on_target (nat_eq q) (target i)) = subst (λ z. IsTrue ((falls z && nat_eq q (suc pc)) || on_target (nat_eq q) (target z))) same h in
    cc (yes, er, ef)
  where
    some_is : (a b : Instr) → Some a ≡ Some b → a ≡ b
    some_is a b e = cc e

pub loop-pc-preserved : goal.loop-pc-preserved
loop-pc-preserved c =
    below_more _ _ c.loop-pc.invariant (not_from c.args.instrs.now c.loop-pc.pc c.args.q (get_or c.args.instrs.now c.loop-pc.pc (Num R0 0)) c.follows.result (slice_get-get_or c.args.instrs.now c.loop-pc.pc (Num R0 0) c.loop-pc-test.true) c.follows.ensures c.if-follows.false)

pub returns-then-follows : goal.returns-then-follows
returns-then-follows c =
    let instr = get_or c.args.instrs.now c.loop-pc.pc (Num R0 0) in
    (λ t. (c.loop-pc.pc, (instr, slice_get-get_or c.args.instrs.now c.loop-pc.pc (Num R0 0) c.loop-pc-test.true, sym c.follows.ensures ∙ c.if-follows.true)), λ w. refl)

pub returns : goal.returns
returns c =
    (λ e. absurd (cc e), λ w. absurd (c.loop-pc.invariant w.0 (let l = slice_get_within c.args.instrs.now w.0 w.1.0 w.1.1 in omega (arith, l)) w.1))

use Rattle.std.proofs.Common.{◌≡◌, ◌∙◌, ℕ, ◌<◌, sym, arith, length, Bool, true, false, IsTrue, Option, Some}
use Rattle.std.proofs.{Common.{None, get_or, refl, is_some}, lemmas.Option.slice_get-get_or}
use Rattle.trlab_code.specs.declared.instruction.{Instr.TheVariants.Num, Register.TheVariants.R0}
use Rattle.trlab_notes.{specs.{Stored.note_of, declared.reasons.Reason.Reason}, proofs.Steps.clear}
use Rattle.trlab_verify.{specs.{Verdict.Follows, Tables.meaning_at}, proofs.Forms.{shown, checked_at}}
use Rattle.trlab_verify.proofs.for_embedders.checks_at.Goals.{else-pc-gt0-via-then-pc-gt0+else-not-is_reached}
use Rattle.trlab_verify.proofs.for_embedders.checks_at.Goals.{else-pc-gt0-via-else-pc-gt0}
use Rattle.trlab_verify.proofs.for_embedders.checks_at.Goals as goal

none_is : (o : Option Reason) → false ≡ is_some o → o ≡ None
none_is None e = refl
none_is (Some n) e = absurd (cc e)

some_is_not : (o : Option Reason) → o ≡ None → true ≡ is_some o → ⊥
some_is_not None e f = absurd (cc f)
some_is_not (Some n) e f = absurd (cc e)

both_false : (b : Bool) → IsTrue b → b ≡ false → ⊥
both_false b e f = cc (sym e ∙ f)

pub returns-then-not-is_reached : goal.returns-then-not-is_reached
returns-then-not-is_reached c =
    let ei = slice_get-get_or c.args.instrs.now c.args.pc (Num R0 0) c.requires.inside in
    (λ e. absurd (cc e), λ h. absurd (both_false c.is_reached.result (c.is_reached.ensures.1 ((h.1 _ ei).reached c.if-pc-gt0.true)) c.if-not-is_reached.true))

pub returns-then-is_some : goal.returns-then-is_some
returns-then-is_some c =
    let ei = slice_get-get_or c.args.instrs.now c.args.pc (Num R0 0) c.requires.inside in
    (λ e. absurd (cc e), λ h. absurd (let s = shown c.args.kind c.args.instrs.now (length c.args.table.now) (meaning_at c.args.kind c.args.table.now) c.args.pc (note_of c.in-Some.note) (get_or c.args.instrs.now c.args.pc (Num R0 0)) c.requires.one_each c.in-Some.ensures.stored ei h.1 in some_is_not c.reason_against.result (c.reason_against.ensures ∙ s.clear) (sym c.if-is_some.true ∙ c.is_some.ensures)))

pub returns-then-checks_next : goal.returns-then-checks_next
returns-then-checks_next c =
    let ei = slice_get-get_or c.args.instrs.now c.args.pc (Num R0 0) c.requires.inside in
    let m = note_of c.in-Some.note in
    let i = get_or c.args.instrs.now c.args.pc (Num R0 0) in
    let reached : 0 < c.args.pc → (p : ℕ) × Follows c.args.instrs.now p c.args.pc = λ above. elim c.else-pc-gt0.branch [
      | else-pc-gt0-via-then-pc-gt0+else-not-is_reached w ↦ w.is_reached.ensures.0 w.if-not-is_reached.false
      | else-pc-gt0-via-else-pc-gt0 w ↦ absurd (omega (arith, w.if-pc-gt0.false))
    ] in (
      λ e. (
        c.in-Some.ensures.some,
        checked_at c.args.kind c.args.instrs.now (length c.args.table.now) (meaning_at c.args.kind c.args.table.now) c.args.pc m i c.requires.one_each c.in-Some.ensures.stored ei (record {
          reached = reached;
          clear = sym c.reason_against.ensures ∙ none_is c.reason_against.result (sym c.if-is_some.false ∙ c.is_some.ensures);
          falls = c.checks_next.ensures.0 c.if-checks_next.true;
          jumps = c.checks_target.ensures.0 e;
        }),
      ),
      λ h. c.checks_target.ensures.1 (shown c.args.kind c.args.instrs.now (length c.args.table.now) (meaning_at c.args.kind c.args.table.now) c.args.pc m i c.requires.one_each c.in-Some.ensures.stored ei h.1).jumps,
    )

pub returns-else-checks_next : goal.returns-else-checks_next
returns-else-checks_next c =
    let ei = slice_get-get_or c.args.instrs.now c.args.pc (Num R0 0) c.requires.inside in
    (λ e. absurd (both_false c.checks_next.result e c.if-checks_next.false), λ h. c.checks_next.ensures.1 (shown c.args.kind c.args.instrs.now (length c.args.table.now) (meaning_at c.args.kind c.args.table.now) c.args.pc (note_of c.in-Some.note) (get_or c.args.instrs.now c.args.pc (Num R0 0)) c.requires.one_each c.in-Some.ensures.stored ei h.1).falls)

pub checks_next-requires-clause-fits : goal.checks_next-requires-clause-fits
checks_next-requires-clause-fits c =
    (clear c.args.kind c.args.kind (length c.args.instrs.now) c.args.pc (note_of c.in-Some.note) (get_or c.args.instrs.now c.args.pc (Num R0 0)) (sym c.reason_against.ensures ∙ none_is c.reason_against.result (sym c.if-is_some.false ∙ c.is_some.ensures))).fits

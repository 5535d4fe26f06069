use Rattle.std.proofs.Common.{◌≡◌, ◌∙◌, ℕ, ◌<◌, ◌≤◌, length, get_or, ap, sym, arith, None, below_more}
use Rattle.std.proofs.{Common.add-one, lemmas.{Option.slice_get-get_or, List.get_or_default}}
use Rattle.trlab_code.specs.declared.instruction.{Instr.TheVariants.Num, Register.TheVariants.R0}
use Rattle.trlab_notes.specs.{Stored.{note_of, stored_note_at, maybe_note}, Notes.maybe_closure}
use Rattle.trlab_notes.proofs.Steps.{clear}
use Rattle.trlab_verify.{specs.Verdict.note_at, proofs.Verdicts.{unreached, tested, one_more_kept, is_none}}
use Rattle.trlab_verify.proofs.Verdicts.{none_back, no_note, whose, reason_same}
use Rattle.trlab_verify.proofs.verdict.judge.Goals as goal

below_same : {m n k : ℕ} (i : ℕ) → m ≡ n → n ≡ k → i < k → i < m
below_same i e f lt = omega arith

-- a property of each place below pc and of pc is one of each place up to pc
judged_to : (P : ℕ → Type 0) (pc : ℕ) → ((q : ℕ) → q < pc → P q) → P pc → (q : ℕ) → q ≤ pc → P q
judged_to P pc below here q le = below_more P pc below here q (omega arith)

pub returns-in_default-clause-verdict : goal.returns-in_default-clause-verdict
returns-in_default-clause-verdict c = record {
  within = c.loop-pc-test.true;
  here = unreached c.args.kind c.args.own c.args.instrs.now c.loop-pc.pc (no_note _ (sym (c.loop-pc.invariant.incoming_so_far c.loop-pc.pc (omega arith) c.loop-pc-test.true) ∙ ap maybe_note (get_or_default c.loop-pc.notes c.loop-pc.pc None _ (below_same c.loop-pc.pc c.loop-pc.auto.notes c.requires.one_each c.loop-pc-test.true) ∙ is_none _ c.in_default.not-Some)));
  first = c.loop-pc.invariant.no_fault;
}

pub returns-in-Some-reason_against-clause-verdict : goal.returns-in-Some-reason_against-clause-verdict
returns-in-Some-reason_against-clause-verdict c =
    let n = note_of c.in-Some.note in
    let w = whose (note_at c.args.kind c.args.instrs.now c.loop-pc.pc) n (sym (ap maybe_note (get_or_default c.loop-pc.notes c.loop-pc.pc None _ (below_same c.loop-pc.pc c.loop-pc.auto.notes c.requires.one_each c.loop-pc-test.true) ∙ c.in-Some.is)) ∙ c.loop-pc.invariant.incoming_so_far c.loop-pc.pc (omega arith) c.loop-pc-test.true) in
    record {
      within = c.loop-pc-test.true;
      here = tested c.args.kind c.args.own c.args.instrs.now c.loop-pc.pc w.0 _ _ w.1 (slice_get-get_or c.args.instrs.now c.loop-pc.pc _ c.loop-pc-test.true) (reason_same c.args.kind c.args.own (length c.args.instrs.now) c.loop-pc.pc w.0 n _ w.2 ∙ sym c.in-Some-reason_against.ensures);
      first = c.loop-pc.invariant.no_fault;
    }

pub returns-in_default-clause-judged : goal.returns-in_default-clause-judged
returns-in_default-clause-judged c = λ q le. judged_to _ c.loop-pc.pc (c.loop-pc.invariant.done) (c.loop-pc.invariant.incoming_so_far c.loop-pc.pc (omega arith) c.loop-pc-test.true) q le

pub returns-in-Some-reason_against-clause-judged : goal.returns-in-Some-reason_against-clause-judged
returns-in-Some-reason_against-clause-judged c = λ q le. judged_to _ c.loop-pc.pc (c.loop-pc.invariant.done) (c.loop-pc.invariant.incoming_so_far c.loop-pc.pc (omega arith) c.loop-pc-test.true) q le

pub loop-pc-preserved : goal.loop-pc-preserved
loop-pc-preserved c =
    let n = note_of c.in-Some.note in
    let w = whose (note_at c.args.kind c.args.instrs.now c.loop-pc.pc) n (sym (ap maybe_note (get_or_default c.loop-pc.notes c.loop-pc.pc None _ (below_same c.loop-pc.pc c.loop-pc.auto.notes c.requires.one_each c.loop-pc-test.true) ∙ c.in-Some.is)) ∙ c.loop-pc.invariant.incoming_so_far c.loop-pc.pc (omega arith) c.loop-pc-test.true) in
    let ei = slice_get-get_or c.args.instrs.now c.loop-pc.pc (Num R0 0) c.loop-pc-test.true in
    let clean = clear c.args.kind c.args.own (length c.args.instrs.now) c.loop-pc.pc n (get_or c.args.instrs.now c.loop-pc.pc (Num R0 0)) (sym c.reason_against.ensures ∙ c.in_default-reason_against.is) in
    let old : (q : ℕ) → q ≤ c.loop-pc.pc → q < length c.args.instrs.now → stored_note_at c.loop-pc.notes q ≡ maybe_closure (note_at c.args.kind c.args.instrs.now q) → stored_note_at c.send.new.notes q ≡ maybe_closure (note_at c.args.kind c.args.instrs.now q) =
    λ q le lt e. c.send.ensures q (below_same q c.loop-pc.auto.notes c.requires.one_each lt) ∙ (none_back c.loop-pc.pc q n _ _ le clean.forward ∙ e) in
    record {
      done = below_more _ _ (λ q lt. old q (omega arith) (omega (arith, lt, c.loop-pc-test.true)) (c.loop-pc.invariant.done q lt)) (old c.loop-pc.pc (omega arith) c.loop-pc-test.true (c.loop-pc.invariant.incoming_so_far c.loop-pc.pc (omega arith) c.loop-pc-test.true));
      incoming_so_far = λ q ge lt. c.send.ensures q (below_same q c.loop-pc.auto.notes c.requires.one_each lt) ∙ rw add-one (one_more_kept c.args.kind c.args.instrs.now c.loop-pc.pc q w.0 n _ _ w.1 ei w.2 (c.loop-pc.invariant.incoming_so_far q (omega arith) lt));
      no_fault = below_more _ _ c.loop-pc.invariant.no_fault (tested c.args.kind c.args.own c.args.instrs.now c.loop-pc.pc w.0 _ None w.1 ei (reason_same c.args.kind c.args.own (length c.args.instrs.now) c.loop-pc.pc w.0 n _ w.2 ∙ sym c.reason_against.ensures ∙ c.in_default-reason_against.is));
    }

pub bounds-notes-pc : goal.bounds-notes-pc
bounds-notes-pc c = below_same c.loop-pc.pc c.loop-pc.auto.notes c.requires.one_each c.loop-pc-test.true

pub bounds : goal.bounds
bounds c = below_same c.loop-pc.pc c.loop-pc.auto.notes c.requires.one_each c.loop-pc-test.true

pub overflow_cast-result : goal.overflow_cast-result
overflow_cast-result c = omega (arith, c.loop-pc-test.true, c.requires.at_most_max_instructions)

pub overflow_cast-result-in-Some-reason_against : goal.overflow_cast-result-in-Some-reason_against
overflow_cast-result-in-Some-reason_against c = omega (arith, c.loop-pc-test.true, c.requires.at_most_max_instructions)

pub returns-clause-verdict : goal.returns-clause-verdict
returns-clause-verdict c = λ p lt. c.loop-pc.invariant.no_fault p (omega (arith, lt, c.loop-pc-test.false))

pub returns-clause-stored : goal.returns-clause-stored
returns-clause-stored c = λ _ q lt. c.loop-pc.invariant.done q (omega (arith, lt, c.loop-pc-test.false))

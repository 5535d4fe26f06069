use Rattle.std.proofs.Common.{◌≡◌, ◌<◌, ◌≤◌, ◌++◌, ◌∷◌, [], length, get_or, arith, sym, ◌∙◌, append_assoc}
use Rattle.std.proofs.lemmas.{Grind.common_steps, List.Elements.All-more}
use Rattle.trlab_code.specs.declared.instruction.{Instr.TheVariants.Num, Register.TheVariants.R0}
use Rattle.trlab_code.specs.Laws.{FitsIn32Bits}
use Rattle.trlab_asm.{specs.Canonical.{instr_line, is_jumped_to}, proofs.PrintedFrom.{text_next, text_end}}
use Rattle.trlab_asm.proofs.Reread.{reread}
use Rattle.trlab_asm.proofs.printing.disassemble.Goals as goal

pub loop-pc-preserved : goal.loop-pc-preserved
loop-pc-preserved c =
    let inside : c.loop-pc.pc < length c.instrs-instrs.result.now = omega arith in
    let pushed : c.push.new.self.items ≡ (c.loop-pc.text.items ++ instr_line (length c.instrs-instrs.result.now) (is_jumped_to c.instrs-instrs.result.now c.loop-pc.pc) c.loop-pc.pc (get_or c.instrs-instrs.result.now c.loop-pc.pc (Num R0 0))) ++ (10 ∷ []) = grind (arith, common_steps) in
    let next = text_next c.instrs-instrs.result.now c.loop-pc.pc (Num R0 0) c.loop-pc.text.items inside in
    record {
      printed = rw (pushed, append_assoc) (next ∙ c.loop-pc.invariant.printed);
      words = All-more FitsIn32Bits c.instrs-instrs.result.now c.loop-pc.pc (Num R0 0) inside c.loop-pc.invariant.words c.push_line.ensures.word;
    }

pub returns-clause-canonical : goal.returns-clause-canonical
returns-clause-canonical c =
    let past : length c.instrs-instrs.result.now ≤ c.loop-pc.pc = omega arith in
    rw (← c.instrs-instrs.ensures.value) (sym (text_end c.instrs-instrs.result.now c.loop-pc.pc c.loop-pc.text.items past) ∙ c.loop-pc.invariant.printed)

pub returns-clause-again : goal.returns-clause-again
returns-clause-again c =
    let past : length c.instrs-instrs.result.now ≤ c.loop-pc.pc = omega arith in
    reread c.args.code.now c.instrs-instrs.result.now c.loop-pc.text.items c.loop-pc.pc c.instrs-instrs.ensures.value c.instrs-instrs.ensures.program past c.loop-pc.invariant.words
    (sym (text_end c.instrs-instrs.result.now c.loop-pc.pc c.loop-pc.text.items past) ∙ c.loop-pc.invariant.printed)

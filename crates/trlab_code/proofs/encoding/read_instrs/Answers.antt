use Rattle.std.proofs.Common.{◌≡◌, ℕ, ◌*◌, [], ◌∷◌, ◌++◌, take, drop, subst, arith, flat_map}
use Rattle.std.proofs.lemmas.{Grind.common_steps, Result.err_from_is_err_and, List.Elements.All-push}
use Rattle.trlab_bounds.specs.declared.programs.TheConstants.{HEADER_BYTES, INSTR_BYTES}
use Rattle.trlab_code.specs.{Program.IsInRange, Encoding.instr_bytes, Faults.{IsValidBefore, stated_count}}
use Rattle.trlab_code.proofs.Rows.{rows_more, good_more}
use Rattle.trlab_code.proofs.encoding.read_instrs.Goals as goal

pub returns-in_err-instr-clause-fault : goal.returns-in_err-instr-clause-fault
returns-in_err-instr-clause-fault c = let p = err_from_is_err_and c.from_residual-in_err-instr.result c.from_residual-in_err-instr.ensures.1 in rw (p.1, p.2) c.in_err-instr.ensures

pub loop-pc-preserved : goal.loop-pc-preserved
loop-pc-preserved c =
    let kept = c.loop-pc.invariant in
    let spells = c.in_ok-instr.ensures in
    let pushed : c.push.new.self.items ≡ c.loop-pc.instrs.items ++ c.in_ok-instr.instr ∷ [] = grind (arith, common_steps) in
    record {
      before = good_more c.args.bytes.now c.loop-pc.pc c.in_ok-instr.instr kept.before spells;
      length = grind (arith, common_steps);
      in_range = rw pushed (All-push IsInRange c.loop-pc.instrs.items c.in_ok-instr.instr kept.in_range spells.1);
      spelt = rw pushed (rows_more c.args.bytes.now c.loop-pc.instrs.items c.loop-pc.pc c.in_ok-instr.instr kept.spelt spells.0);
    }

pub returns-clause-spelt : goal.returns-clause-spelt
returns-clause-spelt c =
    let all : c.loop-pc.pc ≡ stated_count c.args.bytes.now = omega arith in
    subst (λ (k : ℕ). flat_map instr_bytes c.loop-pc.instrs.items ≡ take (INSTR_BYTES * k) (drop HEADER_BYTES c.args.bytes.now)) all c.loop-pc.invariant.spelt

pub returns-clause-rows : goal.returns-clause-rows
returns-clause-rows c =
    let all : c.loop-pc.pc ≡ stated_count c.args.bytes.now = omega arith in
    subst (λ (k : ℕ). IsValidBefore c.args.bytes.now k) all c.loop-pc.invariant.before

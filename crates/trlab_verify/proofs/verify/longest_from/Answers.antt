use Rattle.std.proofs.Common.{◌≡◌, ℕ, ◌+◌, ◌<◌, ◌≤◌, length, arith, get_or, List, Some, slice_get}
use Rattle.std.proofs.lemmas.Option.{slice_get-get_or}
use Rattle.trlab_code.specs.declared.instruction.{Instr.{Instr, TheVariants.Num}, Register.TheVariants.R0}
use Rattle.trlab_code.specs.Flow.{target}
use Rattle.trlab_bounds.specs.declared.programs.TheConstants.{MAX_INSTRUCTIONS}
use Rattle.trlab_verify.proofs.Ways.{next_inside, target_inside, each_some, longest_found, way_short}
use Rattle.trlab_verify.proofs.verify.longest_from.Goals as goal

abbrev instr_at : List Instr → ℕ → Instr
instr_at code pc = get_or code pc (Num R0 0)

is_at : (code : List Instr) (pc : ℕ) → pc < length code → slice_get code pc ≡ Some (instr_at code pc)
is_at code pc h = slice_get-get_or code pc (Num R0 0) h

pub longest_of_next-next-requires : goal.longest_of_next-next-requires
longest_of_next-next-requires c = λ falls_on.
    let lt = next_inside c.args.instrs.now c.args.pc (instr_at c.args.instrs.now c.args.pc) c.requires.forward (is_at c.args.instrs.now c.args.pc c.requires.inside) falls_on in
    omega (arith, lt, c.requires.at_most_max_instructions)

pub longest_of_target-requires : goal.longest_of_target-requires
longest_of_target-requires c =
    each_some (target (instr_at c.args.instrs.now c.args.pc)) MAX_INSTRUCTIONS
    (λ t to. let lt = target_inside c.args.instrs.now c.args.pc t (instr_at c.args.instrs.now c.args.pc) c.requires.forward (is_at c.args.instrs.now c.args.pc c.requires.inside) to in omega (arith, lt, c.requires.at_most_max_instructions))

pub returns : goal.returns
returns c =
    longest_found c.args.instrs.now c.args.pc (instr_at c.args.instrs.now c.args.pc) (λ q. get_or c.args.longest.now q 0) c.longest_of_next-next.result c.longest_of_target.result c.max.result c.requires.forward (is_at c.args.instrs.now c.args.pc c.requires.inside) c.requires.later c.longest_of_next-next.ensures c.longest_of_target.ensures c.max.ensures

pub overflow_add-result : goal.overflow_add-result
overflow_add-result c =
    let l =
    longest_found c.args.instrs.now c.args.pc (instr_at c.args.instrs.now c.args.pc) (λ q. get_or c.args.longest.now q 0) c.longest_of_next-next.result c.longest_of_target.result c.max.result c.requires.forward (is_at c.args.instrs.now c.args.pc c.requires.inside) c.requires.later c.longest_of_next-next.ensures c.longest_of_target.ensures c.max.ensures in
    let short : c.max.result + 1 + c.args.pc ≤ length c.args.instrs.now = way_short c.args.instrs.now c.requires.forward (c.max.result + 1) c.args.pc l.way in
    omega (arith, short, c.requires.at_most_max_instructions)

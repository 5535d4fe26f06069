use Rattle.std.proofs.Common.{◌≡◌, ◌+◌, ◌<◌, ◌∙◌, ℕ, List, [], ◌∷◌, ◌++◌, append_assoc, get_or, take, refl}
use Rattle.std.proofs.{Common.{ap, length, arith, take_all, append-nil, flat_map}, lemmas.List.take_more}
use Rattle.std.proofs.lemmas.List.Concat.{flat_map-append}
use Rattle.trlab_code.specs.{declared.instruction.Instr.Instr, Program.version_of}
use Rattle.trlab_code.specs.Encoding.{encoding, header, instr_bytes, row_bytes}
use Rattle.trlab_code.proofs.encoding.encode.Goals as goal

pub overflow_cast-header : goal.overflow_cast-header
overflow_cast-header c = let same = ap length c.instrs-instrs.ensures.value in let few = c.instrs-instrs.ensures.program.few in omega (arith, same, few)

pub loop-instr-init : goal.loop-instr-init
loop-instr-init c = rw (c.in_ok-extend_from_slice.ensures.items, c.in_ok-bytes.ensures.items, c.bytes.ensures, c.version.ensures, c.kind.ensures, c.instrs-instrs.ensures.value)

pub returns : goal.returns
unfolding encoding
returns c =
    let whole : take c.loop-instr.instr-index c.instrs-instrs.result.now ≡ c.args.code.now.instrs = take_all _ _ c.loop-instr-test.false ∙ c.instrs-instrs.ensures.value in
    rw whole at c.loop-instr.invariant

-- one more instruction
more_spelt : (head bytes row : List ℕ) (instrs : List Instr) (k : ℕ) (item fill : Instr) → k < length instrs → item ≡ get_or instrs k fill
    → bytes ≡ head ++ flat_map instr_bytes (take k instrs) → row ≡ instr_bytes item → bytes ++ row ≡ head ++ flat_map instr_bytes (take (k + 1) instrs)
more_spelt head bytes row instrs k item fill on is before spelt =
    let whole : take (k + 1) instrs ≡ take k instrs ++ item ∷ [] = rw is (take_more instrs k fill on) in
    rw (whole, flat_map-append instr_bytes (take k instrs) (item ∷ []), append-nil, spelt, before) (append_assoc head (flat_map instr_bytes (take k instrs)) (instr_bytes item))

pub loop-instr-preserved : goal.loop-instr-preserved
loop-instr-preserved c = rw c.in_ok-extend_from_slice-2.ensures.items
    (more_spelt (header (version_of c.args.code.now) c.args.code.now.kind (length c.args.code.now.instrs)) _ _ c.instrs-instrs.result.now c.loop-instr.instr-index _ _ c.loop-instr-test.true refl c.loop-instr.invariant (c.bytes-in-loop-instr.ensures ∙ ap row_bytes c.row_of.ensures))

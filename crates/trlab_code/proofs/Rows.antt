-- Instructions read one after another.
use Rattle.std.proofs.Common.{◌≡◌, ℕ, ◌+◌, ◌*◌, List, [], ◌∷◌, ◌++◌, take, drop, arith, below_more, take-add}
use Rattle.std.proofs.{Common.{drop-drop, flat_map}, lemmas.List.Concat.flat_map-append}
use Rattle.trlab_code.specs.{declared.instruction.Instr.Instr, Encoding.{instr_bytes, EncodesInstr}}
use Rattle.trlab_code.specs.Faults.{IsValidBefore, EncodesSomeInstr, stated_version, row_at}

-- one more instruction
pub rows_more : (bytes : List ℕ) (instrs : List Instr) (pc : ℕ) (i : Instr) → flat_map instr_bytes instrs ≡ take (8 * pc) (drop 8 bytes) → row_at bytes pc ≡ instr_bytes i → flat_map instr_bytes (instrs ++ i ∷ []) ≡ take (8 * (pc + 1)) (drop 8 bytes)
rows_more bytes instrs pc i spelt here =
    let next : 8 * (pc + 1) ≡ 8 * pc + 8 = omega arith in
    let joined = flat_map-append instr_bytes instrs (i ∷ []) in
    let cut = take-add (8 * pc) 8 (drop 8 bytes) in
    let same = drop-drop (8 * pc) 8 bytes in
    cc

-- nothing is wrong before the next instruction
pub good_more : (bytes : List ℕ) (pc : ℕ) (i : Instr) → IsValidBefore bytes pc → EncodesInstr (stated_version bytes) i (row_at bytes pc) → IsValidBefore bytes (pc + 1)
good_more bytes pc i before here = record {
  header = before.header;
  room = before.room;
  rows = below_more (λ k. EncodesSomeInstr (stated_version bytes) (row_at bytes k)) pc before.rows (i, here);
}

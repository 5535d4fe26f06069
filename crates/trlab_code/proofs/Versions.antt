-- The version that bytes state, and whether the instructions that they spell need it.
use Rattle.std.proofs.Common.{◌≡◌, ◌≢◌, ◌∙◌, ℕ, ◌+◌, ◌-◌, ◌*◌, ◌<◌, List, Bool, true, false, cond, length}
use Rattle.std.proofs.Common.{take, drop, get_or, refl, sym, ap, arith, inl, inr, flat_map, drop-drop}
use Rattle.std.proofs.{Common.take-take, lemmas.{Bool.cases_Bool, List.drop-take}}
use Rattle.std.{proofs.lemmas.List.Folds.{Any-from_list_any, list_any_at}, specs.List.list_any}
use Rattle.trlab_code.specs.{declared.instruction.Instr.Instr, Program.{Program, reads_headspeed, version_of}}
use Rattle.trlab_code.specs.{declared.instruction.Instr.TheVariants.Stay, Faults.{stated_version, row_at}}
use Rattle.trlab_code.{specs.Encoding.instr_bytes, proofs.{Injective.same_instr, EncodedCode.row_is}}
use Rattle.trlab_code.specs.Faults.{IsValidBefore, HasHeadspeed, VersionIsNeeded, stated_count}

-- the row of an instruction, if the rows of the bytes are those of instructions
stated_row : (bytes : List ℕ) (instrs : List Instr) (count : ℕ) → length instrs ≡ count → flat_map instr_bytes instrs ≡ take (8 * count) (drop 8 bytes) → (k : ℕ) (d : Instr) → k < length instrs → row_at bytes k ≡ instr_bytes (get_or instrs k d)
stated_row bytes instrs count many rows k d h =
    let rest = 8 * (count - k) in
    let all : 8 * k + rest ≡ 8 * count = omega (arith, many) in
    ap (take 8) (sym (drop-drop (8 * k) 8 bytes))
    ∙ sym (take-take 8 rest (drop (8 * k) (drop 8 bytes)) (omega (arith, many)))
    ∙ ap (take 8) (sym (drop-take (8 * k) rest (drop 8 bytes)))
    ∙ ap (λ (n : ℕ). take 8 (drop (8 * k) (take n (drop 8 bytes)))) all
    ∙ ap (λ (row : List ℕ). take 8 (drop (8 * k) row)) (sym rows)
    ∙ row_is instrs k d h

module _ (bytes : List ℕ) (program : Program) (many : length program.instrs ≡ stated_count bytes) (rows : flat_map instr_bytes program.instrs ≡ take (8 * stated_count bytes) (drop 8 bytes)) where
  -- an instruction that reads the speed of the car ahead is one of the rows
  row_reads : HasHeadspeed bytes → list_any reads_headspeed program.instrs ≡ true
  row_reads h =
      let inside : h.0 < length program.instrs = omega (arith, many, h.2) in
      let same : h.1 ≡ get_or program.instrs h.0 Stay = same_instr (sym h.3 ∙ stated_row bytes program.instrs (stated_count bytes) many rows h.0 Stay inside) in
      list_any_at reads_headspeed program.instrs h.0 Stay inside (ap reads_headspeed (sym same) ∙ h.4)

  reads_row : list_any reads_headspeed program.instrs ≡ true → HasHeadspeed bytes
  reads_row e =
      let some = Any-from_list_any reads_headspeed program.instrs e in
      (some.0, some.1, omega (arith, many, some.2), stated_row bytes program.instrs (stated_count bytes) many rows some.0 some.1 some.2 ∙ ap instr_bytes some.3, some.4)

  -- valid rows contain an instruction of the second version only if the second version is stated
  second : IsValidBefore bytes (stated_count bytes) → HasHeadspeed bytes → stated_version bytes ≡ 2
  second good h =
      let row = good.rows h.0 h.2 in
      let same : row.0 ≡ h.1 = same_instr (sym row.1.0 ∙ h.3) in
      row.1.2 (ap reads_headspeed same ∙ h.4)

  version_by : IsValidBefore bytes (stated_count bytes) → VersionIsNeeded bytes → (b : Bool) → list_any reads_headspeed program.instrs ≡ b → cond b 2 1 ≡ stated_version bytes
  version_by good needs true e = sym (second good (reads_row e))
  version_by good needs false e = elim good.header.version [
    | inl first ↦ sym first
    | inr other ↦ let some = row_reads (needs other) in absurd cc
  ]

  -- the version that is needed is the one that is stated
  pub version_needed : IsValidBefore bytes (stated_count bytes) → VersionIsNeeded bytes → version_of program ≡ stated_version bytes
  version_needed good needs = version_by good needs (list_any reads_headspeed program.instrs) refl

  pub needless : IsValidBefore bytes (stated_count bytes) → version_of program ≢ stated_version bytes → ¬ (VersionIsNeeded bytes)
  needless good other needs = other (version_needed good needs)

  pub needs_version : version_of program ≡ stated_version bytes → VersionIsNeeded bytes
  needs_version same two = elim (cases_Bool (list_any reads_headspeed program.instrs)) [ inl some ↦ reads_row some | inr none ↦ absurd cc ]

-- Which bytes are opcodes.
use Rattle.std.proofs.{Common.{ℕ, zero, suc, ◌≤◌, ◌⊎◌, inl, inr, refl, arith}, lemmas.Bool.cases_lt}
use Rattle.trlab_code.specs.declared.instruction.{Input.TheVariants.Speed, Register.TheVariants.R0}
use Rattle.trlab_code.specs.declared.instruction.Instr.{Instr, TheVariants.{Num, Get, Side, Draw, Copy, Add}}
use Rattle.trlab_code.specs.declared.instruction.Instr.TheVariants.{Sub, Mul, Div, Min, Max, Not, And, Or}
use Rattle.trlab_code.specs.declared.instruction.Instr.TheVariants.{Jump, JumpLess, JumpAtMost, JumpTrue}
use Rattle.trlab_code.specs.declared.instruction.Instr.TheVariants.{JumpFalse, Go, Cross, Stay}
use Rattle.trlab_code.specs.Encoding.{IsOpcode, row_of}

-- an instruction of each opcode
pub opcode_of_one : (n : ℕ) → 1 ≤ n → n ≤ 22 → IsOpcode n
opcode_of_one zero low high = absurd (omega arith)
opcode_of_one (suc zero) low high = (Num R0 0, refl)
opcode_of_one (suc (suc zero)) low high = (Get R0 Speed, refl)
opcode_of_one (suc (suc (suc zero))) low high = (Side R0, refl)
opcode_of_one (suc (suc (suc (suc zero)))) low high = (Draw R0 0 0, refl)
opcode_of_one (suc (suc (suc (suc (suc zero))))) low high = (Copy R0 R0, refl)
opcode_of_one (suc (suc (suc (suc (suc (suc zero)))))) low high = (Add R0 R0 R0, refl)
opcode_of_one (suc (suc (suc (suc (suc (suc (suc zero))))))) low high = (Sub R0 R0 R0, refl)
opcode_of_one (suc (suc (suc (suc (suc (suc (suc (suc zero)))))))) low high = (Mul R0 R0 0, refl)
opcode_of_one (suc (suc (suc (suc (suc (suc (suc (suc (suc zero))))))))) low high = (Div R0 R0 0, refl)
opcode_of_one (suc (suc (suc (suc (suc (suc (suc (suc (suc (suc zero)))))))))) low high = (Min R0 R0 R0, refl)
opcode_of_one (suc (suc (suc (suc (suc (suc (suc (suc (suc (suc (suc zero))))))))))) low high = (Max R0 R0 R0, refl)
opcode_of_one (suc (suc (suc (suc (suc (suc (suc (suc (suc (suc (suc (suc zero)))))))))))) low high = (Not R0 R0, refl)
opcode_of_one (suc (suc (suc (suc (suc (suc (suc (suc (suc (suc (suc (suc (suc zero))))))))))))) low high = (And R0 R0 R0, refl)
opcode_of_one (suc (suc (suc (suc (suc (suc (suc (suc (suc (suc (suc (suc (suc (suc zero)))))))))))))) low high = (Or R0 R0 R0, refl)
opcode_of_one (suc (suc (suc (suc (suc (suc (suc (suc (suc (suc (suc (suc (suc (suc (suc zero))))))))))))))) low high = (Jump 0, refl)
opcode_of_one (suc (suc (suc (suc (suc (suc (suc (suc (suc (suc (suc (suc (suc (suc (suc (suc zero)))))))))))))))) low high = (JumpLess R0 R0 0, refl)
opcode_of_one (suc (suc (suc (suc (suc (suc (suc (suc (suc (suc (suc (suc (suc (suc (suc (suc (suc zero))))))))))))))))) low high = (JumpAtMost R0 R0 0, refl)
opcode_of_one (suc (suc (suc (suc (suc (suc (suc (suc (suc (suc (suc (suc (suc (suc (suc (suc (suc (suc zero)))))))))))))))))) low high = (JumpTrue R0 0, refl)
opcode_of_one (suc (suc (suc (suc (suc (suc (suc (suc (suc (suc (suc (suc (suc (suc (suc (suc (suc (suc (suc zero))))))))))))))))))) low high = (JumpFalse R0 0, refl)
opcode_of_one (suc (suc (suc (suc (suc (suc (suc (suc (suc (suc (suc (suc (suc (suc (suc (suc (suc (suc (suc (suc zero)))))))))))))))))))) low high = (Go R0, refl)
opcode_of_one (suc (suc (suc (suc (suc (suc (suc (suc (suc (suc (suc (suc (suc (suc (suc (suc (suc (suc (suc (suc (suc zero))))))))))))))))))))) low high = (Cross, refl)
opcode_of_one (suc (suc (suc (suc (suc (suc (suc (suc (suc (suc (suc (suc (suc (suc (suc (suc (suc (suc (suc (suc (suc (suc zero)))))))))))))))))))))) low high = (Stay, refl)
opcode_of_one (suc (suc (suc (suc (suc (suc (suc (suc (suc (suc (suc (suc (suc (suc (suc (suc (suc (suc (suc (suc (suc (suc (suc n))))))))))))))))))))))) low high = absurd (omega arith)

-- opcodes are 1 to 22
opcode_high : (i : Instr) → (row_of i).opcode ≤ 22
opcode_high (Num d n) = omega arith
opcode_high (Get d k) = omega arith
opcode_high (Side d) = omega arith
opcode_high (Draw d k t) = omega arith
opcode_high (Copy d a) = omega arith
opcode_high (Add d a b) = omega arith
opcode_high (Sub d a b) = omega arith
opcode_high (Mul d a n) = omega arith
opcode_high (Div d a n) = omega arith
opcode_high (Min d a b) = omega arith
opcode_high (Max d a b) = omega arith
opcode_high (Not d a) = omega arith
opcode_high (And d a b) = omega arith
opcode_high (Or d a b) = omega arith
opcode_high (Jump t) = omega arith
opcode_high (JumpLess a b t) = omega arith
opcode_high (JumpAtMost a b t) = omega arith
opcode_high (JumpTrue a t) = omega arith
opcode_high (JumpFalse a t) = omega arith
opcode_high (Go a) = omega arith
opcode_high Cross = omega arith
opcode_high Stay = omega arith

opcode_low : (i : Instr) → 1 ≤ (row_of i).opcode
opcode_low (Num d n) = omega arith
opcode_low (Get d k) = omega arith
opcode_low (Side d) = omega arith
opcode_low (Draw d k t) = omega arith
opcode_low (Copy d a) = omega arith
opcode_low (Add d a b) = omega arith
opcode_low (Sub d a b) = omega arith
opcode_low (Mul d a n) = omega arith
opcode_low (Div d a n) = omega arith
opcode_low (Min d a b) = omega arith
opcode_low (Max d a b) = omega arith
opcode_low (Not d a) = omega arith
opcode_low (And d a b) = omega arith
opcode_low (Or d a b) = omega arith
opcode_low (Jump t) = omega arith
opcode_low (JumpLess a b t) = omega arith
opcode_low (JumpAtMost a b t) = omega arith
opcode_low (JumpTrue a t) = omega arith
opcode_low (JumpFalse a t) = omega arith
opcode_low (Go a) = omega arith
opcode_low Cross = omega arith
opcode_low Stay = omega arith

pub opcode_or_not : (n : ℕ) → IsOpcode n ⊎ (¬ (IsOpcode n))
opcode_or_not n =
    elim (cases_lt n 1) [
      | inl none ↦ inr (λ h. let low = opcode_low h.0 in let e = h.1 in absurd (omega arith))
      | inr low ↦ elim (cases_lt n 23) [
        | inl high ↦ inl (opcode_of_one n low (omega arith))
        | inr above ↦ inr (λ h. let high = opcode_high h.0 in let e = h.1 in absurd (omega arith))
      ]
    ]

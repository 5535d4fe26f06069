-- The encoding of a program consists of bytes.
use Rattle.std.proofs.Common.{ℕ, Bool, true, false, cond, ◌/◌, ◌%◌, ◌^◌, ◌<◌, ◌≤◌, List, [], ◌∷◌, All, length}
use Rattle.std.proofs.Common.{arith, flat_map}
use Rattle.std.proofs.lemmas.List.Elements.{All-cons, All-append, All-head, All-tail}
use Rattle.trlab_code.specs.declared.program.Kind.{Kind, TheVariants.{Motion, Change}}
use Rattle.trlab_code.specs.declared.instruction.Register.{Register, TheVariants.{R0, R1, R2, R3, R4, R5, R6}}
use Rattle.trlab_code.specs.declared.instruction.{Register.TheVariants.R7, Input.{Input, TheVariants.Speed}}
use Rattle.trlab_code.specs.declared.instruction.Input.TheVariants.{Limit, Gap, SideGap, SideBack, Lane}
use Rattle.trlab_code.specs.declared.instruction.{Input.TheVariants.Headspeed, Instr.{Instr, TheVariants.Num}}
use Rattle.trlab_code.specs.declared.instruction.Instr.TheVariants.{Get, Side, Draw, Copy, Add, Sub, Mul, Div}
use Rattle.trlab_code.specs.declared.instruction.Instr.TheVariants.{Min, Max, Not, And, Or, Jump, JumpLess}
use Rattle.trlab_code.specs.declared.instruction.Instr.TheVariants.{JumpAtMost, JumpTrue, JumpFalse, Go}
use Rattle.trlab_code.specs.{declared.instruction.Instr.TheVariants.{Cross, Stay}, Program.Program}
use Rattle.trlab_code.specs.{Program.{IsInRange, version_of}, Machine.{register_number, input_number}}
use Rattle.trlab_code.specs.Encoding.{kind_byte, row, row_bytes, instr_bytes, header, encoding}
use Rattle.trlab_code.specs.Laws.{AreBytes, FitsIn32Bits, IsRepresentable}

-- the same as a record, so that its type determines the list
record Small (bytes : List ℕ) : Type 0 where
  all : AreBytes bytes

none : Small []
none = record { all = λ k d h. absurd (omega arith) }

more : (n : ℕ) {ns : List ℕ} → n < 2 ^ 8 → Small ns → Small (n ∷ ns)
more n {ns} h small = record { all = All-cons (λ b. b < 2 ^ 8) n ns h small.all }

register_small : (r : Register) → register_number r < 2 ^ 8
register_small R0 = omega arith
register_small R1 = omega arith
register_small R2 = omega arith
register_small R3 = omega arith
register_small R4 = omega arith
register_small R5 = omega arith
register_small R6 = omega arith
register_small R7 = omega arith

input_small : (k : Input) → input_number k < 2 ^ 8
input_small Speed = omega arith
input_small Limit = omega arith
input_small Gap = omega arith
input_small SideGap = omega arith
input_small SideBack = omega arith
input_small Lane = omega arith
input_small Headspeed = omega arith

row_small : (opcode a b c n : ℕ) → opcode < 2 ^ 8 → a < 2 ^ 8 → b < 2 ^ 8 → c < 2 ^ 8 → n < 2 ^ 32 → Small (row_bytes (row opcode a b c n))
row_small opcode a b c n f g h i small =
    more opcode f (more a g (more b h (more c i
    (more (n % 256) (omega arith) (more (n / 256 % 256) (omega arith) (more (n / 256 ^ 2 % 256) (omega arith) (more (n / 256 ^ 3) (omega arith) none)))))))

instr_bytes_small : (i : Instr) → IsInRange i → FitsIn32Bits i → Small (instr_bytes i)
instr_bytes_small (Num d n) fits word = row_small _ _ _ _ _ (omega arith) (register_small d) (omega arith) (omega arith) word
instr_bytes_small (Get d k) fits word = row_small _ _ _ _ _ (omega arith) (register_small d) (input_small k) (omega arith) word
instr_bytes_small (Side d) fits word = row_small _ _ _ _ _ (omega arith) (register_small d) (omega arith) (omega arith) word
instr_bytes_small (Draw d k t) fits word = row_small _ _ _ _ _ (omega arith) (register_small d) (omega (arith, fits.0)) (omega arith) word
instr_bytes_small (Copy d a) fits word = row_small _ _ _ _ _ (omega arith) (register_small d) (register_small a) (omega arith) word
instr_bytes_small (Add d a b) fits word = row_small _ _ _ _ _ (omega arith) (register_small d) (register_small a) (register_small b) word
instr_bytes_small (Sub d a b) fits word = row_small _ _ _ _ _ (omega arith) (register_small d) (register_small a) (register_small b) word
instr_bytes_small (Mul d a n) fits word = row_small _ _ _ _ _ (omega arith) (register_small d) (register_small a) (omega arith) word
instr_bytes_small (Div d a n) fits word = row_small _ _ _ _ _ (omega arith) (register_small d) (register_small a) (omega arith) word
instr_bytes_small (Min d a b) fits word = row_small _ _ _ _ _ (omega arith) (register_small d) (register_small a) (register_small b) word
instr_bytes_small (Max d a b) fits word = row_small _ _ _ _ _ (omega arith) (register_small d) (register_small a) (register_small b) word
instr_bytes_small (Not d a) fits word = row_small _ _ _ _ _ (omega arith) (register_small d) (register_small a) (omega arith) word
instr_bytes_small (And d a b) fits word = row_small _ _ _ _ _ (omega arith) (register_small d) (register_small a) (register_small b) word
instr_bytes_small (Or d a b) fits word = row_small _ _ _ _ _ (omega arith) (register_small d) (register_small a) (register_small b) word
instr_bytes_small (Jump t) fits word = row_small _ _ _ _ _ (omega arith) (omega arith) (omega arith) (omega arith) word
instr_bytes_small (JumpLess a b t) fits word = row_small _ _ _ _ _ (omega arith) (register_small a) (register_small b) (omega arith) word
instr_bytes_small (JumpAtMost a b t) fits word = row_small _ _ _ _ _ (omega arith) (register_small a) (register_small b) (omega arith) word
instr_bytes_small (JumpTrue a t) fits word = row_small _ _ _ _ _ (omega arith) (register_small a) (omega arith) (omega arith) word
instr_bytes_small (JumpFalse a t) fits word = row_small _ _ _ _ _ (omega arith) (register_small a) (omega arith) (omega arith) word
instr_bytes_small (Go a) fits word = row_small _ _ _ _ _ (omega arith) (register_small a) (omega arith) (omega arith) word
instr_bytes_small Cross fits word = row_small _ _ _ _ _ (omega arith) (omega arith) (omega arith) (omega arith) word
instr_bytes_small Stay fits word = row_small _ _ _ _ _ (omega arith) (omega arith) (omega arith) (omega arith) word

rows_small : (instrs : List Instr) → All IsInRange instrs → All FitsIn32Bits instrs → AreBytes (flat_map instr_bytes instrs)
rows_small [] fit words = none.all
rows_small (i ∷ instrs) fit words =
    All-append (λ b. b < 2 ^ 8) (instr_bytes i) (flat_map instr_bytes instrs)
    (instr_bytes_small i (All-head IsInRange i instrs fit) (All-head FitsIn32Bits i instrs words)).all
    (rows_small instrs (All-tail IsInRange i instrs fit) (All-tail FitsIn32Bits i instrs words))

kind_byte_small : (kind : Kind) → kind_byte kind < 2 ^ 8
kind_byte_small Motion = omega arith
kind_byte_small Change = omega arith

-- the two versions are bytes
version_small : (b : Bool) → cond b 2 1 < 2 ^ 8
version_small true = omega arith
version_small false = omega arith

header_small : (version : ℕ) (kind : Kind) (count : ℕ) → version < 2 ^ 8 → count ≤ 128 → Small (header version kind count)
header_small version kind count low few =
    more 84 (omega arith) (more 82 (omega arith) (more 76 (omega arith) (more 66 (omega arith) (more version low
    (more (kind_byte kind) (kind_byte_small kind) (more (count % 256) (omega arith) (more (count / 256) (omega arith) none)))))))

pub spelling_bytes : (program : Program) → IsRepresentable program → AreBytes (encoding program)
unfolding encoding
spelling_bytes program stored =
    All-append (λ b. b < 2 ^ 8) (header (version_of program) program.kind (length program.instrs)) (flat_map instr_bytes program.instrs)
    (header_small (version_of program) program.kind (length program.instrs) (version_small _) stored.is_program.few).all
    (rows_small program.instrs stored.is_program.in_range stored.has_words)

-- Rules with the same encodings are equal.
use Rattle.std.proofs.Common.{◌≡◌, ◌∙◌, ℕ, ◌≤◌, [], refl, sym, ap, subst, arith, List, Option, Some, None}
use Rattle.std.proofs.Common.{IfSome}
use Rattle.trlab_code.specs.declared.program.Kind.{Kind, TheVariants.{Motion, Change}}
use Rattle.trlab_code.specs.{declared.instruction.Instr.Instr, Program.Program, Encoding.encoding}
use Rattle.trlab_code.proofs.Injective.{same_program}
use Rattle.trlab_verify.specs.{Verified.{CheckedProgram, IsChecked}, Verdict.IsLongest}
use Rattle.trlab_rules.specs.Rules.{Programs}
use Rattle.trlab_sequential_book.specs.Encoded.{IsEncoded, change_bytes}

-- a program has one longest path
one_longest : (code : List Instr) (n m : ℕ) → IsLongest code 0 n → IsLongest code 0 m → n ≡ m
one_longest code n m p q =
    let up : n ≤ m = q.most n p.way in
    let down : m ≤ n = p.most m q.way in
    omega arith

same_checked : (kind : Kind) (p q : CheckedProgram) → IsChecked kind p → IsChecked kind q → encoding p.program ≡ encoding q.program → p ≡ q
same_checked kind p q a b bytes =
    let program = same_program p.program q.program bytes in
    let long = subst (λ (r : Program). IsLongest r.instrs 0 p.budget) program a.longest in
    let budget = one_longest q.program.instrs p.budget q.budget long b.longest in
    let make : Program → ℕ → CheckedProgram = λ r n. record { program = r; budget = n } in
    ap (λ r. make r p.budget) program ∙ ap (make q.program) budget

-- an encoding has at least one byte
some_bytes : (p : Program) → [] ≡ encoding p → ⊥
unfolding encoding
some_bytes p h = cc

same_change : (c d : Option CheckedProgram) → IfSome c (IsChecked Change) → IfSome d (IsChecked Change) → change_bytes c ≡ change_bytes d → c ≡ d
same_change None None a b bytes = refl
same_change (Some c) (Some d) a b bytes = ap Some (same_checked Change c d a b bytes)
same_change None (Some d) a b bytes = absurd (some_bytes d.program bytes)
same_change (Some c) None a b bytes = absurd (some_bytes c.program (sym bytes))

-- equal bytes encode equal rules
pub same_rule : (p q : Programs) (m c n d : List ℕ) → IsEncoded p m c → IsEncoded q n d → m ≡ n → c ≡ d → p ≡ q
same_rule p q m c n d s t motion change =
    let make : CheckedProgram → Option CheckedProgram → Programs = λ a b. record { motion = a; change = b } in
    let first = same_checked Motion p.motion q.motion s.is_rule.motion t.is_rule.motion (sym s.motion ∙ motion ∙ t.motion) in
    let second = same_change p.change q.change s.is_rule.change t.is_rule.change (sym s.change ∙ change ∙ t.change) in
    ap (λ a. make a p.change) first ∙ ap (make q.motion) second

-- equal rules have equal bytes
pub same_bytes : (p q : Programs) (m c n d : List ℕ) → IsEncoded p m c → IsEncoded q n d → p ≡ q → (m ≡ n) × (c ≡ d)
same_bytes p q m c n d s t same = (
  s.motion ∙ ap (λ (r : Programs). encoding r.motion.program) same ∙ sym t.motion,
  s.change ∙ ap (λ (r : Programs). change_bytes r.change) same ∙ sym t.change,
)

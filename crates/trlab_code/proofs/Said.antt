-- Bytes have only one meaning.
use Rattle.std.proofs.Common.{◌≡◌, ◌↔◌, ℕ, List, Result, Ok, Err, refl, sym, ap, ◌∙◌, subst}
use Rattle.trlab_code.specs.{declared.fault.CodeFault.CodeFault, Program.{Program, IsValidProgram}}
use Rattle.trlab_code.specs.{Encoding.encoding, Faults.IsFirstCodeFault, Laws.BytesMean}
use Rattle.trlab_code.proofs.{Injective.same_program, EncodedCode.no_fault, Apart.one_fault}

-- bytes that spell a program have no first fault
not_both : (bytes : List ℕ) (program : Program) (f : CodeFault) → BytesMean bytes (Ok program) → BytesMean bytes (Err f) → ⊥
not_both bytes program f says faulty =
    let P : List ℕ → Type 0 = λ b. IsFirstCodeFault b f in
    faulty.1 (no_fault program f says.1 (subst P says.0 faulty.0))

pub one_thing : (bytes : List ℕ) (said other : Result Program CodeFault) → BytesMean bytes said → BytesMean bytes other → said ≡ other
one_thing bytes (Ok p) (Ok q) s t = ap Ok (same_program p q (sym s.0 ∙ t.0))
one_thing bytes (Ok p) (Err f) s t = absurd (not_both bytes p f s t)
one_thing bytes (Err f) (Ok p) s t = absurd (not_both bytes p f t s)
one_thing bytes (Err f) (Err g) s t = ap Err (one_fault bytes f g s.0 t.0 s.1 t.1)

pub same_again : (program : Program) (said : Result Program CodeFault) → IsValidProgram program → BytesMean (encoding program) said ↔ (said ≡ Ok program)
same_again program said is =
    let itself : BytesMean (encoding program) (Ok program) = (refl, is) in
    (λ s. one_thing (encoding program) said (Ok program) s itself, λ e. rw e itself)

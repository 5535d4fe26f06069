-- An accepted program is of its kind, and its control only goes forward.
use Rattle.std.proofs.Common.{◌≡◌, ℕ, zero, suc, ◌<◌, ◌&&◌, refl, arith, inl, inr, List, length, Bool, true}
use Rattle.std.proofs.Common.{false, IsTrue, Option, Some, None, nat_eq, nat_le, slice_get, eqb-true}
use Rattle.std.proofs.{Common.leb-false, lemmas.Option.slice_get_within}
use Rattle.trlab_code.specs.declared.program.Kind.{Kind, TheVariants.{Motion, Change}}
use Rattle.trlab_code.specs.declared.instruction.Instr.{Instr, TheVariants.{Go, Cross, Stay}}
use Rattle.trlab_code.specs.{Program.{Program, IsValidProgram}, Flow.{target, falls, is_end, on_target}}
use Rattle.trlab_notes.{specs.{Reasons.is_of_kind, Notes.Note}, proofs.Steps.{IsClear, clear, not_false}}
use Rattle.trlab_verify.specs.{Verified.IsChecked, Verdict.{HasPath, IsLongest, IsForward, IsAccepted}}
use Rattle.trlab_verify.proofs.{Reasons.noted, Runs.sound, Ways.{either_of, both_of}}

-- an instruction with no fault has a note with no reason against it
pub all_clear : (kind : Kind) (program : Program) → IsAccepted kind program → (pc : ℕ) (i : Instr) →
    slice_get program.instrs pc ≡ Some i → (m : Note) × IsClear kind program.kind (length program.instrs) pc m i
all_clear kind program accepted pc i e =
    let (m, em, h) = noted kind program pc i e (accepted pc (slice_get_within program.instrs pc i e)) in
    (m, clear kind program.kind (length program.instrs) pc m i h)

-- an end is allowed only in programs of one kind
end_kind : (kind own : Kind) (i : Instr) → is_end i ≡ true → is_of_kind kind own i ≡ true → own ≡ kind
end_kind Motion Motion i e h = refl
end_kind Change Change i e h = refl
end_kind Motion Change (Go a) e h = absurd (cc h)
end_kind Motion Change Cross e h = absurd (cc h)
end_kind Motion Change Stay e h = absurd (cc h)
end_kind Motion Change i e h = absurd (cc e)
end_kind Change Motion (Go a) e h = absurd (cc h)
end_kind Change Motion Cross e h = absurd (cc h)
end_kind Change Motion Stay e h = absurd (cc h)
end_kind Change Motion i e h = absurd (cc e)

way_end : (code : List Instr) (n pc : ℕ) → HasPath code pc n →
    (q : ℕ) × ((i : Instr) × (slice_get code q ≡ Some i) × IsTrue (is_end i))
way_end code zero pc w = absurd w
way_end code (suc zero) pc w = (pc, w)
way_end code (suc (suc n)) pc (q, f, w) = way_end code (suc n) q w

kind_is : (kind : Kind) (program : Program) (n : ℕ) → IsAccepted kind program → HasPath program.instrs 0 n → program.kind ≡ kind
kind_is kind program n accepted w =
    let (q, (i, e, end)) = way_end program.instrs n 0 w in
    let (m, c) = all_clear kind program accepted q i e in
    end_kind kind program.kind i end (not_false _ c.allowed)

pub target_ahead : (t : Option ℕ) (len pc q : ℕ) → on_target (λ t. nat_le t pc) t ≡ false →
    on_target (λ t. nat_le len t) t ≡ false → on_target (nat_eq q) t ≡ true → (pc < q) × (q < len)
target_ahead None len pc q forward within e = absurd (cc e)
target_ahead (Some t) len pc q forward within e =
    let same : q ≡ t = eqb-true q t e in
    let above : pc < t = leb-false t pc forward in
    let below : t < len = leb-false len t within in
    (omega arith, omega arith)

pub next_ahead : (b : Bool) (len pc q : ℕ) → (b && nat_le len (suc pc)) ≡ false → b ≡ true → nat_eq q (suc pc) ≡ true →
    (pc < q) × (q < len)
next_ahead false len pc q h b e = absurd (cc b)
next_ahead true len pc q h b e =
    let same : q ≡ suc pc = eqb-true q (suc pc) e in
    let below : suc pc < len = leb-false len (suc pc) h in
    (omega arith, omega arith)

-- control only goes forward in an accepted program
pub forward : (kind : Kind) (program : Program) → IsAccepted kind program → IsForward program.instrs
forward kind program accepted pc q (i, e, h) =
    let (m, c) = all_clear kind program accepted pc i e in
    elim (either_of (falls i && nat_eq q (suc pc)) (on_target (nat_eq q) (target i)) h) [
      | inl next ↦ let f = both_of (falls i) (nat_eq q (suc pc)) next in next_ahead (falls i) (length program.instrs) pc q c.follows f.0 f.1
      | inr jumps ↦ target_ahead (target i) (length program.instrs) pc q c.forward c.within jumps
    ]

-- an accepted program with its longest path is a checked program
pub checked : (kind : Kind) (program : Program) (budget : ℕ) → IsValidProgram program → IsAccepted kind program →
    IsLongest program.instrs 0 budget → IsChecked kind (record { program = program; budget = budget })
checked kind program budget is accepted longest = record {
  program = is;
  kind_is = kind_is kind program budget accepted longest.way;
  forward = forward kind program accepted;
  safe = sound kind program budget accepted longest;
  longest = longest;
}

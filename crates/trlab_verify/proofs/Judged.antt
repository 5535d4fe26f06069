-- Each program is rejected, or it is accepted and has a longest path, and with it is a checked program.
use Rattle.std.proofs.Common.{◌≡◌, ℕ, zero, suc, ◌+◌, ◌<◌, ◌≤◌, ◌⊎◌, inl, inr, refl, arith, max, cond, length}
use Rattle.std.proofs.{Common.{List, Option, Some, None, subst, slice_get}, lemmas.Bool.cases_lt}
use Rattle.std.proofs.lemmas.Option.{slice_get-get_or}
use Rattle.trlab_code.specs.declared.{program.Kind.Kind, instruction.Instr.{Instr, TheVariants.Stay}}
use Rattle.trlab_code.specs.{Flow.{falls, target}, Program.{Program, IsValidProgram}}
use Rattle.trlab_verify.specs.Verified.{IsChecked}
use Rattle.trlab_verify.specs.Verdict.{Follows, IsLongest, IsForward, IsAccepted, IsRefused, reason_number_at}
use Rattle.trlab_verify.proofs.{Accepted.{checked, forward}, Ways.{of_target, longest_is}}

module _ (kind : Kind) (program : Program) where
  abbrev Refused : Type 0
  Refused = (at : ℕ) × (reason : ℕ) × IsRefused kind program at reason

  -- no instruction up to n has a fault, or the program is rejected
  judged : (n : ℕ) → n ≤ length program.instrs → ((pc : ℕ) → pc < n → reason_number_at kind program pc ≡ None) ⊎ Refused
  judged zero le = inl (λ pc lt. absurd (omega arith))
  judged (suc n) le = elim (judged n (omega arith)) [
    | inl clear ↦ at clear (reason_number_at kind program n) refl
    | inr refused ↦ inr refused
  ]
    where
      at : ((pc : ℕ) → pc < n → reason_number_at kind program pc ≡ None) → (o : Option ℕ) → reason_number_at kind program n ≡ o →
          ((pc : ℕ) → pc < suc n → reason_number_at kind program pc ≡ None) ⊎ Refused
      at clear None e = inl (λ pc lt. elim (cases_lt pc n) [
        | inl less ↦ clear pc less
        | inr ge ↦ let same : n ≡ pc = omega arith in subst (λ z. reason_number_at kind program z ≡ None) same e
      ])
      at clear (Some reason) e = inr (n, reason, record { within = le; here = e; first = clear })

  pub accepted_or_refused : IsAccepted kind program ⊎ ((at : ℕ) × (reason : ℕ) × IsRefused kind program at reason)
  accepted_or_refused = judged (length program.instrs) (omega arith)

-- each place of the code has an instruction
none_within : (code : List Instr) (pc : ℕ) → pc < length code → slice_get code pc ≡ None → ⊥
none_within code pc within e = let stands = slice_get-get_or code pc Stay within in cc

-- the longest path from pc, if an instruction is there, from the longest paths of the instructions after it
longest_here : (code : List Instr) (pc : ℕ) (longest : ℕ → ℕ) (o : Option Instr) → slice_get code pc ≡ o
    → (n : ℕ) × (pc < length code → ((q : ℕ) → Follows code pc q → IsLongest code q (longest q)) → IsLongest code pc n)
longest_here code pc longest None e = (0, λ within later. absurd (none_within code pc within e))
longest_here code pc longest (Some i) e =
    (suc (max (cond (falls i) (longest (suc pc)) 0) (of_target longest (target i))), λ within later. longest_is code pc i longest e later)

-- the longest path from pc, for one of the last k places of a code whose control only goes forward
longest_of_last : (code : List Instr) → IsForward code → (k pc : ℕ)
    → (n : ℕ) × (pc < length code → length code ≤ pc + k → IsLongest code pc n)
longest_of_last code forward zero pc = (0, λ within last. absurd (omega arith))
longest_of_last code forward (suc k) pc =
    let behind : (q : ℕ) → (n : ℕ) × (q < length code → length code ≤ q + k → IsLongest code q n) = longest_of_last code forward k in
    let here = longest_here code pc (λ q. (behind q).0) (slice_get code pc) refl in
    (here.0, λ within last. here.1 within (λ q follows. let ahead = forward pc q follows in (behind q).1 ahead.1 (omega (arith, ahead.0))))

-- an accepted program has a longest path, and with it is a checked program
pub some_budget : (kind : Kind) (program : Program) → IsValidProgram program → IsAccepted kind program
    → (budget : ℕ) × IsChecked kind (record { program = program; budget = budget })
some_budget kind program is accepted =
    let found = longest_of_last program.instrs (forward kind program accepted) (length program.instrs) 0 in
    (found.0, checked kind program found.0 is accepted (found.1 is.some (omega arith)))

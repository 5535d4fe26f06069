-- Sheets of one entry.
use Rattle.std.proofs.Common.{◌≡◌, ℕ, [], ◌∷◌, length, arith, ap, slice_get, Some, None}
use Rattle.trlab_rules.specs.Rules.{Programs}
use Rattle.trlab_step.specs.Run.{Sheet}

-- a sheet of one entry is the list of its first
pub one_entry : (sheet : Sheet) (from : ℕ) (rule : Programs) → length sheet ≡ 1 → slice_get sheet 0 ≡ Some (from, rule) → sheet ≡ (from, rule) ∷ []
one_entry [] from rule size first = absurd (omega (arith, size))
one_entry (entry ∷ []) from rule size first = ap (λ e. e ∷ []) (some_same entry (from, rule) first)
  where
    some_same : (a b : ℕ × Programs) → Some a ≡ Some b → a ≡ b
    some_same a b same = ap (λ o. elim o [ None ↦ a | Some x ↦ x ]) same
one_entry (entry ∷ more ∷ rest) from rule size first = absurd (omega (arith, size))

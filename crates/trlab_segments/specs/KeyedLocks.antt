-- The invariant of a lock with one word and one slot: while the word is 0, no thread has the value, and it is
-- in the slot. The lock guarantees that `Fits` holds for the value.
use Rattle.std.specs.Prelude.{◌≡◌, ℕ, ◌∷◌, [], Option, Some, slice_index, length}
use mathlib.Core.Option.{some}
use lib.ListN.{get_elem?}
use Rattle.atomic_table.specs.Table.{State, Me}

module _ {T K : Type 0} where
  -- the slot of the lock holds a value for which `Fits` holds
  abbrev pub HoldsFittingValue : (T → Type 0) → State (Option T) K → Type 0
  HoldsFittingValue Fits state =
      (value : T) × (get_elem? state.homes 0 ≡ some (some (Some value))) × Fits value

  -- the lock invariant, before and after each atomic step: there is one word, and while this word is 0, the
  -- slot holds a value for which `Fits` holds
  abbrev pub SatisfiesLockInvariant : (T → Type 0) → State (Option T) K → Type 0
  SatisfiesLockInvariant Fits state =
      (length state.words ≡ 1) × (slice_index state.words 0 ≡ 0 → HoldsFittingValue Fits state)

  -- a thread has taken the slot, with a value in it for which `Fits` holds, and no other slot
  abbrev pub HasTakenValue : (T → Type 0) → Me (Option T) K → Type 0
  HasTakenValue Fits thread = (value : T) × (thread.1 ≡ (0, Some value) ∷ []) × Fits value

  -- a thread that finds 0 in the word takes the slot, with a value for which `Fits` holds; a thread that
  -- finds another number must try again
  abbrev pub Acquires : (T → Type 0) → ℕ → Me (Option T) K → Type 0
  Acquires Fits found thread = found ≡ 0 → HasTakenValue Fits thread

  -- a thread has taken the slot, which may be empty by now, and no other slot
  abbrev pub HasTakenSlot : Me (Option T) K → Type 0
  HasTakenSlot thread = (held : Option T) × (thread.1 ≡ (0, held) ∷ [])

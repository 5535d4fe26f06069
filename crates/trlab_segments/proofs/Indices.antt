-- The index at which each ticket is in a list, noted one ticket after another.
use Rattle.std.proofs.Common.{◌≡◌, ℕ, zero, suc, ◌+◌, ◌<◌, ◌≤◌, eqb, cond, Bool, false, inl, inr, List, []}
use Rattle.std.proofs.Common.{◌∷◌, length, get_or, set, take, map, refl, sym, ap, ◌∙◌, subst, arith, eq-eqb}
use Rattle.std.proofs.Common.{get_or-set_other, take_all, Some, slice_get, option_map}
use Rattle.std.proofs.lemmas.{Grind.get_or-set_at, Bool.Decides.{nat_tests, eqb_tells}}
use Rattle.std.proofs.lemmas.List.Sums.{sum_by-cons, count_by_more_no}
use Rattle.std.proofs.lemmas.Option.{slice_get-map, slice_get_read, slice_get_within, get_or_from_slice_get}
use Rattle.trlab_segments.specs.{declared.parts.Part.Part, Answered.ticket_of}
use Rattle.trlab_segments.{specs.Knowledge.{IsPermutation, occurrences}, proofs.Steps.whole_has}
use Rattle.trlab_strands.specs.Knowledge.{once_below}

-- the index of each ticket among the first `seen` tickets has been noted
abbrev pub HasNoted : List ℕ → ℕ → List ℕ → Type 0
HasNoted tickets seen indices =
    (ticket : ℕ) → 0 < occurrences ticket (take seen tickets) → slice_get tickets (get_or indices ticket 0) ≡ Some ticket

abbrev as_count : Bool → ℕ
as_count b = cond b 1 0

times_cons : (k x : ℕ) (xs : List ℕ) → occurrences k (x ∷ xs) ≡ cond (eqb x k) 1 0 + occurrences k xs
times_cons k x xs = sum_by-cons (λ (ticket : ℕ). cond (eqb ticket k) 1 0) x xs

occurs : (xs : List ℕ) (i k : ℕ) → slice_get xs i ≡ Some k → 0 < occurrences k xs
occurs [] i k e = cc
occurs (x ∷ xs) zero k e =
    let same : x ≡ k = cc in
    let more : occurrences k (x ∷ xs) ≡ cond (eqb x k) 1 0 + occurrences k xs = times_cons k x xs in
    let one = ap (λ (b : Bool). as_count b) (eq-eqb x k same) in
    omega (arith, more, one)
occurs (x ∷ xs) (suc i) k e = let rest = occurs xs i k e in omega (arith, times_cons k x xs)

below_if : (k count : ℕ) → 0 < once_below k count → k < count
below_if k count some = grind (arith, nat_tests)

-- a ticket of a permutation of the numbers below `count` is below `count`
pub below_count : (xs : List ℕ) (count i k : ℕ) → IsPermutation xs count → slice_get xs i ≡ Some k → k < count
below_count xs count i k whole is_at =
    let some = occurs xs i k is_at in
    let once = whole k in
    below_if k count (omega arith)

pub note_next : (xs indices : List ℕ) (i k : ℕ) → slice_get xs i ≡ Some k → k < length indices
    → HasNoted xs i indices → HasNoted xs (i + 1) (set indices k i)
note_next xs indices i k is_at room before = λ ticket some. elim (eqb_tells k ticket) [
  | inl same ↦ rw (get_or-set_at indices k ticket i 0 (sym same.1) room) (is_at ∙ ap Some same.1)
  | inr other ↦
      let inside = slice_get_within xs i k is_at in
      let not_here : eqb (get_or xs i 0) ticket ≡ false = rw (get_or_from_slice_get xs i k 0 is_at) other.0 in
      let earlier = count_by_more_no (λ (t : ℕ). eqb t ticket) xs i 0 inside not_here in
      rw (get_or-set_other indices k ticket i 0 (λ e. other.1 (sym e))) (before ticket (omega arith))
]

-- the ticket of the part at an index
pub ticket_at : {A : Type 0} (parts : List (Part A)) (i : ℕ) (part : Part A) → i < length parts → part ≡ get_or parts i part
    → slice_get (map ticket_of parts) i ≡ Some part.number
ticket_at parts i part inside is =
    slice_get-map ticket_of parts i ∙ ap (option_map ticket_of) (slice_get_read parts (length parts) i part refl inside is)

-- if all tickets were noted, so was each number below the count
pub all_noted : (xs indices : List ℕ) (seen count : ℕ) → IsPermutation xs count → length xs ≤ seen → HasNoted xs seen indices
    → (ticket : ℕ) → ticket < count → slice_get xs (get_or indices ticket 0) ≡ Some ticket
all_noted xs indices seen count whole end noted ticket less =
    noted ticket (subst (λ (ys : List ℕ). 0 < occurrences ticket ys) (sym (take_all seen xs end)) (whole_has xs count ticket whole less))

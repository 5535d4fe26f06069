-- The known numbers: the tests are computed for each number below 53, and no larger number passes any of
-- them.
use Rattle.std.proofs.Common.{◌≡◌, ◌∙◌, ℕ, zero, suc, ◌+◌, ◌-◌, ◌<◌, ◌≤◌, ◌&&◌, ◌||◌, not, refl, sym, ap}
use Rattle.std.proofs.Common.{cond, subst, arith, inl, inr, List, [], ◌∷◌, Bool, true, false, Option, Some}
use Rattle.std.proofs.Common.{nat_eq, nat_le, nat_lt, leb-true, ltb-true, ne_eqb, is_some, find}
use Rattle.std.proofs.lemmas.Bool.{and_parts, false≢true, cases_eq, cases_lt, lt-leb}
use Rattle.std.specs.List.{list_all, list_any}
use Rattle.trlab_texts.specs.{Causes.cause_number, declared.fault.Cause.Cause}
use Rattle.trlab_explain.specs.Explanations.{cause_ranges, is_known, is_within}
use Rattle.trlab_explain.specs.declared.numbers.TheConstants.{CAUSES}
use Rattle.trlab_explain.specs.declared.topics.Topic.TheVariants.{Cause as OfCause}

-- a test passes for each number below another
abbrev all_below : (ℕ → Bool) → ℕ → Bool
all_below test zero = true
all_below test (suc n) = test n && all_below test n

below_passes : (test : ℕ → Bool) (n k : ℕ) → all_below test n ≡ true → k < n → test k ≡ true
below_passes test zero k h lt = absurd (omega arith)
below_passes test (suc n) k h lt =
    let both = and_parts (test n) (all_below test n) h in
    elim (cases_eq k n) [
      | inl here ↦ subst (λ j. test j ≡ true) (sym here) both.0
      | inr other ↦ below_passes test n k both.1 (omega (arith, lt, other))
    ]

abbrev same : Bool → Bool → Bool
same true b = b
same false b = not b

same_is : (a b : Bool) → same a b ≡ true → a ≡ b
same_is true b h = sym h
same_is false true h = absurd (cc h)
same_is false false h = refl

-- a cause has this number
abbrev has_number : ℕ → Cause → Bool
has_number n cause = nat_eq (cause_number cause) n

-- the error numbers of the list are known, and so are those of the reasons, and no others
abbrev agrees : ℕ → Bool
agrees n = same (list_any (has_number n) CAUSES || is_within n (41, 52)) (is_known OfCause n)

agree_below : all_below agrees 53 ≡ true
agree_below = refl

agree : (n : ℕ) → n < 53 → (list_any (has_number n) CAUSES || is_within n (41, 52)) ≡ is_known OfCause n
agree n few = same_is _ _ (below_passes agrees 53 n agree_below few)

no_more : (b : Bool) → (b && false || false) ≡ false
no_more true = refl
no_more false = refl

-- no number from 53 on is an error number
none_within : (ranges : List (ℕ × ℕ)) (n : ℕ) → list_all (λ range. nat_lt range.1 53) ranges ≡ true → 53 ≤ n → list_any (is_within n) ranges ≡ false
none_within [] n h many = refl
none_within (range ∷ ranges) n h many =
    let both = and_parts (nat_lt range.1 53) (list_all (λ (r : ℕ × ℕ). nat_lt r.1 53) ranges) h in
    let above : nat_le n range.1 ≡ false = lt-leb n range.1 (omega (arith, ltb-true range.1 53 both.0)) in
    rw (above, none_within ranges n both.1 many) (no_more (nat_le range.0 n))

none_numbered : (causes : List Cause) (n : ℕ) → list_all (λ cause. nat_lt (cause_number cause) 53) causes ≡ true → 53 ≤ n → list_any (has_number n) causes ≡ false
none_numbered [] n h many = refl
none_numbered (cause ∷ causes) n h many =
    let both = and_parts (nat_lt (cause_number cause) 53) (list_all (λ (c : Cause). nat_lt (cause_number c) 53) causes) h in
    let other : nat_eq (cause_number cause) n ≡ false = ne_eqb (cause_number cause) n (λ is. absurd (omega (arith, ltb-true (cause_number cause) 53 both.0, is))) in
    rw (other, none_numbered causes n both.1 many) refl

-- an element is found exactly if some element passes
is_some-cond : {X : Type 0} (b : Bool) (x : X) (others : Option X) → is_some (cond b (Some x) others) ≡ (b || is_some others)
is_some-cond true x others = refl
is_some-cond false x others = refl

is_some-find : {X : Type 0} (p : X → Bool) (xs : List X) → is_some (find p xs) ≡ list_any p xs
is_some-find p [] = refl
is_some-find p (x ∷ xs) = is_some-cond (p x) x (find p xs) ∙ ap (λ b. p x || b) (is_some-find p xs)

-- an error number of the list is known
pub listed_is_known : (n : ℕ) → is_some (find (has_number n) CAUSES) ≡ true → is_known OfCause n ≡ true
listed_is_known n h =
    let any : list_any (has_number n) CAUSES ≡ true = sym (is_some-find (has_number n) CAUSES) ∙ h in
    elim (cases_lt n 53) [
      | inl few ↦ sym (agree n few) ∙ rw any refl
      | inr many ↦ absurd (false≢true (sym (none_numbered CAUSES n refl many) ∙ any))
    ]

-- no other error number is known
not_within : (n : ℕ) (b : Bool) → is_within n (41, 52) ≡ b → ((reason : ℕ) → n ≡ 40 + reason → ¬ ((1 ≤ reason) × (reason ≤ 12))) → b ≡ false
not_within n false is none = refl
not_within n true is none =
    let both = and_parts (nat_le 41 n) (nat_le n 52) is in
    let from = leb-true 41 n both.0 in
    let to = leb-true n 52 both.1 in
    absurd (none (n - 40) (omega (arith, from)) (omega (arith, from), omega (arith, to)))

pub other_is_unknown : (n : ℕ) → is_some (find (has_number n) CAUSES) ≡ false → ((reason : ℕ) → n ≡ 40 + reason → ¬ ((1 ≤ reason) × (reason ≤ 12))) → is_known OfCause n ≡ false
other_is_unknown n h none =
    let any : list_any (has_number n) CAUSES ≡ false = sym (is_some-find (has_number n) CAUSES) ∙ h in
    let apart : is_within n (41, 52) ≡ false = not_within n (is_within n (41, 52)) refl none in
    elim (cases_lt n 53) [
      | inl few ↦ sym (agree n few) ∙ rw (any, apart) refl
      | inr many ↦ none_within cause_ranges n refl many
    ]

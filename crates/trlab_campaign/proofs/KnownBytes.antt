-- The bytes of a reader, over several calls. First: the bytes that a reader reports.
use Rattle.std.proofs.Common.{◌≡◌, ℕ, ◌<◌, List, [], ◌++◌, length, take, refl, arith, append_assoc, sym, ◌∙◌}
use Rattle.std.proofs.Common.{ap, length-append, append-nil, subst, inl, inr, Option, None, Some, IfSome}
use Rattle.std.specs.Io.KnownBytes.{Consumes, IsAtEnd, Keeps}
use Rattle.trlab_bounds.specs.declared.texts.TheConstants.{TEXT_LIMIT}
use Rattle.trlab_campaign.specs.Device.{IsInputOrTooLong}

pub consumes_none : (a : Option (List ℕ)) → Consumes a a []
consumes_none None = tt
consumes_none (Some xs) = refl

pub consumes_more : (a b c : Option (List ℕ)) (xs ys : List ℕ) → Consumes a b xs → Consumes b c ys → Consumes a c (xs ++ ys)
consumes_more None b c xs ys p q = tt
consumes_more (Some x) None c xs ys p q = absurd p
consumes_more (Some x) (Some y) None xs ys p q = absurd q
consumes_more (Some x) (Some y) (Some z) xs ys p q = p ∙ ap (λ t. xs ++ t) q ∙ sym (append_assoc xs ys z)

-- a call that left the bytes as they were
pub consumes_kept : (a b c : Option (List ℕ)) (xs : List ℕ) → Consumes a b xs → Keeps b c → Consumes a c xs
consumes_kept None b c xs p q = tt
consumes_kept (Some x) None c xs p q = absurd p
consumes_kept (Some x) (Some y) None xs p q = absurd q
consumes_kept (Some x) (Some y) (Some z) xs p q = p ∙ ap (λ t. xs ++ t) (sym q)

-- a call that returned no byte
pub consumes_last : (a b c : Option (List ℕ)) (xs part : List ℕ) (count : ℕ) → count ≡ 0 → Consumes a b xs → Consumes b c (take count part) → Consumes a c xs
consumes_last a b c xs part count is p q = subst (λ (t : List ℕ). Consumes a c t) (append-nil xs) (consumes_more a b c xs [] p (rw is at q))

-- all bytes of the input
pub read_whole : (a b : Option (List ℕ)) (xs : List ℕ) → Consumes a b xs → IsAtEnd b → IfSome a (IsInputOrTooLong xs)
read_whole None b xs p end = tt
read_whole (Some x) None xs p end = absurd p
read_whole (Some x) (Some y) xs p end = inl (sym (p ∙ (ap (λ t. xs ++ t) end ∙ append-nil xs)))

-- more bytes than a text may have
pub read_over : (a b : Option (List ℕ)) (xs : List ℕ) → TEXT_LIMIT < length xs → Consumes a b xs → IfSome a (IsInputOrTooLong xs)
read_over None b xs over p = tt
read_over (Some x) None xs over p = absurd p
read_over (Some x) (Some y) xs over p = inr (over, omega (arith, ap length p, length-append xs y))

-- all bytes that a reader has returned: a call returned more bytes, or none, and none after it had counted 0
pub given_more : (a b c xs ys : List ℕ) → b ≡ a ++ xs → c ≡ b ++ ys → c ≡ a ++ (xs ++ ys)
given_more a b c xs ys p q = q ∙ (ap (λ t. t ++ ys) p ∙ append_assoc a xs ys)

pub given_more_none : (a b c xs : List ℕ) → b ≡ a ++ xs → c ≡ b ++ [] → c ≡ a ++ xs
given_more_none a b c xs p q = q ∙ (append-nil b ∙ p)

pub given_last : (a b c xs part : List ℕ) (count : ℕ) → count ≡ 0 → b ≡ a ++ xs → c ≡ b ++ take count part → c ≡ a ++ xs
given_last a b c xs part count is p q = given_more_none a b c xs p (rw is at q)

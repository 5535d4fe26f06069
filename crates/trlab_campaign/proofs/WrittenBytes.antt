-- The bytes that were written, over several calls.
use Rattle.std.proofs.Common.{◌≡◌, ℕ, ◌+◌, ◌≤◌, List, [], ◌++◌, length, take, drop, refl, arith, append_assoc}
use Rattle.std.proofs.Common.{sym, ◌∙◌, ap, append-nil, take-add, subst, Option, None, Some}
use Rattle.std.{proofs.Math.Seq.take-length, specs.Io.KnownBytes.{Appends, Keeps}}
use Rattle.trlab_campaign.specs.Writers.{SinkBytes, HasWritten, AddsNone, AddsPrefix}

-- the bytes that a writer reports
told_none : (a : Option (List ℕ)) → Appends a a []
told_none None = tt
told_none (Some xs) = sym (append-nil xs)

told_same : (a : Option (List ℕ)) → Keeps a a
told_same None = tt
told_same (Some xs) = refl

told_more : (a b c : Option (List ℕ)) (xs ys : List ℕ) → Appends a b xs → Appends b c ys → Appends a c (xs ++ ys)
told_more None b c xs ys p q = tt
told_more (Some x) None c xs ys p q = absurd p
told_more (Some x) (Some y) None xs ys p q = absurd q
told_more (Some x) (Some y) (Some z) xs ys p q = q ∙ ap (λ t. t ++ ys) p ∙ append_assoc x xs ys

told_kept : (a b c : Option (List ℕ)) (xs : List ℕ) → Appends a b xs → Keeps b c → Appends a c xs
told_kept None b c xs p q = tt
told_kept (Some x) None c xs p q = absurd p
told_kept (Some x) (Some y) None xs p q = absurd q
told_kept (Some x) (Some y) (Some z) xs p q = q ∙ p

-- a writer that was not called
pub adds_none : (a : SinkBytes) → HasWritten a a []
adds_none a = record { accepted = sym (append-nil a.accepted); told = told_none a.told }

pub kept : (a : SinkBytes) → AddsNone a a
kept a = record { accepted = refl; told = told_same a.told }

-- a call that took no bytes
pub nothing_taken : (a b : SinkBytes) → b.accepted ≡ a.accepted ++ [] → Keeps a.told b.told → AddsNone a b
nothing_taken a b p q = record { accepted = p ∙ append-nil a.accepted; told = q }

pub adds_more : (a b c : SinkBytes) (xs ys : List ℕ) → HasWritten a b xs → HasWritten b c ys → HasWritten a c (xs ++ ys)
adds_more a b c xs ys p q = record {
  accepted = q.accepted ∙ (ap (λ t. t ++ ys) p.accepted ∙ append_assoc a.accepted xs ys);
  told = told_more a.told b.told c.told xs ys p.told q.told;
}

pub adds_kept : (a b c : SinkBytes) (xs : List ℕ) → HasWritten a b xs → AddsNone b c → HasWritten a c xs
adds_kept a b c xs p q = record { accepted = q.accepted ∙ p.accepted; told = told_kept a.told b.told c.told xs p.told q.told }

-- a text of which the first `done` bytes are written, and `count` more
pub adds_part : (a b c : SinkBytes) (text : List ℕ) (done count : ℕ) → HasWritten a b (take done text) → HasWritten b c (take count (drop done text)) → HasWritten a c (take (done + count) text)
adds_part a b c text done count p q =
    subst (λ (t : List ℕ). HasWritten a c t) (sym (take-add done count text)) (adds_more a b c (take done text) (take count (drop done text)) p q)

-- the text is complete
pub adds_whole : (a b : SinkBytes) (text : List ℕ) (done : ℕ) → done ≤ length text → length text ≤ done → HasWritten a b (take done text) → HasWritten a b text
adds_whole a b text done inside all p =
    let here : done ≡ length text = omega arith in
    subst (λ (t : List ℕ). HasWritten a b t) (ap (λ (n : ℕ). take n text) here ∙ take-length text) p

-- a complete text is a prefix of itself
pub prefix_whole : (a b : SinkBytes) (text : List ℕ) → HasWritten a b text → AddsPrefix a b text
prefix_whole a b text p = record { count = length text; prefix = subst (λ (t : List ℕ). HasWritten a b t) (sym (take-length text)) p }

pub prefix_kept : (a b c : SinkBytes) (text : List ℕ) → HasWritten a b text → AddsNone b c → AddsPrefix a c text
prefix_kept a b c text p q = prefix_whole a c text (adds_kept a b c text p q)

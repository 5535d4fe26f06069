-- The longest path from an instruction, by the longest paths from the instructions that may follow it.
use Rattle.std.proofs.Common.{◌≡◌, ℕ, zero, suc, ◌+◌, ◌<◌, ◌≤◌, ◌&&◌, ◌||◌, max, cond, refl, sym, ap, subst}
use Rattle.std.proofs.Common.{arith, ◌⊎◌, inl, inr, List, length, Bool, true, false, IsTrue, Option, Some}
use Rattle.std.proofs.Common.{None, IfSome, nat_eq, add-one, ◌∙◌, slice_get, eq-eqb, eqb-true}
use Rattle.std.{proofs.lemmas.{Bool.cases_lt, Option.slice_get_within}, specs.Option.option_map_or}
use Rattle.trlab_code.specs.declared.instruction.Instr.{Instr, TheVariants.{Jump, Go, Cross, Stay}}
use Rattle.trlab_code.specs.Flow.{is_end, falls, target, on_target}
use Rattle.trlab_verify.specs.Verdict.{Follows, HasPath, IsLongest, IsForward}

some_is : (a b : Instr) → Some a ≡ Some b → a ≡ b
some_is a b e = cc e

not_both : (i j : Instr) → Some i ≡ Some j → is_end i ≡ false → is_end j ≡ true → ⊥
not_both i j e f g = let h : is_end j ≡ false = subst (λ z. is_end z ≡ false) (some_is i j e) f in cc (sym h ∙ g)

pub longest_end : (code : List Instr) (pc : ℕ) (i : Instr) → slice_get code pc ≡ Some i → is_end i ≡ true →
    ((q : ℕ) → Follows code pc q → ⊥) → IsLongest code pc 1
longest_end code pc i e f none = record { way = (i, e, f); most = most }
  where
    most : (m : ℕ) → HasPath code pc m → m ≤ 1
    most zero w = omega arith
    most (suc zero) w = omega arith
    most (suc (suc m)) (q, g, w) = absurd (none q g)

pub longest_step : (code : List Instr) (pc n : ℕ) (i : Instr) → slice_get code pc ≡ Some i → is_end i ≡ false →
    (q : ℕ) → Follows code pc q → HasPath code q n → ((r m : ℕ) → Follows code pc r → HasPath code r m → m ≤ n) →
    IsLongest code pc (suc n)
longest_step code pc zero i e f q g w h = absurd w
longest_step code pc (suc n) i e f q g w h = record { way = (q, g, w); most = most }
  where
    most : (m : ℕ) → HasPath code pc m → m ≤ suc (suc n)
    most zero w = omega arith
    most (suc zero) (j, d, k) = absurd (not_both i j (sym e ∙ d) f k)
    most (suc (suc m)) (r, k, v) = let l : suc m ≤ suc n = h r (suc m) k v in omega arith

-- the longest path from the target of a jump
abbrev pub of_target : (ℕ → ℕ) → Option ℕ → ℕ
of_target longest t = option_map_or longest t 0

abbrev comes_after : Bool → Option ℕ → ℕ → ℕ → Bool
comes_after b t pc q = (b && nat_eq q (suc pc)) || on_target (nat_eq q) t

pub either_left : (p q : Bool) → p ≡ true → (p || q) ≡ true
either_left true q e = refl
either_left false q e = absurd (cc e)

pub either_right : (p q : Bool) → q ≡ true → (p || q) ≡ true
either_right true q e = refl
either_right false q e = e

-- the longer of two paths is one of the two
longer : (longest : ℕ → ℕ) (pc : ℕ) (b : Bool) (t : Option ℕ) → (b ≡ false → t ≡ None → ⊥) →
    (q : ℕ) × IsTrue (comes_after b t pc q) × (max (cond b (longest (suc pc)) 0) (of_target longest t) ≡ longest q)
longer longest pc false None h = absurd (h refl refl)
longer longest pc true None h = (suc pc, either_left (nat_eq (suc pc) (suc pc)) false (eq-eqb (suc pc) (suc pc) refl), omega arith)
longer longest pc false (Some t) h = (t, eq-eqb t t refl, omega arith)
longer longest pc true (Some t) h =
    elim (cases_lt (longest (suc pc)) (longest t)) [
      | inl lt ↦ (t, either_right (nat_eq t (suc pc)) (nat_eq t t) (eq-eqb t t refl), omega arith)
      | inr ge ↦ (suc pc, either_left (nat_eq (suc pc) (suc pc)) (nat_eq (suc pc) t) (eq-eqb (suc pc) (suc pc) refl), omega arith)
    ]

pub either_of : (p q : Bool) → IsTrue (p || q) → (p ≡ true) ⊎ (q ≡ true)
either_of true q h = inl refl
either_of false q h = inr h

pub both_of : (p q : Bool) → IsTrue (p && q) → (p ≡ true) × (q ≡ true)
both_of true q h = (refl, h)
both_of false q h = absurd (cc h)

-- the longest path from a following instruction is at most the longer of the two
next_at_most : (longest : ℕ → ℕ) (pc q k : ℕ) (b : Bool) → b ≡ true → q ≡ suc pc → longest q ≤ max (cond b (longest (suc pc)) 0) k
next_at_most longest pc q k true e same = let f : longest q ≡ longest (suc pc) = ap longest same in omega arith
next_at_most longest pc q k false e same = absurd (cc e)

target_at_most : (longest : ℕ → ℕ) (q k : ℕ) (t : Option ℕ) → on_target (nat_eq q) t ≡ true →
    longest q ≤ max k (of_target longest t)
target_at_most longest q k None e = absurd (cc e)
target_at_most longest q k (Some t) e = let f : longest q ≡ longest t = ap longest (eqb-true q t e) in omega arith

at_most : (longest : ℕ → ℕ) (pc q : ℕ) (b : Bool) (t : Option ℕ) → IsTrue (comes_after b t pc q) →
    longest q ≤ max (cond b (longest (suc pc)) 0) (of_target longest t)
at_most longest pc q b t h =
    elim (either_of (b && nat_eq q (suc pc)) (on_target (nat_eq q) t) h) [
      | inl next ↦ let e = both_of b (nat_eq q (suc pc)) next in next_at_most longest pc q (of_target longest t) b e.0 (eqb-true q (suc pc) e.1)
      | inr jumps ↦ target_at_most longest q (cond b (longest (suc pc)) 0) t jumps
    ]

-- no instruction follows an end, and at least one follows any other instruction
end_alone : (i : Instr) → is_end i ≡ true → (falls i ≡ false) × (target i ≡ None)
end_alone (Go a) e = (refl, refl)
end_alone Cross e = (refl, refl)
end_alone Stay e = (refl, refl)
end_alone i e = absurd (cc e)

some_follow : (i : Instr) → is_end i ≡ false → falls i ≡ false → target i ≡ None → ⊥
some_follow (Jump t) e f g = cc g
some_follow (Go a) e f g = cc e
some_follow Cross e f g = cc e
some_follow Stay e f g = cc e
some_follow i e f g = cc f

follows_as : (code : List Instr) (pc q : ℕ) (i : Instr) → slice_get code pc ≡ Some i → Follows code pc q →
    IsTrue (comes_after (falls i) (target i) pc q)
follows_as code pc q i e (j, ej, h) = subst (λ z. IsTrue (comes_after (falls z) (target z) pc q)) (some_is j i (sym ej ∙ e)) h

none_comes : (pc q : ℕ) (b : Bool) (t : Option ℕ) → b ≡ false → t ≡ None → IsTrue (comes_after b t pc q) → ⊥
none_comes pc q true t e f h = cc e
none_comes pc q false (Some t) e f h = cc f
none_comes pc q false None e f h = cc h

-- the longest path from an instruction has one more instruction than the longest of those from its successors
longest_at : (code : List Instr) (pc : ℕ) (i : Instr) (longest : ℕ → ℕ) (ends : Bool) → is_end i ≡ ends →
    slice_get code pc ≡ Some i → ((q : ℕ) → Follows code pc q → IsLongest code q (longest q)) →
    IsLongest code pc (suc (max (cond (falls i) (longest (suc pc)) 0) (of_target longest (target i))))
longest_at code pc i longest true end e later =
    let alone = end_alone i end in
    let none : max (cond (falls i) (longest (suc pc)) 0) (of_target longest (target i)) ≡ 0 = rw (alone.0, alone.1) refl in
    rw none (longest_end code pc i e end (λ q follows. none_comes pc q (falls i) (target i) alone.0 alone.1 (follows_as code pc q i e follows)))
longest_at code pc i longest false end e later =
    let (q, after, n) = longer longest pc (falls i) (target i) (some_follow i end) in
    let follows : Follows code pc q = (i, e, after) in
    longest_step code pc (max (cond (falls i) (longest (suc pc)) 0) (of_target longest (target i))) i e end q follows (rw n (later q follows).way)
    (λ r m f w. let l : m ≤ longest r = (later r f).most m w in let k = at_most longest pc r (falls i) (target i) (follows_as code pc r i e f) in omega arith)

pub longest_is : (code : List Instr) (pc : ℕ) (i : Instr) (longest : ℕ → ℕ) → slice_get code pc ≡ Some i →
    ((q : ℕ) → Follows code pc q → IsLongest code q (longest q)) →
    IsLongest code pc (suc (max (cond (falls i) (longest (suc pc)) 0) (of_target longest (target i))))
longest_is code pc i longest e later = longest_at code pc i longest (is_end i) refl e later

-- the successors of an instruction are in the code
pub next_inside : (code : List Instr) (pc : ℕ) (i : Instr) → IsForward code → slice_get code pc ≡ Some i →
    falls i ≡ true → suc pc < length code
next_inside code pc i forward e falls_on =
    (forward pc (suc pc) (i, e, either_left (falls i && nat_eq (suc pc) (suc pc)) (on_target (nat_eq (suc pc)) (target i)) (rw (falls_on, eq-eqb (suc pc) (suc pc) refl) refl))).1

pub target_inside : (code : List Instr) (pc t : ℕ) (i : Instr) → IsForward code → slice_get code pc ≡ Some i →
    target i ≡ Some t → t < length code
target_inside code pc t i forward e to =
    (forward pc t (i, e, either_right (falls i && nat_eq t (suc pc)) (on_target (nat_eq t) (target i)) (rw (to, eq-eqb t t refl) refl))).1

pub each_some : (o : Option ℕ) (n : ℕ) → ((t : ℕ) → o ≡ Some t → t < n) → IfSome o (λ t. t < n)
each_some None n h = tt
each_some (Some t) n h = h t refl

-- the longest path from an instruction, as the code computes it
pub longest_found : (code : List Instr) (pc : ℕ) (i : Instr) (longest : ℕ → ℕ) (next jump longer : ℕ) → IsForward code →
    slice_get code pc ≡ Some i → ((q : ℕ) → pc < q → q < length code → IsLongest code q (longest q)) →
    next ≡ cond (falls i) (longest (pc + 1)) 0 → jump ≡ of_target longest (target i) → longer ≡ max next jump →
    IsLongest code pc (longer + 1)
longest_found code pc i longest next jump longer forward e later en ej em =
    let l = longest_is code pc i longest e (λ q f. let ahead = forward pc q f in later q ahead.0 ahead.1) in
    let en' : next ≡ cond (falls i) (longest (suc pc)) 0 = rw add-one at en in
    let same : longer + 1 ≡ suc (max (cond (falls i) (longest (suc pc)) 0) (of_target longest (target i))) = rw (em, en', ej) (omega arith) in
    rw same l

-- a forward path from an instruction has no more instructions than remain from there on
pub way_short : (code : List Instr) → IsForward code → (n pc : ℕ) → HasPath code pc n → n + pc ≤ length code
way_short code forward zero pc w = absurd w
way_short code forward (suc zero) pc (i, e, end) = let lt : pc < length code = slice_get_within code pc i e in omega arith
way_short code forward (suc (suc n)) pc (q, f, w) = let r : suc n + q ≤ length code = way_short code forward (suc n) q w in let lt : pc < q = (forward pc q f).0 in omega arith

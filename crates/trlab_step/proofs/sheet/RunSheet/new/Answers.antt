use Rattle.std.proofs.Common.{◌≡◌, ◌∙◌, ℕ, ◌+◌, ◌<◌, Bool, true, false, Option, Some, None, [], ◌∷◌, Vec}
use Rattle.std.proofs.Common.{Global, rules, arith, Bor, get_or, length, drop, vec_len, refl, sym, ap, subst}
use Rattle.std.proofs.Common.{MatchOption, nat_eq, option_copied, slice_get, eqb-true}
use Rattle.std.proofs.lemmas.Bool.{false≢true, eqb-false}
use Rattle.trlab_rules.specs.Rules.{Programs}
use Rattle.trlab_step.specs.Run.{StepsIncreaseFrom, Sheet, sheet_with}
use Rattle.trlab_step.proofs.sheet.RunSheet.new.Goals.{then-is_replaced, else-is_replaced}
use Rattle.trlab_step.proofs.sheet.RunSheet.new.Goals as goal

-- does the first of the later rules begin at step 0
abbrev begins : Sheet → Bool
begins [] = false
begins (entry ∷ later) = nat_eq entry.0 0

begins_told : (first : Option (Bor (ℕ × Programs))) (later : Sheet) (told : Bool) (Told : Bor (ℕ × Programs) → Type 0) → option_copied first ≡ slice_get later 0 → MatchOption first (told ≡ false) Told
    → ((entry : Bor (ℕ × Programs)) → Told entry → told ≡ nat_eq entry.now.0 0) → told ≡ begins later
begins_told None [] told Told e h by = h
begins_told None (entry ∷ later) told Told e h by = absurd cc
begins_told (Some first) [] told Told e h by = absurd cc
begins_told (Some first) (entry ∷ later) told Told e h by = let same : first.now ≡ entry = cc in by first h ∙ ap (λ (one : ℕ × Programs). nat_eq one.0 0) same

-- if it does, it replaces the first rule
some_begun : (later : Vec (ℕ × Programs) Global) → begins later.items ≡ true → 0 < vec_len later
some_begun later h = let size = later.ok.0 in let some = some_item later.items h in omega (arith, size, some) where
  some_item : (later : Sheet) → begins later ≡ true → 0 < length later
  some_item [] h = absurd (false≢true h)
  some_item (entry ∷ later) h = omega arith

at_zero : (entry : ℕ × Programs) (rule : Programs) → entry.0 ≡ 0 → rule ≡ entry.1 → ◌≡◌ {A = ℕ × Programs} (0, rule) entry
at_zero entry rule zero same = ap (λ step. (step, rule)) (sym zero) ∙ ap (λ one. (entry.0, one)) same

sheet_begun : (first rule : Programs) (later rest : Sheet) (entry : ℕ × Programs) → begins later ≡ true → entry ≡ get_or later 0 entry → rule ≡ entry.1 → rest ≡ drop 1 later → ◌≡◌ {A = Sheet} ((0, rule) ∷ rest) (sheet_with first later)
sheet_begun first rule [] rest entry h is same after = absurd (false≢true h)
sheet_begun first rule (one ∷ later) rest entry h is same after =
    let here = at_zero one rule (eqb-true one.0 0 h) (same ∙ ap (λ (e : ℕ × Programs). e.1) is) in
    rw (h, after) (ap (λ e. e ∷ later) here)

rises_begun : (later rest : Sheet) → StepsIncreaseFrom 0 later → begins later ≡ true → rest ≡ drop 1 later → StepsIncreaseFrom 1 rest
rises_begun [] rest rises h after = absurd (false≢true h)
rises_begun (one ∷ later) rest rises h after = rw after (subst (λ step. StepsIncreaseFrom (step + 1) later) (eqb-true one.0 0 h) rises.1)

-- if it does not, it begins after step 0
sheet_late : (first : Programs) (later : Sheet) → begins later ≡ false → ◌≡◌ {A = Sheet} ((0, first) ∷ later) (sheet_with first later)
sheet_late first [] h = refl
sheet_late first (one ∷ later) h = rw h refl

rises_late : (later : Sheet) → StepsIncreaseFrom 0 later → begins later ≡ false → StepsIncreaseFrom 1 later
rises_late [] rises h = tt
rises_late (one ∷ later) rises h = let other = eqb-false one.0 0 h in (omega (arith, other), rises.1)

pub remove-requires : goal.remove-requires
remove-requires c =
    let told = begins_told c.first.result c.args.later.items c.is_some_and-is_replaced.result _ (c.first.ensures.value ∙ ap (λ xs. slice_get xs 0) c.deref.ensures.value) c.is_some_and-is_replaced.ensures (λ entry told. search rules) in
    some_begun c.args.later (sym told ∙ c.if-is_replaced.true)

pub invariant_of-result : goal.invariant_of-result
invariant_of-result c =
    let told = begins_told c.first.result c.args.later.items c.is_some_and-is_replaced.result _ (c.first.ensures.value ∙ ap (λ xs. slice_get xs 0) c.deref.ensures.value) c.is_some_and-is_replaced.ensures (λ entry told. search rules) in
    elim c.if-is_replaced.branch [
      | then-is_replaced w ↦ rises_begun c.args.later.items _ c.requires (sym told ∙ w.if-is_replaced.true) (ap (λ (v : Vec (ℕ × Programs) Global). v.items) w.later-is ∙ w.remove.ensures.items)
      | else-is_replaced w ↦ rw w.later-is (rises_late c.args.later.items c.requires (sym told ∙ w.if-is_replaced.false))
    ]

pub returns : goal.returns
returns c =
    let told = begins_told c.first.result c.args.later.items c.is_some_and-is_replaced.result _ (c.first.ensures.value ∙ ap (λ xs. slice_get xs 0) c.deref.ensures.value) c.is_some_and-is_replaced.ensures (λ entry told. search rules) in
    elim c.if-is_replaced.branch [
      | then-is_replaced w ↦ sheet_begun c.args.first _ c.args.later.items _ w.remove.result (sym told ∙ w.if-is_replaced.true) w.remove.ensures.value w.first2-is (ap (λ (v : Vec (ℕ × Programs) Global). v.items) w.later-is ∙ w.remove.ensures.items)
      | else-is_replaced w ↦ rw (w.first2-is, w.later-is) (sheet_late c.args.first c.args.later.items (sym told ∙ w.if-is_replaced.false))
    ]

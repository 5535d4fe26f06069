use Rattle.std.proofs.Common.{◌≡◌, ℕ, zero, suc, Bool, true, false, not, ◌||◌, List, [], ◌∷◌, slice_index_or}
use Rattle.std.{proofs.Common.{refl, sym, ◌∙◌}, specs.List.list_any}
use Rattle.trlab_texts.specs.Words.{name_number}
use Rattle.trlab_texts.proofs.line_name.LineNames.is_empty.Goals as goal

is_false : (b : Bool) → not b ≡ true → b ≡ false
is_false true e = absurd (cc e)
is_false false e = refl

neither : (a b : Bool) → (a || b) ≡ false → (a ≡ false) × (b ≡ false)
neither true b e = absurd (cc e)
neither false b e = (refl, e)

unmarked : (p : Bool → Bool) → p true ≡ true → (b : Bool) → p b ≡ false → b ≡ false
unmarked p found true none = absurd (cc (found, none))
unmarked p found false none = refl

-- if no entry is true, none is true at any index
none_at : (p : Bool → Bool) → p true ≡ true → (bits : List Bool) → list_any p bits ≡ false → (k : ℕ) → slice_index_or bits k false ≡ false
none_at p found [] none k = refl
none_at p found (b ∷ bits) none zero = unmarked p found b (neither (p b) (list_any p bits) none).0
none_at p found (b ∷ bits) none (suc k) = none_at p found bits (neither (p b) (list_any p bits) none).1 k

pub returns : goal.returns
returns c = λ empty name. none_at _ refl c.args.self.present (sym c.contains.ensures.value ∙ is_false c.contains.result empty) (name_number name)

use Rattle.std.proofs.Common.{◌≡◌, ◌<◌, ◌≤◌, ◌⊎◌, ℕ, zero, suc, List, [], Bor, get_or, length, refl, sym, ◌∙◌}
use Rattle.std.proofs.{Common.{ap, inl, inr, arith, eq-eqb, eqb-true}, lemmas.Bool.{false≢true}}
use Rattle.std.proofs.lemmas.List.{length-map}
use Rattle.trlab_bounds.specs.declared.roads.TheConstants.{MAX_LENGTH}
use Rattle.trlab_road.specs.{Cells.LanesFit, Pictures.{HaveEqualLengths, picture_at, pictures_of}}
use Rattle.trlab_road.proofs.PictureLaws.{picture_read}
use Rattle.trlab_road.proofs.picture.has_equal_lanes.Goals.{then-cells-eq0-via-then-cells-eq0}
use Rattle.trlab_road.proofs.picture.has_equal_lanes.Goals.{then-cells-eq0-via-else-cells-eq0+then-cells}
use Rattle.trlab_road.proofs.picture.has_equal_lanes.Goals as goal

-- the length of the picture that a reference leads to
abbrev size : List (Bor (List ℕ)) → ℕ → ℕ
size held l = length (get_or held l (record { ref_ptr = (0, 0); now = [] })).now

size_is : (held : List (Bor (List ℕ))) (l : ℕ) → length (picture_at (pictures_of held) l) ≡ size held l
size_is held l = ap length (picture_read held l)

-- of one picture or two
equal_at : (held : List (Bor (List ℕ))) → LanesFit (length (pictures_of held)) → (length held ≡ 1) ⊎ (size held 1 ≡ size held 0) → (l : ℕ) → l < length (pictures_of held)
    → length (picture_at (pictures_of held) l) ≡ length (picture_at (pictures_of held) 0)
equal_at held fit h zero on = refl
equal_at held fit (inl one) (suc zero) on = let count = length-map held (λ s. s.now) in absurd (omega (arith, on, count, one))
equal_at held fit (inr same) (suc zero) on = size_is held 1 ∙ same ∙ sym (size_is held 0)
equal_at held fit h (suc (suc l)) on = let two = fit.few_lanes in absurd (omega (arith, on, two))

equal_lengths : (held : List (Bor (List ℕ))) → LanesFit (length (pictures_of held)) → 1 ≤ size held 0 → size held 0 ≤ MAX_LENGTH
    → (length held ≡ 1) ⊎ (size held 1 ≡ size held 0) → HaveEqualLengths (pictures_of held)
equal_lengths held fit some few h =
    let first = size_is held 0 in
    record { cells = record { some_cell = omega (arith, first, some); few_cells = omega (arith, first, few) }; equal = equal_at held fit h }

pub bounds-pictures-0 : goal.bounds-pictures-0
bounds-pictures-0 c =
    let some = c.requires.some_lane in
    let count = length-map c.args.pictures.now (λ s. s.now) in
    omega (arith, some, count)

pub returns-then-cells-eq0 : goal.returns-then-cells-eq0
returns-then-cells-eq0 c = (
  λ e. absurd (false≢true e),
  λ equal.
      let first = size_is c.args.pictures.now 0 in
      elim c.then-cells-eq0.branch [
        | then-cells-eq0-via-then-cells-eq0 w ↦ let some = equal.cells.some_cell in let none = w.if-cells-eq0.true in absurd (omega (arith, first, some, none))
        | then-cells-eq0-via-else-cells-eq0+then-cells w ↦ let few = equal.cells.few_cells in let many = w.if-cells.true in absurd (omega (arith, first, few, many))
      ],
)

pub returns-then-pictures-eq1 : goal.returns-then-pictures-eq1
returns-then-pictures-eq1 c =
    let one = c.if-pictures-eq1.true in
    let some = c.if-cells-eq0.false in
    (λ _. equal_lengths c.args.pictures.now c.requires (omega (arith, some)) c.if-cells.false (inl one), λ _. eq-eqb _ _ one)

pub returns-else-pictures-eq1 : goal.returns-else-pictures-eq1
returns-else-pictures-eq1 c =
    let held = c.args.pictures.now in
    let some = c.if-cells-eq0.false in
    let other = c.if-pictures-eq1.false in
    let least = c.requires.some_lane in
    let count = length-map held (λ s. s.now) in (
      λ e. equal_lengths held c.requires (omega (arith, some)) c.if-cells.false (inr (eqb-true _ _ e)),
      λ equal. eq-eqb _ _ (sym (size_is held 1) ∙ equal.equal 1 (omega (arith, other, least, count)) ∙ size_is held 0),
    )

pub bounds-pictures-1 : goal.bounds-pictures-1
bounds-pictures-1 c =
    let some = c.requires.some_lane in
    let count = length-map c.args.pictures.now (λ s. s.now) in
    let other = c.if-pictures-eq1.false in
    omega (arith, some, count, other)

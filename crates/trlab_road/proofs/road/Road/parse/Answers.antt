use Rattle.std.proofs.Common.{◌≡◌, ◌≤◌, ◌∙◌, ℕ, List, Err, length, refl, sym, ap, subst, inl, inr, arith}
use Rattle.std.proofs.lemmas.{Result.err_from_is_err_and, List.length-map}
use Rattle.trlab_bounds.specs.declared.roads.TheConstants.{MAX_LIMIT}
use Rattle.trlab_road.specs.Cells.{Lane, Cells, IsLegal}
use Rattle.trlab_road.specs.{Pictures.{AreValidPictures, PicturesShow, ShowsCell}, Stored.lanes_of_pictures}
use Rattle.trlab_road.proofs.PictureLaws.{picture_read, draws, shown_legal, one_shown}
use Rattle.trlab_road.proofs.PictureFaults.{no_fault_shown, told_fault, told_road}
use Rattle.trlab_road.proofs.road.Road.parse.Goals as goal

-- the pictures show the road that was drawn, and it is legal
shows : (limit : ℕ) (ps : List (List ℕ)) (lanes : List Lane) → AreValidPictures limit ps → lanes ≡ lanes_of_pictures 0 ps → PicturesShow limit ps (record { limit = limit; lanes = lanes })
shows limit ps lanes good is = subst (λ (xs : List Lane). PicturesShow limit ps (record { limit = limit; lanes = xs })) (sym is) (draws limit ps good)

legal : (limit : ℕ) (ps : List (List ℕ)) (lanes : List Lane) → AreValidPictures limit ps → lanes ≡ lanes_of_pictures 0 ps → IsLegal (record { limit = limit; lanes = lanes })
legal limit ps lanes good is = shown_legal limit ps _ good (shows limit ps lanes good is)

pub invariant_of-result : goal.invariant_of-result
invariant_of-result c = record {
  legal = legal c.args.limit _ _ c.in_ok-check_pictures.ensures c.in_ok-lanes.ensures.drawn;
  sorted = c.in_ok-lanes.ensures.sorted;
}

pub returns-clause-shown : goal.returns-clause-shown
returns-clause-shown c = shows c.args.limit _ _ c.in_ok-check_pictures.ensures c.in_ok-lanes.ensures.drawn

pub returns-clause-legal : goal.returns-clause-legal
returns-clause-legal c = legal c.args.limit _ _ c.in_ok-check_pictures.ensures c.in_ok-lanes.ensures.drawn

same_road : (limit : ℕ) (ps : List (List ℕ)) (next : Cells) → PicturesShow limit ps next → (road : Cells)
    → IsLegal road → PicturesShow limit ps road → next ≡ road
same_road limit ps next s road legal other = one_shown limit ps next road s other

pub returns-clause-back : goal.returns-clause-back
returns-clause-back c = same_road c.args.limit _ _ (shows c.args.limit _ _ c.in_ok-check_pictures.ensures c.in_ok-lanes.ensures.drawn)

pub returns-in_err-check_pictures-clause-back : goal.returns-in_err-check_pictures-clause-back
returns-in_err-check_pictures-clause-back c = let p = err_from_is_err_and c.from_residual.result c.from_residual.ensures.1 in rw (p.1, p.2) (no_fault_shown c.args.limit _ _ c.in_err-check_pictures.ensures)

pub returns-in_err-check_pictures-clause-reported : goal.returns-in_err-check_pictures-clause-reported
returns-in_err-check_pictures-clause-reported c = let p = err_from_is_err_and c.from_residual.result c.from_residual.ensures.1 in rw (p.1, p.2) (told_fault c.args.limit _ _ c.in_err-check_pictures.ensures)

pub returns-clause-reported : goal.returns-clause-reported
returns-clause-reported c = told_road c.args.limit _ _ (legal c.args.limit _ _ c.in_ok-check_pictures.ensures c.in_ok-lanes.ensures.drawn) (shows c.args.limit _ _ c.in_ok-check_pictures.ensures c.in_ok-lanes.ensures.drawn)

pub returns-in_err-check_pictures-clause-shown : goal.returns-in_err-check_pictures-clause-shown
returns-in_err-check_pictures-clause-shown c = let p = err_from_is_err_and c.from_residual.result c.from_residual.ensures.1 in rw (p.1, p.2) c.in_err-check_pictures.ensures

pub returns-in_err-check_pictures-clause-legal : goal.returns-in_err-check_pictures-clause-legal
returns-in_err-check_pictures-clause-legal c = let p = err_from_is_err_and c.from_residual.result c.from_residual.ensures.1 in rw p.1 tt

pub returns-in_err-lanes-clause-shown : goal.returns-in_err-lanes-clause-shown
returns-in_err-lanes-clause-shown c = let p = err_from_is_err_and c.from_residual-in_err-lanes.result c.from_residual-in_err-lanes.ensures.1 in rw (p.1, p.2) tt

pub returns-in_err-lanes-clause-legal : goal.returns-in_err-lanes-clause-legal
returns-in_err-lanes-clause-legal c = let p = err_from_is_err_and c.from_residual-in_err-lanes.result c.from_residual-in_err-lanes.ensures.1 in rw p.1 tt

pub returns-in_err-lanes-clause-back : goal.returns-in_err-lanes-clause-back
returns-in_err-lanes-clause-back c = let p = err_from_is_err_and c.from_residual-in_err-lanes.result c.from_residual-in_err-lanes.ensures.1 in λ road legal s. rw (p.1, p.2) refl

pub returns-in_err-lanes-clause-reported : goal.returns-in_err-lanes-clause-reported
returns-in_err-lanes-clause-reported c = let p = err_from_is_err_and c.from_residual-in_err-lanes.result c.from_residual-in_err-lanes.ensures.1 in λ fault f other. inr (p.1 ∙ ap Err p.2)

-- valid pictures are also valid for the largest limit
shows_more : (limit character : ℕ) → limit ≤ MAX_LIMIT → ShowsCell limit character → ShowsCell MAX_LIMIT character
shows_more limit character low (inl empty) = inl empty
shows_more limit character low (inr shown) = inr (record { speed = shown.speed; within = (let within = shown.within in omega (arith, low, within)); shown = shown.shown })

good_more : (limit : ℕ) (ps : List (List ℕ)) → AreValidPictures limit ps → AreValidPictures MAX_LIMIT ps
good_more limit ps good = record {
  shape = record { lanes = good.shape.lanes; lengths = good.shape.lengths; limit_fits = record { some_limit = omega arith; low_limit = omega arith } };
  cells = λ l x on h. shows_more limit _ good.shape.limit_fits.low_limit (good.cells l x on h);
}

pub draw_lanes-requires-clause-valid : goal.draw_lanes-requires-clause-valid
draw_lanes-requires-clause-valid c = good_more c.args.limit _ c.in_ok-check_pictures.ensures

pub draw_lanes-requires-clause-first : goal.draw_lanes-requires-clause-first
draw_lanes-requires-clause-first c = sym (ap length (picture_read c.args.lanes.now 0))

pub bounds-lanes-0 : goal.bounds-lanes-0
bounds-lanes-0 c =
    let some = c.in_ok-check_pictures.ensures.shape.lanes.some_lane in
    let count = length-map c.args.lanes.now (λ s. s.now) in
    omega (arith, some, count)

pub overflow_cast-result : goal.overflow_cast-result
overflow_cast-result c =
    let few = c.in_ok-check_pictures.ensures.shape.lengths.cells.few_cells in
    let size = ap length (picture_read c.args.lanes.now 0) in
    omega (arith, few, size)

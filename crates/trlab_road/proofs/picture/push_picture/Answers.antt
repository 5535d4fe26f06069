use Rattle.std.proofs.Common.{◌≡◌, ◌∙◌, ◌+◌, ◌-◌, ◌++◌, ℕ, List, [], length, take, set, replicate, refl, ap}
use Rattle.std.proofs.{Common.{arith, length-append, take_all}, lemmas.List.{length-map, set-append_right}}
use Rattle.trlab_road.specs.{Pictures.{dot, picture, speed_character}, Stored.{cells_of, place_of}}
use Rattle.trlab_road.proofs.{Lists.{length_cells, rises_high}, ListPictures.{empty_picture, picture_more}}
use Rattle.trlab_road.proofs.picture.push_picture.Goals as goal

-- the picture of an empty lane, after the old bytes
filled : (old : List ℕ) (start n len : ℕ) → start ≡ len → len ≡ length old → take (start + n) old ++ replicate (start + n - len) dot ≡ old ++ picture (cells_of n [])
filled old start n len e f =
    let count : start + n - len ≡ n = omega (arith, e) in
    rw (take_all (start + n) old (omega (arith, e, f)), count) (ap (λ bytes. old ++ bytes) (empty_picture 0 n))

-- a byte of the picture after the old bytes
set_behind : (old bytes : List ℕ) (start place b : ℕ) → start ≡ length old → set (old ++ bytes) (start + place) b ≡ old ++ set bytes place b
set_behind old bytes start place b e =
    let here : start + place - length old ≡ place = omega (arith, e) in
    set-append_right old bytes (length old) (start + place) b refl (omega (arith, e)) ∙ ap (λ i. old ++ set bytes i b) here

pub loop-k-init : goal.loop-k-init
loop-k-init c = c.in_ok-resize.ensures.items ∙ filled c.args.out.now.items c.len-start.result c.args.cells _ c.len-start.ensures c.args.out.now.ok.0

pub index_mut-requires : goal.index_mut-requires
index_mut-requires c =
    let shown = cells_of c.args.cells (take c.loop-k.k c.args.cars.now) in
    let high = rises_high 0 c.args.cells c.args.cars.now c.loop-k.k c.requires.sorted c.loop-k-test.true in
    let size = ap length c.loop-k.invariant ∙ length-append c.args.out.now.items (picture shown) in
    let cells : length (picture shown) ≡ c.args.cells = length-map shown _ ∙ length_cells c.args.cells (take c.loop-k.k c.args.cars.now) in
    let whole = c.loop-k.out.ok.0 in
    let start = c.len-start.ensures in
    let before = c.args.out.now.ok.0 in
    omega (arith, high, size, cells, whole, start, before)

pub loop-k-preserved : goal.loop-k-preserved
loop-k-preserved c =
    let shown = cells_of c.args.cells (take c.loop-k.k c.args.cars.now) in
    rw (c.loop-k.invariant, c.place_at.ensures) (set_behind c.args.out.now.items (picture shown) c.len-start.result (place_of c.args.cars.now c.loop-k.k) _ (c.len-start.ensures ∙ c.args.out.now.ok.0)
    ∙ ap (λ bytes. c.args.out.now.items ++ bytes) (picture_more c.args.cells c.args.cars.now c.loop-k.k _ c.requires.sorted c.loop-k-test.true (c.speed_character.ensures ∙ ap speed_character c.speed_at.ensures)))

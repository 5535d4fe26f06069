-- The bytes of a table determine its points.
use Rattle.std.proofs.Common.{◌≡◌, ℕ, ◌<◌, ◌≤◌, ◌^◌, List, [], ◌∷◌, ◌++◌, map, All, refl, sym, ◌∙◌, arith}
use Rattle.std.proofs.{Common.{rules, append_assoc, decimal, flat_map}, lemmas.List.append_cancel_left}
use Rattle.std.proofs.lemmas.{List.Elements.{All-head, All-tail}, Fmt.decimal_is_IsNumeral}
use Rattle.std.{proofs.lemmas.{Fmt.decimal_injective, Str.Parse.digit_from_value}, specs.Str.Parse.AllDigits}
use Rattle.trlab_diagram.specs.{declared.point.Point.Point, Tables.{flow_of, points_heading, line_text}}
use Rattle.trlab_diagram.specs.{Tables.point_line, Laws.{CountsFit64Bits, TableDeterminesPoints}}

-- digits end at a comma
cut : (xs us ys vs : List ℕ) → AllDigits 10 xs → AllDigits 10 us → xs ++ (44 ∷ ys) ≡ us ++ (44 ∷ vs) → (xs ≡ us) × (ys ≡ vs)
cut [] [] ys vs a b e = (refl, cc e)
cut [] (u ∷ us) ys vs a b e =
    let low : 48 ≤ u = (digit_from_value u b.0).0 in
    let same : 44 ≡ u = cc e in
    absurd (omega (arith, low, same))
cut (x ∷ xs) [] ys vs a b e =
    let low : 48 ≤ x = (digit_from_value x a.0).0 in
    let same : x ≡ 44 = cc e in
    absurd (omega (arith, low, same))
cut (x ∷ xs) (u ∷ us) ys vs a b e =
    let same : x ≡ u = cc e in
    let rest : xs ++ (44 ∷ ys) ≡ us ++ (44 ∷ vs) = cc e in
    let more = cut xs us ys vs a.1 b.1 rest in
    (cc (same, more.0), more.1)

-- a number before a comma, and the bytes after the comma
number : (m n : ℕ) (ys vs : List ℕ) → m < 2 ^ 64 → n < 2 ^ 64 → decimal m ++ (44 ∷ ys) ≡ decimal n ++ (44 ∷ vs) → (m ≡ n) × (ys ≡ vs)
number m n ys vs hm hn e =
    let both = cut (decimal m) (decimal n) ys vs (decimal_is_IsNumeral m hm).0.1 (decimal_is_IsNumeral n hn).0.1 e in
    (decimal_injective m n hm hn both.0, both.1)

-- the line of a point, piece by piece
abbrev line_onto : Point → List ℕ → List ℕ
line_onto p rest =
    decimal p.cars ++ (44 ∷ (decimal p.cells ++ (44 ∷ (decimal p.steps ++ (44 ∷ (decimal p.distance ++ (44 ∷ (decimal p.stopped
    ++ (44 ∷ (decimal p.changes ++ (44 ∷ (decimal (flow_of p) ++ (10 ∷ rest)))))))))))))

pieces : (p : Point) (rest : List ℕ) → line_text (point_line p) ++ rest ≡ line_onto p rest
pieces p rest = search (rules, append_assoc)

same_point : (p q : Point) → p.cars ≡ q.cars → p.cells ≡ q.cells → p.steps ≡ q.steps → p.distance ≡ q.distance → p.stopped ≡ q.stopped → p.changes ≡ q.changes → p ≡ q
same_point p q a b c d e f =
    let of : ℕ → ℕ → ℕ → ℕ → ℕ → ℕ → Point = λ x y z u v w. record { cars = x; cells = y; steps = z; distance = u; stopped = v; changes = w } in
    let same : of p.cars p.cells p.steps p.distance p.stopped p.changes ≡ of q.cars q.cells q.steps q.distance q.stopped q.changes = cc (a, b, c, d, e, f) in
    same

-- a line before others determines its point
line : (p q : Point) (ps qs : List ℕ) → CountsFit64Bits p → CountsFit64Bits q → line_onto p ps ≡ line_onto q qs → (p ≡ q) × (ps ≡ qs)
line p q ps qs hp hq e =
    let cars = number p.cars q.cars _ _ hp.cars hq.cars e in
    let cells = number p.cells q.cells _ _ hp.cells hq.cells cars.1 in
    let steps = number p.steps q.steps _ _ hp.steps hq.steps cells.1 in
    let distance = number p.distance q.distance _ _ hp.distance hq.distance steps.1 in
    let stopped = number p.stopped q.stopped _ _ hp.stopped hq.stopped distance.1 in
    let changes = number p.changes q.changes _ _ hp.changes hq.changes stopped.1 in
    let same = same_point p q cars.0 cells.0 steps.0 distance.0 stopped.0 changes.0 in
    let end : 10 ∷ ps ≡ 10 ∷ qs = append_cancel_left (decimal (flow_of p)) (10 ∷ ps) (10 ∷ qs) (rw (← same) at changes.1) in
    (same, cc end)

-- the rows after the heading
abbrev rows : List Point → List ℕ
rows points = flat_map line_text (map point_line points)

-- some bytes, a comma and more bytes are not an empty text
not_nothing : (xs ys : List ℕ) → xs ++ (44 ∷ ys) ≡ [] → ⊥
not_nothing [] ys e = cc e
not_nothing (x ∷ xs) ys e = cc e

same_rows : (points others : List Point) → All CountsFit64Bits points → All CountsFit64Bits others → rows points ≡ rows others → points ≡ others
same_rows [] [] ps qs e = refl
same_rows [] (q ∷ others) ps qs e = absurd (not_nothing (decimal q.cars) _ (sym (pieces q (rows others)) ∙ sym e))
same_rows (p ∷ points) [] ps qs e = absurd (not_nothing (decimal p.cars) _ (sym (pieces p (rows points)) ∙ e))
same_rows (p ∷ points) (q ∷ others) ps qs e =
    let first = line p q (rows points) (rows others) (All-head CountsFit64Bits p points ps) (All-head CountsFit64Bits q others qs)
    (sym (pieces p (rows points)) ∙ (e ∙ pieces q (rows others))) in
    let rest = same_rows points others (All-tail CountsFit64Bits p points ps) (All-tail CountsFit64Bits q others qs) first.1 in
    cc (first.0, rest)

pub table_determines_points : TableDeterminesPoints
table_determines_points points others ps qs e =
    same_rows points others ps qs (append_cancel_left (line_text points_heading) (rows points) (rows others) e)

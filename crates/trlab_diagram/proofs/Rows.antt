-- The output of the writer for fields that need no quotes.
use Rattle.std.proofs.Common.{◌≡◌, ℕ, ◌<◌, ◌≤◌, ◌^◌, List, [], ◌∷◌, ◌++◌, map, refl, arith, false, append-nil}
use Rattle.std.proofs.Common.{append_assoc, ◌+◌, length, take, get_or, rules, decimal, codes, ne_eqb}
use Rattle.std.proofs.lemmas.{Fmt.decimal_is_IsNumeral_wide, Str.Parse.digit_from_value}
use Rattle.std.{proofs.lemmas.{List.{take_more, map-append}, Grind.flat_map-append}, specs.Prelude.{⊤}}
use Rattle.std.specs.{List.join_with_byte, Str.Parse.AllDigits}
use Rattle.csv.specs.Writing.{default_writer, row_text, row_body, needs_quotes, fields_text, is_blank}
use Rattle.csv.specs.Quoting.{needs_byte}
use Rattle.trlab_diagram.specs.declared.point.{Point.Point, Window.Window}
use Rattle.trlab_diagram.specs.Tables.{flow_of, series_heading, window_line, window_columns, points_heading}
use Rattle.trlab_diagram.specs.Tables.{point_columns, point_line, line_text, points_text}

-- none of these fields needs quotes
abbrev ArePlain : List (List ℕ) → Type 0
ArePlain [] = ⊤
ArePlain (field ∷ fields) = (needs_quotes default_writer field ≡ false) × ArePlain fields

other : (c k : ℕ) → 48 ≤ c → k < 48 → c ≡ k → ⊥
other c k low small e = omega arith

plain_digit : (c : ℕ) → 48 ≤ c → needs_byte default_writer c ≡ false
plain_digit c low =
    rw (ne_eqb c 44 (other c 44 low (omega arith)), ne_eqb c 34 (other c 34 low (omega arith)), ne_eqb c 13 (other c 13 low (omega arith)), ne_eqb c 10 (other c 10 low (omega arith))) refl

plain_digits : (ds : List ℕ) → AllDigits 10 ds → needs_quotes default_writer ds ≡ false
plain_digits [] all = refl
plain_digits (c ∷ cs) all = rw (plain_digit c (digit_from_value c all.0).0, plain_digits cs all.1) refl

-- the digits of a number need no quotes
plain_number : (n : ℕ) → n < 2 ^ 128 → needs_quotes default_writer (decimal n) ≡ false
plain_number n small = plain_digits (decimal n) (decimal_is_IsNumeral_wide n (omega arith)).0.1

-- the output after the first of several plain fields
plain_body : (first : List ℕ) (fields : List (List ℕ)) → needs_quotes default_writer first ≡ false → ArePlain fields
    → row_body default_writer (first ∷ fields) ≡ join_with_byte 44 (first ∷ fields)
unfolding fields_text
plain_body first [] plain all = rw (plain, append-nil) refl
plain_body first (next ∷ fields) plain all = rw (plain, plain_body next fields all.0 all.1) refl

-- two or more plain fields, with a comma between each two
plain_row : (first next : List ℕ) (fields : List (List ℕ)) → needs_quotes default_writer first ≡ false
    → ArePlain (next ∷ fields)
    → row_text default_writer (first ∷ next ∷ fields) ≡ line_text (join_with_byte 44 (first ∷ next ∷ fields))
unfolding is_blank
plain_row first next fields plain all = rw (plain_body first (next ∷ fields) plain all) refl

abbrev pub columns : List (List ℕ)
columns = codes "cars" ∷ codes "cells" ∷ codes "steps" ∷ codes "distance" ∷ codes "stopped" ∷ codes "changes" ∷ codes "flow" ∷ []

pub heading_row : row_text default_writer columns ≡ line_text points_heading
heading_row = plain_row (codes "cars") (codes "cells") (codes "steps" ∷ codes "distance" ∷ codes "stopped" ∷ codes "changes" ∷ codes "flow" ∷ []) refl
    (refl, (refl, (refl, (refl, (refl, (refl, tt))))))

-- the line of one more point
pub next_line : (points : List Point) (i : ℕ) (d : Point) → i < length points
    → points_text (take i points) ++ line_text (point_line (get_or points i d)) ≡ points_text (take (i + 1) points)
next_line points i d below = search (rules, take_more points i d below, map-append, flat_map-append, append_assoc, append-nil)

pub point_row : (p : Point) → p.cars < 2 ^ 64 → p.cells < 2 ^ 64 → p.steps < 2 ^ 64 → p.distance < 2 ^ 64 → p.stopped < 2 ^ 64 → p.changes < 2 ^ 64
    → flow_of p < 2 ^ 128 → row_text default_writer (map decimal (point_columns p)) ≡ line_text (point_line p)
point_row p cars cells steps distance stopped changes flow =
    plain_row (decimal p.cars) (decimal p.cells) (decimal p.steps ∷ decimal p.distance ∷ decimal p.stopped ∷ decimal p.changes ∷ decimal (flow_of p) ∷ [])
    (plain_number p.cars (omega arith)) (
      plain_number p.cells (omega arith),
      (
        plain_number p.steps (omega arith),
        (
          plain_number p.distance (omega arith),
          (plain_number p.stopped (omega arith), (plain_number p.changes (omega arith), (plain_number (flow_of p) flow, tt))),
        ),
      ),
    )

-- ---- the table of a series

abbrev pub series_columns : List (List ℕ)
series_columns = codes "step" ∷ codes "cars" ∷ codes "cells" ∷ codes "steps" ∷ codes "distance" ∷ codes "stopped" ∷ codes "changes" ∷ codes "flow"
    ∷ codes "cars0" ∷ codes "distance0" ∷ codes "stopped0" ∷ codes "cars1" ∷ codes "distance1" ∷ codes "stopped1" ∷ []

pub series_row : row_text default_writer series_columns ≡ line_text series_heading
series_row = plain_row (codes "step") (codes "cars")
    (codes "cells" ∷ codes "steps" ∷ codes "distance" ∷ codes "stopped" ∷ codes "changes" ∷ codes "flow"
    ∷ codes "cars0" ∷ codes "distance0" ∷ codes "stopped0" ∷ codes "cars1" ∷ codes "distance1" ∷ codes "stopped1" ∷ []) refl
    (refl, (refl, (refl, (refl, (refl, (refl, (refl, (refl, (refl, (refl, (refl, (refl, (refl, tt)))))))))))))

-- each of these numbers fits in 128 bits
abbrev pub AreSmall : List ℕ → Type 0
AreSmall [] = ⊤
AreSmall (n ∷ ns) = (n < 2 ^ 128) × AreSmall ns

plain_all : (ns : List ℕ) → AreSmall ns → ArePlain (map decimal ns)
plain_all [] small = tt
plain_all (n ∷ ns) small = (plain_number n small.0, plain_all ns small.1)

plain_numbers : (a b : ℕ) (ns : List ℕ) → AreSmall (a ∷ b ∷ ns)
    → row_text default_writer (map decimal (a ∷ b ∷ ns)) ≡ line_text (join_with_byte 44 (map decimal (a ∷ b ∷ ns)))
plain_numbers a b ns small = plain_row (decimal a) (decimal b) (map decimal ns) (plain_number a small.0) (plain_all (b ∷ ns) small.1)

pub window_row : (w : Window) → AreSmall (window_columns w) → row_text default_writer (map decimal (window_columns w)) ≡ line_text (window_line w)
window_row w small = plain_numbers w.step w.point.cars
    (w.point.cells ∷ w.point.steps ∷ w.point.distance ∷ w.point.stopped ∷ w.point.changes ∷ flow_of w.point
    ∷ w.lane0.cars ∷ w.lane0.distance ∷ w.lane0.stopped ∷ w.lane1.cars ∷ w.lane1.distance ∷ w.lane1.stopped ∷ []) small

-- Comparing lists of cars.
use Rattle.std.proofs.Common.{◌≡◌, ℕ, List, [], ◌∷◌, Vec, Global, length, get_or, drop, map, refl, sym, ◌∙◌}
use Rattle.std.proofs.{Common.{ap, arith}, lemmas.List.length-map}
use Rattle.trlab_road.specs.Stored.{LaneCar, IsListedRoad, AreSorted, cells_of, lanes_from, lists_of}
use Rattle.trlab_road.{specs.Cells.{Cells, Lane}, proofs.ListRoads.{list_told, sorted_rest, length_first}}

-- equal lists give equal lanes, and one is sorted if the other is
by_lists : (n : ℕ) (lists : List (Vec LaneCar Global)) → lanes_from n lists ≡ map (cells_of n) (lists_of lists)
by_lists n [] = refl
by_lists n (v ∷ lists) = ap (λ (lanes : List Lane). cells_of n v.items ∷ lanes) (by_lists n lists)

pub same_lanes : (n : ℕ) (lists others : List (Vec LaneCar Global)) → lists_of lists ≡ lists_of others → lanes_from n lists ≡ lanes_from n others
same_lanes n lists others e = by_lists n lists ∙ ap (map (cells_of n)) e ∙ sym (by_lists n others)

pub same_sorted : (n : ℕ) (lists others : List (Vec LaneCar Global)) → lists_of lists ≡ lists_of others → AreSorted n others → AreSorted n lists
same_sorted n lists others e s =
    let a = length-map lists (λ (v : Vec LaneCar Global). v.items) in
    let b = length-map others (λ (v : Vec LaneCar Global). v.items) in
    let d = ap length e in
    record { rises = λ l h. rw (ap (λ (xs : List (List LaneCar)). get_or xs l []) e) (s.rises l (omega (arith, a, b, d, h))) }

-- sorted lists with the same lanes are equal
pub told_lists : (n : ℕ) (lists others : List (Vec LaneCar Global)) → AreSorted n lists → AreSorted n others
    → lanes_from n lists ≡ lanes_from n others → lists_of lists ≡ lists_of others
told_lists n [] [] r s e = refl
told_lists n [] (w ∷ others) r s e = absurd (let d = ap length e in omega (arith, d))
told_lists n (v ∷ lists) [] r s e = absurd (let d = ap length e in omega (arith, d))
told_lists n (v ∷ lists) (w ∷ others) r s e =
    let first = list_told n v.items w.items (r.rises 0 (omega arith)) (s.rises 0 (omega arith)) (ap (λ (lanes : List Lane). get_or lanes 0 []) e) in
    let rest = told_lists n lists others (sorted_rest n v lists r) (sorted_rest n w others s) (ap (drop 1) e) in
    ap (λ xs. xs ∷ lists_of lists) first ∙ ap (λ xs. w.items ∷ xs) rest

-- roads of one limit and one length whose lists are the same are equal, and no others
pub same_road : (limit limit' n n' : ℕ) (lists others : List (Vec LaneCar Global)) → limit ≡ limit' → n ≡ n' → lists_of lists ≡ lists_of others
    → ◌≡◌ {A = Cells} (record { limit = limit; lanes = lanes_from n lists }) (record { limit = limit'; lanes = lanes_from n' others })
same_road limit limit' n n' lists others e f g =
    ap (λ (lanes : List Lane). record { limit = limit; lanes = lanes }) (same_lanes n lists others g)
    ∙ ap (λ m. record { limit = m; lanes = lanes_from n others }) e ∙ ap (λ m. record { limit = limit'; lanes = lanes_from m others }) f

module _ (limit limit' n n' : ℕ) (lists others : List (Vec LaneCar Global))
    (kept : IsListedRoad n lists (record { limit = limit; lanes = lanes_from n lists })) (kept' : IsListedRoad n' others (record { limit = limit'; lanes = lanes_from n' others }))
    (e : ◌≡◌ {A = Cells} (record { limit = limit; lanes = lanes_from n lists }) (record { limit = limit'; lanes = lanes_from n' others })) where
  pub told_limit : limit ≡ limit'
  told_limit = ap (λ (road : Cells). road.limit) e

  pub told_length : n ≡ n'
  told_length = sym (length_first n lists limit kept) ∙ ap (λ (road : Cells). length (get_or road.lanes 0 [])) e ∙ length_first n' others limit' kept'

  pub told_road : lists_of lists ≡ lists_of others
  told_road = told_lists n lists others kept.sorted (rw told_length kept'.sorted) (ap (λ (road : Cells). road.lanes) e ∙ ap (λ m. lanes_from m others) (sym told_length))

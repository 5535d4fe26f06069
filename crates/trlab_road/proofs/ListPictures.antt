-- Pictures of a sorted list: filled with dots, then set car by car.
use Rattle.std.proofs.Common.{Some, ◌≡◌, ℕ, zero, suc, ◌+◌, ◌<◌, List, [], ◌∷◌, length, get_or, map, set}
use Rattle.std.proofs.Common.{take, replicate, refl, sym, ◌∙◌, ap, subst, arith, get_or-take, length-take-le}
use Rattle.std.{proofs.lemmas.List.{map-set, take_more}, specs.List.range_with_len}
use Rattle.trlab_road.specs.Stored.{LaneCar, cell_at, cells_of, IsSortedFrom, no_car, place_of}
use Rattle.trlab_road.specs.Pictures.{character, dot, speed_character, picture}
use Rattle.trlab_road.proofs.{Lists.{rises_high, rises_order}, ListPush.cells_push}

pub empty_picture : (a n : ℕ) → replicate n dot ≡ map character (map (cell_at []) (range_with_len a n))
empty_picture a zero = refl
empty_picture a (suc n) = ap (λ bytes. dot ∷ bytes) (empty_picture (a + 1) n)

-- the picture with one more car
pub picture_more : (n : ℕ) (cars : List LaneCar) (k b : ℕ) → IsSortedFrom 0 n cars → k < length cars → b ≡ speed_character (get_or cars k no_car).speed
    → set (picture (cells_of n (take k cars))) (place_of cars k) b ≡ picture (cells_of n (take (k + 1) cars))
picture_more n cars k b r low is =
    let car = get_or cars k no_car in
    let past : (j : ℕ) → j < length (take k cars) → place_of (take k cars) j < car.place = λ j h.
    let i : j < k = (let e = length-take-le k cars (omega arith) in omega (arith, e, h)) in
    subst (λ (c : LaneCar). c.place < car.place) (sym (get_or-take k cars j no_car i)) (rises_order 0 n cars j k r i low) in
    ap (set (picture (cells_of n (take k cars))) car.place) is
    ∙ sym (map-set character (cells_of n (take k cars)) car.place (Some (car.number, car.speed)))
    ∙ ap (map character) (sym (cells_push n (take k cars) car past (rises_high 0 n cars k r low)))
    ∙ ap (λ cs. picture (cells_of n cs)) (sym (take_more cars k no_car low))

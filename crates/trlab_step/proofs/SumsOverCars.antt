-- Sums over the cars of a road: the counts of a step are sums over the answers.
use Rattle.std.proofs.Common.{◌≡◌, ◌≢◌, ℕ, zero, suc, ◌+◌, ◌<◌, ◌≤◌, Bool, false, Some, None, List, [], ◌∷◌}
use Rattle.std.proofs.Common.{length, get_or, set, map, refl, sym, ◌∙◌, ap, subst, arith, cond, sum_by, sum}
use Rattle.std.proofs.{Common.{count_by, nat_eq, get_or-set_other, ext_get_or}, lemmas.List.length-map}
use Rattle.std.proofs.lemmas.List.Sums.{sum_by-cons, sum_by-append}
use Rattle.trlab_road.specs.declared.car.Car.{Car}
use Rattle.trlab_road.specs.Cells.{Lane, Cells, at, cars, standing_from, standing_from_lane, standing, rank}
use Rattle.trlab_road.specs.{Gaps.ahead, Motion.{LaneMoves, Moves, AreSafeSpeeds}, LaneChange.crosses_at}
use Rattle.trlab_road.proofs.{Ring.{Apart, apart_within_gaps}, MotionInOrder.{answer_at, allowed_fits}}
use Rattle.trlab_road.proofs.{Numbers.rank_of_kth, StandingOrder.{get_or-map_in, length-standing_from_lane}}
use Rattle.trlab_step.specs.Next.{total_speed, stopped_cars, crossing_cars}

-- the sum over the cars of a lane of a weight of each car's place, number and speed
weight : (ℕ → ℕ × ℕ → ℕ) → Lane → ℕ
weight f [] = 0
weight f (None ∷ cells) = weight (λ x. f (suc x)) cells
weight f (Some car ∷ cells) = f 0 car + weight (λ x. f (suc x)) cells

-- the weight of a lane without the car of one place
weight-set : (f : ℕ → ℕ × ℕ → ℕ) (lane : Lane) (y : ℕ) (b : ℕ × ℕ) → at lane y ≡ Some b → weight f lane ≡ f y b + weight f (set lane y None)
unfolding weight
weight-set f [] y b h = absurd cc
weight-set f (None ∷ cells) zero b h = absurd cc
weight-set f (None ∷ cells) (suc y) b h = weight-set (λ x. f (suc x)) cells y b h
weight-set f (Some car ∷ cells) zero b h = let e : car ≡ b = cc in ap (λ c. f 0 c + weight (λ x. f (suc x)) cells) e
weight-set f (Some car ∷ cells) (suc y) b h = let e = weight-set (λ x. f (suc x)) cells y b h in omega arith

-- if each car of a lane corresponds to a car of the same weight on another lane, the other lane weighs no
-- less
no_lighter : (f g : ℕ → ℕ × ℕ → ℕ) (xs ys : Lane) (R : ℕ → ℕ → Type 0) →
    ((x : ℕ) (a : ℕ × ℕ) → at xs x ≡ Some a → (y : ℕ) × ((b : ℕ × ℕ) × ((at ys y ≡ Some b) × R x y × (f x a ≡ g y b)))) →
    ((x z y : ℕ) → R x y → R z y → x ≡ z) →
    weight f xs ≤ weight g ys
unfolding weight
no_lighter f g [] ys R partner own = omega arith
no_lighter f g (None ∷ xs) ys R partner own = no_lighter (λ x. f (suc x)) g xs ys (λ x y. R (suc x) y) (λ x a h. partner (suc x) a h) (λ x z y h k. let e = own (suc x) (suc z) y h k in omega arith)
no_lighter f g (Some a ∷ xs) ys R partner own =
    let p = partner 0 a refl in
    let y = p.0 in
    let there = p.1.1.0 in
    let less : Lane = set ys y None in
    let rest = no_lighter (λ x. f (suc x)) g xs less (λ x z. R (suc x) z)
    (λ x b h. let q = partner (suc x) b h in
    (q.0, (q.1.0, ((let ne : q.0 ≢ y = λ e. let w = own (suc x) 0 y (subst (λ k. R (suc x) k) e q.1.1.1) p.1.1.1 in absurd (omega arith) in get_or-set_other ys y q.0 None None ne ∙ q.1.1.0), q.1.1.1, q.1.1.2))))
    (λ x z w h k. let e = own (suc x) (suc z) w h k in omega arith) in
    let split = weight-set g ys y p.1.0 there in
    let same = p.1.1.2 in
    omega (arith, rest, split, same)

-- the weight of a lane's answers before the motion is the weight of its speeds after it
lane_total : (g : ℕ → ℕ) (answer : ℕ → ℕ) (old new : Lane) → LaneMoves answer old new → Apart answer old → weight (λ x car. g (answer x)) old ≡ weight (λ x car. g car.1) new
lane_total g answer old new m far =
    let Goes : ℕ → ℕ → Type 0 = λ x y. (number : ℕ) × ((before : ℕ) × ((at old x ≡ Some (number, before)) × (y ≡ ahead (length old) x (answer x)))) in
    let no_less : weight (λ x car. g (answer x)) old ≤ weight (λ x car. g car.1) new =
    no_lighter (λ x car. g (answer x)) (λ x car. g car.1) old new Goes
    (λ x a h. (ahead (length old) x (answer x), ((a.0, answer x), (m.arrives x a.0 a.1 h, (a.0, (a.1, (h, refl))), refl))))
    (λ x z y h k. far.apart x z h.0 k.0 h.1.0 k.1.0 h.1.1.0 k.1.1.0 (sym h.1.1.1 ∙ k.1.1.1)) in
    let no_more : weight (λ x car. g car.1) new ≤ weight (λ x car. g (answer x)) old =
    no_lighter (λ x car. g car.1) (λ x car. g (answer x)) new old (λ y x. y ≡ ahead (length old) x (answer x))
    (λ y a h. let came = m.nothing_else y a.0 a.1 h in (came.0, ((a.0, came.1.0), (came.1.1.was, came.1.1.reaches, ap g came.1.1.at_speed))))
    (λ y z x h k. h ∙ sym k) in
    omega (arith, no_less, no_more)

-- the sum over the cars of a lane, in standing order
lane_sum : (h : Car → ℕ) (f : ℕ → ℕ × ℕ → ℕ) (l s : ℕ) (lane : Lane) → ((x : ℕ) (car : ℕ × ℕ) → h (record { number = car.0; lane = l; place = s + x; speed = car.1 }) ≡ f x car) → sum_by h (standing_from l s lane) ≡ weight f lane
unfolding weight
lane_sum h f l s [] same = refl
lane_sum h f l s (None ∷ cells) same =
    lane_sum h (λ x. f (suc x)) l (suc s) cells
    (λ x car. let e : suc s + x ≡ s + suc x = omega arith in ap (λ p. h (record { number = car.0; lane = l; place = p; speed = car.1 })) e ∙ same (suc x) car)
lane_sum h f l s (Some here ∷ cells) same =
    let z : s ≡ s + 0 = omega arith in
    let head = ap (λ p. h (record { number = here.0; lane = l; place = p; speed = here.1 })) z ∙ same 0 here in
    let rest = lane_sum h (λ x. f (suc x)) l (suc s) cells
    (λ x car. let e : suc s + x ≡ s + suc x = omega arith in ap (λ p. h (record { number = car.0; lane = l; place = p; speed = car.1 })) e ∙ same (suc x) car) in
    sum_by-cons h (record { number = here.0; lane = l; place = s; speed = here.1 }) (standing_from l (suc s) cells) ∙ ap (λ n. n + sum_by h (standing_from l (suc s) cells)) head ∙ ap (λ n. f 0 here + n) rest

-- the weight of the lanes' answers before the motion is the weight of their speeds after it
lanes_total : (g : ℕ → ℕ) (answer : ℕ → ℕ → ℕ) (base : ℕ) (olds news : List Lane) → length news ≡ length olds
    → ((l : ℕ) → l < length olds → LaneMoves (answer (base + l)) (get_or olds l []) (get_or news l []))
    → ((l : ℕ) → l < length olds → Apart (answer (base + l)) (get_or olds l []))
    → sum_by (λ (car : Car). g (answer car.lane car.place)) (standing_from_lane base olds) ≡ sum_by (λ (car : Car). g car.speed) (standing_from_lane base news)
lanes_total g answer base [] [] size moves far = refl
lanes_total g answer base [] (new ∷ news) size moves far = absurd (omega arith)
lanes_total g answer base (old ∷ olds) [] size moves far = absurd (omega arith)
lanes_total g answer base (old ∷ olds) (new ∷ news) size moves far =
    let before : Car → ℕ = λ car. g (answer car.lane car.place) in
    let after : Car → ℕ = λ car. g car.speed in
    let here : base + 0 ≡ base = omega arith in
    let move : LaneMoves (answer base) old new = subst (λ k. LaneMoves (answer k) old new) here (moves 0 (omega arith)) in
    let apart : Apart (answer base) old = subst (λ k. Apart (answer k) old) here (far 0 (omega arith)) in
    let first = lane_sum before (λ x car. g (answer base x)) base 0 old (λ x car. let e : 0 + x ≡ x = omega arith in ap (λ p. g (answer base p)) e) in
    let last = lane_sum after (λ x car. g car.1) base 0 new (λ x car. refl) in
    let lane : sum_by before (standing_from base 0 old) ≡ sum_by after (standing_from base 0 new) = first ∙ lane_total g (answer base) old new move apart ∙ sym last in
    let rest : sum_by before (standing_from_lane (suc base) olds) ≡ sum_by after (standing_from_lane (suc base) news) =
    lanes_total g answer (suc base) olds news (omega arith)
    (λ l h. let e : base + suc l ≡ suc base + l = omega arith in subst (λ k. LaneMoves (answer k) (get_or olds l []) (get_or news l [])) e (moves (suc l) (omega arith)))
    (λ l h. let e : base + suc l ≡ suc base + l = omega arith in subst (λ k. Apart (answer k) (get_or olds l [])) e (far (suc l) (omega arith))) in
    let a = sum_by-append before (standing_from base 0 old) (standing_from_lane (suc base) olds) in
    let b = sum_by-append after (standing_from base 0 new) (standing_from_lane (suc base) news) in
    omega (arith, lane, rest, a, b)

sum_by-map : {X Y : Type 0} (g : Y → ℕ) (f : X → Y) (xs : List X) → sum_by g (map f xs) ≡ sum_by (λ x. g (f x)) xs
sum_by-map g f [] = refl
sum_by-map g f (x ∷ xs) =
    let a = sum_by-cons g (f x) (map f xs) in
    let b = sum_by-cons (λ y. g (f y)) x xs in
    let c = sum_by-map g f xs in
    omega (arith, a, b, c)

no_one : Car
no_one = record { number = 0; lane = 0; place = 0; speed = 0 }

-- the answers in standing order are the answers of the cars' places
pub answers_in_order : {X : Type 0} (none : X) (road : Cells) (answers : List X) → length answers ≡ cars road → map (λ (car : Car). get_or answers (rank road car.lane car.place) none) (standing road) ≡ answers
unfolding no_one
answers_in_order none road answers size =
    let answer = λ (car : Car). get_or answers (rank road car.lane car.place) none in
    let count = length-standing_from_lane 0 road.lanes in
    ext_get_or none (map answer (standing road)) answers (length-map (standing road) answer ∙ count ∙ sym size)
    (λ k h. let below : k < length (standing road) = rw length-map at h in
    get_or-map_in answer (standing road) k no_one none below ∙ ap (λ i. get_or answers i none) (rank_of_kth road k (omega (arith, below, count))))

-- the weight of the speeds after the motion is the weight of the answers
moved_total : (g : ℕ → ℕ) (road next : Cells) (speeds : List ℕ) → AreSafeSpeeds road speeds → Moves (answer_at road speeds) road next → sum_by (λ (car : Car). g car.speed) (standing next) ≡ sum_by g speeds
moved_total g road next speeds allowed moves =
    let answer = answer_at road speeds in
    let fits = allowed_fits road speeds allowed in
    let zero_first : (l : ℕ) → l ≡ 0 + l = λ l. omega arith in
    let lanes = lanes_total g answer 0 road.lanes next.lanes moves.same_lanes
    (λ l h. subst (λ k. LaneMoves (answer k) (get_or road.lanes l []) (get_or next.lanes l [])) (zero_first l) (moves.each_lane l h))
    (λ l h. subst (λ k. Apart (answer k) (get_or road.lanes l [])) (zero_first l) (apart_within_gaps (answer l) (get_or road.lanes l []) (fits.each_lane l h))) in
    sym lanes ∙ sym (sum_by-map g (λ (car : Car). answer car.lane car.place) (standing road)) ∙ ap (sum_by g) (answers_in_order 0 road speeds allowed.one_each)

-- the sum of the answers is the sum of the speeds after the motion
pub total_speed-moved : (road next : Cells) (speeds : List ℕ) → AreSafeSpeeds road speeds → Moves (answer_at road speeds) road next → total_speed next ≡ sum speeds
total_speed-moved road next speeds allowed moves = moved_total (λ s. s) road next speeds allowed moves

-- there are as many answers 0 as stopped cars after the motion
pub stopped_cars-moved : (road next : Cells) (speeds : List ℕ) → AreSafeSpeeds road speeds → Moves (answer_at road speeds) road next → stopped_cars next ≡ count_by (λ s. nat_eq s 0) speeds
stopped_cars-moved road next speeds allowed moves = moved_total (λ s. cond (nat_eq s 0) 1 0) road next speeds allowed moves

-- there are as many lane changes as answers for them
pub crossing_cars-counted : (road : Cells) (crosses : List Bool) → length crosses ≡ cars road → crossing_cars (crosses_at road crosses) road ≡ count_by (λ c. c) crosses
crossing_cars-counted road crosses size =
    let one : Bool → ℕ = λ c. cond c 1 0 in
    sym (sum_by-map one (λ (car : Car). crosses_at road crosses car.lane car.place) (standing road)) ∙ ap (sum_by one) (answers_in_order false road crosses size)

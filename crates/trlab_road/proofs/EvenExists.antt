-- Spreading cars evenly gives a legal road, or has a first fault.
use Rattle.std.proofs.Common.{◌≡◌, ◌≢◌, ℕ, zero, suc, ◌+◌, ◌*◌, ◌<◌, ◌≤◌, ◌⊎◌, Some, None, [], map, replicate}
use Rattle.std.proofs.Common.{set, Result, Ok, Err, refl, sym, ap, subst, arith, inl, inr}
use Rattle.std.proofs.lemmas.{Bool.{cases_lt, Decides.eqb_tells}, List.FromFn.length-map-range_with_len}
use Rattle.std.{proofs.lemmas.List.FromFn.get_or-map-range_with_len, specs.List.range_with_len}
use Rattle.trlab_road.specs.declared.fault.RoadFault.{RoadFault, TheVariants.{Lanes, Length, Limit, Memory}}
use Rattle.trlab_road.specs.{declared.fault.RoadFault.TheVariants.TooManyCars, Cells.{Cells, Lane}}
use Rattle.trlab_road.specs.Spreading.{CanSpread, IsEvenlySpaced, IsEvenSpacingFault, IsEvenlySpacedLane}
use Rattle.trlab_road.specs.{Spreading.{even_lane, even_place}, Laws.EvenCarsMean}
use Rattle.trlab_road.proofs.EvenLanes.{EvenUpTo, even_all, even_more, even_none, even_skip}
use Rattle.trlab_road.proofs.EvenRoads.{even_legal, no_fault, one_even, one_fault}
use Rattle.trlab_road.proofs.PictureFaults.{cases_memory, lanes_or_not, length_or_not, limit_or_not}

abbrev Answer : Type 0
Answer = Result Cells RoadFault

-- a lane with the first i cars
lane_up_to : (lanes cells n l : ℕ) → 0 < lanes → n ≤ lanes * cells → (i : ℕ) → i ≤ n → (lane : Lane) × EvenUpTo lanes cells n l i lane
lane_up_to lanes cells n l some room zero h = (replicate cells None, even_none lanes cells n l)
lane_up_to lanes cells n l some room (suc i) h =
    let before = lane_up_to lanes cells n l some room i (omega arith) in
    let next : i + 1 ≡ suc i = omega arith in
    elim (eqb_tells (even_lane lanes cells n i) l) [
      | inl here ↦ (set before.0 (even_place lanes cells n i) (Some (i, 0)), rw (← next) (even_more lanes cells n l i before.0 some room (omega arith) before.1 here.1))
      | inr other ↦ (before.0, rw (← next) (even_skip lanes cells n l i before.0 before.1 other.1))
    ]

-- the road with such lanes
even_exists : (lanes cells limit n : ℕ) → CanSpread lanes cells limit n → (road : Cells) × IsEvenlySpaced lanes cells limit n road
even_exists lanes cells limit n fits =
    let some : 0 < lanes = fits.lanes_fit.some_lane in
    let lane : (l : ℕ) → (one : Lane) × EvenUpTo lanes cells n l n one = λ l. lane_up_to lanes cells n l some fits.room n (omega arith) in
    let all = map (λ l. (lane l).0) (range_with_len 0 lanes) in (
      record { limit = limit; lanes = all },
      record {
        same_limit = refl;
        same_lanes = length-map-range_with_len (λ l. (lane l).0) 0 lanes;
        each_lane = λ l h.
            let start : 0 + l ≡ l = omega arith in
            let at_l = get_or-map-range_with_len (λ k. (lane k).0) 0 lanes l l [] h start in
            subst (λ (one : Lane). IsEvenlySpacedLane lanes cells n l one) (sym at_l) (even_all lanes cells n l n (lane l).0 (omega arith) (omega arith) (lane l).1);
      },
    )

fitting_says : (lanes cells limit n : ℕ) → CanSpread lanes cells limit n → (said : Answer) × EvenCarsMean lanes cells limit n said
fitting_says lanes cells limit n fits =
    let made = even_exists lanes cells limit n fits in
    (Ok made.0, (fits, made.1, even_legal lanes cells limit n made.0 fits made.1))

pub something : (lanes cells limit n : ℕ) → (said : Answer) × EvenCarsMean lanes cells limit n said
something lanes cells limit n =
    elim (lanes_or_not lanes) [
      | inr not_lanes ↦ (Err Lanes, (not_lanes, λ e. cc))
      | inl lanes_fit ↦ elim (length_or_not cells) [
        | inr not_length ↦ (Err Length, ((lanes_fit, not_length), λ e. cc))
        | inl length_fits ↦ elim (limit_or_not limit) [
          | inr not_limit ↦ (Err Limit, ((lanes_fit, length_fits, not_limit), λ e. cc))
          | inl limit_fits ↦ elim (cases_lt (lanes * cells) n) [
            | inl many ↦ (Err TooManyCars, ((lanes_fit, length_fits, limit_fits, many), λ e. cc))
            | inr room ↦ fitting_says lanes cells limit n (record { lanes_fit = lanes_fit; length_fits = length_fits; limit_fits = limit_fits; room = room })
          ]
        ]
      ]
    ]

pub one_thing : (lanes cells limit n : ℕ) (said other : Answer) → EvenCarsMean lanes cells limit n said → EvenCarsMean lanes cells limit n other → said ≡ other
one_thing lanes cells limit n (Ok road) (Ok other) s t = ap Ok (one_even lanes cells limit n road other s.1 t.1)
one_thing lanes cells limit n (Ok road) (Err f) s t = absurd (t.1 (no_fault lanes cells limit n f s.0 t.0))
one_thing lanes cells limit n (Err f) (Ok road) s t = absurd (s.1 (no_fault lanes cells limit n f t.0 s.0))
one_thing lanes cells limit n (Err f) (Err g) s t = ap Err (one_fault lanes cells limit n f g s.0 t.0 s.1 t.1)

pub told_fault : (lanes cells limit n : ℕ) (f : RoadFault) → IsEvenSpacingFault lanes cells limit n f → (g : RoadFault) → IsEvenSpacingFault lanes cells limit n g
    → g ≢ Memory → (◌≡◌ {A = Answer} (Err f) (Err g)) ⊎ (◌≡◌ {A = Answer} (Err f) (Err Memory))
told_fault lanes cells limit n f first g other some =
    elim (cases_memory f) [ inl none ↦ inr (ap Err none) | inr not ↦ inl (ap Err (one_fault lanes cells limit n f g first other not some)) ]

pub told_road : (lanes cells limit n : ℕ) (road : Cells) → CanSpread lanes cells limit n → (g : RoadFault) → IsEvenSpacingFault lanes cells limit n g
    → g ≢ Memory → (◌≡◌ {A = Answer} (Ok road) (Err g)) ⊎ (◌≡◌ {A = Answer} (Ok road) (Err Memory))
told_road lanes cells limit n road fits g first some = absurd (some (no_fault lanes cells limit n g fits first))

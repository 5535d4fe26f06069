-- Any limit and pictures show a legal road, or have a first fault.
use Rattle.std.proofs.Common.{◌≡◌, ◌≢◌, ◌↔◌, ℕ, zero, suc, ◌<◌, ◌≤◌, ◌⊎◌, List, map, length, Result, Ok, Err}
use Rattle.std.proofs.Common.{refl, sym, ap, ◌∙◌, subst, arith, inl, inr}
use Rattle.std.proofs.lemmas.Bool.{cases_lt, cases_order, Decides.eqb_tells}
use Rattle.trlab_road.specs.declared.fault.RoadFault.{RoadFault, TheVariants.{Lanes, Length, Limit}}
use Rattle.trlab_road.specs.declared.fault.RoadFault.TheVariants.{Character, SpeedAboveLimit, Memory}
use Rattle.trlab_road.specs.Cells.{Cells, IsLegal, LanesFit, LengthFits, LimitFits}
use Rattle.trlab_road.specs.Pictures.{HaveEqualLengths, IsFirstBadCharacter, IsFirstPictureFault}
use Rattle.trlab_road.specs.Pictures.{AreValidPictures, AreNumberedInOrder, PicturesShow, ShowsCell}
use Rattle.trlab_road.specs.{Pictures.{character_at, dot, picture, picture_at}, Laws.PicturesMean}
use Rattle.trlab_road.{specs.Stored.lanes_of_pictures, proofs.Characters.shows_speed_or_not}
use Rattle.trlab_road.proofs.PictureLaws.{draws, no_fault, one_fault, one_shown, pictures_good, shown_legal}
use Rattle.trlab_bounds.specs.declared.roads.TheConstants.{MAX_LENGTH, MAX_LIMIT, MAX_LANES}

abbrev Answer : Type 0
Answer = Result Cells RoadFault

-- the pictures of a legal road are free of faults
pub no_fault_shown : (limit : ℕ) (ps : List (List ℕ)) (fault : RoadFault) → IsFirstPictureFault limit ps fault
    → (road : Cells) → IsLegal road → PicturesShow limit ps road → fault ≡ Memory
no_fault_shown limit ps fault h road legal s =
    let good = subst (λ (qs : List (List ℕ)). AreValidPictures road.limit qs) s.drawn (pictures_good road legal) in
    no_fault limit ps fault (subst (λ (k : ℕ). AreValidPictures k ps) s.same_limit good) h

-- whether a fault is that an allocation failed
pub cases_memory : (f : RoadFault) → (f ≡ Memory) ⊎ (f ≢ Memory)
cases_memory Memory = inl refl
cases_memory _ = inr (λ e. cc)

pub told_fault : (limit : ℕ) (ps : List (List ℕ)) (f : RoadFault) → IsFirstPictureFault limit ps f → (g : RoadFault) → IsFirstPictureFault limit ps g
    → g ≢ Memory → (◌≡◌ {A = Answer} (Err f) (Err g)) ⊎ (◌≡◌ {A = Answer} (Err f) (Err Memory))
told_fault limit ps f first g other some =
    elim (cases_memory f) [ inl none ↦ inr (ap Err none) | inr not ↦ inl (ap Err (one_fault limit ps f g first other not some)) ]

pub told_road : (limit : ℕ) (ps : List (List ℕ)) (road : Cells) → IsLegal road → PicturesShow limit ps road → (g : RoadFault) → IsFirstPictureFault limit ps g
    → g ≢ Memory → (◌≡◌ {A = Answer} (Ok road) (Err g)) ⊎ (◌≡◌ {A = Answer} (Ok road) (Err Memory))
told_road limit ps road legal shows g first some = absurd (some (no_fault_shown limit ps g first road legal shows))

-- only one result
pub one_thing : (limit : ℕ) (ps : List (List ℕ)) (said other : Answer) → PicturesMean limit ps said → PicturesMean limit ps other → said ≡ other
one_thing limit ps (Ok road) (Ok other) s t = ap Ok (one_shown limit ps road other s.0 t.0)
one_thing limit ps (Ok road) (Err f) s t = absurd (t.1 (no_fault_shown limit ps f t.0 road s.1 s.0))
one_thing limit ps (Err f) (Ok road) s t = absurd (s.1 (no_fault_shown limit ps f s.0 road t.1 t.0))
one_thing limit ps (Err f) (Err g) s t = ap Err (one_fault limit ps f g s.0 t.0 s.1 t.1)

-- the same road
pub same_again : (road : Cells) (said : Answer) → IsLegal road → AreNumberedInOrder road → PicturesMean road.limit (map picture road.lanes) said ↔ (said ≡ Ok road)
same_again road said legal numbered =
    let itself : PicturesMean road.limit (map picture road.lanes) (Ok road) = (record { same_limit = refl; drawn = refl; numbered = numbered }, legal) in
    (λ s. one_thing road.limit (map picture road.lanes) said (Ok road) s itself, λ e. rw e itself)

-- each of the conditions holds or not

shows_cell_or_not : (limit byte : ℕ) → ShowsCell limit byte ⊎ (¬ (ShowsCell limit byte))
shows_cell_or_not limit byte =
    elim (eqb_tells byte dot) [
      | inl dot ↦ inl (inl dot.1)
      | inr other ↦ elim (shows_speed_or_not limit byte) [
        | inl digit ↦ inl (inr digit)
        | inr none ↦ inr (λ h. elim h [ inl e ↦ other.1 e | inr d ↦ none d ])
      ]
    ]

pub lanes_or_not : (lanes : ℕ) → LanesFit lanes ⊎ (¬ (LanesFit lanes))
lanes_or_not lanes =
    elim (cases_lt lanes 1) [
      | inl none ↦ inr (λ h. let k = h.some_lane in absurd (omega arith))
      | inr some ↦ elim (cases_lt MAX_LANES lanes) [
        | inl many ↦ inr (λ h. let k = h.few_lanes in absurd (omega arith))
        | inr few ↦ inl (record { some_lane = some; few_lanes = few })
      ]
    ]

pub length_or_not : (cells : ℕ) → LengthFits cells ⊎ (¬ (LengthFits cells))
length_or_not cells =
    elim (cases_lt cells 1) [
      | inl none ↦ inr (λ h. let k = h.some_cell in absurd (omega arith))
      | inr some ↦ elim (cases_lt MAX_LENGTH cells) [
        | inl many ↦ inr (λ h. let k = h.few_cells in absurd (omega arith))
        | inr few ↦ inl (record { some_cell = some; few_cells = few })
      ]
    ]

pub limit_or_not : (limit : ℕ) → LimitFits limit ⊎ (¬ (LimitFits limit))
limit_or_not limit =
    elim (cases_lt limit 1) [
      | inl none ↦ inr (λ h. let k = h.some_limit in absurd (omega arith))
      | inr some ↦ elim (cases_lt MAX_LIMIT limit) [
        | inl high ↦ inr (λ h. let k = h.low_limit in absurd (omega arith))
        | inr low ↦ inl (record { some_limit = some; low_limit = low })
      ]
    ]

-- the first n lanes are as long as the first, or one is not
lengths_or_not : (ps : List (List ℕ)) (n : ℕ) → n ≤ length ps
    → ((l : ℕ) → l < n → length (picture_at ps l) ≡ length (picture_at ps 0)) ⊎ (¬ (HaveEqualLengths ps))
lengths_or_not ps zero h = inl (λ l below. absurd (omega arith))
lengths_or_not ps (suc n) h =
    elim (lengths_or_not ps n (omega arith)) [
      | inr no_one ↦ inr no_one
      | inl before ↦ elim (eqb_tells (length (picture_at ps n)) (length (picture_at ps 0))) [
        | inr other ↦ inr (λ e. other.1 (e.equal n (omega arith)))
        | inl same ↦ inl (λ l below. elim (cases_order l n) [
          | inl is ↦ ap (λ k. length (picture_at ps k)) is ∙ same.1
          | inr apart ↦ elim apart [ inl low ↦ before l low | inr high ↦ absurd (omega arith) ]
        ])
      ]
    ]

equal_or_not : (ps : List (List ℕ)) → HaveEqualLengths ps ⊎ (¬ (HaveEqualLengths ps))
equal_or_not ps =
    elim (length_or_not (length (picture_at ps 0))) [
      | inr none ↦ inr (λ h. none h.cells)
      | inl fits ↦ elim (lengths_or_not ps (length ps) (omega arith)) [
        | inr no_one ↦ inr no_one
        | inl same ↦ inl (record { cells = fits; equal = same })
      ]
    ]

-- the bytes of a lane before x show cells
abbrev PlacesShow : ℕ → List (List ℕ) → ℕ → ℕ → Type 0
PlacesShow limit ps l x = (y : ℕ) → y < x → ShowsCell limit (character_at ps l y)

-- all bytes of the lanes before l show cells
abbrev LanesShow : ℕ → List (List ℕ) → ℕ → Type 0
LanesShow limit ps l = (m y : ℕ) → m < l → y < length (picture_at ps m) → ShowsCell limit (character_at ps m y)

abbrev SomeBad : ℕ → List (List ℕ) → Type 0
SomeBad limit ps = (l : ℕ) × ((x : ℕ) × IsFirstBadCharacter limit ps l x)

places_or_bad : (limit : ℕ) (ps : List (List ℕ)) (l : ℕ) → l < length ps → LanesShow limit ps l → (x : ℕ) → x ≤ length (picture_at ps l)
    → PlacesShow limit ps l x ⊎ SomeBad limit ps
places_or_bad limit ps l on earlier zero h = inl (λ y below. absurd (omega arith))
places_or_bad limit ps l on earlier (suc x) h =
    elim (places_or_bad limit ps l on earlier x (omega arith)) [
      | inr found ↦ inr found
      | inl before ↦ elim (shows_cell_or_not limit (character_at ps l x)) [
        | inr bad ↦ inr (l, (x, record { on_lane = on; inside = omega arith; bad = bad; earlier_lanes = earlier; earlier_places = before }))
        | inl shows ↦ inl (λ y below. elim (cases_order y x) [
          | inl is ↦ subst (λ k. ShowsCell limit (character_at ps l k)) (sym is) shows
          | inr apart ↦ elim apart [ inl low ↦ before y low | inr high ↦ absurd (omega arith) ]
        ])
      ]
    ]

lanes_or_bad : (limit : ℕ) (ps : List (List ℕ)) (l : ℕ) → l ≤ length ps → LanesShow limit ps l ⊎ SomeBad limit ps
lanes_or_bad limit ps zero h = inl (λ m y below inside. absurd (omega arith))
lanes_or_bad limit ps (suc l) h =
    elim (lanes_or_bad limit ps l (omega arith)) [
      | inr found ↦ inr found
      | inl before ↦ elim (places_or_bad limit ps l (omega arith) before (length (picture_at ps l)) (omega arith)) [
        | inr found ↦ inr found
        | inl here ↦ inl (λ m y below inside. elim (cases_order m l) [
          | inl is ↦ subst (λ k. ShowsCell limit (character_at ps k y)) (sym is) (here y (subst (λ k. y < length (picture_at ps k)) is inside))
          | inr apart ↦ elim apart [ inl low ↦ before m y low inside | inr high ↦ absurd (omega arith) ]
        ])
      ]
    ]

good_says : (limit : ℕ) (ps : List (List ℕ)) → AreValidPictures limit ps → (said : Answer) × PicturesMean limit ps said
good_says limit ps good =
    let road : Cells = record { limit = limit; lanes = lanes_of_pictures 0 ps } in
    (Ok road, (draws limit ps good, shown_legal limit ps road good (draws limit ps good)))

pub something : (limit : ℕ) (ps : List (List ℕ)) → (said : Answer) × PicturesMean limit ps said
something limit ps =
    elim (lanes_or_not (length ps)) [
      | inr not_few ↦ (Err Lanes, (not_few, λ e. cc))
      | inl few ↦ elim (equal_or_not ps) [
        | inr not_equal ↦ (Err Length, ((few, not_equal), λ e. cc))
        | inl equal ↦ elim (limit_or_not limit) [
          | inr not_fit ↦ (Err Limit, ((few, equal, not_fit), λ e. cc))
          | inl fits ↦ elim (lanes_or_bad limit ps (length ps) (omega arith)) [
            | inl shown ↦ good_says limit ps (record { shape = record { lanes = few; lengths = equal; limit_fits = fits }; cells = shown })
            | inr found ↦ elim (shows_speed_or_not MAX_LIMIT (character_at ps found.0 found.1.0)) [
              | inl digit ↦ (Err (SpeedAboveLimit found.0 found.1.0), (((record { lanes = few; lengths = equal; limit_fits = fits }, found.1.1), digit), λ e. cc))
              | inr none ↦ (Err (Character found.0 found.1.0), (((record { lanes = few; lengths = equal; limit_fits = fits }, found.1.1), none), λ e. cc))
            ]
          ]
        ]
      ]
    ]

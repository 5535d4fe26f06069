-- The result for a road, from its lanes, line by line.
use Rattle.std.proofs.Common.{◌≡◌, ℕ, List, refl, subst, Option, Result, Ok, Err}
use Rattle.trlab_road.specs.Cells.{Cells}
use Rattle.trlab_texts.specs.declared.fault.TextFault.{TextFault, TheVariants.{At, Memory}}
use Rattle.trlab_texts.specs.Reading.{Rest, LocatedFault, line, exactly, Reports, before}
use Rattle.trlab_jobs.specs.Job.{lane_word, second_lane, PicturesParseTo, lanes}

-- the result for the pictures, by the line of the first lane
abbrev PicturesSayAt : ℕ → List ℕ → Option (List ℕ) → ℕ → Result Cells LocatedFault → Type 0
PicturesSayAt limit picture second first says = PicturesParseTo first limit picture second says

lanes_say : (limit first : ℕ) (place middle behind : Rest) (picture : List ℕ) (second : Option (List ℕ)) (says : Result Cells LocatedFault) → first ≡ place.number
    → line (exactly lane_word) place (Ok (picture, middle)) → second_lane middle (Ok (second, behind))
    → PicturesParseTo first limit picture second says → lanes limit place (before behind says)
lanes_say limit first place middle behind picture second says here one two shows =
    (Ok (picture, middle), (one, (Ok (second, behind), (two, (says, (subst (λ n. PicturesSayAt limit picture second n says) here shows, refl))))))

-- the road that they show
pub lanes_show : (limit first : ℕ) (place middle behind : Rest) (picture : List ℕ) (second : Option (List ℕ)) (road : Cells) → first ≡ place.number
    → line (exactly lane_word) place (Ok (picture, middle)) → second_lane middle (Ok (second, behind))
    → PicturesParseTo first limit picture second (Ok road) → lanes limit place (Ok (road, behind))
lanes_show limit first place middle behind picture second road here one two shows =
    lanes_say limit first place middle behind picture second (Ok road) here one two shows

-- the fault of the pictures
pub lanes_fail : (limit first : ℕ) (place middle behind : Rest) (picture : List ℕ) (second : Option (List ℕ)) (fault : TextFault) → first ≡ place.number
    → line (exactly lane_word) place (Ok (picture, middle)) → second_lane middle (Ok (second, behind))
    → Reports {A = Cells} (PicturesParseTo first limit picture second) (Err fault) → Reports {A = Cells × Rest} (lanes limit place) (Err fault)
lanes_fail limit first place middle behind picture second (At n cause) here one two shows =
    lanes_say limit first place middle behind picture second (Err (record { line = n; cause = cause })) here one two shows
lanes_fail limit first place middle behind picture second Memory here one two shows = tt

-- Lanes have exactly one meaning: a legal road, or a first fault.
use Rattle.std.proofs.Common.{◌≡◌, ℕ, List, ◌∷◌, refl, ◌∙◌, ap, Option, IfSome, Result, Ok, Err, codes}
use Rattle.std.proofs.Common.{option_to_list}
use Rattle.trlab_road.specs.{declared.fault.RoadFault.RoadFault, Cells.{Cells, IsLegal}, Laws.PicturesMean}
use Rattle.trlab_road.proofs.PictureFaults.{something, one_thing}
use Rattle.trlab_texts.specs.{declared.fault.Cause.TheVariants.Road, Words.next_word_is}
use Rattle.trlab_texts.specs.Reading.{LocatedFault, line, exactly, ◌>>=◌}
use Rattle.trlab_texts.proofs.Fine.{Anything, FineText, road_other, word_fine}
use Rattle.trlab_texts.proofs.OneAnswer.{OneText, OneReading, exact_line, then_one, perhaps_one, before_one}
use Rattle.trlab_jobs.specs.Job.{LanesParseTo, line_of_fault, line_of_last_lane, lane_word, second_lane}
use Rattle.trlab_jobs.specs.Job.{road_of, lanes}

-- the result for pictures, with the line and the error number of a fault
abbrev in_text : ℕ → ℕ → Result Cells RoadFault → Result Cells LocatedFault
in_text first last (Ok road) = Ok road
in_text first last (Err wrong) = Err (record { line = line_of_fault first last wrong; cause = Road wrong })

said_in_text : (first last limit : ℕ) (pictures : List (List ℕ)) (said : Result Cells RoadFault) → PicturesMean limit pictures said
    → LanesParseTo first last limit pictures (in_text first last said) × FineText IsLegal (in_text first last said)
said_in_text first last limit pictures (Ok road) says = ((says.1, says.0), says.1)
said_in_text first last limit pictures (Err wrong) says = ((wrong, (says.0, (says.1, refl))), road_other wrong)

without_lines : (first last limit : ℕ) (pictures : List (List ℕ)) (says : Result Cells LocatedFault) → LanesParseTo first last limit pictures says
    → (said : Result Cells RoadFault) × (PicturesMean limit pictures said × (says ≡ in_text first last said))
without_lines first last limit pictures (Ok road) p = (Ok road, ((p.1, p.0), refl))
without_lines first last limit pictures (Err fault) p = (Err p.0, ((p.1.0, p.1.1.0), ap Err p.1.1.1))

lanes_say_one : (first last limit : ℕ) (pictures : List (List ℕ)) → OneText IsLegal (LanesParseTo first last limit pictures)
lanes_say_one first last limit pictures =
    let found = something limit pictures in
    let said = said_in_text first last limit pictures found.0 found.1 in
    record {
      answer = in_text first last found.0;
      says = said.0;
      keeps = said.1;
      only = λ other p.
          let also = without_lines first last limit pictures other p in
          also.1.1 ∙ ap (in_text first last) (one_thing limit pictures also.0 found.0 also.1.0 found.1);
    }

lane_one : OneReading Anything (line (exactly lane_word))
lane_one = exact_line lane_word (word_fine (codes "lane "))

second_one : OneReading (λ (o : Option (List ℕ)). IfSome o Anything) second_lane
second_one place = perhaps_one (next_word_is (codes "lane") place.left) (line (exactly lane_word)) lane_one place

pub lanes_one : (limit : ℕ) → OneReading IsLegal (lanes limit)
lanes_one limit place =
    then_one (line (exactly lane_word)) (λ picture. second_lane >>= road_of place.number limit picture) lane_one (λ picture any.
    then_one second_lane (road_of place.number limit picture) second_one (λ second any behind.
    before_one behind (lanes_say_one place.number (line_of_last_lane place.number second) limit (picture ∷ option_to_list second)))) place

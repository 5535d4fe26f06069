-- The counts of cars, line after line.
use Rattle.std.proofs.Common.{◌≡◌, ◌≢◌, ℕ, ◌+◌, List, [], ◌∷◌, ◌++◌, refl, sym, ◌∙◌, ap, append_assoc}
use Rattle.std.proofs.Common.{append-nil, Result, Ok, Err}
use Rattle.trlab_asm.specs.Operands.{◌>>=◌}
use Rattle.trlab_texts.specs.declared.fault.{Cause.Cause, TextFault.{TextFault, TheVariants.{At, Memory}}}
use Rattle.trlab_texts.specs.Reading.{Rest, LocatedFault, LineParsesTo, line_with_rest, at_line, exactly}
use Rattle.trlab_texts.specs.Reading.{Reports}
use Rattle.trlab_jobs.specs.Lines.{cars_line, counts_from}

-- counts after others
abbrev pub behind : List ℕ → Result (List ℕ) LocatedFault → Result (List ℕ) LocatedFault
behind first said = said >>= λ counts. Ok (first ++ counts)

-- the result for the remaining lines, after the counts that were read, is the result for all lines
abbrev pub ReadSoFar : ℕ → ℕ → Rest → List ℕ → ℕ → Rest → Type 0
ReadSoFar cells steps begin counts point place =
    behind counts (counts_from cells steps point place.number place.left) ≡ counts_from cells steps 1 begin.number begin.left

behind_more : (first : List ℕ) (count : ℕ) (said : Result (List ℕ) LocatedFault) → behind first (said >>= λ counts. Ok (count ∷ counts)) ≡ behind (first ++ (count ∷ [])) said
behind_more first count (Ok counts) = ap Ok (sym (append_assoc first (count ∷ []) counts))
behind_more first count (Err fault) = refl

-- a result, or another one if it is a fault
abbrev said_or : ℕ × Rest → Result (ℕ × Rest) LocatedFault → ℕ × Rest
said_or other (Ok found) = found
said_or other (Err fault) = other

-- the result for a line, from the result for its words
line_said : (number count : ℕ) (left : List (List ℕ)) (after : Rest) (says : Result ℕ Cause) → Ok (count, after) ≡ line_with_rest number left says
    → (says ≡ Ok count) × ((after.number ≡ number + 1) × (after.left ≡ left))
line_said number count left after (Ok n) e =
    let same = ap (said_or (count, after)) e in
    (ap (λ found. Ok found.0) (sym same), (ap (λ found. found.1.number) same, ap (λ found. found.1.left) same))
line_said number count left after (Err cause) e = absurd (cc e)

line_wrong : (number : ℕ) (left : List (List ℕ)) (fault : LocatedFault) (says : Result ℕ Cause) → Err fault ≡ line_with_rest number left says → at_line number says ≡ Err fault
line_wrong number left fault (Ok n) e = absurd (cc e)
line_wrong number left fault (Err cause) e = cc e

-- a count was read
line_more : (cells steps point number count : ℕ) (left : List (List ℕ)) (after : Rest) → LineParsesTo (exactly (cars_line cells steps point)) number left (Ok (count, after))
    → counts_from cells steps point number left ≡ (counts_from cells steps (point + 1) after.number after.left >>= λ counts. Ok (count ∷ counts))
unfolding counts_from
line_more cells steps point number count [] after told = absurd (cc told)
line_more cells steps point number count (text ∷ left) after told =
    let said = line_said number count left after told.0 told.1.1 in
    rw (said.1.0, said.1.1, sym told.1.0 ∙ said.0) refl

-- a line with a fault
line_fault : (cells steps point number : ℕ) (left : List (List ℕ)) (fault : LocatedFault) → left ≢ []
    → LineParsesTo {A = ℕ} (exactly (cars_line cells steps point)) number left (Err fault) → counts_from cells steps point number left ≡ Err fault
unfolding counts_from
line_fault cells steps point number [] fault some told = absurd (some refl)
line_fault cells steps point number (text ∷ left) fault some told =
    let wrong = line_wrong number left fault told.0 told.1.1 in
    let said = ap (at_line number) (sym told.1.0) ∙ wrong in
    rw said refl

pub one_more : (cells steps : ℕ) (begin : Rest) (counts : List ℕ) (point : ℕ) (place after : Rest) (count : ℕ) → ReadSoFar cells steps begin counts point place
    → LineParsesTo (exactly (cars_line cells steps point)) place.number place.left (Ok (count, after))
    → ReadSoFar cells steps begin (counts ++ (count ∷ [])) (point + 1) after
one_more cells steps begin counts point place after count so_far told =
    sym (behind_more counts count (counts_from cells steps (point + 1) after.number after.left))
    ∙ (ap (behind counts) (sym (line_more cells steps point place.number count place.left after told)) ∙ so_far)

-- reading stops at a fault
pub stopped : (cells steps : ℕ) (begin : Rest) (counts : List ℕ) (point : ℕ) (place : Rest) (fault : TextFault) → ReadSoFar cells steps begin counts point place → place.left ≢ []
    → Reports {A = ℕ × Rest} (LineParsesTo (exactly (cars_line cells steps point)) place.number place.left) (Err fault)
    → Reports {A = List ℕ} (λ says. says ≡ counts_from cells steps 1 begin.number begin.left) (Err fault)
stopped cells steps begin counts point place (At line cause) so_far some told =
    let fault : LocatedFault = record { line = line; cause = cause } in
    sym (ap (behind counts) (line_fault cells steps point place.number place.left fault some told)) ∙ so_far
stopped cells steps begin counts point place Memory so_far some told = tt

none_left : (cells steps point number : ℕ) (left : List (List ℕ)) → left ≡ [] → counts_from cells steps point number left ≡ Ok []
unfolding counts_from
none_left cells steps point number [] none = refl
none_left cells steps point number (text ∷ left) none = absurd (cc none)

-- all were read
pub all_read : (cells steps : ℕ) (begin : Rest) (counts : List ℕ) (point : ℕ) (place : Rest) → ReadSoFar cells steps begin counts point place → place.left ≡ []
    → Ok counts ≡ counts_from cells steps 1 begin.number begin.left
all_read cells steps begin counts point place so_far none =
    ap Ok (sym (append-nil counts)) ∙ (sym (ap (behind counts) (none_left cells steps point place.number place.left none)) ∙ so_far)

-- The meaning of the next line by a rule, and the reading of the lines after it.
use Rattle.std.proofs.Common.{◌≡◌, ℕ, ◌+◌, List, [], ◌∷◌, refl, ap, Result, Ok, Err, IsErr, IsErrAnd}
use Rattle.trlab_texts.specs.declared.fault.{Cause.Cause, TextFault.{TextFault, TheVariants.{At, Memory}}}
use Rattle.trlab_texts.specs.Reading.{Rest, IsNextLine, LocatedFault, LineRule, Reading, LineParsesTo, ◌>>=◌}
use Rattle.trlab_texts.specs.Reading.{line, Reports}

-- a place is its number and its lines
pub rest_is : (after : Rest) (n : ℕ) → after.number ≡ n → after ≡ record { number = n; left = after.left }
rest_is after n e = let P : Rest = record { number = n; left = after.left } in rw (← e) refl

-- a line has a meaning
pub line_content : {A : Type 0} (rule : LineRule A) (place after : Rest) (text : List ℕ) (x : A)
    → IsNextLine place text after → rule text (Ok x) → line rule place (Ok (x, after))
line_content rule place after text x stands says =
    rw stands.0 (Ok x, (says, ap (λ p. Ok (x, p)) (rest_is after (place.number + 1) stands.1)))

-- a line has a fault
pub line_fails : {A : Type 0} (rule : LineRule A) (place after : Rest) (text : List ℕ) (number : ℕ) (cause : Cause)
    → IsNextLine place text after → number ≡ place.number
    → rule text (Err cause) → line rule place (Err (record { line = number; cause = cause }))
line_fails rule place after text number cause stands here says = rw (stands.0, here) (Err cause, (says, refl))

next_by : {A : Type 0} (P Q : LineRule A) (number : ℕ) (left : List (List ℕ)) (out : Result (A × Rest) LocatedFault) → ((text : List ℕ) (says : Result A Cause) → P text says → Q text says)
    → LineParsesTo P number left out → LineParsesTo Q number left out
next_by P Q number [] out weaker says = says
next_by P Q number (text ∷ left) out weaker says = (says.0, (weaker text says.0 says.1.0, says.1.1))

-- the meaning of a line by a rule is its meaning by a weaker rule
pub line_by : {A : Type 0} (P Q : LineRule A) (rest : Rest) (out : Result (A × Rest) TextFault) → ((text : List ℕ) (says : Result A Cause) → P text says → Q text says)
    → Reports (line P rest) out → Reports (line Q rest) out
line_by P Q rest (Ok found) weaker says = next_by P Q rest.number rest.left (Ok found) weaker says
line_by P Q rest (Err (At number cause)) weaker says = next_by P Q rest.number rest.left (Err (record { line = number; cause = cause })) weaker says
line_by P Q rest (Err Memory) weaker says = tt

-- a reading continues after a result
pub goes_on : {A B : Type 0} (first : Reading A) (next : A → Reading B) (place after : Rest) (x : A) (out : Result (B × Rest) TextFault)
    → first place (Ok (x, after)) → Reports (next x after) out → Reports ((first >>= next) place) out
goes_on first next place after x (Ok found) says rest = (Ok (x, after), (says, rest))
goes_on first next place after x (Err (At number cause)) says rest = (Ok (x, after), (says, rest))
goes_on first next place after x (Err Memory) says rest = tt

-- a reading stops at a fault
pub stops : {A B : Type 0} (first : Reading A) (next : A → Reading B) (place : Rest) (fault : TextFault)
    → Reports {A = A × Rest} (first place) (Err fault) → Reports {A = B × Rest} ((first >>= next) place) (Err fault)
stops first next place (At number cause) says = (Err (record { line = number; cause = cause }), (says, refl))
stops first next place Memory says = tt

-- a fault that is passed on unchanged
pub handed_on : {T E : Type 0} (r : Result T E) (fault : E) → IsErr r → IsErrAnd r (λ f. f ≡ fault) → r ≡ Err fault
handed_on (Ok x) fault is q = absurd q
handed_on (Err f) fault is q = ap (λ e. Err e) q

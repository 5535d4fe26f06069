-- Rules, readings and texts with exactly one meaning, which has the required property.
use Rattle.std.proofs.Common.{◌≡◌, ℕ, Bool, true, false, List, [], ◌∷◌, length, refl, sym, ◌∙◌, ap, subst}
use Rattle.std.proofs.Common.{Option, None, Some, IfSome, Result, Ok, Err, IfOk, MatchResult, nat_lt}
use Rattle.trlab_texts.specs.declared.fault.Cause.{Cause, TheVariants.{Line, TooBig}}
use Rattle.trlab_texts.specs.Causes.{IsNotStandardRefused}
use Rattle.trlab_texts.specs.Reading.{Rest, LocatedFault, LineRule, Reading, give, Continues, ◌>>=◌}
use Rattle.trlab_texts.specs.Reading.{line_with_rest, LineParsesTo, line, exactly, SizedTextParsesTo}
use Rattle.trlab_texts.specs.Reading.{TextParsesTo, read_if, before, at_line, result_of_line}
use Rattle.trlab_texts.proofs.Fine.{IsOtherFault, Fine, FineText, line_other, too_big_other, at_line_fine}
use Rattle.trlab_bounds.specs.declared.texts.TheConstants.{TEXT_LIMIT}

-- there is exactly one result; a value has the required property, and so does a fault
pub record One {A E : Type 0} (Keeps : A → Type 0) (Fails : E → Type 0) (Says : Result A E → Type 0) : Type 0 where
  pub answer : Result A E
  pub says : Says answer
  pub keeps : MatchResult answer Keeps Fails
  pub only : (other : Result A E) → Says other → other ≡ answer

-- a line has one meaning
abbrev pub OneLine : {A : Type 0} → (A → Type 0) → (Result A Cause → Type 0) → Type 0
OneLine Keeps Says = One Keeps IsNotStandardRefused Says

-- and so does a text
abbrev pub OneText : {A : Type 0} → (A → Type 0) → (Result A LocatedFault → Type 0) → Type 0
OneText Keeps Says = One Keeps IsOtherFault Says

-- there is one meaning before the remaining lines
pub record OnePart {A : Type 0} (Keeps : A → Type 0) (Says : Result (A × Rest) LocatedFault → Type 0) : Type 0 where
  pub one : OneText (λ found. Keeps found.0) Says

-- a rule by which each line has one meaning
abbrev pub OneRule : {A : Type 0} → (A → Type 0) → LineRule A → Type 0
OneRule Keeps rule = (text : List ℕ) → OneLine Keeps (rule text)

-- a reading by which the lines from each place on have one meaning
abbrev pub OneReading : {A : Type 0} → (A → Type 0) → Reading A → Type 0
OneReading Keeps reading = (place : Rest) → OnePart Keeps (reading place)

-- two results are equal
pub agree : {A E : Type 0} {Keeps : A → Type 0} {Fails : E → Type 0} {Says : Result A E → Type 0} (a b : Result A E)
    → One Keeps Fails Says → Says a → Says b → a ≡ b
agree a b one p q = one.only a p ∙ sym (one.only b q)

keeps_ok : {A E : Type 0} (P : A → Type 0) (F : E → Type 0) (says : Result A E) → MatchResult says P F → IfOk says P
keeps_ok P F (Ok x) keeps = keeps
keeps_ok P F (Err fault) keeps = tt

-- there is a result, and its value has the required property
pub said : {A E : Type 0} {Keeps : A → Type 0} {Fails : E → Type 0} {Says : Result A E → Type 0}
    → One Keeps Fails Says → (says : Result A E) × (Says says × IfOk says Keeps)
said {A} {E} {Keeps} {Fails} one = (one.answer, (one.says, keeps_ok Keeps Fails one.answer one.keeps))

-- each fault has the required property
pub fails : {A E : Type 0} {Keeps : A → Type 0} {Fails : E → Type 0} {Says : Result A E → Type 0} (fault : E)
    → One Keeps Fails Says → Says (Err fault) → Fails fault
fails {A} {E} {Keeps} {Fails} fault one p = subst (λ (says : Result A E). MatchResult says Keeps Fails) (sym (one.only (Err fault) p)) one.keeps

-- each value has the required property
pub values : {A E : Type 0} {Keeps : A → Type 0} {Fails : E → Type 0} {Says : Result A E → Type 0} (value : A)
    → One Keeps Fails Says → Says (Ok value) → Keeps value
values {A} {E} {Keeps} {Fails} value one p = subst (λ (says : Result A E). MatchResult says Keeps Fails) (sym (one.only (Ok value) p)) one.keeps

-- a result that is given as a value
pub exact : {A E : Type 0} {P : A → Type 0} {F : E → Type 0} (value : Result A E) → MatchResult value P F → One P F (λ says. says ≡ value)
exact value keeps = record { answer = value; says = refl; keeps = keeps; only = λ other p. p }

-- a result that is computed from another one
pub made : {A B E G : Type 0} {P : A → Type 0} {F : E → Type 0} {Q : B → Type 0} {H : G → Type 0} {Says : Result A E → Type 0} (make : Result A E → Result B G)
    → One P F Says → ((says : Result A E) → MatchResult says P F → MatchResult (make says) Q H)
    → One Q H (λ out. (says : Result A E) × (Says says × (out ≡ make says)))
made make one keeps = record {
  answer = make one.answer;
  says = (one.answer, (one.says, refl));
  keeps = keeps one.answer one.keeps;
  only = λ other p. p.1.1 ∙ ap make (one.only p.0 p.1.0);
}

in_line_fine : {A : Type 0} (P : A → Type 0) (number : ℕ) (left : List (List ℕ)) (says : Result A Cause)
    → Fine P says → FineText (λ (found : A × Rest). P found.0) (line_with_rest number left says)
in_line_fine P number left (Ok x) fine = fine
in_line_fine P number left (Err cause) fine = fine

-- the next line
pub next_one : {A : Type 0} {P : A → Type 0} (rule : LineRule A) (number : ℕ) (left : List (List ℕ)) → OneRule P rule → OnePart P (LineParsesTo rule number left)
next_one {A} {P} rule number [] one = record { one = exact (Err (record { line = number; cause = Line })) line_other }
next_one {A} {P} rule number (text ∷ left) one = record { one = made (line_with_rest number left) (one text) (in_line_fine P number left) }

pub line_one : {A : Type 0} {P : A → Type 0} (rule : LineRule A) → OneRule P rule → OneReading P (line rule)
line_one rule one place = next_one rule place.number place.left one

-- a line by a rule that is a function
pub exact_line : {A : Type 0} {P : A → Type 0} (rule : List ℕ → Result A Cause) → ((text : List ℕ) → Fine P (rule text)) → OneReading P (line (exactly rule))
exact_line rule fine = line_one (exactly rule) (λ text. exact (rule text) (fine text))

with_more : {A : Type 0} (P Q : A → Type 0) (found : Result (A × Rest) LocatedFault) → ((x : A) → P x → Q x) → FineText (λ (x : A × Rest). P x.0) found → FineText (λ (x : A × Rest). Q x.0) found
with_more P Q (Ok found) more fine = more found.0 fine
with_more P Q (Err fault) more fine = fine

-- the values have any property that follows from the required one
pub part_with : {A : Type 0} {P Q : A → Type 0} {Says : Result (A × Rest) LocatedFault → Type 0} → ((x : A) → P x → Q x) → OnePart P Says → OnePart Q Says
part_with {A} {P} {Q} more part =
    let one = part.one in
    record { one = record { answer = one.answer; says = one.says; keeps = with_more P Q one.answer more one.keeps; only = one.only } }

after_one : {A B : Type 0} {Q : B → Type 0} (P : A → Type 0) (next : A → Reading B) (found : Result (A × Rest) LocatedFault) → FineText (λ (x : A × Rest). P x.0) found
    → ((x : A) → P x → OneReading Q (next x)) → OnePart Q (Continues next found)
after_one P next (Ok found) fine rest = rest found.0 fine found.1
after_one P next (Err fault) fine rest = record { one = exact (Err fault) fine }

-- one reading after another
pub then_one : {A B : Type 0} {P : A → Type 0} {Q : B → Type 0} (first : Reading A) (next : A → Reading B)
    → OneReading P first → ((x : A) → P x → OneReading Q (next x)) → OneReading Q (first >>= next)
then_one {A} {B} {P} {Q} first next one rest place =
    let found = (one place).one in
    let more = (after_one {Q = Q} P next found.answer found.keeps rest).one in
    record {
      one = record {
        answer = more.answer;
        says = (found.answer, (found.says, more.says));
        keeps = more.keeps;
        only = λ other p. more.only other (subst (λ (r : Result (A × Rest) LocatedFault). Continues next r other) (found.only p.0 p.1.0) p.1.1);
      };
    }

pub said_one : {A : Type 0} {P : A → Type 0} (x : A) → P x → OneReading P (give x)
said_one x keeps place = record { one = exact (Ok (x, place)) keeps }

pub perhaps_one : {A : Type 0} {P : A → Type 0} (there : Bool) (reading : Reading A) → OneReading P reading → OneReading (λ (o : Option A). IfSome o P) (read_if there reading)
perhaps_one {A} {P} true reading one = then_one reading (λ (x : A). give (Some x)) one (λ x keeps. said_one (Some x) keeps)
perhaps_one {A} {P} false reading one = said_one None tt

pub before_fine : {A : Type 0} (P : A → Type 0) (place : Rest) (says : Result A LocatedFault) → FineText P says → FineText (λ (found : A × Rest). P found.0) (before place says)
before_fine P place (Ok x) fine = fine
before_fine P place (Err fault) fine = fine

-- the meaning before a place
pub before_one : {A : Type 0} {P : A → Type 0} {Says : Result A LocatedFault → Type 0} (place : Rest) → OneText P Says
    → OnePart P (λ out. (says : Result A LocatedFault) × (Says says × (out ≡ before place says)))
before_one {A} {P} place one = record { one = made (before place) one (before_fine P place) }

-- a line that was read
pub of_line_one : {A : Type 0} {P : A → Type 0} {Says : Result A Cause → Type 0} (number : ℕ) → OneLine P Says → OneReading P (result_of_line number Says)
of_line_one {A} {P} number one place =
    record { one = made (λ says. before place (at_line number says)) one (λ says fine. before_fine P place (at_line number says) (at_line_fine P number says fine)) }

sized_one : {A : Type 0} {P : A → Type 0} (Says : List ℕ → Result A LocatedFault → Type 0) (long : Bool) (text : List ℕ) → OneText P (Says text) → OneText P (SizedTextParsesTo Says long text)
sized_one Says true text one = exact (Err (record { line = 0; cause = TooBig })) too_big_other
sized_one Says false text one = one

-- a text has one meaning if its lines have
pub text_one : {A : Type 0} {P : A → Type 0} (Says : List ℕ → Result A LocatedFault → Type 0) (text : List ℕ) → OneText P (Says text) → OneText P (TextParsesTo Says text)
text_one Says text one = sized_one Says (nat_lt TEXT_LIMIT (length text)) text one

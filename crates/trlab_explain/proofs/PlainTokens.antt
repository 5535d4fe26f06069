-- The text of plain tokens is plain.
use Rattle.std.proofs.Common.{◌≡◌, ◌∙◌, ◌<◌, ◌++◌, ◌&&◌, ap, ℕ, zero, suc, nat_le, List, [], ◌∷◌, Bool, cond}
use Rattle.std.proofs.Common.{true, false, refl, arith, inl, inr, All, ◌^◌, decimal, Result, Ok, Err, IfOk}
use Rattle.std.proofs.{Common.{OnOk, OnErr, IsUtf8, leb-true}, lemmas.List.Elements.{All-tail, All-weaker}}
use Rattle.std.proofs.lemmas.{Bool.{and_parts, cases_eq}, Str.{IsUtf8-from_ascii, Ascii.IsAscii-from_all}}
use Rattle.std.proofs.lemmas.List.Elements.{All-append, All-cons, All-head, All-nil, All-push, All-same}
use Rattle.json.specs.Print.{begins, ends, escape, escape_byte, print, print_from, quoted, separator}
use Rattle.json.specs.{Print.token_text, Token.{Token, begin_object, end_object, begin_array, end_array, key}}
use Rattle.json.specs.Token.{string, number, boolean, null, bad}
use Rattle.trlab_lines.{specs.Plain.IsPlain, proofs.PlainDigits.plain_digits}
use Rattle.trlab_explain.specs.Explanations.{EndsObject, HasPlainText, object_end}

-- printable characters, by a test
abbrev are_printable : List ℕ → Bool
are_printable [] = true
are_printable (c ∷ cs) = (nat_le 32 c && nat_le c 126) && are_printable cs

plain_are : (cs : List ℕ) → are_printable cs ≡ true → All IsPlain cs
plain_are [] e = All-nil IsPlain
plain_are (c ∷ cs) e =
    let both = and_parts (nat_le 32 c && nat_le c 126) (are_printable cs) e in
    let within = and_parts (nat_le 32 c) (nat_le c 126) both.0 in
    All-cons IsPlain c cs (inr (leb-true 32 c within.0, leb-true c 126 within.1)) (plain_are cs both.1)

-- the escapes of all characters below another are printable
abbrev escapes_below : ℕ → Bool
escapes_below zero = true
escapes_below (suc n) = are_printable (escape_byte n) && escapes_below n

escape_below : (n : ℕ) → escapes_below n ≡ true → (c : ℕ) → c < n → are_printable (escape_byte c) ≡ true
escape_below zero e c lt = absurd (omega arith)
escape_below (suc n) e c lt =
    let both = and_parts (are_printable (escape_byte n)) (escapes_below n) e in
    elim (cases_eq c n) [
      | inl same ↦ rw same both.0
      | inr other ↦ escape_below n both.1 c (omega (arith, lt, other))
    ]

all_below : escapes_below 127 ≡ true
unfolding escape_byte
all_below = refl

few : (c : ℕ) → IsPlain c → c < 127
few c (inl is) = omega (arith, is)
few c (inr within) = omega (arith, within.1)

plain_escape : (cs : List ℕ) → All IsPlain cs → All IsPlain (escape cs)
plain_escape [] all = All-nil IsPlain
plain_escape (c ∷ cs) all =
    All-append IsPlain (escape_byte c) (escape cs) (plain_are (escape_byte c) (escape_below 127 all_below c (few c (All-head IsPlain c cs all))))
    (plain_escape cs (All-tail IsPlain c cs all))

plain_quoted : (cs : List ℕ) → All IsPlain cs → All IsPlain (quoted cs)
plain_quoted cs all =
    All-append IsPlain (34 ∷ []) (escape cs ++ 34 ∷ []) (plain_are (34 ∷ []) refl) (All-append IsPlain (escape cs) (34 ∷ []) (plain_escape cs all) (plain_are (34 ∷ []) refl))

plain_token : (t : Token) → HasPlainText t → All IsPlain (token_text t)
plain_token begin_object p = plain_are (123 ∷ []) refl
plain_token end_object p = plain_are (125 ∷ []) refl
plain_token begin_array p = plain_are (91 ∷ []) refl
plain_token end_array p = plain_are (93 ∷ []) refl
plain_token (key s) p = All-append IsPlain (quoted s) (58 ∷ []) (plain_quoted s p) (plain_are (58 ∷ []) refl)
plain_token (string s) p = plain_quoted s p
plain_token (number s) p = p
plain_token (boolean true) p = plain_are (116 ∷ 114 ∷ 117 ∷ 101 ∷ []) refl
plain_token (boolean false) p = plain_are (102 ∷ 97 ∷ 108 ∷ 115 ∷ 101 ∷ []) refl
plain_token null p = plain_are (110 ∷ 117 ∷ 108 ∷ 108 ∷ []) refl
plain_token bad p = All-nil IsPlain

plain_comma : (b : Bool) → All IsPlain (cond b (44 ∷ []) [])
plain_comma true = plain_are (44 ∷ []) refl
plain_comma false = All-nil IsPlain

plain_from : (after : Bool) (ts : List Token) → All HasPlainText ts → All IsPlain (print_from after ts)
unfolding print_from
plain_from after [] all = All-nil IsPlain
plain_from after (t ∷ ts) all =
    All-append IsPlain (separator after t) _ (plain_comma (after && begins t))
    (All-append IsPlain (token_text t) (print_from (ends t) ts) (plain_token t (All-head HasPlainText t ts all)) (plain_from (ends t) ts (All-tail HasPlainText t ts all)))

pub plain_print : (ts : List Token) → All HasPlainText ts → All IsPlain (print ts)
plain_print = plain_from false

-- plain text is valid UTF-8
pub utf8_plain : (cs : List ℕ) → All IsPlain cs → IsUtf8 cs
utf8_plain cs all = IsUtf8-from_ascii cs (IsAscii-from_all cs (All-weaker IsPlain (λ c. c < 128) (λ c is. omega (arith, few c is)) cs all))

-- a number that was written, or was not, leaves plain tokens
pub number_stays : {E : Type 0} (r : Result (Unit {0}) E) (old new : List Token) (n : ℕ) → n < 2 ^ 64
    → OnOk r (new ≡ old ++ number (decimal n) ∷ []) → OnErr r (new ≡ old) → All HasPlainText old → All HasPlainText new
number_stays (Ok x) old new n fits ok err all =
    All-same HasPlainText new (old ++ number (decimal n) ∷ []) ok (All-push HasPlainText old (number (decimal n)) all (plain_digits n fits))
number_stays (Err x) old new n fits ok err all = All-same HasPlainText new old err all

-- the text with the end of its line
pub plain_line : (ts : List Token) (text : List ℕ) → text ≡ print ts ++ 10 ∷ [] → All HasPlainText ts → All IsPlain text
plain_line ts text is all =
    All-same IsPlain text (print ts ++ 10 ∷ []) is (All-push IsPlain (print ts) 10 (plain_print ts all) (inl refl))

-- the line of an object ends as its last tokens do
pub object_line : {A E : Type 0} (told : Result A E) (bytes : A → List ℕ) (first tokens : List Token) (refused : Bool) (answer : List ℕ)
    → tokens ≡ first ++ object_end refused answer → IfOk told (λ t. bytes t ≡ print tokens ++ 10 ∷ []) → IfOk told (λ t. EndsObject refused answer (bytes t))
object_line (Ok t) bytes first tokens refused answer is line = (first, line ∙ ap (λ ts. print ts ++ 10 ∷ []) is)
object_line (Err x) bytes first tokens refused answer is line = tt

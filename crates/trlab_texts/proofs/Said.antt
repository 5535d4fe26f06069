-- Reading a line with a name and a number gives the number in the line.
use Rattle.std.proofs.Common.{◌≡◌, ℕ, ◌<◌, ◌≤◌, ◌^◌, List, [], ◌∷◌, ◌++◌, length, take, drop, refl, sym, ◌∙◌}
use Rattle.std.proofs.Common.{ap, arith, Bool, true, false, cond, take-append-drop, inl, inr, decimal, Option}
use Rattle.std.proofs.Common.{None, Some, Result, Ok, Err, nat_le, ◌&&◌, ◌⊎◌, bytes_eq, leb-true, lt-ltb}
use Rattle.std.proofs.{Common.{le-leb, ne_eqb}, Math.Seq.{take-append_seam, drop-append_seam}}
use Rattle.std.proofs.lemmas.{Fmt.decimal_is_IsNumeral, Str.Parse.digit_from_value, Slice.Eq.bytes_eq-Decides}
use Rattle.std.specs.Str.Parse.{digits_value, AllDigits}
use Rattle.trlab_texts.proofs.Numbers.{number_of_some}
use Rattle.trlab_texts.specs.Words.{is_word, has_space, number_of, within, one_word, word_after}
use Rattle.trlab_texts.specs.{Words.number_within, declared.fault.Cause.{Cause, TheVariants.{Line, Number}}}
use Rattle.trlab_lines.specs.Lines.{without_prefix}

-- the result of a test
chosen : {A : Type 0} (b : Bool) (x y : A) (z : A) → cond b x y ≡ z → ((b ≡ true) × (x ≡ z)) ⊎ ((b ≡ false) × (y ≡ z))
chosen true x y z e = inl (refl, e)
chosen false x y z e = inr (refl, e)

abbrev ok : ℕ → Result ℕ Cause
ok n = Ok n

abbrev ok_word : List ℕ → Result (List ℕ) Cause
ok_word word = Ok word

pub behind_front : (front line word : List ℕ) → without_prefix front line ≡ Some word → line ≡ front ++ word
behind_front front line word e = elim (chosen (bytes_eq (take (length front) line) front) (Some (drop (length front) line)) None (Some word) e) [
  | inl h ↦ let same = (bytes_eq-Decides (take (length front) line) front).0 h.0 in
      let rest : drop (length front) line ≡ word = cc in
      sym (take-append-drop (length front) line) ∙ (ap (λ t. t ++ drop (length front) line) same ∙ ap (λ t. front ++ t) rest)
  | inr h ↦ let no : None ≡ Some word = h.1 in cc
]

pub number_said : (word : List ℕ) (n : ℕ) → number_of word ≡ Some n → word ≡ decimal n
number_said word n e = elim (chosen (bytes_eq (decimal (digits_value 10 word)) word) (Some (digits_value 10 word)) None (Some n) e) [
  | inl h ↦ let value : digits_value 10 word ≡ n = cc in sym ((bytes_eq-Decides (decimal (digits_value 10 word)) word).0 h.0) ∙ ap decimal value
  | inr h ↦ let no : None ≡ Some n = h.1 in cc
]

both : (a b : Bool) → (a && b) ≡ true → (a ≡ true) × (b ≡ true)
both true b e = (refl, e)
both false b e = cc

within_said : (low high : ℕ) (o : Option ℕ) (n : ℕ) → within low high o ≡ Ok n → (o ≡ Some n) × (low ≤ n) × (n ≤ high)
within_said low high None n e = cc
within_said low high (Some m) n e = elim (chosen (nat_le low m && nat_le m high) (ok m) (Err Number) (Ok n) e) [
  | inl h ↦ let same : m ≡ n = cc in let parts = both (nat_le low m) (nat_le m high) h.0 in
      let above : low ≤ m = leb-true low m parts.0 in let below : m ≤ high = leb-true m high parts.1 in
      (ap Some same, omega arith, omega arith)
  | inr h ↦ cc (h.1)
]

number_said_by : (front line : List ℕ) (low high n : ℕ) (o : Option (List ℕ)) → without_prefix front line ≡ o → number_within low high (one_word o) ≡ Ok n
    → (line ≡ front ++ decimal n) × (low ≤ n) × (n ≤ high)
number_said_by front line low high n None is e = cc
number_said_by front line low high n (Some word) is e = word_is (is_word word) refl e
  where
    word_is : (b : Bool) → is_word word ≡ b → number_within low high (cond b (ok_word word) (Err Line)) ≡ Ok n → (line ≡ front ++ decimal n) × (low ≤ n) × (n ≤ high)
    word_is false e f = cc
    word_is true e f =
        let say = within_said low high (number_of word) n f in
        (behind_front front line word is ∙ ap (λ t. front ++ t) (number_said word n say.0), say.1, say.2)

pub number_line : (front line : List ℕ) (low high n : ℕ) → number_within low high (word_after front line) ≡ Ok n → (line ≡ front ++ decimal n) × (low ≤ n) × (n ≤ high)
number_line front line low high n e = number_said_by front line low high n (without_prefix front line) refl e

no_digit : (c : ℕ) → 48 ≤ c → c ≡ 32 → ⊥
no_digit c low e = omega arith

-- the digits of a number have no space
digits_no_space : (ds : List ℕ) → AllDigits 10 ds → has_space ds ≡ false
digits_no_space [] all = refl
digits_no_space (c ∷ cs) all =
    let range = digit_from_value c all.0 in
    rw (ne_eqb c 32 (λ e. let a : c ≡ 32 = e in no_digit c range.0 a), digits_no_space cs all.1) refl

pub decimal_is_word : (n : ℕ) → n < 2 ^ 32 → is_word (decimal n) ≡ true
decimal_is_word n small =
    let numeral = (decimal_is_IsNumeral n (omega arith)).0 in
    rw (lt-ltb 0 (length (decimal n)) numeral.0, digits_no_space (decimal n) numeral.1) refl

within_again : (low high n : ℕ) → low ≤ n → n ≤ high → within low high (Some n) ≡ Ok n
within_again low high n above below = rw (le-leb low n above, le-leb n high below) refl

front_after : (front word : List ℕ) → without_prefix front (front ++ word) ≡ Some word
front_after front word =
    let same = (bytes_eq-Decides (take (length front) (front ++ word)) front).1 (take-append_seam front word) in
    rw (same, drop-append_seam front word) refl

-- the converse
pub number_again : (front : List ℕ) (low high n : ℕ) → high < 2 ^ 32 → low ≤ n → n ≤ high → number_within low high (word_after front (front ++ decimal n)) ≡ Ok n
number_again front low high n small above below =
    rw (front_after front (decimal n), decimal_is_word n (omega arith), number_of_some (decimal n) n (omega arith) refl) (within_again low high n above below)

-- Words without any byte at which a line is cut.
use Rattle.std.proofs.Common.{◌≡◌, ◌==◌, ◌||◌, ◌&&◌, ℕ, ◌+◌, ◌<◌, List, [], ◌∷◌, ◌++◌, length, refl, sym, ◌∙◌}
use Rattle.std.proofs.Common.{ap, arith, Bool, true, false, not, append-nil, length-append, None, Some}
use Rattle.std.proofs.Common.{Result, Ok, nat_lt, position, lt-ltb, ltb-true, ne_eqb}
use Rattle.std.proofs.Math.Seq.{take-append_seam, drop-append_seam, drop-append-add}
use Rattle.std.{proofs.lemmas.Bool.Decides.nat_tests, specs.List.{position_or_len, list_all}}
use Rattle.trlab_lines.specs.Lines.{cut, is_blank, without_indent, up_to_blank, only_word}
use Rattle.trlab_asm.specs.{Operands.{◌then◌}, Canonical.{◌comma◌}, declared.fault.Why.Why}

-- no blank, comma, colon, semicolon or LF
abbrev pub is_plain : ℕ → Bool
is_plain c = nat_lt 47 c && not (c == 58 || c == 59)

-- words of such bytes only
abbrev pub plain_word : List ℕ → Bool
plain_word w = list_all (λ c. is_plain c) w

-- bytes that do not pass a test
abbrev pub none_of : (ℕ → Bool) → List ℕ → Bool
none_of p w = list_all (λ c. not (p c)) w

pub and_parts : (a b : Bool) → (a && b) ≡ true → (a ≡ true) × (b ≡ true)
and_parts true b e = (refl, e)
and_parts false b e = cc

pub and_both : (a b : Bool) → a ≡ true → b ≡ true → (a && b) ≡ true
and_both a b e f = rw (e, f) refl

pub not_true : (b : Bool) → not b ≡ true → b ≡ false
not_true true e = cc
not_true false e = refl

or_false : (a b : Bool) → not (a || b) ≡ true → (a ≡ false) × (b ≡ false)
or_false true b e = cc
or_false false b e = (refl, not_true b e)

plain_above : (c : ℕ) → is_plain c ≡ true → 47 < c
plain_above c plain = ltb-true 47 c (and_parts (nat_lt 47 c) (not (c == 58 || c == 59)) plain).0

no_comma : (c : ℕ) → is_plain c ≡ true → (c == 44) ≡ false
no_comma c plain = let above = plain_above c plain in ne_eqb c 44 (λ e. absurd (omega arith))

pub no_colon : (c : ℕ) → is_plain c ≡ true → (c == 58) ≡ false
no_colon c plain = (or_false (c == 58) (c == 59) (and_parts (nat_lt 47 c) (not (c == 58 || c == 59)) plain).1).0

pub no_semicolon : (c : ℕ) → is_plain c ≡ true → (c == 59) ≡ false
no_semicolon c plain = (or_false (c == 58) (c == 59) (and_parts (nat_lt 47 c) (not (c == 58 || c == 59)) plain).1).1

pub no_line_end : (c : ℕ) → is_plain c ≡ true → (c == 10) ≡ false
no_line_end c plain = let above = plain_above c plain in ne_eqb c 10 (λ e. absurd (omega arith))

no_blank : (c : ℕ) → is_plain c ≡ true → is_blank c ≡ false
no_blank c plain = let above = plain_above c plain in
    let space : (c == 32) ≡ false = ne_eqb c 32 (λ e. absurd (omega arith)) in
    let tab : (c == 9) ≡ false = ne_eqb c 9 (λ e. absurd (omega arith)) in
    rw (space, tab) refl

pub none_in_plain : (p : ℕ → Bool) (w : List ℕ) → ((c : ℕ) → is_plain c ≡ true → p c ≡ false) → plain_word w ≡ true → none_of p w ≡ true
none_in_plain p [] fails plain = refl
none_in_plain p (c ∷ w) fails plain = let both = and_parts (is_plain c) (plain_word w) plain in rw (fails c both.0) (none_in_plain p w fails both.1)

-- a test looks past such bytes
past : (p : ℕ → Bool) (before rest : List ℕ) → none_of p before ≡ true → position_or_len p (before ++ rest) ≡ length before + position_or_len p rest
past p [] rest none = omega arith
past p (c ∷ w) rest none =
    let both = and_parts (not (p c)) (none_of p w) none in
    let more = past p w rest both.1 in
    rw (not_true (p c) both.0) (omega arith)

-- and stops at one that passes
stops : (p : ℕ → Bool) (before : List ℕ) (c : ℕ) (rest : List ℕ) → none_of p before ≡ true → p c ≡ true → position p (before ++ (c ∷ rest)) ≡ Some (length before)
stops p before c rest none passes =
    let here : position_or_len p (c ∷ rest) ≡ 0 = rw passes refl in
    let place : position_or_len p (before ++ (c ∷ rest)) ≡ length before = past p before (c ∷ rest) none ∙ omega arith in
    let inside : length before < length (before ++ (c ∷ rest)) = simp length-append (omega arith) in
    rw (place, lt-ltb (length before) (length (before ++ (c ∷ rest))) inside) refl

not_below : (n : ℕ) → nat_lt n n ≡ false
not_below n = grind (arith, nat_tests)

never : (p : ℕ → Bool) (w : List ℕ) → none_of p w ≡ true → position p w ≡ None
never p w none =
    let place : position_or_len p w ≡ length w = ap (position_or_len p) (sym (append-nil w)) ∙ (past p w [] none ∙ omega arith) in
    rw (place, not_below (length w)) refl

pub cut_here : (c : ℕ) (before rest : List ℕ) → none_of (λ b. b == c) before ≡ true → (c == c) ≡ true → cut c (before ++ (c ∷ rest)) ≡ Some (before, rest)
cut_here c before rest none same = rw (stops (λ b. b == c) before c rest none same, take-append_seam before (c ∷ rest), drop-append-add before (c ∷ rest) 1) refl

pub cut_nowhere : (c : ℕ) (w : List ℕ) → none_of (λ b. b == c) w ≡ true → cut c w ≡ None
cut_nowhere c w none = rw (never (λ b. b == c) w none) refl

pub without_blank : (c : ℕ) (cs : List ℕ) → is_plain c ≡ true → without_indent (c ∷ cs) ≡ c ∷ cs
without_blank c cs plain = rw (no_blank c plain, lt-ltb 0 (length (c ∷ cs)) (omega arith)) refl

pub behind_blank : (c : ℕ) (cs : List ℕ) → is_plain c ≡ true → without_indent (32 ∷ c ∷ cs) ≡ c ∷ cs
behind_blank c cs plain = rw (no_blank c plain, lt-ltb 1 (length (32 ∷ c ∷ cs)) (omega arith)) refl

pub one_word : (w : List ℕ) → plain_word w ≡ true → up_to_blank w ≡ (w, [])
one_word w plain = rw (never (λ b. is_blank b) w (none_in_plain (λ b. is_blank b) w no_blank plain)) refl

pub word_and_more : (w rest : List ℕ) → plain_word w ≡ true → up_to_blank (w ++ (32 ∷ rest)) ≡ (w, 32 ∷ rest)
word_and_more w rest plain =
    rw (stops (λ b. is_blank b) w 32 rest (none_in_plain (λ b. is_blank b) w no_blank plain) refl, take-append_seam w (32 ∷ rest), drop-append_seam w (32 ∷ rest)) refl

-- a word after a space is the only word there
pub alone_behind_blank : (w : List ℕ) → plain_word w ≡ true → 0 < length w → only_word (32 ∷ w) ≡ Some w
alone_behind_blank [] plain some = absurd (omega arith)
alone_behind_blank (c ∷ cs) plain some =
    rw (behind_blank c cs (and_parts (is_plain c) (plain_word cs) plain).0, one_word (c ∷ cs) plain) refl

-- and so is one with no space before it
pub alone_at_front : (w : List ℕ) → plain_word w ≡ true → 0 < length w → only_word w ≡ Some w
alone_at_front [] plain some = absurd (omega arith)
alone_at_front (c ∷ cs) plain some =
    rw (without_blank c cs (and_parts (is_plain c) (plain_word cs) plain).0, one_word (c ∷ cs) plain) refl

-- operands with a comma between them are read one after the other
pub then_again : {A B : Type 0} (first : List ℕ → Result A Why) (rest : List ℕ → Result B Why) (x y : List ℕ) (v : A) (w : B)
    → plain_word x ≡ true → first (32 ∷ x) ≡ Ok v → rest (32 ∷ y) ≡ Ok w → (first then rest) (32 ∷ (x comma y)) ≡ Ok (v, w)
then_again first rest x y v w plain one others =
    rw (cut_here 44 (32 ∷ x) (32 ∷ y) (none_in_plain (λ b. b == 44) x no_comma plain) refl, one, others) refl

-- Lines with a number, and the text after them; texts that are composed of pieces.
use Rattle.std.proofs.Common.{◌≡◌, ℕ, zero, suc, ◌+◌, ◌-◌, ◌<◌, List, [], ◌∷◌, ◌++◌, ◌∙◌, ap, arith, drop}
use Rattle.std.proofs.{Common.{flat_map, length, get_or, append_assoc, refl}, lemmas.List.drop_more}
use Rattle.std.specs.List.{range_with_len}

-- a line was appended to a text, and more text follows it
pub line_then : (front digits line old new rest : List ℕ) → line ≡ front ++ (digits ++ (10 ∷ [])) → new ≡ old ++ line
    → new ++ rest ≡ old ++ (front ++ (digits ++ (10 ∷ rest)))
line_then front digits line old new rest p q = rw (q, p) (simp append_assoc)

-- the next piece of a list was appended to a text, in two parts
pub next_piece : {X : Type 0} (f : X → List ℕ) (xs : List X) (i : ℕ) (d : X) (old mid new first last : List ℕ) → i < length xs → f (get_or xs i d) ≡ first ++ last
    → mid ≡ old ++ first → new ≡ mid ++ last → new ++ flat_map f (drop (i + 1) xs) ≡ old ++ flat_map f (drop i xs)
next_piece f xs i d old mid new first last inside piece p q = rw (q, p, drop_more xs i d, piece) (simp append_assoc)

-- the same, if the piece was appended at once
pub next_whole : {X : Type 0} (f : X → List ℕ) (xs : List X) (i : ℕ) (d : X) (old new piece : List ℕ) → i < length xs → f (get_or xs i d) ≡ piece
    → new ≡ old ++ piece → new ++ flat_map f (drop (i + 1) xs) ≡ old ++ flat_map f (drop i xs)
next_whole f xs i d old new piece inside is added = rw (added, drop_more xs i d, is) (simp append_assoc)

-- the next piece of the numbers below a count was appended to a text
pub next_number : (f : ℕ → List ℕ) (n count : ℕ) (old new : List ℕ) → n < count → new ≡ old ++ f n
    → new ++ flat_map f (range_with_len (n + 1) (count - (n + 1))) ≡ old ++ flat_map f (range_with_len n (count - n))
next_number f n count old new inside added =
    let left : count - n ≡ suc (count - (n + 1)) = omega arith in
    rw (added, left) (simp append_assoc)

-- the same pieces, one by one
pub pieces_agree : (f g : ℕ → List ℕ) (from count : ℕ) → ((n : ℕ) → n < from + count → f n ≡ g n)
    → flat_map f (range_with_len from count) ≡ flat_map g (range_with_len from count)
pieces_agree f g from zero same = refl
pieces_agree f g from (suc count) same =
    let here = same from (omega arith) in
    let rest = pieces_agree f g (from + 1) count (λ n below. same n (omega arith)) in
    ap (λ t. t ++ flat_map f (range_with_len (from + 1) count)) here ∙ ap (λ t. g from ++ t) rest

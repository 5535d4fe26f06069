-- Random words: those of a car in a step, and the chances of events that happen on them.
use Rattle.std.specs.{Prelude.{ℕ, ◌+◌, ◌*◌, ◌^◌, List, map, ◌/◌, Bool, nat_lt}, List.range_with_len}
use Rattle.rand_chacha.specs.ChaCha.{word_at, key_of}

-- The random words of a car in a step: a block of a ChaCha20 key stream.

-- random word k, 0 to 15, of a car in a step of a run, from a key of 32 bytes: word 16 * step + k of ChaCha20
-- (RFC 8439, ten double rounds) in the stream with number road_number * 2 ^ 32 + car_number
abbrev pub random_word : List ℕ → ℕ → ℕ → ℕ → ℕ → ℕ
random_word key road_number car_number step k =
    word_at 10 (key_of key) (road_number * 2 ^ 32 + car_number) (16 * step + k)

-- the sixteen random words of a car in a step of a run, from a key of 32 bytes
unfoldable pub random_words : List ℕ → ℕ → ℕ → ℕ → List ℕ
random_words key road_number car_number step =
    map (random_word key road_number car_number step) (range_with_len 0 16)

-- Chances, which are probabilities times 2 ^ 31, and the random words on which they happen.

-- does an event of probability `chance` / 2 ^ 31 happen on a random word of 32 bits? It does if half of the
-- word, rounded down, is below `chance`; so chance 0 never happens, and chance 2 ^ 31 always
abbrev pub happens_on : ℕ → ℕ → Bool
happens_on chance word = nat_lt (word / 2) chance

-- How the reached places of a pattern move on.
use Rattle.std.proofs.Common.{◌≡◌, ℕ, zero, suc, ◌<◌, ◌+◌, ◌*◌, ◌/◌, ◌%◌, ◌^◌, ◌==◌, Bool, true, false, not, ◌&&◌, ◌||◌, List, [], ◌∷◌, length, take, chars, IsUtf8, drop, get_or, bit_and, bit_or, bit_xor, set, ◌++◌, append_assoc, replicate, refl, ap, sym, arith, ◌∙◌}
use Rattle.std.proofs.Math.Seq.{take-nil, drop-nil}
use Rattle.std.proofs.lemmas.List.{length-replicate, get_or-replicate, drop_more, take_more_set, drop-set-lt}
use Rattle.std.proofs.lemmas.Str.{chars_past_char}
use Rattle.std.specs.Prelude.{encode_utf8}
use Rattle.am_model.specs.Paths.{Mark, Element, matches, allows, once, many_times}
use Rattle.am_uri.specs.PathElements.{is_repeated, allowed_at}
use Rattle.am_uri.specs.PathPlaces.{some_matches, skipped, advanced}
use Rattle.am_uri.specs.PathWords.{AreWithin, word_where, words_where}
use Rattle.am_uri.proofs.PathBits.{bits, flags, filled, moved, div_more, flags_skipped, flags_advanced}
use Rattle.am_uri.proofs.PathWords.{words_below, length-words_where, low_where, half_where}

-- a flag for each element, set if the test holds, and flags that aren't set up to a count
abbrev pub padded : (Element → Bool) → ℕ → List Element → List Bool
padded test zero elements = []
padded test (suc n) [] = false ∷ padded test n []
padded test (suc n) (element ∷ others) = test element ∷ padded test n others

-- the flags of the words of a test
bits_where : (test : Element → Bool) (n m whole : ℕ) (elements : List Element) → whole ≡ n + m
    → bits n (word_where test (take n elements)) (padded test m (drop n elements)) ≡ padded test whole elements
bits_where test zero m whole elements sum = ap (λ j. padded test j elements) (omega arith)
bits_where test (suc n) m zero elements sum = absurd (omega arith)
bits_where test (suc n) m (suc whole) [] sum =
    let next = bits_where test n m whole [] (omega arith) in
    ap (λ others. false ∷ others) (rw (take-nil n, drop-nil n) at next)
bits_where test (suc n) m (suc whole) (element ∷ others) sum =
    rw (
      low_where (word_where test (take n others)) (test element),
      half_where (word_where test (take n others))
          (test element),
    ) (ap (λ behind. test element ∷ behind) (bits_where test n m whole others (omega arith)))

flags_where : (test : Element → Bool) (n count whole : ℕ) (elements : List Element) → whole ≡ n * count
    → flags n (words_where n test count elements) ≡ padded test whole elements
flags_where test n zero whole elements sum = let none : 0 ≡ whole = omega arith in ap (λ j. padded test j elements) none
flags_where test n (suc count) whole elements sum =
    rw (flags_where test n count (n * count) (drop n elements) refl)
    (bits_where test n (n * count) whole elements (omega arith))

length-bits : (n word : ℕ) (behind : List Bool) → length (bits n word behind) ≡ n + length behind
length-bits zero word behind = omega arith
length-bits (suc n) word behind = omega (arith, length-bits n (word / 2) behind)

length-flags : (n : ℕ) (words : List ℕ) → length (flags n words) ≡ n * length words
length-flags n [] = omega arith
length-flags n (word ∷ words) = omega (arith, length-bits n word (flags n words), length-flags n words)

bool_many : (f s a k x m n r : Bool) → (((((f || s) && a) && true) || k) && x) ||
    (((((f || s) && a) && not true) && m) || ((((f || s) && true) && n) || r))
    ≡ (k && x) || ((s && (n || (a && x))) || ((f && (n || (a && x))) || r))
bool_many f s a k x m n r = grind arith

bool_once : (f s a k x n m r : Bool) → (((((f || s) && a) && false) || k) && x) ||
    (((((f || s) && a) && not false) && n) || ((((f || s) && false) && m) || r))
    ≡ (k && x) || ((s && (a && n)) || ((f && (a && n)) || r))
bool_once f s a k x n m r = grind arith

bool_end : (f s k x : Bool) → ((((f || s) && false) && false) || k) && x ≡ (k && x) || ((s && false) || (f && false))
bool_end f s k x = grind arith

bool_start : (x : Bool) → (true && x) || false ≡ x
bool_start x = grind arith

-- one place on
place_on : (many : Bool) (mark : Mark) (others : List Element) (f s k : Bool) (c : ℕ) (rest : List ℕ) (r : Bool)
    → (((((f || s) && allows mark c) && many) || k) && matches (record { mark = mark; many = many } ∷ others) rest) ||
    (((((f || s) && allows mark c) && not many) && matches others rest) ||
    ((((f || s) && many) && matches others (c ∷ rest)) || r))
    ≡ (k && matches (record { mark = mark; many = many } ∷ others) rest) ||
    ((s && matches (record { mark = mark; many = many } ∷ others) (c ∷ rest)) ||
    ((f && matches (record { mark = mark; many = many } ∷ others) (c ∷ rest)) || r))
place_on true mark others f s k c rest r = bool_many f s (allows mark c) k
    (many_times (allows mark) (matches others) rest) (matches others rest) (matches others (c ∷ rest)) r
place_on false mark others f s k c rest r = bool_once f s (allows mark c) k (once (allows mark) (matches others) rest)
    (matches others rest) (matches others (c ∷ rest)) r

-- from the places that a character leads to, what follows matches as it did from those before with the character in
-- front
some_matches-moved : (elements : List Element) (flags : List Bool) (n : ℕ) (s k : Bool) (c : ℕ) (rest : List ℕ)
    → length flags ≡ n → length elements < n
    → some_matches elements (moved k (padded (allowed_at c) n elements) (padded is_repeated n elements)
    (filled s (padded is_repeated n elements) flags)) rest
    ≡ (k && matches elements rest) || ((s && matches elements (c ∷ rest)) || some_matches elements flags (c ∷ rest))
some_matches-moved elements [] n s k c rest same room = absurd (omega arith)
some_matches-moved elements (flag ∷ flags) zero s k c rest same room = absurd (omega arith)
some_matches-moved [] (flag ∷ flags) (suc n) s k c rest same room = bool_end flag s k _
some_matches-moved (element ∷ others) (flag ∷ flags) (suc n) s k c rest same room =
    rw (some_matches-moved others flags n ((flag || s) && element.many)
    (((flag || s) && allows element.mark c) && not element.many) c rest (omega arith) (omega arith))
    (place_on element.many element.mark others flag s k c rest _)

bool_stop : (f s : Bool) → f || s ≡ (s && true) || (f && true)
bool_stop f s = grind arith

bool_skip : (f s x r : Bool) → (((f || s) && true) && x) || r ≡ (s && x) || ((f && x) || r)
bool_skip f s x r = grind arith

bool_none : (f s x r : Bool) → (((f || s) && false) && x) || r ≡ (s && false) || ((f && false) || r)
bool_none f s x r = grind arith

end_on : (many : Bool) (mark : Mark) (others : List Element) (f s r : Bool)
    → (((f || s) && many) && matches others []) || r ≡ (s && matches (record { mark = mark; many = many } ∷ others) [])
    || ((f && matches (record { mark = mark; many = many } ∷ others) []) || r)
end_on true mark others f s r = bool_skip f s (matches others []) r
end_on false mark others f s r = bool_none f s (matches others []) r

-- the last place is reached if the rest of the pattern, from some place that is reached, may be empty
get_or-filled : (elements : List Element) (flags : List Bool) (n : ℕ) (s : Bool) → length flags ≡ n
    → length elements < n → get_or (filled s (padded is_repeated n elements) flags) (length elements) false
    ≡ (s && matches elements []) || some_matches elements flags []
get_or-filled elements [] n s same room = absurd (omega arith)
get_or-filled elements (flag ∷ flags) zero s same room = absurd (omega arith)
get_or-filled [] (flag ∷ flags) (suc n) s same room = bool_stop flag s
get_or-filled (element ∷ others) (flag ∷ flags) (suc n) s same room =
    get_or-filled others flags n ((flag || s) && element.many) (omega arith) (omega arith)
    ∙ end_on element.many element.mark others flag s (some_matches others flags [])

-- a bit of the words
get_or-bits : (n word : ℕ) (behind : List Bool) (i : ℕ) → i < n → get_or (bits n word behind) i false
    ≡ (word / 2 ^ i % 2 == 1)
get_or-bits zero word behind i below = absurd (omega arith)
get_or-bits (suc n) word behind zero below = ap (λ j. j % 2 == 1) (omega arith)
get_or-bits (suc n) word behind (suc i) below = get_or-bits n (word / 2) behind i (omega arith)
    ∙ ap (λ j. j % 2 == 1) (sym (div_more word i))

get_or-behind : (n word : ℕ) (behind : List Bool) (i j : ℕ) → j ≡ n + i → get_or (bits n word behind) j false
    ≡ get_or behind i false
get_or-behind zero word behind i j sum = ap (λ k. get_or behind k false) (omega arith)
get_or-behind (suc n) word behind i zero sum = absurd (omega arith)
get_or-behind (suc n) word behind i (suc j) sum = get_or-behind n (word / 2) behind i j (omega arith)

get_or-flags : (n : ℕ) (words : List ℕ) (q r place : ℕ) → place ≡ n * q + r → r < n → q < length words
    → get_or (flags n words) place false ≡ (get_or words q 0 / 2 ^ r % 2 == 1)
get_or-flags n [] q r place sum below within = absurd (omega arith)
get_or-flags n (word ∷ words) zero r place sum below within = rw (get_or-bits n word (flags n words) place
    (omega arith)) (ap (λ j. word / 2 ^ j % 2 == 1) (omega arith))
get_or-flags n (word ∷ words) (suc q) r place sum below within =
    get_or-behind n word (flags n words) (n * q + r) place (omega arith)
    ∙ get_or-flags n words q r (n * q + r) refl below (omega arith)

length-skipped : (n k : ℕ) (repeated words : List ℕ) → length (skipped n k repeated words) ≡ length words
length-skipped n k repeated [] = refl
length-skipped n k [] (word ∷ words) = refl
length-skipped n k (m ∷ repeated) (word ∷ words) = ap suc (length-skipped n (((bit_and word m + m) + k) / 2 ^ n)
    repeated words)

lt_from_products : (n q count r : ℕ) → n * q + r < n * count → q < count
lt_from_products n q count r below = grind arith

-- one character on
pub stepped : (n : ℕ) (elements : List Element) (words repeated allowed : List ℕ) (count c : ℕ) (rest : List ℕ)
    → length words ≡ count → length elements < n * count
    → repeated ≡ words_where n is_repeated count elements → allowed ≡ words_where n (allowed_at c) count elements
    → some_matches elements (flags n (advanced n 0 allowed repeated (skipped n 0 repeated words))) rest
    ≡ some_matches elements (flags n words) (c ∷ rest)
stepped n elements words repeated allowed count c rest same room repeated_there allowed_there =
    let repeated_length : length repeated ≡ length words = rw (
      repeated_there,
      length-words_where is_repeated n count
          elements,
    ) (sym same) in
    let allowed_length : length allowed ≡ length words = rw (
      allowed_there,
      length-words_where (allowed_at c) n count
          elements,
    ) (sym same) in
    let repeated_within : AreWithin n repeated = rw repeated_there (words_below is_repeated n count elements) in
    let allowed_within : AreWithin n allowed = rw allowed_there (words_below (allowed_at c) n count elements) in
    let middle = length-skipped n 0 repeated words in
    let second = flags_advanced n 0 allowed repeated (skipped n 0 repeated words) allowed_within (omega arith)
    (omega arith) (omega arith) in
    let first = flags_skipped n 0 repeated words repeated_within (omega arith) repeated_length in
    let lengths : length (flags n words) ≡ n * count = length-flags n words ∙ ap (λ j. n * j) same in
    let repeated_flags : flags n repeated ≡ padded is_repeated (n * count) elements = rw repeated_there
    (flags_where is_repeated n count (n * count) elements refl) in
    let allowed_flags : flags n allowed ≡ padded (allowed_at c) (n * count) elements = rw allowed_there
    (flags_where (allowed_at c) n count (n * count) elements refl) in
    rw (second, first, repeated_flags, allowed_flags) (some_matches-moved elements (flags n words) (n * count) false
    false c rest lengths room)

-- at the end of the path
pub ended : (n : ℕ) (elements : List Element) (words repeated : List ℕ) (count q r : ℕ) → length words ≡ count
    → length elements < n * count → repeated ≡ words_where n is_repeated count elements → length elements ≡ n * q + r
    → r < n
    → (get_or (skipped n 0 repeated words) q 0 / 2 ^ r % 2 == 1) ≡ some_matches elements (flags n words) []
ended n elements words repeated count q r same room there place below =
    let repeated_length : length repeated ≡ length words = rw (there, length-words_where is_repeated n count elements)
    (sym same) in
    let repeated_within : AreWithin n repeated = rw there (words_below is_repeated n count elements) in
    let first = flags_skipped n 0 repeated words repeated_within (omega arith) repeated_length in
    let lengths : length (flags n words) ≡ n * count = length-flags n words ∙ ap (λ j. n * j) same in
    let repeated_flags : flags n repeated ≡ padded is_repeated (n * count) elements = rw there
    (flags_where is_repeated n count (n * count) elements refl) in
    let row : q < length (skipped n 0 repeated words) = omega (
      arith,
      length-skipped n 0 repeated words,
      lt_from_products n q count r,
    ) in
    let bit = get_or-flags n (skipped n 0 repeated words) q r (length elements) place below row in
    sym bit ∙ rw (first, repeated_flags) (get_or-filled elements (flags n words) (n * count) false lengths room)

-- no place is reached
some_matches-none : (n : ℕ) (elements : List Element) (behind : List Bool) (characters : List ℕ)
    → ((others : List Element) → some_matches others behind characters ≡ false)
    → some_matches elements (bits n 0 behind) characters ≡ false
some_matches-none zero elements behind characters none = none elements
some_matches-none (suc n) [] behind characters none = refl
some_matches-none (suc n) (element ∷ others) behind characters none = some_matches-none n others behind characters none

pub emptied : (n : ℕ) (elements : List Element) (words : List ℕ) (characters : List ℕ)
    → ((k : ℕ) → k < length words → get_or words k 0 ≡ 0) → some_matches elements (flags n words) characters ≡ false
emptied n [] [] characters empty = refl
emptied n (element ∷ others) [] characters empty = refl
emptied n elements (word ∷ words) characters empty =
    rw (empty 0 (omega arith)) (some_matches-none n elements (flags n words) characters
    (λ others. emptied n others words characters (λ k below. empty (suc k) (omega arith))))

-- the first place alone is reached
pub started : (n count : ℕ) (elements : List Element) (characters : List ℕ)
    → some_matches elements (flags (suc n) (1 ∷ replicate count 0)) characters ≡ matches elements characters
started n count [] characters = refl
started n count (element ∷ others) characters =
    let none = some_matches-none n others (flags (suc n) (replicate count 0)) characters
    (λ left. emptied (suc n) left (replicate count 0) characters
    (λ k below. get_or-replicate count k 0 0 (omega (arith, length-replicate {A = ℕ} count 0)))) in
    rw none (bool_start _)

-- one word on
pub advance_on : (n i k : ℕ) (allowed repeated words whole : List ℕ) → i < length allowed → i < length repeated
    → i < length words
    → take i words ++ advanced n k (drop i allowed) (drop i repeated) (drop i words) ≡ whole
    → take (i + 1) (set words i (bit_or (bit_and (bit_and (get_or words i 0) (get_or allowed i 0))
    (get_or repeated i 0)) (bit_xor (bit_and (get_or words i 0) (get_or allowed i 0))
    (bit_and (bit_and (get_or words i 0) (get_or allowed i 0)) (get_or repeated i 0)) * 2 + k)))
    ++ advanced n ((bit_xor (bit_and (get_or words i 0) (get_or allowed i 0))
    (bit_and (bit_and (get_or words i 0) (get_or allowed i 0)) (get_or repeated i 0)) * 2 + k) / 2 ^ n)
    (drop (i + 1) allowed) (drop (i + 1) repeated) (drop (i + 1)
    (set words i (bit_or (bit_and (bit_and (get_or words i 0) (get_or allowed i 0)) (get_or repeated i 0))
    (bit_xor (bit_and (get_or words i 0) (get_or allowed i 0))
    (bit_and (bit_and (get_or words i 0) (get_or allowed i 0)) (get_or repeated i 0)) * 2 + k))))
    ≡ whole
advance_on n i k allowed repeated words whole in_allowed in_repeated in_words held =
    let split = rw (drop_more allowed i 0 in_allowed, drop_more repeated i 0 in_repeated, drop_more words i 0 in_words)
    at held in
    rw (take_more_set words i _ in_words, drop-set-lt (i + 1) words i _ (omega arith), append_assoc) split

-- at the start the first place alone is reached
pub started_at : (n : ℕ) (elements : List Element) (words : List ℕ) (characters : List ℕ) → words
    ≡ replicate (length words) 0 → 0 < length words → some_matches elements (flags (suc n) (set words 0 1)) characters
    ≡ matches elements characters
started_at n elements [] characters none some = absurd (omega arith)
started_at n elements (word ∷ words) characters none some =
    let others : words ≡ replicate (length words) 0 = cc in
    ap (λ ws. some_matches elements (flags (suc n) (1 ∷ ws)) characters) others
    ∙ started n (length words) elements characters

-- one character of the path on
pub walked : (n : ℕ) (elements : List Element) (words skips goes repeated allowed : List ℕ) (count size c : ℕ)
    (bytes rest : List ℕ) (whole : Bool) → length words ≡ count → length elements < n * count
    → repeated ≡ words_where n is_repeated count elements → size ≡ count
    → allowed ≡ words_where n (allowed_at c) size elements
    → skips ≡ skipped n 0 repeated words → goes ≡ advanced n 0 allowed repeated skips
    → IsUtf8 bytes → bytes ≡ encode_utf8 c ++ rest → some_matches elements (flags n words) (chars bytes) ≡ whole
    → some_matches elements (flags n goes) (chars rest) ≡ whole
walked n elements words skips goes repeated allowed count size c bytes rest whole same room repeated_there sized
    allowed_there skip go text split held =
    rw (go, skip) (stepped n elements words repeated allowed count c (chars rest) same room repeated_there
    (rw sized at allowed_there) ∙ rw (chars_past_char bytes rest c text split) at held)

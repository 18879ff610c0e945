-- Where a text is cut at a byte.
use Rattle.std.proofs.Common.{◌≡◌, ◌≢◌, ℕ, ◌-◌, ◌≤◌, suc, ◌+◌, ◌<◌, ◌==◌, not, Bool, true, false, ◌||◌, cond, if◌then◌else◌, nat_lt, List, [], ◌∷◌, length, Option, Some, None, MatchOption, option_map, Bor, refl, sym, ap, ◌∙◌, arith, ltb, get_or, take, drop, length-drop, get_or-drop, take-append-drop, inl, inr, subst, unwrap_or}
use Rattle.std.specs.List.{list_any, before_first, after_first, before_last, after_last, position_or_len, suffix_len}
use Rattle.std.specs.Str.Pattern.{RFindsChar}
use Rattle.std.specs.Str.{IsCharBoundary}
use Rattle.std.proofs.lemmas.Bool.{cases_lt, or_parts, lt-ltb, le-ltb, eq-eqb, ne_eqb}
use Rattle.std.proofs.lemmas.List.Folds.{list_any_at, list_any-append}
use Rattle.std.proofs.lemmas.List.Sums.{suffix_len_is, passes_at_first, prefix_len-le-length}
use Rattle.std.proofs.lemmas.Str.{len_utf8_ascii, IsCharBoundary-end, IsCharBoundary-before_ascii}
use Rattle.std.proofs.lemmas.Bool.Decides.{nat_tests}
use Rattle.std.proofs.lemmas.Str.Pattern.{IsSplitOnceResult, split_once_first, NoCharPasses-char}
use Rattle.am_uri.specs.Parts.{both}

one_more : (first later : Bool) (at count : ℕ) → later ≡ nat_lt at count → (first || later)
    ≡ nat_lt (cond (not first) (1 + at) 0) (suc count)
one_more true later at count h = let same : true ≡ nat_lt 0 (suc count) = grind (arith, nat_tests) in same
one_more false later at count h = let same : nat_lt at count ≡ nat_lt (1 + at) (suc count) = grind (arith, nat_tests) in
    h ∙ same

-- some element passes if the place of the first that does is before the end
pub list_any-position : {X : Type 0} (p : X → Bool) (xs : List X) → list_any p xs
    ≡ nat_lt (position_or_len p xs) (length xs)
list_any-position p [] = refl
list_any-position p (x ∷ xs) = one_more (p x) _ _ _ (list_any-position p xs)

-- what lies before and after a c, if the text has one
abbrev IsCut : ℕ → List ℕ → Type 0 → List ℕ → List ℕ → Option (Bor (List ℕ) × Bor (List ℕ)) → Type 0
IsCut c bs uncut before after r = MatchOption r uncut
    (λ x. (list_any (λ b. b == c) bs ≡ true) × (x.0.now ≡ before) × (x.1.now ≡ after))

-- the text is cut at its first c, or has none
abbrev pub IsCutFirst : ℕ → List ℕ → Option (Bor (List ℕ) × Bor (List ℕ)) → Type 0
IsCutFirst c bs = IsCut c bs (list_any (λ b. b == c) bs ≡ false) (before_first (λ b. b == c) bs) (after_first (λ b. b == c) bs)

-- `split_once` at an ASCII character
pub split_first : (c : ℕ) (bs : List ℕ) (r : Option (Bor (List ℕ) × Bor (List ℕ))) → IsSplitOnceResult c bs r → c < 128
    → IsCutFirst c bs r
split_first c bs None h low =
    let all = split_once_first c bs None h low in
    list_any-position (λ b. b == c) bs ∙ le-ltb _ _ (omega (arith, all))
split_first c bs (Some lent) h low =
    let cut = split_once_first c bs (Some lent) h low in
    (list_any-position (λ b. b == c) bs ∙ lt-ltb _ _ cut.0, cut.1, cut.2)

-- the same, as an equation
pub split_first_is : (c : ℕ) (bs : List ℕ) (r : Option (Bor (List ℕ) × Bor (List ℕ))) → IsCutFirst c bs r
    → option_map both r ≡ (if list_any (λ b. b == c) bs then Some (
      before_first (λ b. b == c) bs,
      after_first
          (λ b. b == c) bs,
    ) else None)
split_first_is c bs None none = rw none
split_first_is c bs (Some lent) cut = rw (cut.0, cut.1, cut.2)

-- no byte is c
abbrev Lacks : ℕ → List ℕ → Type 0
Lacks c bs = (i : ℕ) → i < length bs → get_or bs i 0 ≢ c

none_listed : (c : ℕ) (bs : List ℕ) → Lacks c bs → list_any (λ b. b == c) bs ≡ false
none_listed c [] lacks = refl
none_listed c (b ∷ bs) lacks = rw (ne_eqb b c (lacks 0 (omega arith)))
    (none_listed c bs (λ i inside. lacks (suc i) (omega arith)))

-- the clause of `rsplit_once` at a character
abbrev pub IsRSplitOnceResult : ℕ → List ℕ → Option (Bor (List ℕ) × Bor (List ℕ)) → Type 0
IsRSplitOnceResult c bs r = MatchOption r (RFindsChar c bs None) (λ x. (i : ℕ) × (j : ℕ) × RFindsChar c bs (Some (i, j))
    × (x.0.now ≡ take i bs) × (x.1.now ≡ drop j bs) × (i ≤ j) × (length x.0.now ≡ i) × (length x.1.now + j ≡ length bs))

-- the text is cut at its last c, or has none
abbrev pub IsCutLast : ℕ → List ℕ → Option (Bor (List ℕ) × Bor (List ℕ)) → Type 0
IsCutLast c bs = IsCut c bs ((list_any (λ b. b == c) bs ≡ false) × (bs ≡ after_last (λ b. b == c) bs))
    (before_last (λ b. b == c) bs) (after_last (λ b. b == c) bs)

-- `rsplit_once` at an ASCII character
pub split_last : (c : ℕ) (bs : List ℕ) (r : Option (Bor (List ℕ) × Bor (List ℕ))) → IsRSplitOnceResult c bs r → c < 128
    → IsCutLast c bs r
split_last c bs None h low =
    let lacks : Lacks c bs = λ i inside. NoCharPasses-char c bs i h low inside in
    let none : suffix_len (λ b. not (b == c)) bs ≡ length bs - 0 = suffix_len_is (λ b. not (b == c)) bs 0 0
    (omega arith) (λ k _ inside. ap not (ne_eqb _ c (lacks k inside))) (λ some. absurd (omega arith)) in
    let start : length bs - suffix_len (λ b. not (b == c)) bs ≡ 0 = omega (arith, none) in
    (none_listed c bs lacks, sym (ap (λ n. drop n bs) start))
split_last c bs (Some x) h low =
    let i = h.0 in
    let j = h.1 in
    let next : j ≡ i + 1 = omega (arith, h.2.1.ends, len_utf8_ascii c low) in
    let inside : i < length bs = omega (arith, h.7) in
    let later : (k : ℕ) → j ≤ k → k < length bs → get_or bs k 0 ≢ c = λ k from within e.
    let back : j + (k - j) ≡ k = omega arith in
    NoCharPasses-char c (drop j bs) (k - j) h.2.0 low (omega (arith, length-drop j bs))
    (get_or-drop j bs (k - j) 0 ∙ ap (λ n. get_or bs n 0) back ∙ e) in
    let here : j - 1 ≡ i = omega (arith, next) in
    let at : get_or bs (j - 1) 0 ≡ c = ap (λ n. get_or bs n 0) here ∙ h.2.1.byte low in
    let suffix : suffix_len (λ b. not (b == c)) bs ≡ length bs - j = suffix_len_is (λ b. not (b == c)) bs j 0
    (omega arith) (λ k from within. ap not (ne_eqb _ c (later k from within))) (λ _. ap not (eq-eqb _ c at)) in
    let front : length bs - suffix_len (λ b. not (b == c)) bs - 1 ≡ i = omega (arith, suffix, next, inside) in
    let back : length bs - suffix_len (λ b. not (b == c)) bs ≡ j = omega (arith, suffix, next, inside) in (
      list_any_at (λ b. b == c) bs i 0 inside (eq-eqb _ c (h.2.1.byte low)),
      h.3 ∙ sym (ap (λ n. take n bs) front),
      h.4 ∙ sym (ap (λ n. drop n bs) back),
    )

-- a text may be cut at its first byte of some kind, if the kind is ASCII, and at its end
pub IsCharBoundary-position : (p : ℕ → Bool) (bs : List ℕ) → ((b : ℕ) → p b ≡ true → b < 128)
    → IsCharBoundary bs (position_or_len p bs)
IsCharBoundary-position p bs low =
    let at = position_or_len p bs in
    elim (cases_lt at (length bs)) [
      | inl inside ↦ IsCharBoundary-before_ascii bs at inside (low _ (passes_at_first p bs 0 inside))
      | inr past ↦ let end : length bs ≡ at = omega (arith, prefix_len-le-length (λ b. not (p b)) bs) in subst
          (IsCharBoundary bs) end (IsCharBoundary-end bs)
    ]

-- the place of the first element that passes, or the length
pub position-unwrapped : {X : Type 0} (p : X → Bool) (xs : List X) (n : ℕ) (found : Option ℕ)
    → n ≡ unwrap_or found (length xs)
    → found ≡ cond (ltb (position_or_len p xs) (length xs)) (Some (position_or_len p xs)) None
    → n ≡ position_or_len p xs
position-unwrapped p xs n found is first = is ∙ rw first (elim (cases_lt (position_or_len p xs) (length xs)) [
  | inl inside ↦ rw (lt-ltb _ _ inside) refl
  | inr past ↦ let end : length xs ≡ position_or_len p xs = omega (arith, prefix_len-le-length (λ x. not (p x)) xs) in
      rw (le-ltb _ _ past) end
])

-- what is nowhere isn't after some place
pub list_any-drop : {X : Type 0} (p : X → Bool) (n : ℕ) (xs : List X) → list_any p xs ≡ false → list_any p (drop n xs)
    ≡ false
list_any-drop p n xs none = (or_parts (list_any p (take n xs)) (list_any p (drop n xs))
    (sym (list_any-append p (take n xs) (drop n xs)) ∙ ap (list_any p) (take-append-drop n xs) ∙ none)).1

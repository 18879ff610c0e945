-- What the union of two lists of extras holds.
use Rattle.std.proofs.Common.{◌≡◌, ℕ, ◌<◌, ◌+◌, Bool, true, false, ◌||◌, List, [], ◌∷◌, length, take, get_or, refl, sym, ap, ◌∙◌, arith, if◌then◌else◌}
use Rattle.std.specs.List.{AllZip}
use Rattle.std.specs.Cmp.Lexicographic.{bytes_decides}
use Rattle.std.proofs.lemmas.List.{take_more}
use Rattle.std.proofs.lemmas.List.Elements.{same_from_all_zip}
use Rattle.std.proofs.lemmas.List.Sums.{fold-append}
use Rattle.am_types.specs.declared.intent.Named.{Named}
use Rattle.am_model.specs.Texts.{is_same, is_before}
use Rattle.am_model.specs.Intents.{has_key, place_extra, with_extra, united_extras}

-- a clone of a list whose items' clones are the items is the list
pub same_list : {X : Type 0} (xs ys : List X) → AllZip (λ x y. y ≡ x) xs ys → ys ≡ xs
same_list xs ys h = same_from_all_zip (λ x y. y ≡ x) xs ys h (λ x y e. e)

covered : (there same : Bool) → (same ≡ true → there ≡ true) → there ≡ there || same
covered true same implied = refl
covered false true implied = implied refl
covered false false implied = refl

or_comm3 : (a b c : Bool) → a || (b || c) ≡ (a || b) || c
or_comm3 a b c = grind arith

or_turn : (a b : Bool) → a || b ≡ b || a
or_turn a b = grind arith

place_cases : (before : Bool) (extra first : Named) (others : List Named) → length (place_extra extra others)
    ≡ length others + 1 → length (if before then extra ∷ first ∷ others else first ∷ place_extra extra others)
    ≡ length (first ∷ others) + 1
place_cases true extra first others placed = omega arith
place_cases false extra first others placed = omega arith

key_cases : (before : Bool) (extra first : Named) (others : List Named) (key : List ℕ)
    → has_key (place_extra extra others) key ≡ has_key others key || is_same extra.key key
    → has_key (if before then extra ∷ first ∷ others else first ∷ place_extra extra others) key
    ≡ has_key (first ∷ others) key || is_same extra.key key
key_cases true extra first others key placed = or_turn (is_same extra.key key) _
key_cases false extra first others key placed = rw placed (or_comm3 (is_same first.key key) (has_key others key)
    (is_same extra.key key))

-- a placed extra is one extra more
length-place_extra : (extra : Named) (extras : List Named) → length (place_extra extra extras) ≡ length extras + 1
length-place_extra extra [] = omega arith
length-place_extra extra (first ∷ others) = place_cases (is_before extra.key first.key) extra first others
    (length-place_extra extra others)

-- and its key is the one key more
has_key-place_extra : (extra : Named) (extras : List Named) (key : List ℕ) → has_key (place_extra extra extras) key
    ≡ has_key extras key || is_same extra.key key
has_key-place_extra extra [] key = or_turn (is_same extra.key key) false
has_key-place_extra extra (first ∷ others) key = key_cases (is_before extra.key first.key) extra first others key
    (has_key-place_extra extra others key)

with_cases : (there : Bool) (extra : Named) (extras : List Named) (key : List ℕ)
    → (there ≡ true → is_same extra.key key ≡ true → has_key extras key ≡ true)
    → has_key (if there then extras else place_extra extra extras) key ≡ has_key extras key || is_same extra.key key
with_cases true extra extras key same = covered (has_key extras key) (is_same extra.key key) (same refl)
with_cases false extra extras key same = has_key-place_extra extra extras key

-- the keys of one extra more
has_key-with_extra : (extras : List Named) (extra : Named) (key : List ℕ) → has_key (with_extra extras extra) key
    ≡ has_key extras key || is_same extra.key key
has_key-with_extra extras extra key = with_cases (has_key extras extra.key) extra extras key
    (λ there same. ap (has_key extras) (sym ((bytes_decides extra.key key).0 same)) ∙ there)

-- the keys of a union are the keys of both
pub has_key-united : (extras others : List Named) (key : List ℕ) → has_key (united_extras extras others) key
    ≡ has_key extras key || has_key others key
has_key-united extras [] key = or_turn false (has_key extras key)
has_key-united extras (extra ∷ others) key =
    has_key-united (with_extra extras extra) others key ∙ rw (has_key-with_extra extras extra key)
    (sym (or_comm3 (has_key extras key) (is_same extra.key key) (has_key others key)))

-- one more extra of the other list
pub united_more : (extras others : List Named) (i : ℕ) (extra : Named) → i < length others → extra
    ≡ get_or others i extra → united_extras extras (take (i + 1) others)
    ≡ with_extra (united_extras extras (take i others)) extra
united_more extras others i extra below here = rw (
  take_more others i extra below,
  fold-append with_extra extras
      (take i others) (get_or others i extra ∷ []),
  sym here,
) refl

-- an extra whose key is already present adds nothing
pub length-there : (extras others : List Named) (i : ℕ) (extra : Named) → i < length others → extra
    ≡ get_or others i extra → has_key extras extra.key || has_key (take i others) extra.key ≡ true
    → length (united_extras extras (take (i + 1) others)) ≡ length (united_extras extras (take i others))
length-there extras others i extra below here there =
    let known = has_key-united extras (take i others) extra.key ∙ there in
    rw (united_more extras others i extra below here, known) refl

-- another adds one
pub length-new : (extras others : List Named) (i : ℕ) (extra : Named) → i < length others → extra
    ≡ get_or others i extra → has_key extras extra.key || has_key (take i others) extra.key ≡ false
    → length (united_extras extras (take (i + 1) others)) ≡ length (united_extras extras (take i others)) + 1
length-new extras others i extra below here new =
    let known = has_key-united extras (take i others) extra.key ∙ new in
    rw (united_more extras others i extra below here, known) (length-place_extra extra
    (united_extras extras (take i others)))

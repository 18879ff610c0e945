-- Items in order by number, of which only the first are kept.
use Rattle.std.proofs.Common.{◌≡◌, ℕ, ◌+◌, ◌<◌, ◌≤◌, ◌∙◌, Bool, true, false, cond, List, [], ◌∷◌, ◌++◌, length, take, drop, refl, sym, ap, arith, zero, suc, add-one, append_assoc, take-append-drop, ◌⊎◌, inl, inr}
use Rattle.std.proofs.lemmas.Bool.{cases_lt}
use Rattle.std.proofs.lemmas.Bool.Decides.{nat_tests}
use Rattle.std.proofs.lemmas.List.{length-take-le, take_all}
use Rattle.std.specs.Prelude.{nat_lt, insert, ⊤}
use Rattle.am_types.specs.declared.broadcast.Item.{Item}
use Rattle.am_model.specs.Sending.{place_item, by_number}
use Rattle.am_queue_normal.specs.Kept.{Rise}
use Rattle.am_queue.specs.Inbox.{place_of}

-- an item in its place
pub placed : (item : Item) (items : List Item) → place_item item items
    ≡ insert items (place_of item.delivery items) item
placed item [] = refl
placed item (first ∷ others) = by (nat_lt item.delivery first.delivery) (placed item others)
  where
    n : ℕ
    n = place_of item.delivery others

    by : (b : Bool) → place_item item others ≡ insert others n item
        → cond b (item ∷ first ∷ others) (first ∷ place_item item others)
        ≡ insert (first ∷ others) (cond b 0 (n + 1)) item
    by true rest = refl
    by false rest = rw (add-one n) (ap (λ l. first ∷ l) rest)

-- its place is within
pub place_within : (number : ℕ) (items : List Item) → place_of number items ≤ length items
place_within number [] = omega arith
place_within number (first ∷ others) = by (nat_lt number first.delivery) (place_within number others)
  where
    by : (b : Bool) → place_of number others ≤ length others → cond b 0 (place_of number others + 1) ≤ length
        (first ∷ others)
    by true within = omega arith
    by false within = omega (arith, within)

-- of one more the first don't depend on those that aren't among the first
pub first_placed : (n : ℕ) (item : Item) (items : List Item) → take n (place_item item (take n items))
    ≡ take n (place_item item items)
first_placed zero item items = refl
first_placed (suc n) item [] = refl
first_placed (suc n) item (first ∷ others) = by (nat_lt item.delivery first.delivery) (first_placed n item others)
  where
    first_again : (n : ℕ) (items : List Item) → take n (first ∷ take n items) ≡ take n (first ∷ items)
    first_again zero items = refl
    first_again (suc n) items = ap (λ l. first ∷ l) (shorter n items)
      where
        shorter : (n : ℕ) (items : List Item) → take n (take (suc n) items) ≡ take n items
        shorter zero items = refl
        shorter (suc n) [] = refl
        shorter (suc n) (x ∷ xs) = ap (λ l. x ∷ l) (shorter n xs)

    by : (b : Bool) → take n (place_item item (take n others)) ≡ take n (place_item item others)
        → take (suc n) (cond b (item ∷ first ∷ take n others) (first ∷ place_item item (take n others)))
        ≡ take (suc n) (cond b (item ∷ first ∷ others) (first ∷ place_item item others))
    by true rest = ap (λ l. item ∷ l) (first_again n others)
    by false rest = ap (λ l. first ∷ l) rest

-- the first items, as long as their numbers are below one
abbrev lows : ℕ → List Item → List Item
lows c [] = []
lows c (first ∷ others) = cond (nat_lt first.delivery c) (first ∷ lows c others) []

-- items placed one after the other, from the last on
abbrev placed_all : List Item → List Item → List Item
placed_all [] items = items
placed_all (first ∷ others) items = place_item first (placed_all others items)

-- each has a number below one
abbrev AllBelow : ℕ → List Item → Type 0
AllBelow c [] = ⊤
AllBelow c (first ∷ others) = (first.delivery < c) × AllBelow c others

is_less : (a b : ℕ) → a < b → nat_lt a b ≡ true
is_less a b less = grind (arith, nat_tests)

isnt_less : (a b : ℕ) → b ≤ a → nat_lt a b ≡ false
isnt_less a b more = grind (arith, nat_tests)

less_from : (a b : ℕ) → nat_lt a b ≡ true → a < b
less_from a b is = grind (arith, nat_tests)

from_less : (a b : ℕ) → nat_lt a b ≡ false → b ≤ a
from_less a b is = grind (arith, nat_tests)

-- an item that isn't below changes nothing below
lows_above : (c : ℕ) (item : Item) (items : List Item) → c ≤ item.delivery → lows c (place_item item items)
    ≡ lows c items
lows_above c item [] above = rw (isnt_less item.delivery c above) refl
lows_above c item (first ∷ others) above = by (nat_lt item.delivery first.delivery) refl
    (lows_above c item others above)
  where
    by : (b : Bool) → nat_lt item.delivery first.delivery ≡ b → lows c (place_item item others) ≡ lows c others
        → lows c (cond b (item ∷ first ∷ others) (first ∷ place_item item others)) ≡ lows c (first ∷ others)
    by true is rest =
        rw (
          isnt_less item.delivery c above,
          isnt_less first.delivery c
              (omega (arith, above, less_from item.delivery first.delivery is)),
        ) refl
    by false is rest = ap (λ l. cond (nat_lt first.delivery c) (first ∷ l) []) rest

-- one that is below is placed among those below
lows_below : (c : ℕ) (item : Item) (items : List Item) → item.delivery < c → lows c (place_item item items)
    ≡ place_item item (lows c items)
lows_below c item [] below = rw (is_less item.delivery c below) refl
lows_below c item (first ∷ others) below = by (nat_lt item.delivery first.delivery) refl (nat_lt first.delivery c) refl
    (lows_below c item others below)
  where
    by : (b : Bool) → nat_lt item.delivery first.delivery ≡ b → (d : Bool) → nat_lt first.delivery c ≡ d
        → lows c (place_item item others) ≡ place_item item (lows c others)
        → lows c (cond b (item ∷ first ∷ others) (first ∷ place_item item others))
        ≡ place_item item (cond d (first ∷ lows c others) [])
    by true is true low rest = rw (is_less item.delivery c below, low, is) refl
    by true is false low rest = rw (is_less item.delivery c below, low) refl
    by false is true low rest = rw (low, is) (ap (λ l. first ∷ l) rest)
    by false is false low rest = absurd (omega (
      arith,
      below,
      from_less item.delivery first.delivery is,
      from_less
          first.delivery c low,
    ))

-- the same of some items
lows_of_low : (c : ℕ) (items rest : List Item) → AllBelow c items → lows c (by_number (items ++ rest))
    ≡ placed_all items (lows c (by_number rest))
lows_of_low c [] rest below = refl
lows_of_low c (first ∷ others) rest below =
    lows_below c first (by_number (others ++ rest)) below.0 ∙ ap (place_item first) (lows_of_low c others rest below.1)

lows_of_high : (c from : ℕ) (items rest : List Item) → c ≤ from → Rise from items → lows c (by_number (items ++ rest))
    ≡ lows c (by_number rest)
lows_of_high c from [] rest less rise = refl
lows_of_high c from (first ∷ others) rest less rise =
    lows_above c first (by_number (others ++ rest)) (omega (arith, less, rise.0))
    ∙ lows_of_high c (first.delivery + 1) others rest (omega (arith, less, rise.0)) rise.1

-- a list that an item is placed in is one longer
place_longer : (item : Item) (items : List Item) → length (place_item item items) ≡ length items + 1
place_longer item [] = refl
place_longer item (first ∷ others) = by (nat_lt item.delivery first.delivery) (place_longer item others)
  where
    by : (b : Bool) → length (place_item item others) ≡ length others + 1
        → length (cond b (item ∷ first ∷ others) (first ∷ place_item item others)) ≡ length (first ∷ others) + 1
    by true is = omega arith
    by false is = omega (arith, is)

placed_longer : (items rest : List Item) → length items ≤ length (placed_all items rest)
placed_longer [] rest = omega arith
placed_longer (first ∷ others) rest = rw (place_longer first (placed_all others rest))
    (omega (arith, placed_longer others rest))

-- the first of a list are those below one, if they are enough
take_lows : (n c : ℕ) (items : List Item) → n ≤ length (lows c items) → take n items ≡ take n (lows c items)
take_lows zero c items enough = refl
take_lows (suc n) c [] enough = refl
take_lows (suc n) c (first ∷ others) enough = by (nat_lt first.delivery c) enough (take_lows n c others)
  where
    by : (b : Bool) → suc n ≤ length (cond b (first ∷ lows c others) [])
        → (n ≤ length (lows c others) → take n others ≡ take n (lows c others))
        → take (suc n) (first ∷ others) ≡ take (suc n) (cond b (first ∷ lows c others) [])
    by true enough rest = ap (λ l. first ∷ l) (rest (omega (arith, enough)))
    by false enough rest = absurd (omega (arith, enough))

-- of items that rise the first ones are below some number, and the others aren't
parted : (n from : ℕ) (items : List Item) → Rise from items → (c : ℕ) × (from ≤ c) × AllBelow c (take n items)
    × Rise c (drop n items)
parted zero from items rise = (from, omega arith, _, rise)
parted (suc n) from [] rise = (from, omega arith, _, _)
parted (suc n) from (first ∷ others) rise =
    let rest = parted n (first.delivery + 1) others rise.1 in
    (rest.0, omega (arith, rise.0, rest.1), (omega (arith, rest.1), rest.2), rest.3)

-- of items that rise, this many suffice for this many first ones
first_suffice : (n : ℕ) (items rest : List Item) → Rise 0 items → n ≤ length items
    → take n (by_number (take n items ++ rest)) ≡ take n (by_number (items ++ rest))
first_suffice n items rest rise enough =
    let parts = parted n 0 items rise in
    let c = parts.0 in
    let few = take n items in
    let more = drop n items in
    let whole : few ++ (more ++ rest) ≡ items ++ rest = sym (append_assoc few more rest)
    ∙ ap (λ l. l ++ rest) (take-append-drop n items) in
    let low : lows c (by_number (few ++ rest)) ≡ placed_all few (lows c (by_number rest)) = lows_of_low c few rest
    parts.2 in
    let same : lows c (by_number (items ++ rest)) ≡ placed_all few (lows c (by_number rest)) =
    ap (λ l. lows c (by_number l)) (sym whole) ∙ lows_of_low c few (more ++ rest) parts.2
    ∙ ap (placed_all few) (lows_of_high c c more rest (omega arith) parts.3) in
    let as_many : length few ≡ n = length-take-le n items enough in
    let longer = placed_longer few (lows c (by_number rest)) in
    take_lows n c (by_number (few ++ rest)) (omega (arith, ap length low, longer, as_many))
    ∙ ap (take n) (low ∙ sym same)
    ∙ sym (take_lows n c (by_number (items ++ rest)) (omega (arith, ap length same, longer, as_many)))

-- whether they are this many or not
pub first_shown : (n : ℕ) (items rest : List Item) → Rise 0 items → take n (by_number (take n items ++ rest))
    ≡ take n (by_number (items ++ rest))
first_shown n items rest rise = by (cases_lt n (length items))
  where
    by : (n < length items) ⊎ (length items ≤ n) → take n (by_number (take n items ++ rest))
        ≡ take n (by_number (items ++ rest))
    by (inl less) = first_suffice n items rest rise (omega (arith, less))
    by (inr all) = rw (take_all n items all) refl

-- the same of items with three lists after them
pub shown_of_first : (n : ℕ) (items second third fourth : List Item) → Rise 0 items
    → take n (by_number (((take n items ++ second) ++ third) ++ fourth))
    ≡ take n (by_number (((items ++ second) ++ third) ++ fourth))
shown_of_first n items second third fourth rise =
    ap (λ l. take n (by_number l)) (all (take n items)) ∙ first_shown n items ((second ++ third) ++ fourth) rise
    ∙ sym (ap (λ l. take n (by_number l)) (all items))
  where
    all : (first : List Item) → ((first ++ second) ++ third) ++ fourth ≡ first ++ ((second ++ third) ++ fourth)
    all first = ap (λ l. l ++ fourth) (append_assoc first second third) ∙ append_assoc first (second ++ third) fourth

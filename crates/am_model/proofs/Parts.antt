-- Parts of a list: what is left of it where some elements are left out.
use Rattle.std.proofs.Common.{◌≡◌, ℕ, zero, suc, ◌<◌, Bool, true, false, ◌||◌, cond, List, [], ◌∷◌, ◌++◌, length, take, refl, subst, arith}
use Rattle.std.specs.Prelude.{Some}
use Rattle.std.specs.List.{Contains, list_any, filter, find}

-- the first list is what is left of the second where some elements are left out: each was there, in the same order
pub data IsPart {X : Type 0} : List X → List X → Type 0 where
  end : IsPart [] []
  keep : {x : X} {xs ys : List X} → IsPart xs ys → IsPart (x ∷ xs) (x ∷ ys)
  leave : {y : X} {xs ys : List X} → IsPart xs ys → IsPart xs (y ∷ ys)

-- a list is a part of itself
pub IsPart-whole : {X : Type 0} (xs : List X) → IsPart xs xs
IsPart-whole [] = end
IsPart-whole (x ∷ xs) = keep (IsPart-whole xs)

-- a filter leaves a part
pub IsPart-filter : {X : Type 0} (keeps : X → Bool) (xs : List X) → IsPart (filter keeps xs) xs
IsPart-filter keeps [] = end
IsPart-filter keeps (x ∷ xs) = by (keeps x) (IsPart-filter keeps xs)
  where
    by : (b : Bool) → IsPart (filter keeps xs) xs → IsPart (cond b (x ∷ filter keeps xs) (filter keeps xs)) (x ∷ xs)
    by true rest = keep rest
    by false rest = leave rest

-- nothing is a part of each list
pub IsPart-nothing : {X : Type 0} (xs : List X) → IsPart [] xs
IsPart-nothing [] = end
IsPart-nothing (x ∷ xs) = leave (IsPart-nothing xs)

-- the first elements are a part
pub IsPart-take : {X : Type 0} (n : ℕ) (xs : List X) → IsPart (take n xs) xs
IsPart-take zero xs = IsPart-nothing xs
IsPart-take (suc n) [] = end
IsPart-take (suc n) (x ∷ xs) = keep (IsPart-take n xs)

-- a part of a part is a part
pub IsPart-part : {X : Type 0} (xs ys zs : List X) → IsPart xs ys → IsPart ys zs → IsPart xs zs
IsPart-part xs ys zs first end = first
IsPart-part xs ys zs first (leave rest) = leave (IsPart-part _ _ _ first rest)
IsPart-part xs ys zs (keep part) (keep rest) = keep (IsPart-part _ _ _ part rest)
IsPart-part xs ys zs (leave part) (keep rest) = leave (IsPart-part _ _ _ part rest)

-- an element of a part is one of the list
pub Contains-part : {X : Type 0} (x : X) (xs : List X) → IsPart (x ∷ []) xs → Contains xs x
Contains-part x [] part = elim part [ ]
Contains-part x (first ∷ others) (keep rest) = (0, omega arith, refl)
Contains-part x (first ∷ others) (leave rest) =
    let inner : Contains others x = Contains-part x others rest in
    let below : suc inner.0 < suc (length others) = omega (arith, inner.1) in
    (suc inner.0, below, inner.2)

-- two tests of which neither succeeds
pub neither : (a b : Bool) → a || b ≡ false → (a ≡ false) × (b ≡ false)
neither true b fails = cc
neither false b fails = (refl, fails)

-- where nothing passes, nothing of a part does
pub none_of_part : {X : Type 0} (test : X → Bool) (xs ys : List X) → IsPart xs ys → list_any test ys ≡ false
    → list_any test xs ≡ false
none_of_part test xs ys end nothing = refl
none_of_part test (x ∷ xs) (x' ∷ ys) (keep part) nothing =
    let parts = neither (test x) (list_any test ys) nothing in
    rw parts.0 (none_of_part test xs ys part parts.1)
none_of_part test xs (y ∷ ys) (leave part) nothing = none_of_part test xs ys part
    (neither (test y) (list_any test ys) nothing).1

-- nor does one more that doesn't
pub none_of_more : {X : Type 0} (test : X → Bool) (xs : List X) (x : X) → list_any test xs ≡ false → test x ≡ false
    → list_any test (xs ++ x ∷ []) ≡ false
none_of_more test [] x nothing fails = rw fails refl
none_of_more test (first ∷ others) x nothing fails =
    let parts = neither (test first) (list_any test others) nothing in
    rw parts.0 (none_of_more test others x parts.1 fails)

-- what is found passes the test
pub found_passes : {X : Type 0} (test : X → Bool) (xs : List X) (x : X) → find test xs ≡ Some x → test x ≡ true
found_passes test [] x is = cc
found_passes test (first ∷ others) x is = by (test first) refl (found_passes test others x) is
  where
    by : (b : Bool) → test first ≡ b → (find test others ≡ Some x → test x ≡ true)
        → cond b (Some first) (find test others) ≡ Some x → test x ≡ true
    by true passes rest is = let same : first ≡ x = cc in subst (λ y. test y ≡ true) same passes
    by false passes rest is = rest is

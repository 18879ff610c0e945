-- What offers and hits give is the same in another order.
use Rattle.std.proofs.Common.{◌≡◌, ℤ, Bool, true, false, cond, List, [], ◌∷◌, ◌++◌, refl, sym, ap, ◌∙◌, subst, append_assoc}
use Rattle.std.specs.Prelude.{int_lt}
use Rattle.std.specs.Ordering.{is_lt}
use Rattle.std.specs.List.{filter}
use Rattle.std.specs.List.Sorted.{IsPermutation}
use Rattle.std.proofs.lemmas.List.Sorted.{IsPermutation-append_comm, IsPermutation-append_left, IsPermutation-append_right, IsPermutation-refl, IsPermutation-trans}
use Rattle.am_types.specs.declared.device.Rules.{Rules}
use Rattle.am_types.specs.declared.device.Rules.TheVariants.{Profile, Android12}
use Rattle.am_types.specs.declared.resolve.Candidate.{Candidate}
use Rattle.am_types.specs.declared.resolve.Hit.{Hit}
use Rattle.am_model.specs.Candidates.{hits_of, in_turn, phone_cmp, phone_order, profile_order}
use Rattle.am_model.specs.Lists.{falling_by, ordered as in_line, place_by, placed as put_in_line}
use Rattle.am_model.specs.Receivers.{Offer, in_order}

-- what each element gives, one after the other
abbrev pub flat : {X Y : Type 0} → (X → List Y) → List X → List Y
flat f [] = []
flat f (x ∷ xs) = f x ++ flat f xs

module _ {X Y : Type 0} (f : X → List Y) where
  pub flat-append : (xs ys : List X) → flat f (xs ++ ys) ≡ flat f xs ++ flat f ys
  flat-append [] ys = refl
  flat-append (x ∷ xs) ys = ap (λ l. f x ++ l) (flat-append xs ys) ∙ sym (append_assoc (f x) (flat f xs) (flat f ys))

  -- what two elements give in front of a list may change places
  turned : (x y : X) (xs : List X) → IsPermutation (f x ++ (f y ++ flat f xs)) (f y ++ (f x ++ flat f xs))
  turned x y xs =
      subst (λ l. IsPermutation l (f y ++ (f x ++ flat f xs))) (append_assoc (f x) (f y) (flat f xs))
      (subst (λ l. IsPermutation ((f x ++ f y) ++ flat f xs) l) (append_assoc (f y) (f x) (flat f xs))
      (IsPermutation-append_left (flat f xs) (f x ++ f y) (f y ++ f x) (IsPermutation-append_comm (f x) (f y))))

  -- an element that is placed after some others
  behind : (x y : X) (xs placed : List X) → IsPermutation (f x ++ flat f xs) (flat f placed)
      → IsPermutation (f x ++ (f y ++ flat f xs)) (f y ++ flat f placed)
  behind x y xs placed p =
      IsPermutation-trans _ _ _ (turned x y xs) (IsPermutation-append_right (f y) _ _ p)

-- in order of falling priority, elements give the same in another order
module _ {X Y : Type 0} (f : X → List Y) (priority : X → ℤ) where
  placed : (x : X) (xs : List X) → IsPermutation (f x ++ flat f xs) (flat f (place_by priority x xs))
  placed x [] = IsPermutation-refl _
  placed x (y ∷ ys) = by (int_lt (priority x) (priority y)) (placed x ys)
    where
      by : (b : Bool) → IsPermutation (f x ++ flat f ys) (flat f (place_by priority x ys))
          → IsPermutation (f x ++ flat f (y ∷ ys)) (flat f (cond b (y ∷ place_by priority x ys) (x ∷ y ∷ ys)))
      by true p = behind f x y ys (place_by priority x ys) p
      by false p = IsPermutation-refl _

  ordered : (xs : List X) → IsPermutation (flat f xs) (flat f (falling_by priority xs))
  ordered [] = IsPermutation-refl _
  ordered (x ∷ xs) = IsPermutation-trans _ _ _ (IsPermutation-append_right (f x) _ _ (ordered xs))
      (placed x (falling_by priority xs))

-- and so they do in line by any test
module _ {X Y : Type 0} (f : X → List Y) (before : X → X → Bool) where
  put : (x : X) (xs : List X) → IsPermutation (f x ++ flat f xs) (flat f (put_in_line before x xs))
  put x [] = IsPermutation-refl _
  put x (y ∷ ys) = by (before y x) (put x ys)
    where
      by : (b : Bool) → IsPermutation (f x ++ flat f ys) (flat f (put_in_line before x ys))
          → IsPermutation (f x ++ flat f (y ∷ ys)) (flat f (cond b (y ∷ put_in_line before x ys) (x ∷ y ∷ ys)))
      by true p = behind f x y ys (put_in_line before x ys) p
      by false p = IsPermutation-refl _

  lined : (xs : List X) → IsPermutation (flat f xs) (flat f (in_line before xs))
  lined [] = IsPermutation-refl _
  lined (x ∷ xs) = IsPermutation-trans _ _ _ (IsPermutation-append_right (f x) _ _ (lined xs))
      (put x (in_line before xs))

-- hits by falling priority; ties keep their order
abbrev pub place_hit : Hit → List Hit → List Hit
place_hit h hs = place_by (λ (h : Hit). h.priority) h hs

abbrev pub by_priority : List Hit → List Hit
by_priority hs = falling_by (λ (h : Hit). h.priority) hs

-- placing the hit of a candidate is placing the candidate
place_hits : (c : Candidate) (cs : List Candidate)
    → hits_of (place_by (λ (c : Candidate). c.hit.priority) c cs) ≡ place_hit c.hit (hits_of cs)
place_hits c [] = refl
place_hits c (x ∷ xs) = by (int_lt c.hit.priority x.hit.priority) (place_hits c xs)
  where
    by : (b : Bool) → hits_of (place_by (λ (c : Candidate). c.hit.priority) c xs) ≡ place_hit c.hit (hits_of xs)
        → hits_of (cond b (x ∷ place_by (λ (c : Candidate). c.hit.priority) c xs) (c ∷ x ∷ xs))
        ≡ cond b (x.hit ∷ place_hit c.hit (hits_of xs)) (c.hit ∷ x.hit ∷ hits_of xs)
    by true e = ap (λ l. x.hit ∷ l) e
    by false e = refl

-- the hits of candidates in the profile's order are their hits by priority
pub profile_hits : (cs : List Candidate) → hits_of (profile_order cs) ≡ by_priority (hits_of cs)
profile_hits [] = refl
profile_hits (c ∷ cs) = place_hits c (profile_order cs) ∙ ap (place_hit c.hit) (profile_hits cs)

-- what the hits of candidates give is what the candidates do
flat_hits_of : {Y : Type 0} (f : Hit → List Y) (cs : List Candidate)
    → flat (λ (c : Candidate). f c.hit) cs ≡ flat f (hits_of cs)
flat_hits_of f [] = refl
flat_hits_of f (c ∷ cs) = ap (λ l. f c.hit ++ l) (flat_hits_of f cs)

-- in turn, hits give the same in another order
pub hits_in_turn : {Y : Type 0} (f : Hit → List Y) (rules : Rules) (cs : List Candidate)
    → IsPermutation (flat f (hits_of cs)) (flat f (hits_of (in_turn rules cs)))
hits_in_turn f rules cs =
    subst (λ l. IsPermutation l (flat f (hits_of (in_turn rules cs)))) (flat_hits_of f cs)
    (subst (λ l. IsPermutation (flat (λ (c : Candidate). f c.hit) cs) l) (flat_hits_of f (in_turn rules cs)) (by rules))
  where
    by : (rules : Rules) → IsPermutation (flat (λ (c : Candidate). f c.hit) cs)
        (flat (λ (c : Candidate). f c.hit) (in_turn rules cs))
    by Profile = ordered (λ (c : Candidate). f c.hit) (λ (c : Candidate). c.hit.priority) cs
    by Android12 = lined (λ (c : Candidate). f c.hit) (λ (a b : Candidate). is_lt (phone_cmp a b)) cs

pub ordered_offers : {Y : Type 0} (f : Offer → List Y) (os : List Offer)
    → IsPermutation (flat f os) (flat f (in_order os))
ordered_offers f = ordered f (λ (o : Offer). o.priority)

pub ordered_hits : {Y : Type 0} (f : Hit → List Y) (hs : List Hit) → IsPermutation (flat f hs) (flat f (by_priority hs))
ordered_hits f = ordered f (λ (h : Hit). h.priority)

-- a filter gives its elements, one after the other
flat_kept : {X : Type 0} (keeps : X → Bool) (xs : List X) → flat (λ x. cond (keeps x) (x ∷ []) []) xs ≡ filter keeps xs
flat_kept keeps [] = refl
flat_kept keeps (x ∷ xs) = ap (λ l. cond (keeps x) (x ∷ []) [] ++ l) (flat_kept keeps xs) ∙ by (keeps x)
  where
    by : (b : Bool) → cond b (x ∷ []) [] ++ filter keeps xs ≡ cond b (x ∷ filter keeps xs) (filter keeps xs)
    by true = refl
    by false = refl

-- the hits that are kept are the same, in another order, before and after they are put in order
pub kept_hits : (keeps : Hit → Bool) (hs : List Hit) → IsPermutation (filter keeps hs) (filter keeps (by_priority hs))
kept_hits keeps hs =
    subst (λ l. IsPermutation l (filter keeps (by_priority hs))) (flat_kept keeps hs)
    (subst (λ l. IsPermutation (flat (λ h. cond (keeps h) (h ∷ []) []) hs) l) (flat_kept keeps (by_priority hs))
    (ordered_hits (λ h. cond (keeps h) (h ∷ []) []) hs))

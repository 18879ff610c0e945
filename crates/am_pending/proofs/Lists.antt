-- What filters and additions leave to be found and counted.
use Rattle.std.proofs.Common.{◌≡◌, ℕ, ◌+◌, Bool, true, false, not, ◌||◌, cond, List, [], ◌∷◌, ◌++◌, filter, count_by, Some, None, refl, sym, ap, ◌∙◌, true≢false, zero-add, arith}
use Rattle.std.specs.List.{find, list_any}
use Rattle.std.proofs.lemmas.Bool.{false_from_ne_true, or_parts}
use Rattle.std.proofs.lemmas.List.Sums.{sum_by-cons}
use Rattle.std.proofs.lemmas.Option.{same_Some}
use Rattle.am_model.proofs.Parts.{IsPart-filter, none_of_more, none_of_part}
use Rattle.am_pending.specs.Once.{AtMostOne}

pub cond_not : {A : Type 0} (b : Bool) (x y : A) → cond (not b) x y ≡ cond b y x
cond_not true x y = refl
cond_not false x y = refl

module _ {X : Type 0} where
  -- if none passes, none of those kept does
  any-kept : (p keep : X → Bool) (xs : List X) → list_any p xs ≡ false → list_any p (filter keep xs) ≡ false
  any-kept p keep xs h = none_of_part p (filter keep xs) xs (IsPart-filter keep xs) h

  -- if none passes, none is found
  pub find-none : (p : X → Bool) (xs : List X) → list_any p xs ≡ false → find p xs ≡ None
  find-none p [] h = refl
  find-none p (x ∷ xs) h =
      let parts = or_parts (p x) (list_any p xs) h in
      rw parts.0 (find-none p xs parts.1)

  -- if none is found, none passes
  pub any-none : (p : X → Bool) (xs : List X) → find p xs ≡ None → list_any p xs ≡ false
  any-none p [] h = refl
  any-none p (x ∷ xs) h = by (p x) h (λ k. any-none p xs k)
    where
      by : (b : Bool) → cond b (Some x) (find p xs) ≡ None → (find p xs ≡ None → list_any p xs ≡ false)
          → (b || list_any p xs) ≡ false
      by true h rest = cc
      by false h rest = rest h

  -- what is found doesn't pass a test that none passes
  pub found-not : (r s : X → Bool) (xs : List X) (y : X) → find r xs ≡ Some y → list_any s xs ≡ false → s y ≡ false
  found-not r s [] y h k = cc
  found-not r s (x ∷ xs) y h k = by (r x) (or_parts (s x) (list_any s xs) k) h (found-not r s xs y)
    where
      by : (b : Bool) → (s x ≡ false) × (list_any s xs ≡ false) → cond b (Some x) (find r xs) ≡ Some y
          → (find r xs ≡ Some y → list_any s xs ≡ false → s y ≡ false) → s y ≡ false
      by true none h rest = ap s (sym (same_Some x y h)) ∙ none.0
      by false none h rest = rest h none.1

  -- what is found by one test is found by another that it alone passes
  pub found-otherwise : (q r : X → Bool) (xs : List X) (y : X) → find q xs ≡ Some y → r y ≡ true → AtMostOne r xs
      → find r xs ≡ Some y
  found-otherwise q r [] y h e m = h
  found-otherwise q r (x ∷ xs) y h e m = by (q x) (r x) refl h (λ k. found-otherwise q r xs y k e m.1)
    where
      by : (b c : Bool) → r x ≡ c → cond b (Some x) (find q xs) ≡ Some y → (find q xs ≡ Some y → find r xs ≡ Some y)
          → cond c (Some x) (find r xs) ≡ Some y
      by true true f h rest = h
      by true false f h rest = absurd (true≢false (sym e ∙ ap r (sym (same_Some x y h)) ∙ f))
      by false true f h rest = absurd (true≢false (sym e ∙ found-not q r xs y h (m.0 f)))
      by false false f h rest = rest h

  -- if none passes, all of the others are kept
  pub filter-none : (r : X → Bool) (xs : List X) → list_any r xs ≡ false → filter (λ x. not (r x)) xs ≡ xs
  filter-none r [] h = refl
  filter-none r (x ∷ xs) h =
      let parts = or_parts (r x) (list_any r xs) h in
      rw parts.0 (ap (λ l. x ∷ l) (filter-none r xs parts.1))

  -- at most one of those kept passes
  pub most-kept : (p keep : X → Bool) (xs : List X) → AtMostOne p xs → AtMostOne p (filter keep xs)
  most-kept p keep [] m = tt
  most-kept p keep (x ∷ xs) m = by (keep x) (most-kept p keep xs m.1)
    where
      by : (c : Bool) → AtMostOne p (filter keep xs) → AtMostOne p (cond c (x ∷ filter keep xs) (filter keep xs))
      by true rest = ((λ e. any-kept p keep xs (m.0 e)), rest)
      by false rest = rest

  -- at most one passes of one more, where none before it does if it does
  pub most-push : (p : X → Bool) (xs : List X) (y : X) → AtMostOne p xs → (p y ≡ true → list_any p xs ≡ false)
      → AtMostOne p (xs ++ y ∷ [])
  most-push p [] y m h = ((λ _. refl), tt)
  most-push p (x ∷ xs) y m h = (first, most-push p xs y m.1 (λ e. (or_parts (p x) (list_any p xs) (h e)).1))
    where
      first : p x ≡ true → list_any p (xs ++ y ∷ []) ≡ false
      first e = none_of_more p xs y (m.0 e) (false_from_ne_true (p y)
          (λ f. true≢false (sym e ∙ (or_parts (p x) (list_any p xs) (h f)).0)))

  -- if none is found, none is among those kept
  pub none-kept : (q keep : X → Bool) (xs : List X) → find q xs ≡ None → find q (filter keep xs) ≡ None
  none-kept q keep xs h = find-none q (filter keep xs) (any-kept q keep xs (any-none q xs h))

  -- the only one that passes is found among those kept, if it is
  pub find-kept : (q keep : X → Bool) (xs : List X) (y : X) → find q xs ≡ Some y → AtMostOne q xs
      → find q (filter keep xs) ≡ cond (keep y) (Some y) None
  find-kept q keep [] y h m = cc
  find-kept q keep (x ∷ xs) y h m = by (q x) (keep x) refl refl h (λ k. find-kept q keep xs y k m.1)
    where
      others : List X
      others = filter keep xs

      by : (b c : Bool) → q x ≡ b → keep x ≡ c → cond b (Some x) (find q xs) ≡ Some y
          → (find q xs ≡ Some y → find q others ≡ cond (keep y) (Some y) None) → find q (cond c (x ∷ others) others)
          ≡ cond (keep y) (Some y) None
      by true true e f h rest = rw (← same_Some x y h, e, f) refl
      by true false e f h rest = rw (← same_Some x y h, f) (find-none q others (any-kept q keep xs (m.0 e)))
      by false true e f h rest = ap (λ a. cond a (Some x) (find q others)) e ∙ rest h
      by false false e f h rest = rest h

  -- what is found among those kept, by a test that tells whether they are kept
  pub find-alike : (q keep : X → Bool) (b : Bool) → ((x : X) → q x ≡ true → keep x ≡ b) → (xs : List X)
      → find q (filter keep xs) ≡ cond b (find q xs) None
  find-alike q keep true says [] = refl
  find-alike q keep false says [] = refl
  find-alike q keep b says (x ∷ xs) = by (keep x) (q x) b refl refl (says x) (find-alike q keep b says xs)
    where
      others : List X
      others = filter keep xs

      by : (k c b : Bool) → keep x ≡ k → q x ≡ c → (q x ≡ true → keep x ≡ b) → find q others ≡ cond b (find q xs) None
          → find q (cond k (x ∷ others) others) ≡ cond b (cond (q x) (Some x) (find q xs)) None
      by true c true e f tells rest = ap (cond (q x) (Some x)) rest
      by true true false e f tells rest = absurd (true≢false (sym e ∙ tells f))
      by true false false e f tells rest = rw f rest
      by false true true e f tells rest = absurd (true≢false (sym (tells f) ∙ e))
      by false false true e f tells rest = rw f rest
      by false c false e f tells rest = rest

  count_by-cons : (s : X → Bool) (x : X) (xs : List X) → count_by s (x ∷ xs) ≡ cond (s x) 1 0 + count_by s xs
  count_by-cons s x xs = sum_by-cons (λ x. cond (s x) 1 0) x xs

  -- how many pass without the one that is taken away
  pub count-without : (r s : X → Bool) (xs : List X) (y : X) → find r xs ≡ Some y → AtMostOne r xs
      → count_by s (filter (λ x. not (r x)) xs) + cond (s y) 1 0 ≡ count_by s xs
  count-without r s [] y h m = cc
  count-without r s (x ∷ xs) y h m = by (r x) refl h (λ k. count-without r s xs y k m.1)
    where
      others : List X
      others = filter (λ x. not (r x)) xs

      by : (b : Bool) → r x ≡ b → cond b (Some x) (find r xs) ≡ Some y
          → (find r xs ≡ Some y → count_by s others + cond (s y) 1 0 ≡ count_by s xs)
          → count_by s (cond (not b) (x ∷ others) others) + cond (s y) 1 0 ≡ count_by s (x ∷ xs)
      by true e h rest =
          let a = ap (count_by s) (filter-none r xs (m.0 e)) in
          let c = ap {B = ℕ} (λ z. cond (s z) 1 0) (same_Some x y h) in
          let d = count_by-cons s x xs in
          omega (arith, a, c, d)
      by false e h rest =
          let a = count_by-cons s x others in
          let c = rest h in
          let d = count_by-cons s x xs in
          omega (arith, a, c, d)

  -- how many pass of those kept, by a test that tells which are kept
  pub count-filter : (s keep : X → Bool) (kept : Bool) → ((x : X) → s x ≡ true → keep x ≡ kept) → (xs : List X)
      → count_by s (filter keep xs) ≡ cond kept (count_by s xs) 0
  count-filter s keep true h [] = refl
  count-filter s keep false h [] = refl
  count-filter s keep kept h (x ∷ xs) = by (keep x) (s x) kept refl refl (h x) (count-filter s keep kept h xs)
    where
      by : (b c k : Bool) → keep x ≡ b → s x ≡ c → (s x ≡ true → keep x ≡ k) → count_by s (filter keep xs)
          ≡ cond k (count_by s xs) 0 → count_by s (cond b (x ∷ filter keep xs) (filter keep xs))
          ≡ cond k (count_by s (x ∷ xs)) 0
      by true c true e f says rest = count_by-cons s x (filter keep xs) ∙ ap (λ n. cond (s x) 1 0 + n) rest
          ∙ sym (count_by-cons s x xs)
      by true true false e f says rest = absurd (true≢false (sym e ∙ says f))
      by true false false e f says rest = count_by-cons s x (filter keep xs) ∙ rw (f, zero-add) rest
      by false true true e f says rest = absurd (true≢false (sym (says f) ∙ e))
      by false false true e f says rest = rest ∙ sym (count_by-cons s x xs ∙ rw (f, zero-add) refl)
      by false c false e f says rest = rest

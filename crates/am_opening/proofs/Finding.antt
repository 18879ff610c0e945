-- The first that passes a test, and texts in lower case.
use Rattle.std.proofs.Common.{◌≡◌, ℕ, ◌<◌, ◌+◌, Bool, true, false, ◌&&◌, cond, List, [], ◌∷◌, length, get_or, drop, refl, sym, ap, ◌∙◌, subst, ◌==◌}
use Rattle.std.specs.Prelude.{Some}
use Rattle.std.specs.Char.{to_ascii_lowercase}
use Rattle.std.specs.List.{find, list_all}
use Rattle.std.proofs.lemmas.List.{at_drop_more}
use Rattle.am_model.specs.Texts.{is_same, lowered}

module _ {X : Type 0} (test : X → Bool) (xs : List X) (i : ℕ) (x : X) where
  -- what is found from a place on, by the test of the one there
  from_here : (b : Bool) → i < length xs → x ≡ get_or xs i x → test x ≡ b → find test (drop i xs)
      ≡ cond b (Some x) (find test (drop (i + 1) xs))
  from_here b within is tests =
      at_drop_more (find test) xs i x within
      ∙ ap (λ (y : X). cond (test y) (Some y) (find test (drop (i + 1) xs))) (sym is)
      ∙ ap (λ b. cond b (Some x) (find test (drop (i + 1) xs))) tests

  -- the one at a place is found
  pub found_here : (i < length xs) × (x ≡ get_or xs i x) → test x ≡ true → find test (drop i xs) ≡ find test xs → Some x
      ≡ find test xs
  found_here there passes same = sym (from_here true there.0 there.1 passes) ∙ same

  -- it isn't, and the others give what all give
  pub not_here : (i < length xs) × (x ≡ get_or xs i x) → test x ≡ false → find test (drop i xs) ≡ find test xs
      → find test (drop (i + 1) xs) ≡ find test xs
  not_here there fails same = sym (from_here false there.0 there.1 fails) ∙ same

-- the one at a place of a list is there in the same list
pub there_too : {X : Type 0} {xs ys : List X} {i : ℕ} {x : X} → xs ≡ ys → i < length xs → x ≡ get_or xs i x
    → (i < length ys) × (x ≡ get_or ys i x)
there_too {i = i} {x = x} same within is = (subst (λ l. i < length l) same within, is ∙ ap (λ l. get_or l i x) same)

-- a text is in lower case where each of its bytes is
pub lowered_is : (text : List ℕ) → list_all (λ b. to_ascii_lowercase b == b) text ≡ is_same (lowered text) text
lowered_is [] = refl
lowered_is (b ∷ text) = ap (λ rest. (to_ascii_lowercase b == b) && rest) (lowered_is text)

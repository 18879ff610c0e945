-- The texts of a set in their order, each once: the same for every list of the set.
use Rattle.std.specs.Prelude.{◌≡◌, ℕ, zero, suc, Bool, true, false, ◌&&◌, ◌||◌, cond, List, [], ◌∷◌, ◌++◌, Option, Some, None, refl}
use Rattle.std.proofs.Common.{sym, ap, ◌∙◌, true≢false}
use Rattle.std.proofs.lemmas.Option.{same_Some}
use Rattle.std.specs.Hash as fed
use Rattle.std.specs.List.{list_all}
use Rattle.std.specs.Option.{option_or}
use Rattle.std.specs.Ordering.{is_lt, nat_cmp, ordering_reverse}
use Rattle.std.specs.declared.cmp.Ordering.{Ordering}
use Rattle.std.specs.declared.cmp.Ordering.TheVariants.{Less, Equal, Greater}
use Rattle.std.specs.Cmp.{Equal-is, both_ways, first_so, second_so, tied_itself}
use Rattle.std.specs.Cmp.Lexicographic.{bytes_decides, nat_list_cmp_total, nat_list_eq_equiv, slice_cmp, texts_ties}
use Rattle.am_model.specs.Texts.{is_before, is_same, lists}
use Rattle.am_model.specs.Intents.{are_same_set}

-- the text comes after the last one, if there was one
abbrev pub is_behind : Option (List ℕ) → List ℕ → Bool
is_behind None text = true
is_behind (Some last) text = is_before last text

-- it comes before the one found, if one was found
abbrev pub is_nearer : Option (List ℕ) → List ℕ → Bool
is_nearer None text = true
is_nearer (Some found) text = is_before text found

-- the one found, or a text after the last one that comes before the one found
abbrev pub nearer : Option (List ℕ) → Option (List ℕ) → List ℕ → Option (List ℕ)
nearer last found text = cond (is_nearer found text && is_behind last text) (Some text) found

-- the nearest of the texts after the last one, if one was already found
abbrev pub nearest : Option (List ℕ) → Option (List ℕ) → List (List ℕ) → Option (List ℕ)
nearest last found [] = found
nearest last found (text ∷ texts) = nearest last (nearer last found text) texts

-- the first of the texts, by bytes, or the first after the last one
abbrev pub next_text : Option (List ℕ) → List (List ℕ) → Option (List ℕ)
next_text last texts = nearest last None texts

-- the last one after this many rounds, each of which takes the next text
unfoldable pub last_after : ℕ → List (List ℕ) → Option (List ℕ)
last_after zero texts = None
last_after (suc rounds) texts = option_or (next_text (last_after rounds texts) texts) (last_after rounds texts)

-- what a hasher is fed in this many rounds: each time the next text, or that there is none
unfoldable pub fed_in_order : ℕ → List (List ℕ) → fed.HashWrites
fed_in_order zero texts = []
fed_in_order (suc rounds) texts = fed_in_order rounds texts ++ fed.option fed.str
    (next_text (last_after rounds texts) texts)

pub same_text : (s t : List ℕ) → is_same s t ≡ true → s ≡ t
same_text s t h = (bytes_decides s t).0 h

-- ---- the same texts are listed

abbrev pub SameMembers : List (List ℕ) → List (List ℕ) → Type 0
SameMembers texts others = (text : List ℕ) → lists texts text ≡ lists others text

pub one-listed : (one : List ℕ) (texts : List (List ℕ)) → lists (one ∷ texts) one ≡ true
one-listed one texts = ap (λ b. b || lists texts one) (nat_list_eq_equiv.refl one)

-- what is listed among texts that are all listed elsewhere is listed there too
lists-step : (b : List ℕ) (bs cs : List (List ℕ)) (x : List ℕ) (here : Bool) → is_same b x ≡ here → (here || lists bs x)
    ≡ true → lists cs b ≡ true → (lists bs x ≡ true → lists cs x ≡ true) → lists cs x ≡ true
lists-step b bs cs x true e h first else_ = ap (lists cs) (sym (same_text b x e)) ∙ first
lists-step b bs cs x false e h first else_ = else_ h

lists-through : (bs cs : List (List ℕ)) (x : List ℕ) → lists bs x ≡ true → list_all (λ t. lists cs t) bs ≡ true
    → lists cs x ≡ true
lists-through [] cs x h all = absurd (true≢false (sym h))
lists-through (b ∷ bs) cs x h all =
    lists-step b bs cs x (is_same b x) refl h (first_so (lists cs b) (list_all (λ t. lists cs t) bs) all)
    (λ k. lists-through bs cs x k (second_so (lists cs b) (list_all (λ t. lists cs t) bs) all))

-- sets that are the same have the same members
pub same_members : (texts others : List (List ℕ)) → are_same_set texts others ≡ true → SameMembers texts others
same_members texts others h text =
    both_ways (lists texts text) (lists others text)
    (λ k. lists-through texts others text k (first_so (list_all (λ t. lists others t) texts)
    (list_all (λ t. lists texts t) others) h))
    (λ k. lists-through others texts text k (second_so (list_all (λ t. lists others t) texts)
    (list_all (λ t. lists texts t) others) h))

-- ---- which text comes next

not-itself : (text : List ℕ) → is_before text text ≡ false
not-itself text = ap is_lt (tied_itself nat_list_cmp_total text)

-- a text that doesn't come before another doesn't come before one that does
farther : (text found other : List ℕ) → is_before other found ≡ true → is_before text found ≡ false
    → is_before text other ≡ false
farther text found other nearer_ h = by (slice_cmp nat_cmp text other) refl
  where
    less : (o : Ordering) → is_lt o ≡ true → o ≡ Less
    less Less e = refl
    less Equal e = absurd (true≢false (sym e))
    less Greater e = absurd (true≢false (sym e))

    by : (o : Ordering) → slice_cmp nat_cmp text other ≡ o → is_lt o ≡ false
    by Less e = absurd (true≢false (sym (ap is_lt (nat_list_cmp_total.trans text other found e
        (less (slice_cmp nat_cmp other found) nearer_))) ∙ h))
    by Equal e = refl
    by Greater e = refl

-- two texts of which neither comes before the other are the same
neither-before : (s t : List ℕ) → is_before s t ≡ false → is_before t s ≡ false → s ≡ t
neither-before s t h k = by (slice_cmp nat_cmp s t) refl
  where
    turned : (o : Ordering) → is_lt o ≡ false → Greater ≡ ordering_reverse o → ⊥
    turned Less e g = true≢false e
    turned Equal e g = true≢false (ap (λ o. is_lt (ordering_reverse o)) g)
    turned Greater e g = true≢false (sym (ap is_lt g))

    by : (o : Ordering) → slice_cmp nat_cmp s t ≡ o → s ≡ t
    by Less e = absurd (true≢false (sym (ap is_lt e) ∙ h))
    by Equal e = same_text s t (texts_ties s t ∙ (Equal-is (slice_cmp nat_cmp s t)).1 e)
    by Greater e = absurd (turned (slice_cmp nat_cmp t s) k (sym e ∙ nat_list_cmp_total.antisymm s t))

module _ (last : Option (List ℕ)) where
  -- a text that isn't nearer than the one found isn't nearer than the nearest
  stays : (text : List ℕ) (found : Option (List ℕ)) (texts : List (List ℕ)) → is_nearer found text ≡ false
      → is_nearer (nearest last found texts) text ≡ false
  stays text found [] h = h
  stays text found (other ∷ texts) h = stays text (nearer last found other) texts
      (by found (is_nearer found other) (is_behind last other) refl h)
    where
      by : (at : Option (List ℕ)) (b c : Bool) → is_nearer at other ≡ b → is_nearer at text ≡ false
          → is_nearer (cond (b && c) (Some other) at) text ≡ false
      by None b c e k = absurd (true≢false k)
      by (Some one) true true e k = farther text one other e k
      by (Some one) true false e k = k
      by (Some one) false c e k = k

  -- no text after the last one is nearer than the nearest
  none-nearer : (text : List ℕ) (found : Option (List ℕ)) (texts : List (List ℕ)) → is_behind last text ≡ true
      → lists texts text ≡ true → is_nearer (nearest last found texts) text ≡ false
  none-nearer text found [] behind listed = absurd (true≢false (sym listed))
  none-nearer text found (other ∷ texts) behind listed =
      by (is_same other text) refl listed (λ k. none-nearer text (nearer last found other) texts behind k)
    where
      here : (b c : Bool) → is_nearer found text ≡ b → c ≡ true → is_nearer (cond (b && c) (Some text) found) text
          ≡ false
      here true true e k = not-itself text
      here true false e k = absurd (true≢false (sym k))
      here false c e k = e

      by : (b : Bool) → is_same other text ≡ b → (b || lists texts text) ≡ true
          → (lists texts text ≡ true → is_nearer (nearest last (nearer last found other) texts) text ≡ false)
          → is_nearer (nearest last (nearer last found other) texts) text ≡ false
      by true e k rest =
          ap (λ one. is_nearer (nearest last (nearer last found one) texts) text) (same_text other text e)
          ∙ stays text (nearer last found text) texts (here (is_nearer found text) (is_behind last text) refl behind)
      by false e k rest = rest k

  module _ (Holds : List ℕ → Type 0) where
    -- what holds of the one found and of each text after the last one holds of the nearest
    of-nearest : (found : Option (List ℕ)) (texts : List (List ℕ)) → ((text : List ℕ) → found ≡ Some text → Holds text)
        → ((text : List ℕ) → lists texts text ≡ true → is_behind last text ≡ true → Holds text)
        → (text : List ℕ) → nearest last found texts ≡ Some text → Holds text
    of-nearest found [] of_found of_listed text e = of_found text e
    of-nearest found (other ∷ texts) of_found of_listed text e =
        of-nearest (nearer last found other) texts (by (is_nearer found other) (is_behind last other) refl)
        (λ one k. of_listed one (ap (λ b. is_same other one || b) k ∙ or-true (is_same other one))) text e
      where
        or-true : (b : Bool) → (b || true) ≡ true
        or-true true = refl
        or-true false = refl

        by : (b c : Bool) → is_behind last other ≡ c → (one : List ℕ) → cond (b && c) (Some other) found ≡ Some one
            → Holds one
        by true true k one h = of_listed one (ap (λ t. is_same t one || lists texts one) (same_Some other one h)
            ∙ one-listed one texts) (ap (is_behind last) (sym (same_Some other one h)) ∙ k)
        by true false k one h = of_found one h
        by false c k one h = of_found one h

  -- if the same texts are listed, the same one comes next
  same-next : (texts others : List (List ℕ)) → SameMembers texts others → next_text last texts ≡ next_text last others
  same-next texts others h = by (next_text last texts) (next_text last others) refl refl
    where
      listed : (all : List (List ℕ)) (one : List ℕ) → next_text last all ≡ Some one → (lists all one ≡ true)
          × (is_behind last one ≡ true)
      listed all = of-nearest (λ one. (lists all one ≡ true) × (is_behind last one ≡ true)) None all
          (λ one e. absurd (true≢false (ap is_none_ e))) (λ one e k. (e, k))
        where
          is_none_ : Option (List ℕ) → Bool
          is_none_ None = true
          is_none_ (Some one) = false

      by : (m n : Option (List ℕ)) → next_text last texts ≡ m → next_text last others ≡ n → m ≡ n
      by None None e k = refl
      by None (Some other) e k =
          let is = listed others other k in
          absurd (true≢false (sym (ap (λ o. is_nearer o other) e) ∙ none-nearer other None texts is.1 (h other ∙ is.0)))
      by (Some one) None e k =
          let is = listed texts one e in
          absurd (true≢false (sym (ap (λ o. is_nearer o one) k) ∙ none-nearer one None others is.1
          (sym (h one) ∙ is.0)))
      by (Some one) (Some other) e k =
          let a = listed texts one e in
          let b = listed others other k in
          ap Some
          (neither-before one other
          (sym (ap (λ o. is_nearer o one) k) ∙ none-nearer one None others a.1 (sym (h one) ∙ a.0))
          (sym (ap (λ o. is_nearer o other) e) ∙ none-nearer other None texts b.1 (h other ∙ b.0)))

module _ (texts others : List (List ℕ)) (h : SameMembers texts others) where
  same-last : (rounds : ℕ) → last_after rounds texts ≡ last_after rounds others
  unfolding last_after
  same-last zero = refl
  same-last (suc rounds) =
      (λ i. option_or (next_text (same-last rounds i) texts) (same-last rounds i))
      ∙ ap (λ next. option_or next (last_after rounds others)) (same-next (last_after rounds others) texts others h)

  -- a hasher is fed the same
  pub same_fed : (rounds : ℕ) → fed_in_order rounds texts ≡ fed_in_order rounds others
  unfolding fed_in_order
  same_fed zero = refl
  same_fed (suc rounds) =
      (λ i. same_fed rounds i ++ fed.option fed.str (next_text (same-last rounds i) texts))
      ∙ ap (λ next. fed_in_order rounds others ++ fed.option fed.str next)
      (same-next (last_after rounds others) texts others h)

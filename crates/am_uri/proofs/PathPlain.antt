-- Elements that are compared one by one, and a last one that allows everything.
use Rattle.std.proofs.Common.{◌≡◌, ℕ, Bool, true, false, List, [], ◌∷◌, refl}
use Rattle.am_model.specs.Paths.{Mark, Element, matches, allows, once, many_times, is_end}
use Rattle.am_uri.specs.declared.pattern.Element.{Element as KeptElement}
use Rattle.am_uri.specs.PathElements.{mark_of, element_of, is_wild}

-- one plain element on
pub plain_on : (kept : KeptElement) (left : List Element) (c : ℕ) (rest : List ℕ) → kept.repeated ≡ false
    → allows (mark_of kept.mark) c ≡ true → matches (element_of kept ∷ left) (c ∷ rest) ≡ matches left rest
plain_on kept left c rest once allowed = rw (once, allowed) refl

-- a last element that allows every character, any number of times
many_times-all : (allowed : ℕ → Bool) (characters : List ℕ) → ((c : ℕ) → allowed c ≡ true)
    → many_times allowed is_end characters ≡ true
many_times-all allowed [] every = refl
many_times-all allowed (c ∷ others) every = rw (every c, many_times-all allowed others every) refl

allows_wild : (mark : Mark) (c : ℕ) → is_wild mark ≡ true → allows mark c ≡ true
allows_wild mark c wild = rw wild refl

pub wild_last : (kept : KeptElement) (left : List Element) (characters : List ℕ) → kept.repeated ≡ true
    → is_wild (mark_of kept.mark) ≡ true → left ≡ [] → matches (element_of kept ∷ left) characters ≡ true
wild_last kept left characters repeated wild none =
    let every = λ (c : ℕ). allows_wild (mark_of kept.mark) c wild in
    rw (none, repeated) (many_times-all (allows (mark_of kept.mark)) characters every)

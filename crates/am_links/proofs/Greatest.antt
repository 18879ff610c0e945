-- The greatest priority of browsers, gathered from the front.
use Rattle.std.proofs.Common.{◌≡◌, ℕ, ◌+◌, ◌<◌, ℤ, pos, Bool, true, false, cond, List, [], ◌∷◌, drop, get_or, length, refl, sym, ap, ◌∙◌, arith}
use Rattle.std.proofs.lemmas.List.{at_drop_more}
use Rattle.std.specs.Int.{int_max}
use Rattle.std.proofs.lemmas.Int.{ints, clamps}
use Rattle.am_types.specs.declared.resolve.Candidate.{Candidate}
use Rattle.am_model.specs.Links.{browsers_of, greatest_of}
use Rattle.am_links.specs.Gathered.{with_browser}

max_turn : (a b c : ℤ) → int_max (int_max a b) c ≡ int_max b (int_max a c)
max_turn a b c = omega (arith, ints, clamps)

max_swap : (a b c : ℤ) → int_max a (int_max b c) ≡ int_max b (int_max a c)
max_swap a b c = omega (arith, ints, clamps)

max_stays : (priority most : ℤ) → most ≡ int_max most (pos 0)
    → int_max priority most ≡ int_max (int_max priority most) (pos 0)
max_stays priority most e = omega (arith, ints, clamps, e)

-- a candidate that joins the greatest so far might as well join that of the rest
joined : (most : ℤ) (c : Candidate) (rest : List Candidate)
    → int_max (with_browser most c) (greatest_of (browsers_of rest))
    ≡ int_max most (greatest_of (browsers_of (c ∷ rest)))
joined most c rest = by c.finding.browses
  where
    by : (b : Bool) → int_max (cond b (int_max c.hit.priority most) most) (greatest_of (browsers_of rest))
        ≡ int_max most (greatest_of (cond b (c ∷ browsers_of rest) (browsers_of rest)))
    by true = max_turn c.hit.priority most (greatest_of (browsers_of rest))
    by false = refl

-- the same along a list
pub joined_at : (most : ℤ) (found : List Candidate) (at : ℕ) (c : Candidate) (next : ℤ) → next ≡ with_browser most c
    → at < length found → c ≡ get_or found at c
    → int_max most (greatest_of (browsers_of (drop at found))) ≡ greatest_of (browsers_of found)
    → int_max next (greatest_of (browsers_of (drop (at + 1) found))) ≡ greatest_of (browsers_of found)
joined_at most found at c next e bound is before =
    ap (λ n. int_max n (greatest_of (browsers_of (drop (at + 1) found)))) e
    ∙ joined most c (drop (at + 1) found)
    ∙ ap (λ (x : Candidate). int_max most (greatest_of (browsers_of (x ∷ drop (at + 1) found)))) is
    ∙ sym (ap (int_max most) (at_drop_more (λ (l : List Candidate). greatest_of (browsers_of l)) found at c bound))
    ∙ before

-- a number that is at least 0 still is
pub stays : (most : ℤ) (c : Candidate) (next : ℤ) → next ≡ with_browser most c → most ≡ int_max most (pos 0)
    → next ≡ int_max next (pos 0)
stays most c next is e = is ∙ by c.finding.browses ∙ ap (λ n. int_max n (pos 0)) (sym is)
  where
    by : (b : Bool) → cond b (int_max c.hit.priority most) most
        ≡ int_max (cond b (int_max c.hit.priority most) most) (pos 0)
    by true = max_stays c.hit.priority most e
    by false = e

-- the greatest is at least 0
pub at_least_none : (found : List Candidate) → int_max (pos 0) (greatest_of found) ≡ greatest_of found
at_least_none [] = refl
at_least_none (first ∷ others) =
    max_swap (pos 0) first.hit.priority (greatest_of others) ∙ ap (int_max first.hit.priority) (at_least_none others)

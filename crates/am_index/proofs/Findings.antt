-- Findings: the first, gathered from the front.
use Rattle.std.proofs.Common.{◌≡◌, ℕ, ◌+◌, ◌<◌, ◌≤◌, Bool, count_by, true, false, cond, ltb, List, ◌∷◌, Option, Some, None, refl, sym, ap, ◌∙◌, arith}
use Rattle.std.specs.Prelude.{nat_lt}
use Rattle.std.proofs.lemmas.Bool.{ltb-true, ltb-false}
use Rattle.std.proofs.lemmas.List.Sums.{sum_by-cons}
use Rattle.am_types.specs.declared.filter.Filter.{Filter}
use Rattle.am_types.specs.declared.resolve.Finding.{Finding}
use Rattle.am_model.specs.Candidates.{Search, finding_by, first_finding, first_of_two}
use Rattle.am_model.specs.Cuts.{finds}
use Rattle.am_index.specs.Lookups.{earlier}

-- the first so far, and the first of the rest, if there is one
abbrev pub first_joined : Option Finding → Option Finding → Option Finding
first_joined None rest = rest
first_joined (Some first) rest = Some (first_of_two first rest)

-- the choice of the first of three is the same, however they are joined: with f, s and r the numbers of the cuts
turned : {X : Type 0} (f s r : ℕ) (first second rest : X)
    → cond (nat_lt r (cond (nat_lt s f) s f)) rest (cond (nat_lt s f) second first)
    ≡ cond (nat_lt (cond (nat_lt r s) r s) f) (cond (nat_lt r s) rest second) first
turned f s r first second rest = by (nat_lt s f) (nat_lt r s) (nat_lt r f) refl refl refl
  where
    by : (a b d : Bool) → nat_lt s f ≡ a → nat_lt r s ≡ b → nat_lt r f ≡ d
        → cond (nat_lt r (cond a s f)) rest (cond a second first)
        ≡ cond (nat_lt (cond b r s) f) (cond b rest second) first
    by true true true ha hb hd = rw (hb, hd) refl
    by true true false ha hb hd = absurd (omega (arith, ltb-true s f ha, ltb-true r s hb, ltb-false r f hd))
    by true false d ha hb hd = rw (ha, hb) refl
    by false true d ha hb hd = refl
    by false false true ha hb hd = absurd (omega (arith, ltb-false s f ha, ltb-false r s hb, ltb-true r f hd))
    by false false false ha hb hd = rw (ha, hd) refl

-- the cut of a choice is the choice of the cuts
cut_of_choice : (b : Bool) (x y : Finding) → (cond b x y).cut ≡ cond b x.cut y.cut
cut_of_choice true x y = refl
cut_of_choice false x y = refl

-- a finding that joins the first so far might as well join the first of the rest
pub first_joined-earlier : (finding : Finding) (first rest : Option Finding)
    → first_joined (Some (earlier first finding)) rest ≡ first_joined first (Some (first_of_two finding rest))
first_joined-earlier finding None rest = refl
first_joined-earlier finding (Some first) None = refl
first_joined-earlier finding (Some first) (Some rest) =
    ap (λ n. Some (cond (nat_lt rest.cut n) rest (cond (nat_lt finding.cut first.cut) finding first)))
    (cut_of_choice (nat_lt finding.cut first.cut) finding first)
    ∙ ap Some (turned first.cut finding.cut rest.cut first finding rest)
    ∙ ap (λ n. Some (cond (nat_lt n first.cut) (cond (nat_lt rest.cut finding.cut) rest finding) first))
    (sym (cut_of_choice (nat_lt rest.cut finding.cut) rest finding))

-- a filter that is found joins the first so far
pub first_found : (search : Search) (filter : Filter) (others : List Filter) (first : Option Finding)
    → finds search.rules filter search.intent search.need_default ≡ true
    → first_joined (Some (earlier first (finding_by search filter))) (first_finding search others)
    ≡ first_joined first (first_finding search (filter ∷ others))
first_found search filter others first found =
    first_joined-earlier (finding_by search filter) first (first_finding search others)
    ∙ ap (λ b. first_joined first
    (cond b (Some (first_of_two (finding_by search filter) (first_finding search others))) (first_finding search others)))
    (sym found)

-- another doesn't
pub first_unfound : (search : Search) (filter : Filter) (others : List Filter) (first : Option Finding)
    → finds search.rules filter search.intent search.need_default ≡ false
    → first_joined first (first_finding search others) ≡ first_joined first (first_finding search (filter ∷ others))
first_unfound search filter others first unfound =
    ap (λ b. first_joined first
    (cond b (Some (first_of_two (finding_by search filter) (first_finding search others))) (first_finding search others)))
    (sym unfound)

-- a test of an element is counted
pub one_counted : {X : Type 0} (p : X → Bool) (x : X) (left rest : List X) (before after begun whole : ℕ)
    → left ≡ x ∷ rest → after ≡ before + cond (p x) 1 0 → before + count_by p left ≡ begun + whole
    → after + count_by p rest ≡ begun + whole
one_counted p x left rest before after begun whole here step so_far =
    omega (arith, step, so_far, ap (count_by p) here, sum_by-cons (λ y. cond (p y) 1 0) x rest)

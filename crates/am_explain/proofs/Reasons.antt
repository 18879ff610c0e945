-- The outcome of testing filters is gathered one by one.
use Rattle.std.proofs.Common.{◌≡◌, ℕ, ◌+◌, ◌<◌, ℤ, Bool, true, false, ◌||◌, cond, List, ◌∷◌, Option, Some, None, drop, get_or, length, refl, sym, ap, ◌∙◌, subst}
use Rattle.std.proofs.lemmas.List.{at_drop_more}
use Rattle.std.specs.Prelude.{is_none}
use Rattle.am_types.specs.declared.filter.Why.{Why}
use Rattle.am_types.specs.declared.device.Rules.{Rules}
use Rattle.am_types.specs.declared.device.Rules.TheVariants.{Profile}
use Rattle.am_types.specs.declared.filter.Filter.{Filter}
use Rattle.am_types.specs.declared.resolve.Finding.{Finding}
use Rattle.am_model.specs.Candidates.{Search, first_of_two, greatest}
use Rattle.am_model.specs.Cuts.{unfound_why}
use Rattle.am_model.specs.Filters.{passes}
use Rattle.am_filter.specs.Answers.{answer_of}
use Rattle.am_index.proofs.Priorities.{joined, joined-greatest}
use Rattle.am_index.proofs.Findings.{first_joined, first_joined-earlier}
use Rattle.am_explain.specs.Tests.{with_finding, with_priority}

-- two answers are the same only for the same reason
pub same_reason : (reason other : Option Why) → answer_of reason ≡ answer_of other → reason ≡ other
same_reason None None e = refl
same_reason None (Some other) e = absurd cc
same_reason (Some reason) None e = absurd cc
same_reason (Some reason) (Some other) e = cc

-- the priority of one more filter joins the best so far, or the best of the rest
pub joined-with_priority : (reason : Option Why) (priority : ℤ) (best rest : Option ℤ)
    → joined (with_priority reason priority best) rest ≡ joined best
    (cond (is_none reason) (Some (greatest priority rest)) rest)
joined-with_priority None priority best rest = joined-greatest priority best rest
joined-with_priority (Some reason) priority best rest = refl

-- the finding by one more filter joins the first so far, or the first of the rest
pub joined-with_finding : (reason : Option Why) (finding : Finding) (first rest : Option Finding)
    → first_joined (with_finding reason finding first) rest ≡ first_joined first
    (cond (is_none reason) (Some (first_of_two finding rest)) rest)
joined-with_finding None finding first rest = first_joined-earlier finding first rest
joined-with_finding (Some reason) finding first rest = refl

-- under the profile a filter is found if it is passed
pub passes_is : (search : Search) → search.rules ≡ Profile → (f : Filter)
    → passes search.rules f search.intent search.need_default
    ≡ is_none (unfound_why search.rules f search.intent search.need_default)
passes_is search profile f =
    subst (λ (rules : Rules). passes rules f search.intent search.need_default
    ≡ is_none (unfound_why rules f search.intent search.need_default)) (sym profile) refl

-- of three tests one holds, however they are joined
pub or_assoc : (a b c : Bool) → ((a || b) || c) ≡ (a || (b || c))
or_assoc true b c = refl
or_assoc false b c = refl

-- a function of the rest of a list, if its next element is known
pub at_drop_item : {X Y : Type 0} (f : List X → Y) (xs : List X) (i : ℕ) (x : X) → i < length xs → x ≡ get_or xs i x
    → f (drop i xs) ≡ f (x ∷ drop (i + 1) xs)
at_drop_item f xs i x bound is = at_drop_more f xs i x bound ∙ ap (λ y. f (y ∷ drop (i + 1) xs)) (sym is)

-- A filter that doesn't belong to the intent's group isn't passed, and the answer of the filter test, as a truth.
use Rattle.std.proofs.Common.{◌≡◌, ℕ, Bool, true, false, not, ◌&&◌, ◌||◌, cond, List, [], ◌∷◌, Option, Some, None, refl, sym, ap}
use Rattle.std.specs.Prelude.{is_none}
use Rattle.std.specs.Result.{is_ok}
use Rattle.std.proofs.lemmas.Bool.{false≢true}
use Rattle.am_types.specs.declared.device.Rules.{Rules}
use Rattle.am_types.specs.declared.device.Rules.TheVariants.{Profile, Android12}
use Rattle.am_types.specs.declared.filter.Filter.{Filter}
use Rattle.am_types.specs.declared.filter.Why.{Why}
use Rattle.am_types.specs.declared.filter.Why.TheVariants.{Action as OfAction, Scheme as OfScheme, Type_}
use Rattle.am_types.specs.declared.intent.Intent.{Intent}
use Rattle.am_types.specs.declared.uri.Mime.{Mime}
use Rattle.am_types.specs.declared.uri.Uri.{Uri}
use Rattle.am_model.specs.Cuts.{finds, hears}
use Rattle.am_model.specs.Filters.{data_why, is_empty, is_local, or_else, passes, passes_action, unless, why}
use Rattle.am_model.specs.MimeTypes.{passes_type}
use Rattle.am_model.specs.Texts.{lists}
use Rattle.am_filter.specs.Answers.{answer_of}
use Rattle.am_index.specs.Groups.{in_data_group, in_group, in_group_by}

-- the test is passed exactly if there is no reason against it
pub ok_without_reason : (reason : Option Why) → is_ok (answer_of reason) ≡ is_none reason
ok_without_reason None = refl
ok_without_reason (Some reason) = refl

pub neither : (a b : Bool) → (a || b) ≡ false → (a ≡ false) × (b ≡ false)
neither true b h = absurd (false≢true (sym h))
neither false b h = (refl, h)

-- a scheme that isn't listed fails the test
pub scheme_fails : (b : Bool) (rest after : Option Why) → b ≡ false → is_none
    (or_else (or_else (unless b OfScheme) rest) after) ≡ false
scheme_fails true rest after h = absurd (false≢true (sym h))
scheme_fails false rest after h = refl

-- an action that isn't listed fails the test
pub action_fails : (rules : Rules) (actions : List (List ℕ)) (action : List ℕ) (rest : Option Why)
    → lists actions action ≡ false
    → is_none (or_else (unless (passes_action rules actions (Some action)) OfAction) rest) ≡ false
action_fails Profile [] action rest h = refl
action_fails Profile (a ∷ others) action rest h = ap (λ b. is_none (or_else (unless b OfAction) rest)) h
action_fails Android12 actions action rest h = ap (λ b. is_none (or_else (unless b OfAction) rest)) h

-- and so do data
pub data_fail : (b : Bool) (d after : Option Why) → is_none d ≡ false → is_none
    (or_else (unless b OfAction) (or_else d after)) ≡ false
data_fail true None after h = absurd (false≢true (sym h))
data_fail true (Some reason) after h = refl
data_fail false d after h = refl

-- what an intent doesn't pass it doesn't find
pub fails_unfound : (rules : Rules) (filter : Filter) (intent : Intent) (need_default : Bool)
    → passes rules filter intent need_default ≡ false → finds rules filter intent need_default ≡ false
fails_unfound Profile filter intent need_default h = h
fails_unfound Android12 filter intent need_default h = fails (why Android12 filter intent need_default) _ h
  where
    fails : (reason other : Option Why) → is_none reason ≡ false → is_none (or_else reason other) ≡ false
    fails None other h = absurd (false≢true (sym h))
    fails (Some reason) other h = refl

-- nor does it hear it
pub fails_unheard : (rules : Rules) (filter : Filter) (intent : Intent) → passes rules filter intent false ≡ false
    → hears rules filter intent ≡ false
fails_unheard Profile filter intent h = h
fails_unheard Android12 filter intent h = fails (why Android12 filter intent false) _ h
  where
    fails : (reason other : Option Why) → is_none reason ≡ false → is_none (or_else reason other) ≡ false
    fails None other h = absurd (false≢true (sym h))
    fails (Some reason) other h = refl

-- the data of an intent fail a filter outside their group
outside_data_group : (rules : Rules) (u : Option Uri) (m : Option Mime) (filter : Filter)
    → in_data_group u m filter ≡ false → is_none (data_why rules filter u m) ≡ false
outside_data_group rules None None filter h = by (is_empty filter.schemes) (is_empty filter.types) h
  where
    by : (s t : Bool) → (s && t) ≡ false → is_none (or_else (unless s OfScheme) (unless t Type_)) ≡ false
    by true true h = absurd (false≢true (sym h))
    by true false h = refl
    by false t h = refl
outside_data_group rules (Some u) None filter h = scheme_fails (lists filter.schemes u.scheme) _ _ h
outside_data_group rules None (Some m) filter h = by (is_empty filter.schemes) filter.types h
  where
    by : (s : Bool) (types : List Mime) → (s && not (is_empty types)) ≡ false
        → is_none (or_else (unless s OfScheme) (unless (passes_type types m) Type_)) ≡ false
    by true [] h = refl
    by true (t ∷ ts) h = absurd (false≢true (sym h))
    by false types h = refl
outside_data_group rules (Some u) (Some m) filter h =
    let parts = neither (is_empty filter.schemes && not (is_empty filter.types)) (lists filter.schemes u.scheme) h in
    by (is_empty filter.schemes) filter.types (is_local u) (lists filter.schemes u.scheme) _ parts.1 parts.0
  where
    by : (s : Bool) (types : List Mime) (local listed : Bool) (rest : Option Why) → listed ≡ false
        → (s && not (is_empty types)) ≡ false
        → is_none (or_else (cond (s && local) None (or_else (unless listed OfScheme) rest))
        (unless (passes_type types m) Type_)) ≡ false
    by s types local true rest l h = absurd (false≢true (sym l))
    by true [] true false rest l h = refl
    by true [] false false rest l h = refl
    by true (t ∷ ts) local false rest l h = absurd (false≢true (sym h))
    by false types local false rest l h = refl

outside_group_by : (rules : Rules) (action : Option (List ℕ)) (u : Option Uri) (m : Option Mime) (filter : Filter)
    (after : Option Why) → in_group_by action u m filter ≡ false
    → is_none (or_else (unless (passes_action rules filter.actions action) OfAction)
    (or_else (data_why rules filter u m) after)) ≡ false
outside_group_by rules (Some action) u m filter after h = action_fails rules filter.actions action _ h
outside_group_by rules None u m filter after h =
    data_fail (passes_action rules filter.actions None) (data_why rules filter u m) after
    (outside_data_group rules u m filter h)

-- an intent finds no filter outside its group
pub unfound_outside : (rules : Rules) (filter : Filter) (intent : Intent) (need_default : Bool)
    → in_group intent filter ≡ false → finds rules filter intent need_default ≡ false
unfound_outside rules filter intent need_default h =
    fails_unfound rules filter intent need_default
    (outside_group_by rules intent.action intent.uri intent.mime filter _ h)

-- nor does it hear one
pub unheard_outside : (rules : Rules) (filter : Filter) (intent : Intent) → in_group intent filter ≡ false
    → hears rules filter intent ≡ false
unheard_outside rules filter intent h =
    fails_unheard rules filter intent (outside_group_by rules intent.action intent.uri intent.mime filter _ h)

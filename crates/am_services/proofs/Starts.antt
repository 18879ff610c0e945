-- Services of which no two are of one component, when one is started or some are stopped.
use Rattle.std.proofs.Common.{◌≡◌, ℕ, zero, suc, ◌+◌, ◌<◌, Bool, true, false, ◌&&◌, cond, ltb, List, [], ◌∷◌, ◌++◌, length, get_or, set, map, Option, Some, None, refl, sym, ap, ◌∙◌, arith}
use Rattle.std.specs.Prelude.{is_none}
use Rattle.std.specs.List.{filter, position, position_or_len}
use Rattle.std.specs.Cmp.Lexicographic.{nat_list_eq_equiv}
use Rattle.std.proofs.lemmas.Bool.{and_parts, and_from, ltb-true, ltb-false}
use Rattle.std.proofs.lemmas.Bool.Decides.{Decides-eqb}
use Rattle.std.proofs.lemmas.List.Folds.{find_at}
use Rattle.std.proofs.lemmas.List.Quantifiers.{position-Some}
use Rattle.std.proofs.lemmas.Option.{cond_some, slice_get_past, slice_get-get_or}
use Rattle.std.proofs.lemmas.Slice.Eq.{slice_eq-Decides}
use Rattle.am_types.specs.declared.intent.Intent.{Intent}
use Rattle.am_types.specs.declared.intent.Component.{Component}
use Rattle.am_model.specs.Texts.{is_same}
use Rattle.am_model.specs.Intents.{is_same_component}
use Rattle.am_history.specs.State.{Service}
use Rattle.am_history.specs.Services.{is_service, restarted, running, starts_with, with_start}
use Rattle.am_services.specs.Apart.{again, are_apart, fresh}

-- texts that are the same are equal
same_text : (a b : List ℕ) → is_same a b ≡ true → a ≡ b
same_text a b same = (slice_eq-Decides Decides-eqb a b (is_same a b) refl).0 same

-- components that are the same are equal
same_component : (a b : Component) → is_same_component a b ≡ true → a ≡ b
same_component a b same =
    let parts = and_parts (is_same a.«package» b.«package») (is_same a.class b.class) same in
    ap (λ (p : List ℕ). record { «package» = p; class = a.class }) (same_text a.«package» b.«package» parts.0)
    ∙ ap (λ (c : List ℕ). record { «package» = b.«package»; class = c }) (same_text a.class b.class parts.1)

-- either of two components is the same as the other, or neither is
either_way : (a b : Component) → is_same_component a b ≡ is_same_component b a
either_way a b =
    ap (λ t. t && is_same a.class b.class) (nat_list_eq_equiv.symm a.«package» b.«package»)
    ∙ ap (λ t. is_same b.«package» a.«package» && t) (nat_list_eq_equiv.symm a.class b.class)

-- nothing is there
none_there : {X : Type 0} (found : Option X) → is_none found ≡ true → found ≡ None
none_there None is = refl
none_there (Some x) is = cc

-- where the component has no service, a start changes none
none_restarted : (component : Component) (intent : Intent) (services : List Service) → running services component ≡ None
    → map (restarted component intent) services ≡ services
none_restarted component intent [] none = refl
none_restarted component intent (s ∷ others) none = by (is_service component s) (none_restarted component intent others)
    none
  where
    by : (b : Bool) → (running others component ≡ None → map (restarted component intent) others ≡ others)
        → cond b (Some s) (running others component) ≡ None → cond b (again intent s) s
        ∷ map (restarted component intent) others ≡ s ∷ others
    by true rest none = cc
    by false rest none = ap (λ l. s ∷ l) (rest none)

-- where it has one, behind those that aren't its own, a start changes that one
restarted_at : (component : Component) (intent : Intent) (services : List Service) (place : ℕ) (d : Service)
    → are_apart services ≡ true → place < length services
    → is_service component (get_or services place d) ≡ true → ((k : ℕ) → k < place
    → is_service component (get_or services k d) ≡ false)
    → set services place (again intent (get_or services place d)) ≡ map (restarted component intent) services
restarted_at component intent [] place d apart low here before = absurd (omega arith)
restarted_at component intent (s ∷ others) zero d apart low here before =
    let of : component ≡ s.component = same_component component s.component here in
    let none : running others component ≡ None =
    ap (running others) of ∙ none_there (running others s.component)
    (and_parts (is_none (running others s.component)) (are_apart others) apart).0 in
    ap (λ l. again intent s ∷ l) (sym (none_restarted component intent others none))
    ∙ ap (λ b. cond b (again intent s) s ∷ map (restarted component intent) others) (sym here)
restarted_at component intent (s ∷ others) (suc k) d apart low here before =
    ap (λ l. s ∷ l) (restarted_at component intent others k d (and_parts (is_none (running others s.component))
    (are_apart others) apart).1 (omega arith) here
    (λ j lower. before (suc j) (omega arith)))
    ∙ ap (λ b. cond b (again intent s) s ∷ map (restarted component intent) others) (sym (before zero (omega arith)))

-- at the place of a component's service a start changes that service
pub restarted_there : (component : Component) (intent : Intent) (services : List Service) (place : ℕ) (d : Service)
    → are_apart services ≡ true
    → position (is_service component) services ≡ Some place
    → set services place (again intent (get_or services place d)) ≡ map (restarted component intent) services
restarted_there component intent services place d apart found =
    let there = position-Some (is_service component) services place d found in
    restarted_at component intent services place d apart there.0 there.1 there.2

-- the service at that place is the one that runs
pub runs_there : (component : Component) (services : List Service) (place : ℕ) (d : Service)
    → position (is_service component) services ≡ Some place → running services component
    ≡ Some (get_or services place d)
runs_there component services place d found =
    let parts = cond_some (ltb (position_or_len (is_service component) services) (length services))
    (position_or_len (is_service component) services) place found in
    let low : position_or_len (is_service component) services < length services = ltb-true _ _ parts.0 in
    find_at (is_service component) services ∙ slice_get-get_or services
    (position_or_len (is_service component) services) d low
    ∙ ap (λ k. Some (get_or services k d)) parts.1

-- without a place none runs
pub none_runs : (component : Component) (services : List Service) → position (is_service component) services ≡ None
    → running services component ≡ None
none_runs component services none = by (ltb (position_or_len (is_service component) services) (length services)) refl
    none
  where
    by : (b : Bool) → ltb (position_or_len (is_service component) services) (length services) ≡ b
        → cond b (Some (position_or_len (is_service component) services)) None ≡ None → running services component
        ≡ None
    by true is none = cc
    by false is none = find_at (is_service component) services ∙ slice_get_past services
        (position_or_len (is_service component) services) (ltb-false _ _ is)

-- a start leaves each component with the services that it had
restarted_none : (component other : Component) (intent : Intent) (services : List Service)
    → is_none (running (map (restarted component intent) services) other) ≡ is_none (running services other)
restarted_none component other intent [] = refl
restarted_none component other intent (s ∷ others) = by (is_service component s)
    (restarted_none component other intent others)
  where
    after : List Service
    after = map (restarted component intent) others

    by : (b : Bool) → is_none (running after other) ≡ is_none (running others other)
        → is_none (running (cond b (again intent s) s ∷ after) other) ≡ is_none (running (s ∷ others) other)
    by true rest = to (is_service other s) rest
      where
        to : (t : Bool) → is_none (running after other) ≡ is_none (running others other)
            → is_none (cond t (Some (again intent s)) (running after other))
            ≡ is_none (cond t (Some s) (running others other))
        to true rest = refl
        to false rest = rest
    by false rest = to (is_service other s) rest
      where
        to : (t : Bool) → is_none (running after other) ≡ is_none (running others other)
            → is_none (cond t (Some s) (running after other)) ≡ is_none (cond t (Some s) (running others other))
        to true rest = refl
        to false rest = rest

-- after a start once more no two services are of one component
pub restarted_apart : (component : Component) (intent : Intent) (services : List Service)
    → are_apart (map (restarted component intent) services) ≡ are_apart services
restarted_apart component intent [] = refl
restarted_apart component intent (s ∷ others) = by (is_service component s) (restarted_apart component intent others)
  where
    after : List Service
    after = map (restarted component intent) others

    by : (b : Bool) → are_apart after ≡ are_apart others → are_apart (cond b (again intent s) s ∷ after)
        ≡ are_apart (s ∷ others)
    by true rest = ap (λ t. t && are_apart after) (restarted_none component s.component intent others)
        ∙ ap (λ t. is_none (running others s.component) && t) rest
    by false rest = ap (λ t. t && are_apart after) (restarted_none component s.component intent others)
        ∙ ap (λ t. is_none (running others s.component) && t) rest

-- one more service of another component is none of this one's
none_pushed : (component : Component) (services : List Service) (last : Service) → running services component ≡ None
    → is_service component last ≡ false
    → running (services ++ last ∷ []) component ≡ None
none_pushed component [] last none other = ap (λ b. cond b (Some last) None) other
none_pushed component (s ∷ others) last none other = by (is_service component s) none
    (λ rest. none_pushed component others last rest other)
  where
    by : (b : Bool) → cond b (Some s) (running others component) ≡ None
        → (running others component ≡ None → running (others ++ last ∷ []) component ≡ None)
        → cond b (Some s) (running (others ++ last ∷ []) component) ≡ None
    by true none rest = cc
    by false none rest = rest none

-- it is none of the first that it was compared with
not_first : (component : Component) (s : Service) (others : List Service) → running (s ∷ others) component ≡ None
    → (is_service component s ≡ false) × (running others component ≡ None)
not_first component s others none = by (is_service component s) none
  where
    by : (b : Bool) → cond b (Some s) (running others component) ≡ None → (b ≡ false)
        × (running others component ≡ None)
    by true none = cc
    by false none = (refl, none)

-- with a service of a component that has none, no two are of one component
pub pushed_apart : (services : List Service) (last : Service) → are_apart services ≡ true
    → running services last.component ≡ None
    → are_apart (services ++ last ∷ []) ≡ true
pushed_apart [] last apart none = refl
pushed_apart (s ∷ others) last apart none =
    let parts = and_parts (is_none (running others s.component)) (are_apart others) apart in
    let more = not_first last.component s others none in
    let other : is_service s.component last ≡ false = either_way s.component last.component ∙ more.0 in
    and_from (is_none (running (others ++ last ∷ []) s.component)) (are_apart (others ++ last ∷ []))
    (ap is_none (none_pushed s.component others last (none_there (running others s.component) parts.0) other))
    (pushed_apart others last parts.1 more.1)

-- of what is left none is a component's that had none
none_left : (test : Service → Bool) (component : Component) (services : List Service) → running services component
    ≡ None
    → running (filter test services) component ≡ None
none_left test component [] none = refl
none_left test component (s ∷ others) none = by (test s) (not_first component s others none)
    (none_left test component others)
  where
    by : (b : Bool) → (is_service component s ≡ false) × (running others component ≡ None)
        → (running others component ≡ None → running (filter test others) component ≡ None)
        → running (cond b (s ∷ filter test others) (filter test others)) component ≡ None
    by true other rest = ap (λ t. cond t (Some s) (running (filter test others) component)) other.0 ∙ rest other.1
    by false other rest = rest other.1

-- of what is left no two are of one component
pub left_apart : (test : Service → Bool) (services : List Service) → are_apart services ≡ true
    → are_apart (filter test services) ≡ true
left_apart test [] apart = refl
left_apart test (s ∷ others) apart =
    by (test s) (and_parts (is_none (running others s.component)) (are_apart others) apart) (left_apart test others)
  where
    by : (b : Bool) → (is_none (running others s.component) ≡ true) × (are_apart others ≡ true)
        → (are_apart others ≡ true → are_apart (filter test others) ≡ true)
        → are_apart (cond b (s ∷ filter test others) (filter test others)) ≡ true
    by true parts rest =
        and_from (is_none (running (filter test others) s.component)) (are_apart (filter test others))
        (ap is_none (none_left test s.component others (none_there (running others s.component) parts.0)))
        (rest parts.1)
    by false parts rest = rest parts.1

-- what a start left of the services: they are those of the definition, and no two are of one component
pub record IsStarted (services new : List Service) (component : Component) (owner : ℕ) (intent : Intent) (starts : ℕ)
    : Type 0 where
  pub counted : starts ≡ starts_with (running services component)
  pub changed : new ≡ with_start services component owner intent (running services component)
  pub apart : are_apart new ≡ true

-- a start of a service that runs, with a copy of the intent
pub started_again : (services new : List Service) (component : Component) (owner : ℕ) (intent copy : Intent)
    (starts place : ℕ) → are_apart services ≡ true
    → Some place ≡ position (is_service component) services → copy ≡ intent
    → ((d : Service) → (starts ≡ (get_or services place d).starts + 1)
    × (new ≡ set services place (again copy (get_or services place d))))
    → IsStarted services new component owner intent starts
started_again services new component owner intent copy starts place apart found same done =
    let d : Service = fresh component owner intent in
    let runs : running services component ≡ Some (get_or services place d) = runs_there component services place d
    (sym found) in
    let made : new ≡ map (restarted component intent) services =
    (done d).1 ∙ ap (λ (i : Intent). set services place (again i (get_or services place d))) same
    ∙ restarted_there component intent services place d apart (sym found) in
    record {
      counted = (done d).0 ∙ ap starts_with (sym runs);
      changed = made ∙ ap (with_start services component owner intent) (sym runs);
      apart = ap are_apart made ∙ restarted_apart component intent services ∙ apart;
    }

-- a first start of a service
pub started_first : (services new : List Service) (component : Component) (owner : ℕ) (intent : Intent)
    (service : Service) → are_apart services ≡ true
    → None ≡ position (is_service component) services → service ≡ fresh component owner intent → new ≡ services
    ++ service ∷ []
    → IsStarted services new component owner intent 1
started_first services new component owner intent service apart none is put =
    let made : new ≡ services ++ fresh component owner intent ∷ [] = put
    ∙ ap (λ (s : Service). services ++ s ∷ []) is in
    let rests : running services component ≡ None = none_runs component services (sym none) in
    record {
      counted = ap starts_with (sym rests);
      changed = made ∙ ap (with_start services component owner intent) (sym rests);
      apart = ap are_apart made ∙ pushed_apart services (fresh component owner intent) apart rests;
    }

-- What is listed for an intent, and what it finds there: the candidates, within the tests that its group allows.
use Rattle.std.proofs.Common.{◌≡◌, ℕ, ◌+◌, ◌≤◌, Bool, true, false, not, ◌&&◌, ◌||◌, cond, List, [], ◌∷◌, ◌++◌, Option, Some, None, Vec, HashMap, pos, count_by, refl, sym, ap, ◌∙◌, subst, arith, zero-add, map, codes}
use Rattle.std.specs.Prelude.{is_none, IsSome}
use Rattle.std.specs.Option.{option_map}
use Rattle.std.specs.List.{AllByRecursion, list_any}
use Rattle.std.specs.declared.alloc.Global.{Global}
use Rattle.std.proofs.lemmas.Bool.{false≢true}
use Rattle.std.proofs.lemmas.List.{append_assoc}
use Rattle.am_types.specs.declared.device.Package.{Package}
use Rattle.am_types.specs.declared.device.Rules.{Rules}
use Rattle.am_types.specs.declared.device.Rules.TheVariants.{Profile, Android12}
use Rattle.am_types.specs.declared.filter.Filter.{Filter}
use Rattle.am_types.specs.declared.filter.Why.{Why}
use Rattle.am_types.specs.declared.filter.Why.TheVariants.{Action as OfAction, Scheme as OfScheme, Type_}
use Rattle.am_types.specs.declared.intent.Component.{Component}
use Rattle.am_types.specs.declared.intent.Intent.{Intent}
use Rattle.am_types.specs.declared.manifest.Decl.{Decl}
use Rattle.am_types.specs.declared.manifest.Kind.{Kind}
use Rattle.am_types.specs.declared.resolve.Candidate.{Candidate}
use Rattle.am_types.specs.declared.uri.Uri.{Uri}
use Rattle.am_types.specs.declared.uri.Mime.{Mime}
use Rattle.am_model.specs.Texts.{is_same, lists}
use Rattle.am_model.specs.MimeTypes.{is_any_type, passes_type}
use Rattle.am_model.specs.Boards.{package_at}
use Rattle.am_model.specs.Filters.{is_empty, is_local, unless, or_else, passes_action, data_why, passes}
use Rattle.am_model.specs.Cuts.{finds}
use Rattle.am_model.specs.Candidates as candidates
use Rattle.am_model.specs.Candidates.{Search, is_kind, priority_of, greatest, counted_priority, first_finding, first_of_two, finding_by, finding_in, plain_finding, is_named, candidate_at, implicit_candidate, candidate_of, candidates_from}
use Rattle.am_index.specs.declared.key.Group.{Group}
use Rattle.am_index.specs.declared.key.Group.TheVariants.{Class, Typed, Main}
use Rattle.am_index.specs.declared.key.Key.{Key}
use Rattle.am_index.specs.declared.key.Spot.{Spot}
use Rattle.am_index.specs.Groups.{in_group, size_of, group_size}
use Rattle.am_index.specs.Keys.{is_for, is_in, is_under, lists_main}
use Rattle.am_index.specs.Lists.{spots_at}
use Rattle.am_index.specs.Lookups.{type_groups, data_groups_for, groups_for, owner_of, key_of, merged, with_keys, spots_for, finding_found, cost_found, decl_in, candidate_in, candidate_of_spot, candidates_of_spots, cost_in, cost_of_spot, cost_of_spots}
use Rattle.am_index.specs.Members.{Member, members_from, members, spot_of, spots_where, spots_under}
use Rattle.am_index.proofs.Same.{both}
use Rattle.am_index.specs.Standing.{StandsFor}
use Rattle.am_index.specs.declared.index.FilterIndex.{FilterIndex}
use Rattle.am_index.proofs.Listing.{in_filter}
use Rattle.am_index.proofs.Merging.{merged_where}
use Rattle.am_index.proofs.Noting.{or_false}
use Rattle.am_index.proofs.Ordered.{Located, members_in_order, members_located}
use Rattle.am_index.proofs.Passing.{action_fails, data_fail, fails_unfound, neither, scheme_fails}
use Rattle.am_installed.proofs.Rising.{rises}

-- a filter is listed for some of the groups
abbrev in_some : List Group → Filter → Bool
in_some groups filter = list_any (λ g. in_filter g filter) groups

-- an intent finds the component by its name, or might by a filter that is listed for a group of the intent
abbrev pub sought_by : Option Component → Option (List ℕ) → Option (List ℕ) → Option Uri → Option Mime → Member → Bool
sought_by (Some component) limited action uri mime m = is_named component m.owner.name m.decl.class
sought_by None limited action uri mime m =
    is_for limited m.owner.name && list_any (in_some (groups_for None action uri mime)) m.decl.filters

abbrev pub sought : Intent → Member → Bool
sought intent m = sought_by intent.component intent.«package» intent.action intent.uri intent.mime m

-- a test is a test of each
same_spots : (p q : Member → Bool) → ((m : Member) → p m ≡ q m) → (ms : List Member) → spots_where p ms
    ≡ spots_where q ms
same_spots p q h [] = refl
same_spots p q h (m ∷ ms) =
    ap (λ t. cond t (spot_of m ∷ spots_where p ms) (spots_where p ms)) (h m)
    ∙ ap (λ l. cond (q m) (spot_of m ∷ l) l) (same_spots p q h ms)

-- there are no components if none passes
no_spots : (ms : List Member) → spots_where (λ m. false) ms ≡ []
no_spots [] = refl
no_spots (m ∷ ms) = no_spots ms

or_assoc : (a b c : Bool) → ((a || b) || c) ≡ (a || (b || c))
or_assoc true b c = refl
or_assoc false b c = refl

-- two searches of filters are one
either : (k : Bool) (p q : Filter → Bool) (fs : List Filter) → (k && list_any p fs || k && list_any q fs)
    ≡ (k && list_any (λ f. p f || q f) fs)
either false p q fs = refl
either true p q [] = refl
either true p q (f ∷ fs) = by (p f) (q f) (either true p q fs)
  where
    by : (a b : Bool) → (list_any p fs || list_any q fs) ≡ list_any (λ f. p f || q f) fs
        → ((a || list_any p fs) || (b || list_any q fs)) ≡ ((a || b) || list_any (λ f. p f || q f) fs)
    by true b h = refl
    by false true h = or_true_left (list_any p fs) (list_any q fs)
      where
        or_true_left : (a b : Bool) → (a || (true || b)) ≡ true
        or_true_left true b = refl
        or_true_left false b = refl
    by false false h = h

-- a component is in the group by what a filter lists
abbrev ByFilter : Group → Type 0
ByFilter group = (decl : Decl) → is_in group decl ≡ list_any (in_filter group) decl.filters

-- a component is under the key of one of some groups
abbrev under_some : Option (List ℕ) → List Group → Member → Bool
under_some owner groups m = list_any (λ g. is_for owner m.owner.name && is_in g m.decl) groups

-- what filters are listed for is sought in them
by_filters : (owner : Option (List ℕ)) (m : Member) (groups : List Group) → AllByRecursion ByFilter groups
    → under_some owner groups m ≡ (is_for owner m.owner.name && list_any (in_some groups) m.decl.filters)
by_filters owner m [] h = sym (nothing (is_for owner m.owner.name) m.decl.filters)
  where
    nothing : (k : Bool) (fs : List Filter) → (k && list_any (λ f. false) fs) ≡ false
    nothing false fs = refl
    nothing true [] = refl
    nothing true (f ∷ fs) = nothing true fs
by_filters owner m (g ∷ gs) h =
    ap (λ b. (is_for owner m.owner.name && b) || under_some owner gs m) (h.0 m.decl)
    ∙ ap (λ b. (is_for owner m.owner.name && list_any (in_filter g) m.decl.filters) || b) (by_filters owner m gs h.1)
    ∙ either (is_for owner m.owner.name) (in_filter g) (in_some gs) m.decl.filters

type_by_filters : (mime : Mime) → AllByRecursion ByFilter (type_groups mime)
type_by_filters mime = by (is_any_type mime)
  where
    by : (b : Bool) → AllByRecursion ByFilter (cond b (Typed ∷ []) (Main mime.main ∷ Main (codes "*") ∷ []))
    by true = (λ d. refl, tt)
    by false = (λ d. refl, (λ d. refl, tt))

-- the groups of an intent that names no component are of what filters list
all_by_filters : (a : Option (List ℕ)) (u : Option Uri) (m : Option Mime)
    → AllByRecursion ByFilter (groups_for None a u m)
all_by_filters (Some a) u m = (λ d. refl, tt)
all_by_filters None None None = (λ d. refl, tt)
all_by_filters None (Some u) None = (λ d. refl, tt)
all_by_filters None None (Some m) = type_by_filters m
all_by_filters None (Some u) (Some m) = (λ d. refl, type_by_filters m)

module _ {S : Type 0} (listed : HashMap Key (Vec Spot Global) S) (kind : Kind) (packages : List Package)
    (stands : (key : Key) → spots_at listed key ≡ spots_under key packages)
    (merges : (p q : Member → Bool) → merged (spots_where p (members kind packages))
    (spots_where q (members kind packages)) ≡ spots_where (λ m. p m || q m) (members kind packages)) where
  -- the spots of components that pass a test, or are under the keys of some groups
  gathered : (owner : Option (List ℕ)) (groups : List Group) (test : Member → Bool)
      → with_keys listed (spots_where test (members kind packages)) (map (key_of kind owner) groups)
      ≡ spots_where (λ m. test m || under_some owner groups m) (members kind packages)
  gathered owner [] test = same_spots _ _ (λ m. sym (or_false (test m))) (members kind packages)
  gathered owner (g ∷ gs) test =
      ap (λ l. with_keys listed (merged (spots_where test (members kind packages)) l) (map (key_of kind owner) gs))
      (stands (key_of kind owner g))
      ∙ ap (λ l. with_keys listed l (map (key_of kind owner) gs)) (merges test
      (λ m. is_under (key_of kind owner g) m.owner m.decl))
      ∙ gathered owner gs (λ m. test m || is_under (key_of kind owner g) m.owner m.decl)
      ∙ same_spots _ _ (λ m. or_assoc (test m) (is_under (key_of kind owner g) m.owner m.decl) (under_some owner gs m))
      (members kind packages)

  -- and that are under the keys alone
  gathered_all : (owner : Option (List ℕ)) (groups : List Group)
      → with_keys listed [] (map (key_of kind owner) groups) ≡ spots_where (under_some owner groups)
      (members kind packages)
  gathered_all owner groups =
      ap (λ l. with_keys listed l (map (key_of kind owner) groups)) (sym (no_spots (members kind packages)))
      ∙ gathered owner groups (λ m. false)

  -- under the keys of an intent are the components that it seeks
  asked : (c : Option Component) (l a : Option (List ℕ)) (u : Option Uri) (m : Option Mime)
      → with_keys listed [] (map (key_of kind (owner_of c l)) (groups_for c a u m))
      ≡ spots_where (sought_by c l a u m) (members kind packages)
  asked (Some c) l a u m =
      gathered_all (Some c.«package») (Class c.class ∷ [])
      ∙ same_spots _ _ (λ n. or_false (is_named c n.owner.name n.decl.class)) (members kind packages)
  asked None l a u m =
      gathered_all l (groups_for None a u m)
      ∙ same_spots _ _ (λ n. by_filters l n (groups_for None a u m) (all_by_filters a u m)) (members kind packages)

-- types of which none has the main part, or the one that covers every other, don't match a type
types_apart : (mime : Mime) → is_any_type mime ≡ false → (types : List Mime) → lists_main types mime.main ≡ false
    → lists_main types (codes "*") ≡ false → passes_type types mime ≡ false
types_apart mime some [] h k = refl
types_apart mime some (t ∷ ts) h k =
    let own = neither (is_same t.main mime.main) (lists_main ts mime.main) h in
    let any = neither (is_same t.main (codes "*")) (lists_main ts (codes "*")) k in
    ap (λ b. (((b && ((is_same t.sub mime.sub || is_same t.sub (codes "*")) || is_same mime.sub (codes "*"))) ||
    is_any_type t) || is_any_type mime) || passes_type ts mime) own.0
    ∙ ap (λ b. ((b && is_same t.sub (codes "*")) || is_any_type mime) || passes_type ts mime) any.0
    ∙ ap (λ b. b || passes_type ts mime) some
    ∙ types_apart mime some ts own.1 any.1

-- a filter that isn't listed for the groups of a type has a scheme, or no type that goes with it
type_outside : (mime : Mime) (filter : Filter) → in_some (type_groups mime) filter ≡ false
    → (is_empty filter.schemes && passes_type filter.types mime) ≡ false
type_outside mime filter h = by (is_any_type mime) refl h
  where
    any : (s : Bool) (types : List Mime) → ((s && not (is_empty types)) || false) ≡ false
        → (s && passes_type types mime) ≡ false
    any true [] h = refl
    any true (t ∷ ts) h = absurd (false≢true (sym h))
    any false types h = refl

    main : is_any_type mime ≡ false → (s : Bool) → ((s && lists_main filter.types mime.main) ||
        ((s && lists_main filter.types (codes "*")) || false)) ≡ false → (s && passes_type filter.types mime) ≡ false
    main some false h = refl
    main some true h =
        let parts = neither (lists_main filter.types mime.main) (lists_main filter.types (codes "*") || false) h in
        types_apart mime some filter.types parts.0 (neither (lists_main filter.types (codes "*")) false parts.1).0

    by : (b : Bool) → is_any_type mime ≡ b → in_some (cond b (Typed ∷ []) (Main mime.main ∷ Main (codes "*") ∷ []))
        filter ≡ false → (is_empty filter.schemes && passes_type filter.types mime) ≡ false
    by true e h = any (is_empty filter.schemes) filter.types h
    by false e h = main e (is_empty filter.schemes) h

-- the data of an intent fails a filter that isn't listed for a group of theirs
outside_data : (rules : Rules) (u : Option Uri) (m : Option Mime) (filter : Filter)
    → in_some (data_groups_for u m) filter ≡ false → is_none (data_why rules filter u m) ≡ false
outside_data rules None None filter h = by (is_empty filter.schemes) (is_empty filter.types) h
  where
    by : (s t : Bool) → ((s && t) || false) ≡ false → is_none (or_else (unless s OfScheme) (unless t Type_)) ≡ false
    by true true h = absurd (false≢true (sym h))
    by true false h = refl
    by false t h = refl
outside_data rules (Some u) None filter h = scheme_fails (lists filter.schemes u.scheme) _ _
    (neither (lists filter.schemes u.scheme) false h).0
outside_data rules None (Some m) filter h = by (is_empty filter.schemes) (passes_type filter.types m)
    (type_outside m filter h)
  where
    by : (s p : Bool) → (s && p) ≡ false → is_none (or_else (unless s OfScheme) (unless p Type_)) ≡ false
    by true true h = absurd (false≢true (sym h))
    by true false h = refl
    by false p h = refl
outside_data rules (Some u) (Some m) filter h =
    let parts = neither (lists filter.schemes u.scheme) (in_some (type_groups m) filter) h in
    by (is_empty filter.schemes) (is_local u) (lists filter.schemes u.scheme) (passes_type filter.types m) _ parts.0
    (type_outside m filter parts.1)
  where
    by : (s local listed p : Bool) (rest : Option Why) → listed ≡ false → (s && p) ≡ false
        → is_none (or_else (cond (s && local) None (or_else (unless listed OfScheme) rest)) (unless p Type_)) ≡ false
    by s local true p rest l h = absurd (false≢true (sym l))
    by true true false true rest l h = absurd (false≢true (sym h))
    by true true false false rest l h = refl
    by true false false p rest l h = refl
    by false local false p rest l h = refl

outside_by : (rules : Rules) (action : Option (List ℕ)) (u : Option Uri) (m : Option Mime) (filter : Filter)
    (after : Option Why) → in_some (groups_for None action u m) filter ≡ false
    → is_none (or_else (unless (passes_action rules filter.actions action) OfAction)
    (or_else (data_why rules filter u m) after)) ≡ false
outside_by rules (Some action) u m filter after h = action_fails rules filter.actions action _
    (neither (lists filter.actions action) false h).0
outside_by rules None u m filter after h =
    data_fail (passes_action rules filter.actions None) (data_why rules filter u m) after
    (outside_data rules u m filter h)

-- a filter is listed for a group of the intent, which names no component
abbrev asked_of : Intent → Filter → Bool
asked_of intent filter = in_some (groups_for None intent.action intent.uri intent.mime) filter

-- an intent passes no other filter
outside : (rules : Rules) (filter : Filter) (intent : Intent) (need_default : Bool) → asked_of intent filter ≡ false
    → passes rules filter intent need_default ≡ false
outside rules filter intent need_default h = outside_by rules intent.action intent.uri intent.mime filter _ h

-- so none of a component of which no filter is listed for a group of the intent
no_priority : (search : Search) (filters : List Filter) → list_any (asked_of search.intent) filters ≡ false
    → priority_of search filters ≡ None
no_priority search [] h = refl
no_priority search (f ∷ fs) h =
    let parts = neither (asked_of search.intent f) (list_any (asked_of search.intent) fs) h in
    ap (λ b. cond b (Some (greatest (counted_priority search.kind f.priority) (priority_of search fs)))
    (priority_of search fs)) (outside search.rules f search.intent search.need_default parts.0)
    ∙ no_priority search fs parts.1

no_first : (search : Search) (filters : List Filter) → list_any (asked_of search.intent) filters ≡ false
    → first_finding search filters ≡ None
no_first search [] h = refl
no_first search (f ∷ fs) h =
    let parts = neither (asked_of search.intent f) (list_any (asked_of search.intent) fs) h in
    ap (λ b. cond b (Some (first_of_two (finding_by search f) (first_finding search fs))) (first_finding search fs))
    (fails_unfound search.rules f search.intent search.need_default
    (outside search.rules f search.intent search.need_default parts.0))
    ∙ no_first search fs parts.1

no_finding : (rules : Rules) (search : Search) (filters : List Filter)
    → list_any (asked_of search.intent) filters ≡ false → finding_in rules search filters ≡ None
no_finding Profile search filters h = ap (option_map plain_finding) (no_priority search filters h)
no_finding Android12 search filters h = no_first search filters h

-- the intent names no package, or this one
package_asked : (name : Option (List ℕ)) (owner : Package) → candidates.is_in name owner ≡ is_for name owner.name
package_asked None owner = refl
package_asked (Some name) owner = refl

module _ (what : Search) where
  -- what the intent finds of a component
  abbrev found_of : Member → List Candidate
  found_of m = candidate_of what m.owner m.place m.decl what.intent.component

  -- what it finds of all
  abbrev all_found : List Member → List Candidate
  all_found [] = []
  all_found (m ∷ ms) = found_of m ++ all_found ms

  all_found-append : (xs ys : List Member) → all_found (xs ++ ys) ≡ all_found xs ++ all_found ys
  all_found-append [] ys = refl
  all_found-append (x ∷ xs) ys = ap (λ l. found_of x ++ l) (all_found-append xs ys)
      ∙ sym (append_assoc (found_of x) (all_found xs) (all_found ys))

  from_found : (owner : Package) (at n : ℕ) (ds : List Decl) → candidates_from what owner n ds
      ≡ all_found (members_from what.kind owner at n ds)
  from_found owner at n [] = refl
  from_found owner at n (d ∷ ds) = by (is_kind what.kind d.kind) d.enabled (from_found owner (at + 1) (n + 1) ds)
      (from_found owner (at + 1) n ds)
    where
      by : (k e : Bool)
          → candidates_from what owner (n + 1) ds ≡ all_found (members_from what.kind owner (at + 1) (n + 1) ds)
          → candidates_from what owner n ds ≡ all_found (members_from what.kind owner (at + 1) n ds)
          → cond k (cond e (candidate_of what owner n d what.intent.component) []
          ++ candidates_from what owner (n + 1) ds) (candidates_from what owner n ds)
          ≡ all_found (cond k (cond e (record { owner = owner; position = at; place = n; decl = d }
          ∷ members_from what.kind owner (at + 1) (n + 1) ds) (members_from what.kind owner (at + 1) (n + 1) ds))
          (members_from what.kind owner (at + 1) n ds))
      by true true p q = ap (λ l. candidate_of what owner n d what.intent.component ++ l) p
      by true false p q = p
      by false e p q = q

  -- the candidates are what the intent finds of the components
  candidates_found : (packages : List Package) → candidates.candidates what packages
      ≡ all_found (members what.kind packages)
  candidates_found [] = refl
  candidates_found (p ∷ ps) =
      ap (λ l. l ++ candidates.candidates what ps) (from_found p 0 0 p.decls)
      ∙ ap (λ l. all_found (members_from what.kind p 0 0 p.decls) ++ l) (candidates_found ps)
      ∙ sym (all_found-append (members_from what.kind p 0 0 p.decls) (members what.kind ps))

  -- the intent seeks the component if it names its component, or its package or none
  abbrev seeks : Option Component → Member → Bool
  seeks c m = sought_by c what.intent.«package» what.intent.action what.intent.uri what.intent.mime m

  -- a component that the intent seeks is found as its filters say
  seen : (m : Member) (c : Option Component) → seeks c m ≡ true
      → candidate_at m.owner m.place m.decl (finding_found what c m.decl)
      ≡ candidate_of what m.owner m.place m.decl c
  seen m (Some c) h =
      sym (ap (λ b. cond b (candidate_at m.owner m.place m.decl (Some (plain_finding (pos 0)))) []) h)
  seen m None h =
      sym (ap (λ b. cond b (implicit_candidate what m.owner m.place m.decl) [])
      (package_asked what.intent.«package» m.owner ∙ (both (is_for what.intent.«package» m.owner.name)
      (list_any (asked_of what.intent) m.decl.filters) h).0))

  -- nothing is found of another
  unseen_implicit : (m : Member) → list_any (asked_of what.intent) m.decl.filters ≡ false
      → implicit_candidate what m.owner m.place m.decl ≡ []
  unseen_implicit m h = ap (candidate_at m.owner m.place m.decl) (no_finding what.rules what m.decl.filters h)

  unseen : (m : Member) (c : Option Component) → seeks c m ≡ false → candidate_of what m.owner m.place m.decl c ≡ []
  unseen m (Some c) h =
      ap (λ b. cond b (candidate_at m.owner m.place m.decl (Some (plain_finding (pos 0)))) []) h
  unseen m None h =
      ap (λ b. cond b (implicit_candidate what m.owner m.place m.decl) [])
      (package_asked what.intent.«package» m.owner)
      ∙ by (is_for what.intent.«package» m.owner.name) h
    where
      by : (b : Bool) → (b && list_any (asked_of what.intent) m.decl.filters) ≡ false
          → cond b (implicit_candidate what m.owner m.place m.decl) [] ≡ []
      by true h = unseen_implicit m h
      by false h = refl

  module _ (packages : List Package) where
    -- the component at a spot
    at_spot : (m : Member) → Located packages m → candidate_of_spot what packages (spot_of m)
        ≡ candidate_at m.owner m.place m.decl (finding_found what what.intent.component m.decl)
    at_spot m there =
        ap (λ o. candidate_in what o (decl_in o m.position) m.place) there.owner
        ∙ ap (λ d. candidate_in what (Some m.owner) d m.place) there.decl

    -- at the spots of the components that the intent seeks all is found
    walked : (ms : List Member) → AllByRecursion (Located packages) ms
        → candidates_of_spots what packages (spots_where (sought what.intent) ms) ≡ all_found ms
    walked [] there = refl
    walked (m ∷ ms) there = by (sought what.intent m) refl (walked ms there.1)
      where
        by : (b : Bool) → sought what.intent m ≡ b → candidates_of_spots what packages
            (spots_where (sought what.intent) ms) ≡ all_found ms
            → candidates_of_spots what packages (cond b (spot_of m ∷ spots_where (sought what.intent) ms)
            (spots_where (sought what.intent) ms)) ≡ found_of m ++ all_found ms
        by true e rest =
            ap (λ l. l ++ candidates_of_spots what packages (spots_where (sought what.intent) ms))
            (at_spot m there.0 ∙ seen m what.intent.component e)
            ∙ ap (λ l. found_of m ++ l) rest
        by false e rest = rest ∙ sym (ap (λ l. l ++ all_found ms) (unseen m what.intent.component e))

  -- the tests at the spot of a component are at most those of its filters in the group
  cost_at : (packages : List Package) (m : Member) → Located packages m
      → cost_of_spot packages what.intent (spot_of m) ≤ count_by (in_group what.intent) m.decl.filters
  cost_at packages m there =
      let same : cost_of_spot packages what.intent (spot_of m)
      ≡ cost_found what.intent.component what.intent m.decl =
      ap (λ o. cost_in (decl_in o m.position) what.intent) there.owner
      ∙ ap (λ d. cost_in d what.intent) there.decl in
      let few : cost_found what.intent.component what.intent m.decl
      ≤ count_by (in_group what.intent) m.decl.filters = by what.intent.component in
      omega arith
    where
      by : (c : Option Component) → cost_found c what.intent m.decl ≤ count_by (in_group what.intent) m.decl.filters
      by (Some c) = omega arith
      by None = omega arith

  -- and those of all at most the size of the group
  cost_within : (packages : List Package) (ms : List Member) → AllByRecursion (Located packages) ms
      → cost_of_spots packages what.intent (spots_where (sought what.intent) ms) ≤ size_of what.intent ms
  cost_within packages [] there = omega arith
  cost_within packages (m ∷ ms) there = by (sought what.intent m) (cost_within packages ms there.1)
      (cost_at packages m there.0)
    where
      by : (b : Bool)
          → cost_of_spots packages what.intent (spots_where (sought what.intent) ms) ≤ size_of what.intent ms
          → cost_of_spot packages what.intent (spot_of m) ≤ count_by (in_group what.intent) m.decl.filters
          → cost_of_spots packages what.intent (cond b (spot_of m ∷ spots_where (sought what.intent) ms)
          (spots_where (sought what.intent) ms))
          ≤ count_by (in_group what.intent) m.decl.filters + size_of what.intent ms
      by true p q = omega arith
      by false p q = omega arith

  module _ (index : FilterIndex) (packages : List Package) (stands : StandsFor index packages) where
    -- what is listed for an intent is what it seeks
    pub listed : spots_for index.lists what.kind what.intent
        ≡ spots_where (sought what.intent) (members what.kind packages)
    listed =
        asked index.lists what.kind packages stands.lists
        (λ p q. merged_where p q (members what.kind packages) (members_in_order what.kind packages
        (rises packages stands.rising)))
        what.intent.component what.intent.«package» what.intent.action what.intent.uri what.intent.mime

    -- what is found there are the candidates
    pub finds_candidates : candidates_of_spots what packages (spots_for index.lists what.kind what.intent)
        ≡ candidates.candidates what packages
    finds_candidates =
        ap (candidates_of_spots what packages) listed
        ∙ walked packages (members what.kind packages)
        (members_located what.kind packages (rises packages stands.rising))
        ∙ sym (candidates_found packages)

    -- what is looked up is within as many tests as the group has filters
    pub within_group : (spots : List Spot) → spots ≡ spots_for index.lists what.kind what.intent
        → cost_of_spots packages what.intent spots ≤ group_size packages what.kind what.intent
    within_group spots found =
        subst (λ (l : List Spot). cost_of_spots packages what.intent l ≤ group_size packages what.kind what.intent)
        (sym (found ∙ listed))
        (cost_within packages (members what.kind packages)
        (members_located what.kind packages (rises packages stands.rising)))

-- an intent that names a component takes no test
pub explicit_free : (packages : List Package) (intent : Intent) (spots : List Spot) → IsSome intent.component
    → cost_of_spots packages intent spots ≡ 0
explicit_free packages intent [] named = refl
explicit_free packages intent (s ∷ ss) named =
    ap (λ n. n + cost_of_spots packages intent ss) (by (decl_in (package_at packages s.uid) s.position) named)
    ∙ zero-add _ ∙ explicit_free packages intent ss named
  where
    none : (c : Option Component) → IsSome c → (d : Decl) → cost_found c intent d ≡ 0
    none (Some c) h d = refl
    none None h d = absurd (false≢true h)

    by : (d : Option Decl) → IsSome intent.component → cost_in d intent ≡ 0
    by None h = refl
    by (Some d) h = none intent.component h d

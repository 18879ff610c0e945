-- For what a component is listed: the groups that are listed for it are those that it is in.
use Rattle.std.proofs.Common.{◌≡◌, ℕ, ◌+◌, Bool, true, false, not, ◌&&◌, ◌||◌, cond, List, [], ◌∷◌, ◌++◌, map, Vec, HashMap, Result, Ok, Err, refl, sym, ap, ◌∙◌}
use Rattle.std.specs.Prelude.{OnOk}
use Rattle.std.specs.List.{list_any}
use Rattle.std.specs.declared.alloc.Global.{Global}
use Rattle.std.proofs.lemmas.List.{append-nil, append_assoc}
use Rattle.std.proofs.lemmas.List.Folds.{list_any-append}
use Rattle.am_types.specs.declared.filter.Filter.{Filter}
use Rattle.am_types.specs.declared.device.Package.{Package}
use Rattle.am_types.specs.declared.manifest.Decl.{Decl}
use Rattle.am_types.specs.declared.manifest.Kind.{Kind}
use Rattle.am_types.specs.declared.uri.Mime.{Mime}
use Rattle.am_model.specs.Candidates.{is_kind}
use Rattle.am_index.specs.declared.key.Key.{Key}
use Rattle.am_index.specs.declared.key.Spot.{Spot}
use Rattle.am_index.specs.Lists.{spots_at, noted, asks_for}
use Rattle.am_index.specs.Members.{Member, members_from, spot_of, spots_where}
use Rattle.am_index.proofs.Same.{is_kind-equal, sought_either_way}
use Rattle.am_model.specs.Texts.{is_same, lists}
use Rattle.am_model.specs.Filters.{is_empty}
use Rattle.am_index.specs.declared.key.Group.{Group}
use Rattle.am_index.specs.declared.key.Group.TheVariants.{Class, Action, Scheme, Bare, Typed, Main}
use Rattle.am_index.specs.Keys.{same_group, is_bare, is_typed, lists_main, has_main, is_in, is_for, is_under, type_group, groups_of_types, data_groups, groups_of_filter, groups_of_filters, groups_of}
use Rattle.am_index.proofs.Noting.{or_false}

-- a filter lists what the group is about
abbrev pub in_filter : Group → Filter → Bool
in_filter (Class class) filter = false
in_filter (Action action) filter = lists filter.actions action
in_filter (Scheme scheme) filter = lists filter.schemes scheme
in_filter Bare filter = is_bare filter
in_filter Typed filter = is_typed filter
in_filter (Main main) filter = has_main main filter

-- one test of what is made of some things
any-map : {A : Type 0} (group : Group) (f : A → Group) (xs : List A) → list_any (same_group group) (map f xs)
    ≡ list_any (λ x. same_group group (f x)) xs
any-map group f [] = refl
any-map group f (x ∷ xs) = ap (λ (b : Bool). same_group group (f x) || b) (any-map group f xs)

none : {X : Type 0} (xs : List X) → list_any (λ _. false) xs ≡ false
none [] = refl
none (x ∷ xs) = none xs

and_false : (b : Bool) → (b && false) ≡ false
and_false true = refl
and_false false = refl

-- types list what the group is about
abbrev in_types : Group → List Mime → Bool
in_types (Class class) types = false
in_types (Action action) types = false
in_types (Scheme scheme) types = false
in_types Bare types = is_empty types
in_types Typed types = not (is_empty types)
in_types (Main main) types = lists_main types main

-- types are listed for what they list
types_are : (group : Group) (types : List Mime) → list_any (same_group group) (groups_of_types types)
    ≡ in_types group types
types_are (Class x) [] = refl
types_are (Action x) [] = refl
types_are (Scheme x) [] = refl
types_are Bare [] = refl
types_are Typed [] = refl
types_are (Main x) [] = refl
types_are (Class x) (t ∷ ts) = any-map (Class x) type_group (t ∷ ts) ∙ none (t ∷ ts)
types_are (Action x) (t ∷ ts) = any-map (Action x) type_group (t ∷ ts) ∙ none (t ∷ ts)
types_are (Scheme x) (t ∷ ts) = any-map (Scheme x) type_group (t ∷ ts) ∙ none (t ∷ ts)
types_are Bare (t ∷ ts) = any-map Bare type_group (t ∷ ts) ∙ none (t ∷ ts)
types_are Typed (t ∷ ts) = refl
types_are (Main x) (t ∷ ts) = any-map (Main x) type_group (t ∷ ts) ∙ sought_either_way (λ (m : Mime). m.main) x (t ∷ ts)

-- and only of a filter without schemes
data_are : (group : Group) (s : Bool) (types : List Mime) → list_any (same_group group)
    (cond s (groups_of_types types) []) ≡ (s && in_types group types)
data_are group true types = types_are group types
data_are group false types = refl

-- a filter is listed for what it lists
filter_is : (group : Group) (filter : Filter) → list_any (same_group group) (groups_of_filter filter)
    ≡ in_filter group filter
filter_is group filter =
    list_any-append (same_group group) (map Action filter.actions ++ map Scheme filter.schemes) (data_groups filter)
    ∙ ap (λ (b : Bool). b || list_any (same_group group) (data_groups filter))
    (list_any-append (same_group group) (map Action filter.actions) (map Scheme filter.schemes)
    ∙ ap (λ (b : Bool). b || list_any (same_group group) (map Scheme filter.schemes))
    (any-map group Action filter.actions)
    ∙ ap (λ (b : Bool). list_any (λ t. same_group group (Action t)) filter.actions || b)
    (any-map group Scheme filter.schemes))
    ∙ ap (λ (b : Bool). (list_any (λ t. same_group group (Action t)) filter.actions || list_any
    (λ t. same_group group (Scheme t)) filter.schemes) || b) (data_are group (is_empty filter.schemes) filter.types)
    ∙ by group
  where
    no_data : (b : Bool) → (b || (is_empty filter.schemes && false)) ≡ b
    no_data b = ap (λ (t : Bool). b || t) (and_false (is_empty filter.schemes)) ∙ or_false b

    data_alone : (b : Bool) → ((list_any (λ _. false) filter.actions || list_any (λ _. false) filter.schemes) || b) ≡ b
    data_alone b = ap (λ (t : Bool). (t || list_any (λ _. false) filter.schemes) || b) (none filter.actions)
        ∙ ap (λ (t : Bool). t || b) (none filter.schemes)

    by : (g : Group) → ((list_any (λ t. same_group g (Action t)) filter.actions || list_any
        (λ t. same_group g (Scheme t)) filter.schemes) || (is_empty filter.schemes && in_types g filter.types))
        ≡ in_filter g filter
    by (Class x) = no_data _ ∙ ap (λ (b : Bool). b || list_any (λ _. false) filter.schemes) (none filter.actions)
        ∙ none filter.schemes
    by (Action x) = no_data _ ∙ ap (λ (b : Bool). list_any (λ t. is_same x t) filter.actions || b) (none filter.schemes)
        ∙ or_false _ ∙ sought_either_way (λ t. t) x filter.actions
    by (Scheme x) = no_data _ ∙ ap (λ (b : Bool). b || list_any (λ t. is_same x t) filter.schemes) (none filter.actions)
        ∙ sought_either_way (λ t. t) x filter.schemes
    by Bare = data_alone (is_bare filter)
    by Typed = data_alone (is_typed filter)
    by (Main x) = data_alone (has_main x filter)

filters_are : (group : Group) (filters : List Filter) → list_any (same_group group) (groups_of_filters filters)
    ≡ list_any (in_filter group) filters
filters_are group [] = refl
filters_are group (f ∷ fs) =
    list_any-append (same_group group) (groups_of_filter f) (groups_of_filters fs)
    ∙ ap (λ (b : Bool). b || list_any (same_group group) (groups_of_filters fs)) (filter_is group f)
    ∙ ap (λ (b : Bool). in_filter group f || b) (filters_are group fs)

-- a component is listed for the groups that it is in
pub listed_where_in : (group : Group) (decl : Decl) → list_any (same_group group) (groups_of decl) ≡ is_in group decl
listed_where_in group decl = ap (λ (b : Bool). same_group group (Class decl.class) || b)
    (filters_are group decl.filters) ∙ by group
  where
    by : (g : Group) → (same_group g (Class decl.class) || list_any (in_filter g) decl.filters) ≡ is_in g decl
    by (Class x) = ap (λ (b : Bool). is_same x decl.class || b) (none decl.filters) ∙ or_false _
    by (Action x) = refl
    by (Scheme x) = refl
    by Bare = refl
    by Typed = refl
    by (Main x) = refl

-- what is noted for the groups of an enabled component is noted if it is under the key
pub listed_noted : {S X E : Type 0} (m n : HashMap Key (Vec Spot Global) S) (owner : Package) (decl : Decl)
    (groups : List Group) (spot : Spot)
    → decl.enabled ≡ true → groups ≡ groups_of decl
    → (r : Result X E) → OnOk r ((k : Key) → spots_at n k ≡ noted (asks_for decl.kind owner.name groups k) spot
    (spots_at m k))
    → OnOk r ((k : Key) → spots_at n k ≡ noted (decl.enabled && (is_kind k.kind decl.kind && is_under k owner decl))
    spot (spots_at m k))
listed_noted m n owner decl groups spot on e (Err x) h = tt
listed_noted m n owner decl groups spot on e (Ok x) h = λ k.
    h k
    ∙ ap (λ gs. noted (asks_for decl.kind owner.name gs k) spot (spots_at m k)) e
    ∙ ap (λ b. noted (is_kind k.kind decl.kind && (is_for k.owner owner.name && b)) spot (spots_at m k))
    (listed_where_in k.group decl)
    ∙ ap (λ b. noted (b && (is_kind k.kind decl.kind && is_under k owner decl)) spot (spots_at m k)) (sym on)

-- a component in front of others, under a key
front_noted : {A : Type 0} (asked enabled under : Bool) (x : A) (xs rest : List A)
    → (xs ++ cond (enabled && (asked && under)) (x ∷ []) []) ++ cond asked rest [] ≡ xs
    ++ cond asked (cond enabled (cond under (x ∷ rest) rest) rest) []
front_noted true true true x xs rest = append_assoc xs (x ∷ []) rest
front_noted true true false x xs rest = ap (λ l. l ++ rest) (append-nil xs)
front_noted true false under x xs rest = ap (λ l. l ++ rest) (append-nil xs)
front_noted false true under x xs rest = ap (λ l. l ++ []) (append-nil xs)
front_noted false false under x xs rest = ap (λ l. l ++ []) (append-nil xs)

module _ (key : Key) (kind : Kind) (owner : Package) (position place : ℕ) (decl : Decl) (decls : List Decl)
    (xs goal : List Spot) where
  -- the spots of the components that are listed under the key
  abbrev under : ℕ → ℕ → List Decl → List Spot
  under at n ds = spots_where (λ m. is_under key m.owner m.decl) (members_from kind owner at n ds)

  -- a component of another kind is passed over
  pub step_over : xs ++ cond (is_kind key.kind kind) (under position place (decl ∷ decls)) [] ≡ goal
      → is_kind kind decl.kind ≡ false
      → xs ++ cond (is_kind key.kind kind) (under (position + 1) place decls) [] ≡ goal
  step_over h other =
      sym (ap (λ (b : Bool). xs ++ cond (is_kind key.kind kind) (spots_where (λ m. is_under key m.owner m.decl)
      (cond b (cond decl.enabled (record { owner = owner; position = position; place = place; decl = decl }
      ∷ members_from kind owner (position + 1) (place + 1) decls)
      (members_from kind owner (position + 1) (place + 1) decls))
      (members_from kind owner (position + 1) place decls))) []) other) ∙ h

  -- one of the kind is noted if it is enabled
  pub step_noted : xs ++ cond (is_kind key.kind kind) (under position place (decl ∷ decls)) [] ≡ goal
      → is_kind kind decl.kind ≡ true
      → (ys : List Spot) → ys ≡ noted (decl.enabled && (is_kind key.kind decl.kind && is_under key owner decl))
      (record { uid = owner.uid; position = position; place = place }) xs
      → ys ++ cond (is_kind key.kind kind) (under (position + 1) (place + 1) decls) [] ≡ goal
  step_noted h same ys notes =
      let rest = members_from kind owner (position + 1) (place + 1) decls in
      let m : Member = record { owner = owner; position = position; place = place; decl = decl } in
      ap (λ l. l ++ cond (is_kind key.kind kind) (under (position + 1) (place + 1) decls) []) notes
      ∙ ap (λ (k : Kind). (xs ++ cond (decl.enabled && (is_kind key.kind k && is_under key owner decl)) (spot_of m ∷ [])
      []) ++ cond (is_kind key.kind kind) (under (position + 1) (place + 1) decls) [])
      (sym (is_kind-equal kind decl.kind same))
      ∙ front_noted (is_kind key.kind kind) decl.enabled (is_under key owner decl) (spot_of m) xs
      (under (position + 1) (place + 1) decls)
      ∙ ap (λ l. xs ++ cond (is_kind key.kind kind) l []) (sym (spots_where-cond decl.enabled m rest))
      ∙ sym (ap (λ (b : Bool). xs ++ cond (is_kind key.kind kind) (spots_where (λ n. is_under key n.owner n.decl)
      (cond b (cond decl.enabled (m ∷ rest) rest) (members_from kind owner (position + 1) place decls))) []) same)
      ∙ h
    where
      spots_where-cond : (b : Bool) (m : Member) (ms : List Member)
          → spots_where (λ n. is_under key n.owner n.decl) (cond b (m ∷ ms) ms)
          ≡ cond b (spots_where (λ n. is_under key n.owner n.decl) (m ∷ ms))
          (spots_where (λ n. is_under key n.owner n.decl) ms)
      spots_where-cond true m ms = refl
      spots_where-cond false m ms = refl

-- Texts, groups, kinds and keys that are the same are equal.
use Rattle.std.proofs.Common.{◌≡◌, ℕ, Bool, true, false, ◌&&◌, ◌||◌, List, [], ◌∷◌, Option, Some, None, refl, sym, ap, ◌∙◌, Decides}
use Rattle.std.proofs.lemmas.Bool.{false≢true}
use Rattle.std.proofs.lemmas.Slice.Eq.{slice_eq-Decides}
use Rattle.std.proofs.lemmas.Bool.Decides.{Decides-eqb}
use Rattle.std.specs.Cmp.{IsEquivalence, decided}
use Rattle.std.specs.Cmp.Lexicographic.{nat_list_eq_equiv}
use Rattle.std.specs.List.{list_any}
use Rattle.am_types.specs.contracts.manifest.KindPartialEq.TheImpl as kinds
use Rattle.am_types.specs.declared.manifest.Kind.{Kind}
use Rattle.am_types.specs.declared.manifest.Kind.TheVariants.{Activity, Service, Receiver}
use Rattle.am_model.specs.Texts.{is_same}
use Rattle.am_model.specs.Candidates.{is_kind}
use Rattle.am_index.specs.declared.key.Group.{Group}
use Rattle.am_index.specs.declared.key.Group.TheVariants.{Class, Action, Scheme, Bare, Typed, Main}
use Rattle.am_index.specs.declared.key.Key.{Key}
use Rattle.am_index.specs.Keys.{same_group, same_key}

-- texts that are the same are equal
pub is_same-Decides : (a b : List ℕ) → Decides (is_same a b) (a ≡ b)
is_same-Decides a b = slice_eq-Decides Decides-eqb a b (is_same a b) refl

-- a text is the same as itself
pub is_same_itself : (a : List ℕ) → is_same a a ≡ true
is_same_itself a = (is_same-Decides a a).1 refl

-- a text is sought among others by either order
pub sought_either_way : {X : Type 0} (f : X → List ℕ) (text : List ℕ) (xs : List X)
    → list_any (λ x. is_same text (f x)) xs ≡ list_any (λ x. is_same (f x) text) xs
sought_either_way f text [] = refl
sought_either_way f text (x ∷ xs) =
    ap (λ b. b || list_any (λ y. is_same text (f y)) xs) (nat_list_eq_equiv.symm text (f x))
    ∙ ap (λ b. is_same (f x) text || b) (sought_either_way f text xs)

-- groups that are the same are equal
same_group-equal : (a b : Group) → same_group a b ≡ true → a ≡ b
same_group-equal (Class x) (Class y) e = ap Class ((is_same-Decides x y).0 e)
same_group-equal (Action x) (Action y) e = ap Action ((is_same-Decides x y).0 e)
same_group-equal (Scheme x) (Scheme y) e = ap Scheme ((is_same-Decides x y).0 e)
same_group-equal Bare Bare e = refl
same_group-equal Typed Typed e = refl
same_group-equal (Main x) (Main y) e = ap Main ((is_same-Decides x y).0 e)
same_group-equal (Class x) (Action y) e = absurd (false≢true e)
same_group-equal (Class x) (Scheme y) e = absurd (false≢true e)
same_group-equal (Class x) Bare e = absurd (false≢true e)
same_group-equal (Class x) Typed e = absurd (false≢true e)
same_group-equal (Class x) (Main y) e = absurd (false≢true e)
same_group-equal (Action x) (Class y) e = absurd (false≢true e)
same_group-equal (Action x) (Scheme y) e = absurd (false≢true e)
same_group-equal (Action x) Bare e = absurd (false≢true e)
same_group-equal (Action x) Typed e = absurd (false≢true e)
same_group-equal (Action x) (Main y) e = absurd (false≢true e)
same_group-equal (Scheme x) (Class y) e = absurd (false≢true e)
same_group-equal (Scheme x) (Action y) e = absurd (false≢true e)
same_group-equal (Scheme x) Bare e = absurd (false≢true e)
same_group-equal (Scheme x) Typed e = absurd (false≢true e)
same_group-equal (Scheme x) (Main y) e = absurd (false≢true e)
same_group-equal Bare (Class y) e = absurd (false≢true e)
same_group-equal Bare (Action y) e = absurd (false≢true e)
same_group-equal Bare (Scheme y) e = absurd (false≢true e)
same_group-equal Bare Typed e = absurd (false≢true e)
same_group-equal Bare (Main y) e = absurd (false≢true e)
same_group-equal Typed (Class y) e = absurd (false≢true e)
same_group-equal Typed (Action y) e = absurd (false≢true e)
same_group-equal Typed (Scheme y) e = absurd (false≢true e)
same_group-equal Typed Bare e = absurd (false≢true e)
same_group-equal Typed (Main y) e = absurd (false≢true e)
same_group-equal (Main x) (Class y) e = absurd (false≢true e)
same_group-equal (Main x) (Action y) e = absurd (false≢true e)
same_group-equal (Main x) (Scheme y) e = absurd (false≢true e)
same_group-equal (Main x) Bare e = absurd (false≢true e)
same_group-equal (Main x) Typed e = absurd (false≢true e)

-- a group is the same as itself
same_group_itself : (a : Group) → same_group a a ≡ true
same_group_itself (Class x) = is_same_itself x
same_group_itself (Action x) = is_same_itself x
same_group_itself (Scheme x) = is_same_itself x
same_group_itself Bare = refl
same_group_itself Typed = refl
same_group_itself (Main x) = is_same_itself x

-- whether two groups are the same decides whether they are equal
pub same_group-Decides : (a b : Group) → Decides (same_group a b) (a ≡ b)
same_group-Decides a b = (same_group-equal a b, λ e. ap (same_group a) (sym e) ∙ same_group_itself a)

pub same_group_equiv : IsEquivalence same_group
same_group_equiv = decided same_group same_group-Decides

-- kinds that are the same are equal
pub is_kind-equal : (a b : Kind) → is_kind a b ≡ true → a ≡ b
is_kind-equal Activity Activity e = refl
is_kind-equal Service Service e = refl
is_kind-equal Receiver Receiver e = refl
is_kind-equal Activity Service e = absurd (false≢true e)
is_kind-equal Activity Receiver e = absurd (false≢true e)
is_kind-equal Service Activity e = absurd (false≢true e)
is_kind-equal Service Receiver e = absurd (false≢true e)
is_kind-equal Receiver Activity e = absurd (false≢true e)
is_kind-equal Receiver Service e = absurd (false≢true e)

-- a kind is the same as itself
pub is_kind_itself : (a : Kind) → is_kind a a ≡ true
is_kind_itself Activity = refl
is_kind_itself Service = refl
is_kind_itself Receiver = refl

-- two packages, or every one, are the same
abbrev pub same_owner : Option (List ℕ) → Option (List ℕ) → Bool
same_owner None None = true
same_owner (Some asked) (Some listed) = is_same asked listed
same_owner _ _ = false

same_owner-equal : (a b : Option (List ℕ)) → same_owner a b ≡ true → a ≡ b
same_owner-equal None None e = refl
same_owner-equal (Some x) (Some y) e = ap Some ((is_same-Decides x y).0 e)
same_owner-equal None (Some y) e = absurd (false≢true e)
same_owner-equal (Some x) None e = absurd (false≢true e)

same_owner_itself : (a : Option (List ℕ)) → same_owner a a ≡ true
same_owner_itself None = refl
same_owner_itself (Some x) = is_same_itself x

-- the parts of a conjunction
pub both : (a b : Bool) → (a && b) ≡ true → (a ≡ true) × (b ≡ true)
both true b e = (refl, e)
both false b e = absurd (false≢true e)

-- kinds are compared as the definition says
kinds_are : (a b : Kind) → kinds.ghosts.eq a b ≡ is_kind a b
kinds_are Activity Activity = refl
kinds_are Service Service = refl
kinds_are Receiver Receiver = refl
kinds_are _ _ = refl

-- keys are the same if their parts are
pub same_parts : (a b : Key) → same_key a b ≡ (is_kind a.kind b.kind &&
    (same_owner a.owner b.owner && same_group a.group b.group))
same_parts a b =
    by a.owner b.owner ∙ ap (λ k. k && (same_owner a.owner b.owner && same_group a.group b.group))
    (kinds_are a.kind b.kind)
  where
    by : (o p : Option (List ℕ)) → same_key (record a { owner = o }) (record b { owner = p })
        ≡ (kinds.ghosts.eq a.kind b.kind && (same_owner o p && same_group a.group b.group))
    by None None = refl
    by None (Some p) = refl
    by (Some o) None = refl
    by (Some o) (Some p) = refl

-- keys of equal parts are equal
of_parts : (a b : Key) → a.kind ≡ b.kind → a.owner ≡ b.owner → a.group ≡ b.group → a ≡ b
of_parts a b k o g = λ i. record { kind = k i; owner = o i; group = g i }

same_key-equal : (a b : Key) → same_key a b ≡ true → a ≡ b
same_key-equal a b e =
    let first = both _ _ (sym (same_parts a b) ∙ e) in
    let second = both _ _ first.1 in
    of_parts a b (is_kind-equal _ _ first.0) (same_owner-equal _ _ second.0) (same_group-equal _ _ second.1)

same_key_itself : (a : Key) → same_key a a ≡ true
same_key_itself a =
    same_parts a a
    ∙ ap (λ b. b && (same_owner a.owner a.owner && same_group a.group a.group)) (is_kind_itself a.kind)
    ∙ ap (λ b. b && same_group a.group a.group) (same_owner_itself a.owner)
    ∙ same_group_itself a.group

-- whether two keys are the same decides whether they are equal
pub same_key-Decides : (a b : Key) → Decides (same_key a b) (a ≡ b)
same_key-Decides a b = (same_key-equal a b, λ e. ap (same_key a) (sym e) ∙ same_key_itself a)

pub same_key_equiv : IsEquivalence same_key
same_key_equiv = decided same_key same_key-Decides

-- What a spot that is written to one list does to all of them.
use Rattle.std.proofs.Common.{◌≡◌, ℕ, Bool, true, false, not, ◌&&◌, ◌||◌, cond, List, [], ◌∷◌, ◌++◌, Option, Some, None, Vec, Result, Ok, Err, refl, sym, ap, ◌∙◌, eqb, eq-eqb}
use Rattle.std.specs.Prelude.{OnOk}
use Rattle.std.specs.List.{list_any}
use Rattle.std.proofs.lemmas.List.Folds.{list_any-append}
use Rattle.am_types.specs.declared.manifest.Kind.{Kind}
use Rattle.am_model.specs.Candidates.{is_kind}
use Rattle.am_index.specs.declared.key.Group.{Group}
use Rattle.std.specs.HashMap.{HashMap, get}
use Rattle.std.specs.declared.alloc.Global.{Global}
use Rattle.std.proofs.lemmas.List.{append-nil}
use Rattle.std.proofs.lemmas.List.Elements.{filter-append}
use Rattle.std.proofs.lemmas.Bool.{false≢true}
use Rattle.am_index.specs.declared.key.Key.{Key}
use Rattle.am_index.specs.declared.key.Spot.{Spot}
use Rattle.am_index.specs.Keys.{same_key, same_group, is_for}
use Rattle.am_index.specs.Lists.{spots_in, spots_at, noted, asks_for}
use Rattle.am_index.specs.Members.{spots_without}
use Rattle.am_index.proofs.Same.{same_key-Decides, same_key_equiv, same_group_equiv, same_owner, same_parts}

-- the spots of a choice are a choice of spots
spots_in-cond : (b : Bool) (w : Vec Spot Global) (o : Option (Vec Spot Global)) → spots_in (cond b (Some w) o)
    ≡ cond b w.items (spots_in o)
spots_in-cond true w o = refl
spots_in-cond false w o = refl

module _ {S : Type 0} (m n : HashMap Key (Vec Spot Global) S) (key : Key) (w : Vec Spot Global)
    (writes : (k : Key) → get same_key n k ≡ cond (same_key key k) (Some w) (get same_key m k)) where
  -- a list is written under its key alone
  written : (k : Key) → spots_at n k ≡ cond (same_key key k) w.items (spots_at m k)
  written k = ap spots_in (writes k) ∙ spots_in-cond (same_key key k) w (get same_key m k)

  -- a list that is written back as it was changes nothing
  pub same_written : w.items ≡ spots_at m key → (k : Key) → spots_at n k ≡ spots_at m k
  same_written same k = written k ∙ by (same_key key k) refl
    where
      by : (b : Bool) → same_key key k ≡ b → cond b w.items (spots_at m k) ≡ spots_at m k
      by true e = same ∙ ap (spots_at m) ((same_key-Decides key k).0 e)
      by false e = refl

  -- a spot more under a key
  pub noted_written : (spot : Spot) → w.items ≡ spots_at m key ++ spot ∷ [] → (k : Key) → spots_at n k
      ≡ noted (same_key k key) spot (spots_at m k)
  noted_written spot more k =
      written k ∙ by (same_key key k) refl ∙ ap (λ b. noted b spot (spots_at m k)) (same_key_equiv.symm key k)
    where
      by : (b : Bool) → same_key key k ≡ b → cond b w.items (spots_at m k) ≡ noted b spot (spots_at m k)
      by true e = more ∙ ap (λ (q : Key). spots_at m q ++ spot ∷ []) ((same_key-Decides key k).0 e)
      by false e = sym (append-nil (spots_at m k))

-- a spot of this uid isn't one of the others
other_spots : (b : Bool) (spot : Spot) → spots_without (cond b (spot ∷ []) []) spot.uid ≡ []
other_spots true spot = ap (λ t. cond (not t) (spot ∷ []) []) (eq-eqb spot.uid spot.uid refl)
other_spots false spot = refl

-- a spot of a uid more leaves those of other uids
pub noted_keeps : (b : Bool) (spot : Spot) (spots : List Spot) → spots_without (noted b spot spots) spot.uid
    ≡ spots_without spots spot.uid
noted_keeps b spot spots =
    filter-append (λ (s : Spot). not (eqb s.uid spot.uid)) spots (cond b (spot ∷ []) [])
    ∙ ap (λ l. spots_without spots spot.uid ++ l) (other_spots b spot)
    ∙ append-nil (spots_without spots spot.uid)

-- what is noted for every package, or for one, is noted for the one or the other as a key asks
noted_once : {A : Type 0} (k e o f g : Bool) (x : A) (xs : List A) → (e ≡ true → o ≡ false) → (e ≡ true → f ≡ true)
    → (e ≡ false → f ≡ o) →
    (xs ++ cond (k && (e && g)) (x ∷ []) []) ++ cond (k && (o && g)) (x ∷ []) [] ≡ xs
    ++ cond (k && (f && g)) (x ∷ []) []
noted_once false e o f g x xs p q r = append-nil (xs ++ [])
noted_once true true o f g x xs p q r =
    ap (λ (b : Bool). (xs ++ cond g (x ∷ []) []) ++ cond (b && g) (x ∷ []) []) (p refl)
    ∙ append-nil (xs ++ cond g (x ∷ []) [])
    ∙ ap (λ (b : Bool). xs ++ cond (b && g) (x ∷ []) []) (sym (q refl))
noted_once true false o f g x xs p q r =
    ap (λ (l : List _). l ++ cond (o && g) (x ∷ []) []) (append-nil xs)
    ∙ ap (λ (b : Bool). xs ++ cond (b && g) (x ∷ []) []) (sym (r refl))

-- and so is a key's package
pub noted_group : {A : Type 0} (k g : Bool) (asked : Option (List ℕ)) (owner : List ℕ) (x : A) (xs : List A) →
    (xs ++ cond (k && (same_owner asked None && g)) (x ∷ []) []) ++ cond (k && (same_owner asked (Some owner) && g))
    (x ∷ []) []
    ≡ xs ++ cond (k && (is_for asked owner && g)) (x ∷ []) []
noted_group k g None owner x xs = noted_once k true false true g x xs (λ e. refl) (λ e. refl)
    (λ e. absurd (false≢true (sym e)))
noted_group k g (Some asked) owner x xs = noted_once k false _ _ g x xs (λ e. absurd (false≢true e))
    (λ e. absurd (false≢true e)) (λ e. refl)

pub or_false : (b : Bool) → (b || false) ≡ b
or_false true = refl
or_false false = refl

pub or_true : (b : Bool) → (b || true) ≡ true
or_true true = refl
or_true false = refl

-- of two that exclude each other at most one is noted
twice : {A : Type 0} (k f a b : Bool) (x : A) (xs : List A) → (b ≡ true → a ≡ false)
    → (xs ++ cond (k && (f && a)) (x ∷ []) []) ++ cond (k && (f && b)) (x ∷ []) [] ≡ xs
    ++ cond (k && (f && (a || b))) (x ∷ []) []
twice false f a b x xs h = append-nil (xs ++ [])
twice true false a b x xs h = append-nil (xs ++ [])
twice true true true true x xs h = absurd (false≢true (sym (h refl)))
twice true true true false x xs h = append-nil (xs ++ x ∷ [])
twice true true false b x xs h = ap (λ (l : List _). l ++ cond b (x ∷ []) []) (append-nil xs)

-- a spot that is noted for every package, and then for one, is noted as a key asks
pub both_noted : {S X E : Type 0} (m n o : HashMap Key (Vec Spot Global) S) (kind : Kind) (owner name : List ℕ)
    (group first second : Group) (spot : Spot)
    → first ≡ group → name ≡ owner → second ≡ group
    → ((k : Key) → spots_at n k ≡ noted (same_key k (record { kind = kind; owner = None; group = first })) spot
    (spots_at m k))
    → (r : Result X E) → OnOk r ((k : Key) → spots_at o k ≡ noted (same_key k
    (record { kind = kind; owner = Some name; group = second })) spot (spots_at n k))
    → OnOk r ((k : Key) → spots_at o k ≡ noted (is_kind k.kind kind &&
    (is_for k.owner owner && same_group k.group group)) spot (spots_at m k))
both_noted m n o kind owner name group first second spot f a s every (Err e) own = tt
both_noted m n o kind owner name group first second spot f a s every (Ok x) own = λ k.
    own k
    ∙ ap (λ b. noted b spot (spots_at n k)) (same_parts k (record { kind = kind; owner = Some name; group = second }))
    ∙ ap (λ l. noted (is_kind k.kind kind && (same_owner k.owner (Some name) && same_group k.group second)) spot l)
    (every k ∙ ap (λ b. noted b spot (spots_at m k)) (same_parts k
    (record { kind = kind; owner = None; group = first })))
    ∙ (λ i. noted (is_kind k.kind kind && (same_owner k.owner (Some (a i)) && same_group k.group (s i))) spot
    (noted (is_kind k.kind kind && (same_owner k.owner None && same_group k.group (f i))) spot (spots_at m k)))
    ∙ noted_group (is_kind k.kind kind) (same_group k.group group) k.owner owner spot (spots_at m k)

-- groups that are the same as one are the same as each other
alike : (asked group : Group) (front : List Group) → same_group asked group ≡ true → list_any (same_group asked) front
    ≡ list_any (λ y. same_group y group) front
alike asked group [] e = refl
alike asked group (y ∷ ys) e =
    ap (λ (b : Bool). b || list_any (same_group asked) ys) (same_group_equiv.congr asked group y e
    ∙ same_group_equiv.symm group y)
    ∙ ap (λ (b : Bool). same_group y group || b) (alike asked group ys e)

module _ (kind : Kind) (owner : List ℕ) (front : List Group) (group : Group) (key : Key) (spot : Spot)
    (base before : List Spot)
    (so_far : before ≡ noted (asks_for kind owner front key) spot base) where
  -- how far the key asks for one of the groups, whatever the group is
  asked_more : asks_for kind owner (front ++ group ∷ []) key ≡ (is_kind key.kind kind &&
      (is_for key.owner owner && (list_any (same_group key.group) front || same_group key.group group)))
  asked_more =
      ap (λ b. is_kind key.kind kind && (is_for key.owner owner && b))
      (list_any-append (same_group key.group) front (group ∷ []) ∙ ap (λ b. list_any (same_group key.group) front || b)
      (or_false (same_group key.group group)))

  -- a group that stood before changes nothing
  pub noted_before : list_any (λ y. same_group y group) front ≡ true → before
      ≡ noted (asks_for kind owner (front ++ group ∷ []) key) spot base
  noted_before stood =
      so_far ∙ ap (λ b. noted b spot base)
      (ap (λ b. is_kind key.kind kind && (is_for key.owner owner && b)) (by (same_group key.group group) refl)
      ∙ sym asked_more)
    where
      by : (b : Bool) → same_group key.group group ≡ b → list_any (same_group key.group) front
          ≡ (list_any (same_group key.group) front || b)
      by false e = sym (or_false _)
      by true e = alike key.group group front e ∙ stood ∙ sym (or_true (list_any (same_group key.group) front))

  -- a new group is noted
  pub noted_more : (after : List Spot) → list_any (λ y. same_group y group) front ≡ false
      → after ≡ noted (is_kind key.kind kind && (is_for key.owner owner && same_group key.group group)) spot before
      → after ≡ noted (asks_for kind owner (front ++ group ∷ []) key) spot base
  noted_more after fresh notes =
      notes ∙ ap (noted (is_kind key.kind kind && (is_for key.owner owner && same_group key.group group)) spot) so_far
      ∙ twice (is_kind key.kind kind) (is_for key.owner owner) (list_any (same_group key.group) front)
      (same_group key.group group) spot base
      (λ e. alike key.group group front e ∙ fresh)
      ∙ ap (λ b. noted b spot base) (sym asked_more)

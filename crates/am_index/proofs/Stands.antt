-- What is listed for packages, with one more after them and without one of them.
use Rattle.std.proofs.Common.{◌≡◌, ℕ, ◌+◌, Bool, true, false, not, cond, eqb, List, [], ◌∷◌, ◌++◌, Result, Ok, Err, refl, sym, ap, ◌∙◌}
use Rattle.std.specs.Prelude.{OnOk, OnErr}
use Rattle.std.specs.List.{AllByRecursion}
use Rattle.std.proofs.lemmas.List.{append-nil, append_assoc}
use Rattle.std.proofs.lemmas.List.Elements.{filter-append}
use Rattle.am_types.specs.declared.device.Package.{Package}
use Rattle.am_types.specs.declared.manifest.Decl.{Decl}
use Rattle.am_types.specs.declared.manifest.Kind.{Kind}
use Rattle.am_model.specs.Boards.{without_package}
use Rattle.am_model.specs.Candidates.{is_kind}
use Rattle.am_index.specs.declared.index.FilterIndex.{FilterIndex}
use Rattle.am_index.specs.declared.key.Key.{Key}
use Rattle.am_index.specs.declared.key.Spot.{Spot}
use Rattle.am_index.specs.Keys.{is_under}
use Rattle.am_index.specs.Lists.{spots_at}
use Rattle.am_index.specs.Members.{Member, members_from, members, spot_of, spots_where, spots_under, spots_of_package, spots_without}
use Rattle.am_index.specs.Standing.{CanBeListed, StandsFor, ListsTheSame}
use Rattle.am_installed.proofs.Rising.{rises, below_last, without_new, increasing_without}

spots_where-append : (test : Member → Bool) (xs ys : List Member) → spots_where test (xs ++ ys) ≡ spots_where test xs
    ++ spots_where test ys
spots_where-append test [] ys = refl
spots_where-append test (x ∷ xs) ys = by (test x) (spots_where-append test xs ys)
  where
    by : (b : Bool) → spots_where test (xs ++ ys) ≡ spots_where test xs ++ spots_where test ys
        → cond b (spot_of x ∷ spots_where test (xs ++ ys)) (spots_where test (xs ++ ys))
        ≡ cond b (spot_of x ∷ spots_where test xs) (spots_where test xs) ++ spots_where test ys
    by true e = ap (λ l. spot_of x ∷ l) e
    by false e = e

-- what a first package and the others have under a key
pub spots_under-cons : (key : Key) (p : Package) (ps : List Package) → spots_under key (p ∷ ps) ≡ spots_of_package key p
    ++ spots_under key ps
spots_under-cons key p ps =
    spots_where-append (λ m. is_under key m.owner m.decl) (members_from key.kind p 0 0 p.decls) (members key.kind ps)

-- what packages and one after them have under a key
pub spots_under-append : (key : Key) (ps : List Package) (p : Package) → spots_under key (ps ++ p ∷ [])
    ≡ spots_under key ps ++ spots_of_package key p
spots_under-append key [] p = spots_under-cons key p [] ∙ append-nil (spots_of_package key p)
spots_under-append key (q ∷ qs) p =
    spots_under-cons key q (qs ++ p ∷ [])
    ∙ ap (λ l. spots_of_package key q ++ l) (spots_under-append key qs p)
    ∙ sym (append_assoc (spots_of_package key q) (spots_under key qs) (spots_of_package key p))
    ∙ ap (λ l. l ++ spots_of_package key p) (sym (spots_under-cons key q qs))

-- the components are those of a package
abbrev Are : ℕ → List Member → Type 0
Are uid ms = AllByRecursion (λ (m : Member). m.owner.uid ≡ uid) ms

are-cond : (b : Bool) (uid : ℕ) (xs ys : List Member) → Are uid xs → Are uid ys → Are uid (cond b xs ys)
are-cond true uid xs ys h k = h
are-cond false uid xs ys h k = k

are_of : (kind : Kind) (owner : Package) (at n : ℕ) (ds : List Decl) → Are owner.uid (members_from kind owner at n ds)
are_of kind owner at n [] = tt
are_of kind owner at n (d ∷ ds) =
    are-cond (is_kind kind d.kind) owner.uid _ _
    (are-cond d.enabled owner.uid _ _ (refl, are_of kind owner (at + 1) (n + 1) ds)
    (are_of kind owner (at + 1) (n + 1) ds))
    (are_of kind owner (at + 1) n ds)

-- without the uid of a package its spots are gone, and without another they stay
without_one : (test : Member → Bool) (own uid : ℕ) (b : Bool) (ms : List Member) → eqb own uid ≡ b → Are own ms
    → spots_without (spots_where test ms) uid ≡ cond b [] (spots_where test ms)
without_one test own uid true [] e a = refl
without_one test own uid false [] e a = refl
without_one test own uid b (m ∷ ms) e a = by b (test m) e (without_one test own uid b ms e a.1)
  where
    at : eqb m.owner.uid uid ≡ eqb own uid
    at = ap (λ u. eqb u uid) a.0

    by : (b t : Bool) → eqb own uid ≡ b → spots_without (spots_where test ms) uid ≡ cond b [] (spots_where test ms)
        → spots_without (cond t (spot_of m ∷ spots_where test ms) (spots_where test ms)) uid
        ≡ cond b [] (cond t (spot_of m ∷ spots_where test ms) (spots_where test ms))
    by true true e h = ap (λ c. cond (not c) (spot_of m ∷ spots_without (spots_where test ms) uid)
        (spots_without (spots_where test ms) uid)) (at ∙ e) ∙ h
    by false true e h = ap (λ c. cond (not c) (spot_of m ∷ spots_without (spots_where test ms) uid)
        (spots_without (spots_where test ms) uid)) (at ∙ e) ∙ ap (λ l. spot_of m ∷ l) h
    by true false e h = h
    by false false e h = h

-- without a uid what is listed is what the other packages have
pub spots_under-without : (key : Key) (ps : List Package) (uid : ℕ) → spots_without (spots_under key ps) uid
    ≡ spots_under key (without_package ps uid)
spots_under-without key [] uid = refl
spots_under-without key (p ∷ ps) uid =
    ap (λ l. spots_without l uid) (spots_under-cons key p ps)
    ∙ filter-append (λ (s : Spot). not (eqb s.uid uid)) (spots_of_package key p) (spots_under key ps)
    ∙ ap (λ l. spots_without (spots_of_package key p) uid ++ l) (spots_under-without key ps uid)
    ∙ by (eqb p.uid uid) refl
  where
    by : (b : Bool) → eqb p.uid uid ≡ b → spots_without (spots_of_package key p) uid
        ++ spots_under key (without_package ps uid) ≡ spots_under key
        (cond (not b) (p ∷ without_package ps uid) (without_package ps uid))
    by true e = ap (λ l. l ++ spots_under key (without_package ps uid))
        (without_one (λ m. is_under key m.owner m.decl) p.uid uid true (members_from key.kind p 0 0 p.decls) e
        (are_of key.kind p 0 0 p.decls))
    by false e =
        ap (λ l. l ++ spots_under key (without_package ps uid)) (without_one (λ m. is_under key m.owner m.decl) p.uid
        uid false (members_from key.kind p 0 0 p.decls) e (are_of key.kind p 0 0 p.decls))
        ∙ sym (spots_under-cons key p (without_package ps uid))

-- an index that lists the package after what it listed represents the packages with it
stands_with : (old new : FilterIndex) (p : Package) → ((key : Key) → spots_at new.lists key ≡ spots_at old.lists key
    ++ spots_of_package key p)
    → (ps : List Package) → StandsFor old ps → CanBeListed (ps ++ p ∷ []) → StandsFor new (ps ++ p ∷ [])
stands_with old new p more ps stands listed = record {
  rising = listed.rising;
  lists = λ key. more key ∙ ap (λ l. l ++ spots_of_package key p) (stands.lists key)
      ∙ sym (spots_under-append key ps p);
}

-- an index that lists only the spots of other packages represents those
pub stands_without : (old new : FilterIndex) (uid : ℕ) → ((key : Key) → spots_at new.lists key
    ≡ spots_without (spots_at old.lists key) uid)
    → (ps : List Package) → StandsFor old ps → StandsFor new (without_package ps uid)
stands_without old new uid fewer ps stands = record {
  rising = increasing_without ps uid stands.rising;
  lists = λ key. fewer key ∙ ap (λ l. spots_without l uid) (stands.lists key) ∙ spots_under-without key ps uid;
}

-- an index that lists the same represents the same
pub stands_same : (old new : FilterIndex) → ListsTheSame old new → (ps : List Package) → StandsFor old ps
    → StandsFor new ps
stands_same old new same ps stands = record { rising = stands.rising; lists = λ key. same key ∙ stands.lists key }

-- taking a new package out of lists that kept the others gives those that were before
pub as_before : (old new : FilterIndex) (ps : List Package) (p : Package) → StandsFor old ps
    → CanBeListed (ps ++ p ∷ [])
    → ((key : Key) → spots_at new.lists key ≡ spots_without (spots_at old.lists key) p.uid) → ListsTheSame old new
as_before old new ps p stands listed fewer key =
    fewer key
    ∙ ap (λ l. spots_without l p.uid) (stands.lists key)
    ∙ spots_under-without key ps p.uid
    ∙ ap (spots_under key) (without_new ps p.uid (below_last ps p (rises (ps ++ p ∷ []) listed.rising)))
    ∙ sym (stands.lists key)

-- what holds of the index holds if a call failed
pub on_err : {X E : Type 0} (r : Result X E) (P : Type 0) → P → OnErr r P
on_err (Ok x) P p = tt
on_err (Err e) P p = p

-- if a call went well, the index represents the packages with the new one
pub stands_with_ok : {X E : Type 0} (old new : FilterIndex) (p : Package) (r : Result X E)
    → OnOk r ((key : Key) → spots_at new.lists key ≡ spots_at old.lists key ++ spots_of_package key p)
    → OnOk r ((ps : List Package) → StandsFor old ps → CanBeListed (ps ++ p ∷ []) → StandsFor new (ps ++ p ∷ []))
stands_with_ok old new p (Ok x) more = stands_with old new p more
stands_with_ok old new p (Err e) more = tt

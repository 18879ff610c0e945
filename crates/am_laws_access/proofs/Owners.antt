-- The uid of the package of a name, whatever becomes of packages.
use Rattle.std.proofs.Common.{◌≡◌, ℕ, Bool, true, false, not, cond, eqb, List, [], ◌∷◌, ◌++◌, refl, ap, ◌∙◌}
use Rattle.std.specs.Prelude.{Option, Some, None}
use Rattle.am_types.specs.declared.device.Package.{Package}
use Rattle.am_types.specs.declared.intent.Component.{Component}
use Rattle.am_types.specs.declared.manifest.Decl.{Decl}
use Rattle.am_types.specs.declared.manifest.Kind.{Kind}
use Rattle.am_model.specs.Boards.{with_stopped, without_package}
use Rattle.am_model.specs.Receivers.{declared, decl_in, with_uid}
use Rattle.am_model.specs.Texts.{is_same}

-- the uid of the first package of that name, if there is one
abbrev pub uid_named : List Package → List ℕ → Option ℕ
uid_named [] name = None
uid_named (first ∷ others) name = cond (is_same first.name name) (Some first.uid) (uid_named others name)

-- the package of a component that is declared
pub declared_named : (packages : List Package) (kind : Kind) (component : Component) (found : ℕ × Decl)
    → declared packages kind component ≡ Some found
    → uid_named packages component.«package» ≡ Some found.0
declared_named [] kind component found is = absurd cc
declared_named (first ∷ others) kind component found is = by (is_same first.name component.«package»)
    (declared_named others kind component found) is
  where
    one : (decl : Option Decl) → with_uid first.uid decl ≡ Some found → Some first.uid ≡ Some found.0
    one None same = absurd cc
    one (Some decl) same = let e : (first.uid, decl) ≡ found = cc in ap (λ (f : ℕ × Decl). Some f.0) e

    by : (b : Bool) → (declared others kind component ≡ Some found → uid_named others component.«package»
        ≡ Some found.0)
        → cond b (with_uid first.uid (decl_in kind component.class first.decls)) (declared others kind component)
        ≡ Some found
        → cond b (Some first.uid) (uid_named others component.«package») ≡ Some found.0
    by true rest same = one (decl_in kind component.class first.decls) same
    by false rest same = rest same

-- stopping a package changes no uid
pub named_stopped : (packages : List Package) (uid : ℕ) (stopped : Bool) (name : List ℕ)
    → uid_named (with_stopped packages uid stopped) name ≡ uid_named packages name
named_stopped [] uid stopped name = refl
named_stopped (p ∷ ps) uid stopped name = by (eqb p.uid uid) (named_stopped ps uid stopped name)
  where
    after : List Package
    after = with_stopped ps uid stopped

    by : (b : Bool) → uid_named after name ≡ uid_named ps name → uid_named
        (cond b (record p { stopped = stopped }) p ∷ after) name ≡ uid_named (p ∷ ps) name
    by true rest = ap (λ o. cond (is_same p.name name) (Some p.uid) o) rest
    by false rest = ap (λ o. cond (is_same p.name name) (Some p.uid) o) rest

-- a package that comes behind the others changes none
pub named_more : (packages : List Package) (p : Package) (name : List ℕ) (uid : ℕ) → uid_named packages name ≡ Some uid
    → uid_named (packages ++ p ∷ []) name ≡ Some uid
named_more [] p name uid is = absurd cc
named_more (first ∷ others) p name uid is = by (is_same first.name name) (named_more others p name uid) is
  where
    by : (b : Bool) → (uid_named others name ≡ Some uid → uid_named (others ++ p ∷ []) name ≡ Some uid)
        → cond b (Some first.uid) (uid_named others name) ≡ Some uid
        → cond b (Some first.uid) (uid_named (others ++ p ∷ []) name) ≡ Some uid
    by true rest same = same
    by false rest same = rest same

-- nor does a package of another uid that goes
pub named_without : (packages : List Package) (gone : ℕ) (name : List ℕ) (uid : ℕ) → eqb uid gone ≡ false
    → uid_named packages name ≡ Some uid
    → uid_named (without_package packages gone) name ≡ Some uid
named_without [] gone name uid other is = is
named_without (p ∷ ps) gone name uid other is = by (eqb p.uid gone) (is_same p.name name) refl refl
    (named_without ps gone name uid other) is
  where
    left : List Package
    left = without_package ps gone

    by : (b c : Bool) → eqb p.uid gone ≡ b → is_same p.name name ≡ c
        → (uid_named ps name ≡ Some uid → uid_named left name ≡ Some uid)
        → cond c (Some p.uid) (uid_named ps name) ≡ Some uid → uid_named (cond (not b) (p ∷ left) left) name ≡ Some uid
    by true true same named rest found =
        let e : p.uid ≡ uid = cc in
        let test : eqb p.uid gone ≡ eqb uid gone = ap (λ u. eqb u gone) e in
        absurd cc
    by true false same named rest found = rest found
    by false true same named rest found = ap (λ b. cond b (Some p.uid) (uid_named left name)) named ∙ found
    by false false same named rest found = ap (λ b. cond b (Some p.uid) (uid_named left name)) named ∙ rest found

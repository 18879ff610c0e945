-- The component that an intent names is found as it is declared.
use Rattle.std.proofs.Common.{◌≡◌, ℕ, ◌+◌, pos, Bool, true, false, ◌&&◌, cond, List, [], ◌∷◌, ◌++◌, map, Option, Some, None, refl, sym, ap, ◌∙◌, subst}
use Rattle.std.specs.List.{AllByRecursion, IsDistinct}
use Rattle.std.specs.Cmp.Lexicographic.{nat_list_eq_equiv}
use Rattle.std.proofs.lemmas.List.{append-nil, map-append}
use Rattle.std.proofs.lemmas.List.Elements.{recursion_from_All}
use Rattle.am_types.specs.declared.intent.Component.{Component}
use Rattle.am_types.specs.declared.manifest.Decl.{Decl}
use Rattle.am_types.specs.declared.device.Package.{Package}
use Rattle.am_model.specs.Candidates.{Search, is_kind, plain_finding}
use Rattle.am_model.specs.Receivers.{decl_in, declared, with_uid}
use Rattle.am_model.specs.Sound.{AreDistinct, classes_of, names_of}
use Rattle.am_model.specs.Texts.{is_same}
use Rattle.am_installed.specs.Installed.{AreInstalled, IsInstalled}
use Rattle.am_index.proofs.Same.{is_same-Decides}
use Rattle.am_model.specs.Accounts.{component_of}
use Rattle.am_types.specs.declared.account.Account.{Account}
use Rattle.am_explain.proofs.Known.{and_false}
use Rattle.am_explain.proofs.Rivals.{Rival, rival_of, rivals_from, rivals_in}

module _ (search : Search) (c : Component) (names : search.intent.component ≡ Some c) where
  -- the component, with its place
  abbrev rival : Package → ℕ → Decl → Rival
  rival p place d = record { owner = p; place = place; decl = d; finding = plain_finding (pos 0) }

  -- one component more, with the name held apart
  abbrev one_more : Package → ℕ → Decl → List Decl → Bool → List Rival
  one_more p place d ds is =
      cond (is_kind search.kind d.kind)
      (cond d.enabled (cond is (rival p place d ∷ []) []) [] ++ rivals_from search p (place + 1) ds)
      (rivals_from search p place ds)

  is_one_more : (p : Package) (place : ℕ) (d : Decl) (ds : List Decl)
      → rivals_from search p place (d ∷ ds) ≡ one_more p place d ds
      (is_same c.«package» p.name && is_same c.class d.class)
  is_one_more p place d ds =
      ap (λ (component : Option Component). cond (is_kind search.kind d.kind)
      (cond d.enabled (rival_of search p place d component) [] ++ rivals_from search p (place + 1) ds)
      (rivals_from search p place ds)) names

  no_more : (p : Package) (place : ℕ) (d : Decl) (ds : List Decl) → rivals_from search p (place + 1) ds ≡ []
      → rivals_from search p place ds ≡ []
      → one_more p place d ds false ≡ []
  no_more p place d ds next other = by (is_kind search.kind d.kind) d.enabled
    where
      by : (kind on : Bool) → cond kind (cond on [] [] ++ rivals_from search p (place + 1) ds)
          (rivals_from search p place ds) ≡ []
      by true true = next
      by true false = next
      by false on = other

  -- a package of another name has none
  other_package : (p : Package) (place : ℕ) (ds : List Decl) → is_same c.«package» p.name ≡ false
      → rivals_from search p place ds ≡ []
  other_package p place [] other = refl
  other_package p place (d ∷ ds) other =
      is_one_more p place d ds
      ∙ ap (λ b. one_more p place d ds (b && is_same c.class d.class)) other
      ∙ no_more p place d ds (other_package p (place + 1) ds other) (other_package p place ds other)

  -- nor have components of other classes
  other_class : (p : Package) (place : ℕ) (ds : List Decl) → AllByRecursion (λ y. is_same c.class y ≡ false)
      (classes_of ds) → rivals_from search p place ds ≡ []
  other_class p place [] none = refl
  other_class p place (d ∷ ds) none =
      is_one_more p place d ds
      ∙ ap (one_more p place d ds) (and_false (is_same c.«package» p.name) (is_same c.class d.class) none.0)
      ∙ no_more p place d ds (other_class p (place + 1) ds none.1) (other_class p place ds none.1)

  module _ (to : Rival → Account) (out : Option (ℕ × Decl) → List Account) (nothing : out None ≡ [])
      (one : (r : Rival) → component_of r.owner r.decl ≡ c → to r ∷ [] ≡ out (Some (r.owner.uid, r.decl))) where
    in_package : (p : Package) (place : ℕ) (ds : List Decl) → is_same c.«package» p.name ≡ true
        → AreDistinct (classes_of ds)
        → map to (rivals_from search p place ds) ≡ out (with_uid p.uid (decl_in search.kind c.class ds))
    unfolding IsDistinct
    in_package p place [] own distinct = sym nothing
    in_package p place (d ∷ ds) own distinct =
        ap (map to) (is_one_more p place d ds ∙ ap (λ b. one_more p place d ds (b && is_same c.class d.class)) own)
        ∙ by (is_kind search.kind d.kind) d.enabled (is_same c.class d.class) refl
        (in_package p (place + 1) ds own distinct.1) (in_package p place ds own distinct.1)
        ∙ ap (λ b. out (with_uid p.uid (cond ((d.enabled && is_kind search.kind d.kind) && b) (Some d)
        (decl_in search.kind c.class ds)))) (nat_list_eq_equiv.symm c.class d.class)
      where
        found : Option Decl
        found = decl_in search.kind c.class ds

        same_class : is_same c.class d.class ≡ true → c.class ≡ d.class
        same_class e = (is_same-Decides c.class d.class).0 e

        alone : is_same c.class d.class ≡ true → rivals_from search p (place + 1) ds ≡ []
        alone e = other_class p (place + 1) ds (subst (λ (class : List ℕ). AllByRecursion (λ y. is_same class y ≡ false)
            (classes_of ds)) (sym (same_class e)) distinct.0)

        itself : is_same c.class d.class ≡ true → component_of p d ≡ c
        itself e = ap (λ (class : List ℕ). record { «package» = p.name; class = class }) (sym (same_class e))
            ∙ ap (λ (name : List ℕ). record { «package» = name; class = c.class })
            (sym ((is_same-Decides c.«package» p.name).0 own))

        by : (kind on same : Bool) → is_same c.class d.class ≡ same
            → map to (rivals_from search p (place + 1) ds) ≡ out (with_uid p.uid found)
            → map to (rivals_from search p place ds) ≡ out (with_uid p.uid found)
            → map to (cond kind (cond on (cond same (rival p place d ∷ []) []) []
            ++ rivals_from search p (place + 1) ds) (rivals_from search p place ds))
            ≡ out (with_uid p.uid (cond ((on && kind) && same) (Some d) found))
        by true true true is next other =
            ap (λ l. to (rival p place d) ∷ map to l) (alone is) ∙ one (rival p place d) (itself is)
        by true true false is next other = next
        by true false same is next other = next
        by false true same is next other = other
        by false false same is next other = other

    -- of packages of other names
    others : (ps : List Package) → AllByRecursion (λ y. is_same c.«package» y ≡ false) (names_of ps)
        → rivals_in search ps ≡ []
    others [] none = refl
    others (p ∷ ps) none =
        ap (λ l. l ++ rivals_in search ps) (other_package p 0 p.decls none.0) ∙ others ps none.1

    in_packages : (ps : List Package) → AreDistinct (names_of ps) → AllByRecursion IsInstalled ps
        → map to (rivals_in search ps) ≡ out (declared ps search.kind c)
    unfolding IsDistinct
    in_packages [] distinct each = sym nothing
    in_packages (p ∷ ps) distinct each =
        by (is_same c.«package» p.name) refl (in_packages ps distinct.1 each.1)
        ∙ ap (λ b. out (cond b (with_uid p.uid (decl_in search.kind c.class p.decls)) (declared ps search.kind c)))
        (nat_list_eq_equiv.symm c.«package» p.name)
      where
        alone : is_same c.«package» p.name ≡ true → rivals_in search ps ≡ []
        alone e = others ps (subst (λ (name : List ℕ). AllByRecursion (λ y. is_same name y ≡ false) (names_of ps))
            (sym ((is_same-Decides c.«package» p.name).0 e)) distinct.0)

        by : (b : Bool) → is_same c.«package» p.name ≡ b → map to (rivals_in search ps)
            ≡ out (declared ps search.kind c)
            → map to (rivals_from search p 0 p.decls ++ rivals_in search ps)
            ≡ out (cond b (with_uid p.uid (decl_in search.kind c.class p.decls)) (declared ps search.kind c))
        by true is next =
            map-append to (rivals_from search p 0 p.decls) (rivals_in search ps)
            ∙ ap (λ l. map to (rivals_from search p 0 p.decls) ++ map to l) (alone is)
            ∙ append-nil (map to (rivals_from search p 0 p.decls))
            ∙ in_package p 0 p.decls is each.0.classes
        by false is next =
            ap (λ l. map to (l ++ rivals_in search ps)) (other_package p 0 p.decls is) ∙ next

    -- the account of the component that is named is its account as it is declared
    pub as_declared : (ps : List Package) → AreInstalled ps → map to (rivals_in search ps)
        ≡ out (declared ps search.kind c)
    as_declared ps installed = in_packages ps installed.names (recursion_from_All IsInstalled ps installed.each)

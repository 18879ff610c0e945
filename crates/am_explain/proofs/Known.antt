-- Each component of installed packages is found by its name, and by its package's uid.
use Rattle.std.proofs.Common.{◌≡◌, ℕ, ℤ, Bool, true, false, ◌&&◌, ◌||◌, cond, List, [], ◌∷◌, Some, refl, ap, ◌∙◌}
use Rattle.std.specs.List.{AllByRecursion, IsDistinct, list_any}
use Rattle.std.specs.Cmp.Lexicographic.{nat_list_eq_equiv}
use Rattle.std.proofs.Math.Bool.{or-false}
use Rattle.std.proofs.lemmas.List.Elements.{recursion_from_All}
use Rattle.am_types.specs.declared.intent.Intent.{Intent}
use Rattle.am_types.specs.declared.manifest.Kind.{Kind}
use Rattle.am_types.specs.declared.manifest.Decl.{Decl}
use Rattle.am_types.specs.declared.device.Package.{Package}
use Rattle.am_model.specs.Boards.{package_at}
use Rattle.am_model.specs.Candidates.{is_kind}
use Rattle.am_model.specs.Receivers.{decl_in, declared, with_uid}
use Rattle.am_model.specs.Sound.{AreDistinct, classes_of, names_of}
use Rattle.am_model.specs.Targets.{is_general, takes_any_host}
use Rattle.am_model.specs.Texts.{is_same}
use Rattle.am_installed.specs.Installed.{AreInstalled, IsInstalled}
use Rattle.am_installed.proofs.Rising.{Rises, rises}
use Rattle.am_index.proofs.Same.{is_same_itself}
use Rattle.am_resolve.specs.Narrowing.{is_general_at, is_general_in}
use Rattle.am_resolve.proofs.General.{general_at}
use Rattle.am_resolve.proofs.Owners.{Found, each_found}
use Rattle.am_model.specs.Accounts.{component_of}

-- what holds of each component of each package
abbrev pub AllDecls : (Package → Decl → Type 0) → List Package → Type 0
AllDecls Q [] = Unit {0}
AllDecls Q (p ∷ ps) = AllByRecursion (Q p) p.decls × AllDecls Q ps

-- no class of the components is this one
abbrev NoneOf : List ℕ → List Decl → Type 0
NoneOf class ds = AllByRecursion (λ y. is_same class y ≡ false) (classes_of ds)

pub and_false : (a b : Bool) → b ≡ false → a && b ≡ false
and_false true b e = e
and_false false b e = refl

module _ (kind : Kind) where
  -- an enabled component of the kind is the first of its class
  abbrev IsFirst : List Decl → Decl → Type 0
  IsFirst whole d = d.enabled && is_kind kind d.kind ≡ true → decl_in kind d.class whole ≡ Some d

  first_behind : (x : Decl) (whole ds : List Decl) → NoneOf x.class ds → AllByRecursion (IsFirst whole) ds
      → AllByRecursion (IsFirst (x ∷ whole)) ds
  first_behind x whole [] none first = tt
  first_behind x whole (d ∷ ds) none first = (
    (λ e. ap (λ b. cond b (Some x) (decl_in kind d.class whole)) (and_false (x.enabled && is_kind kind x.kind)
        (is_same x.class d.class) none.0) ∙ first.0 e),
    first_behind x whole ds none.1 first.1,
  )

  each_first : (ds : List Decl) → AreDistinct (classes_of ds) → AllByRecursion (IsFirst ds) ds
  unfolding IsDistinct
  each_first [] distinct = tt
  each_first (d ∷ ds) distinct = (
    (λ e. ap (λ b. cond (b && is_same d.class d.class) (Some d) (decl_in kind d.class ds)) e
        ∙ ap (λ b. cond b (Some d) (decl_in kind d.class ds)) (is_same_itself d.class)),
    first_behind d ds ds distinct.0 (each_first ds distinct.1),
  )

  -- an enabled component of the kind is found by its name
  abbrev pub IsKnown : List Package → Package → Decl → Type 0
  IsKnown packages p d =
      d.enabled && is_kind kind d.kind ≡ true → declared packages kind (component_of p d) ≡ Some (p.uid, d)

  known_own : (p : Package) (ps : List Package) (ds : List Decl) → AllByRecursion (IsFirst p.decls) ds
      → AllByRecursion (IsKnown (p ∷ ps) p) ds
  known_own p ps [] first = tt
  known_own p ps (d ∷ ds) first = (
    (λ e. ap (λ b. cond b (with_uid p.uid (decl_in kind d.class p.decls)) (declared ps kind (component_of p d)))
        (is_same_itself p.name)
        ∙ ap (with_uid p.uid) (first.0 e)),
    known_own p ps ds first.1,
  )

  known_other : (p q : Package) (ps : List Package) (ds : List Decl) → is_same p.name q.name ≡ false
      → AllByRecursion (IsKnown ps q) ds → AllByRecursion (IsKnown (p ∷ ps) q) ds
  known_other p q ps [] other known = tt
  known_other p q ps (d ∷ ds) other known = (
    (λ e. ap (λ b. cond b (with_uid p.uid (decl_in kind d.class p.decls)) (declared ps kind (component_of q d))) other
        ∙ known.0 e),
    known_other p q ps ds other known.1,
  )

  known_behind : (p : Package) (ps qs : List Package) → AllByRecursion (λ y. is_same p.name y ≡ false) (names_of qs)
      → AllDecls (IsKnown ps) qs → AllDecls (IsKnown (p ∷ ps)) qs
  known_behind p ps [] other known = tt
  known_behind p ps (q ∷ qs) other known = (
    known_other p q ps q.decls other.0 known.0,
    known_behind p ps qs other.1
        known.1,
  )

  -- each enabled component of the kind is
  pub each_known : (ps : List Package) → AreDistinct (names_of ps) → AllByRecursion IsInstalled ps
      → AllDecls (IsKnown ps) ps
  unfolding IsDistinct
  each_known [] names each = tt
  each_known (p ∷ ps) names each = (
    known_own p ps p.decls (each_first p.decls each.0.classes),
    known_behind p ps ps names.0
        (each_known ps names.1 each.1),
  )

module _ (intent : Intent) where
  -- a filter of the component takes any host
  abbrev takes : Decl → Bool
  takes d = list_any (takes_any_host intent) d.filters

  none_general : (class : List ℕ) (ds : List Decl) → NoneOf class ds → is_general_in intent class ds ≡ false
  none_general class [] none = refl
  none_general class (d ∷ ds) none =
      ap (λ b. (b && takes d) || is_general_in intent class ds) (nat_list_eq_equiv.symm d.class class ∙ none.0)
      ∙ none_general class ds none.1

  general_behind : (x : Decl) (whole ds : List Decl) → NoneOf x.class ds
      → AllByRecursion (λ (d : Decl). is_general_in intent d.class whole ≡ takes d) ds
      → AllByRecursion (λ (d : Decl). is_general_in intent d.class (x ∷ whole) ≡ takes d) ds
  general_behind x whole [] none each = tt
  general_behind x whole (d ∷ ds) none each = (
    ap (λ b. (b && takes x) || is_general_in intent d.class whole) none.0
        ∙ each.0,
    general_behind x whole ds none.1 each.1,
  )

  each_general_in : (ds : List Decl) → AreDistinct (classes_of ds)
      → AllByRecursion (λ (d : Decl). is_general_in intent d.class ds ≡ takes d) ds
  unfolding IsDistinct
  each_general_in [] distinct = tt
  each_general_in (d ∷ ds) distinct = (
    ap (λ b. (b && takes d) || is_general_in intent d.class ds) (is_same_itself d.class)
        ∙ ap (λ b. takes d || b) (none_general d.class ds distinct.0) ∙ or-false (takes d),
    general_behind d ds ds distinct.0 (each_general_in ds distinct.1),
  )

  -- a hit of the component takes any host if a filter of the component does
  abbrev pub IsGeneral : List Package → Package → Decl → Type 0
  IsGeneral packages p d = (place : ℕ) (priority : ℤ)
      → is_general packages intent (record {
        component = component_of p d;
        uid = p.uid;
        place = place;
        priority =
            priority;
      })
      ≡ list_any (takes_any_host intent) d.filters

  general_of : (packages : List Package) (p : Package) (ds : List Decl) → Rises packages → package_at packages p.uid
      ≡ Some p
      → AllByRecursion (λ (d : Decl). is_general_in intent d.class p.decls ≡ takes d) ds
      → AllByRecursion (IsGeneral packages p) ds
  general_of packages p [] r f each = tt
  general_of packages p (d ∷ ds) r f each = (
    (λ place priority.
        general_at intent (record { component = component_of p d; uid = p.uid; place = place; priority = priority })
        packages r
        ∙ ap (is_general_at intent d.class) f ∙ each.0),
    general_of packages p ds r f each.1,
  )

  each_general_of : (packages ps : List Package) → Rises packages → Found packages ps → AllByRecursion IsInstalled ps
      → AllDecls (IsGeneral packages) ps
  each_general_of packages [] r f each = tt
  each_general_of packages (p ∷ ps) r f each = (
    general_of packages p p.decls r f.0 (each_general_in p.decls each.0.classes),
    each_general_of packages ps r f.1
        each.1,
  )

-- each component of installed packages is found by its name
pub all_known : (packages : List Package) (kind : Kind) → AreInstalled packages
    → AllDecls (IsKnown kind packages) packages
all_known packages kind installed =
    each_known kind packages installed.names (recursion_from_All IsInstalled packages installed.each)

-- and takes any host as its hits do
pub all_general : (packages : List Package) (intent : Intent) → AreInstalled packages
    → AllDecls (IsGeneral intent packages) packages
all_general packages intent installed =
    let r = rises packages installed.rising in
    each_general_of intent packages packages r (each_found packages r)
    (recursion_from_All IsInstalled packages installed.each)

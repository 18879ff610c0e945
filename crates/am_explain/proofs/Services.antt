-- The law of services.
use Rattle.std.proofs.Common.{◌≡◌, ℕ, ◌+◌, ℤ, pos, Bool, true, false, not, ◌&&◌, cond, List, [], ◌∷◌, ◌++◌, map, Option, Some, None, refl, sym, ap, ◌∙◌, inl, inr, subst}
use Rattle.std.specs.Prelude.{◌⊎◌, int_lt, is_none}
use Rattle.std.specs.List.{AllByRecursion, IsDistinct, filter}
use Rattle.std.specs.Cmp.Lexicographic.{nat_list_eq_equiv}
use Rattle.std.proofs.lemmas.List.{append-nil}
use Rattle.std.proofs.lemmas.List.Elements.{filter-append, recursion_from_All}
use Rattle.am_types.specs.declared.intent.Component.{Component}
use Rattle.am_types.specs.declared.intent.Intent.{Intent}
use Rattle.am_types.specs.declared.manifest.Kind.{Kind}
use Rattle.am_types.specs.declared.manifest.Kind.TheVariants.{Service}
use Rattle.am_types.specs.declared.manifest.Decl.{Decl}
use Rattle.am_types.specs.declared.device.Package.{Package}
use Rattle.am_types.specs.declared.device.Rules.{Rules}
use Rattle.am_types.specs.declared.resolve.Candidate.{Candidate}
use Rattle.am_types.specs.declared.resolve.Finding.{Finding}
use Rattle.am_types.specs.declared.resolve.Hit.{Hit}
use Rattle.am_types.specs.declared.broadcast.Aim.TheVariants.{Declared}
use Rattle.am_types.specs.declared.rule.Rule.TheVariants as rules
use Rattle.am_model.specs.Boards.{Board}
use Rattle.am_model.specs.Candidates.{Search, candidates, finding_in, hits, hits_of, in_turn, is_in, is_kind, is_named, plain_finding}
use Rattle.am_model.specs.Gates.{verdict}
use Rattle.am_model.specs.Intents.{is_same_component}
use Rattle.am_model.specs.Receivers.{declared, rule_of}
use Rattle.am_model.specs.Sound.{AreDistinct, classes_of, names_of}
use Rattle.am_model.specs.Texts.{is_same}
use Rattle.am_installed.specs.Installed.{AreInstalled, IsInstalled}
use Rattle.am_index.proofs.Same.{is_same_itself}
use Rattle.am_resolve.proofs.Owners.{all_in_turn}
use Rattle.am_model.specs.Accounts.{Question, accounts, component_of, declared_accounts, first_of, is_that, search_of, started}
use Rattle.am_explain.specs.Laws.{ServicesAreStarted, implicit_services, is_decided, standing_at, started_component, started_first, started_service}
use Rattle.am_types.specs.declared.account.Account.{Account}
use Rattle.am_types.specs.declared.account.Standing.TheVariants.{Outranked, Refused}
use Rattle.am_explain.proofs.Explicit.{decided_rule, explicit_decided}
use Rattle.am_explain.proofs.Known.{AllDecls, all_known, and_false}
use Rattle.am_explain.proofs.Rivals.{Holds, Rival, all_from, all_rivals, as_hits, hit_of_rival, met_account, of_found_in, of_kind, rival_at, rival_of, rivals_from, rivals_in}
use Rattle.am_explain.proofs.SentTo.{decided_found}

-- the component of one that is found
abbrev name_of_rival : Rival → Component
name_of_rival r = component_of r.owner r.decl

-- no component is found twice
abbrev Distinct : List Rival → Type 0
Distinct [] = Unit {0}
Distinct (r ∷ rs) = AllByRecursion (λ (o : Rival). is_same_component (name_of_rival r) (name_of_rival o) ≡ false) rs
    × Distinct rs

module _ (search : Search) where
  one_more : (p : Package) (place : ℕ) (d : Decl) (rs : List Rival) (finding : Option Finding) (is : Bool)
      → AllByRecursion (λ (o : Rival). is_same_component (component_of p d) (name_of_rival o) ≡ false) rs → Distinct rs
      → Distinct (cond is (rival_at p place d finding) [] ++ rs)
  one_more p place d rs (Some finding) true others distinct = (others, distinct)
  one_more p place d rs None true others distinct = distinct
  one_more p place d rs finding false others distinct = distinct

  one_of : (p : Package) (place : ℕ) (d : Decl) (rs : List Rival) (component : Option Component)
      → AllByRecursion (λ (o : Rival). is_same_component (component_of p d) (name_of_rival o) ≡ false) rs → Distinct rs
      → Distinct (rival_of search p place d component ++ rs)
  one_of p place d rs (Some component) others distinct =
      one_more p place d rs (Some (plain_finding (pos 0))) (is_named component p.name d.class) others distinct
  one_of p place d rs None others distinct =
      one_more p place d rs (finding_in search.rules search d.filters)
      (is_in search.intent.«package» p) others distinct

  -- components of other classes are others
  other_classes : (p : Package) (d : Decl) (ds : List Decl) → AllByRecursion (λ y. is_same d.class y ≡ false)
      (classes_of ds)
      → AllByRecursion (Holds search (λ (q : Package) (e : Decl). is_same_component (component_of p d)
      (component_of q e) ≡ false) p) ds
  other_classes p d [] none = tt
  other_classes p d (e ∷ es) none =
      ((λ _. and_false (is_same p.name p.name) (is_same d.class e.class) none.0), other_classes p d es none.1)

  -- a package's are distinct
  within : (p : Package) (place : ℕ) (ds : List Decl) → AreDistinct (classes_of ds)
      → Distinct (rivals_from search p place ds)
  unfolding IsDistinct
  within p place [] distinct = tt
  within p place (d ∷ ds) distinct =
      by (is_kind search.kind d.kind) d.enabled (within p (place + 1) ds distinct.1) (within p place ds distinct.1)
    where
      by : (kind on : Bool) → Distinct (rivals_from search p (place + 1) ds) → Distinct (rivals_from search p place ds)
          → Distinct (cond kind (cond on (rival_of search p place d search.intent.component) []
          ++ rivals_from search p (place + 1) ds) (rivals_from search p place ds))
      by true true next other =
          one_of p place d (rivals_from search p (place + 1) ds) search.intent.component
          (all_from search (λ (q : Package) (e : Decl). is_same_component (component_of p d) (component_of q e) ≡ false)
          p (place + 1) ds (other_classes p d ds distinct.0)) next
      by true false next other = next
      by false on next other = other

  -- those of a package bear its name
  own_name : (p : Package) (ds : List Decl) → AllByRecursion (Holds search (λ (q : Package) (e : Decl). q.name ≡ p.name)
      p) ds
  own_name p [] = tt
  own_name p (d ∷ ds) = ((λ _. refl), own_name p ds)

  -- those of the others bear other names
  other_name : (name : List ℕ) (p : Package) (ds : List Decl) → is_same name p.name ≡ false
      → AllByRecursion (Holds search (λ (q : Package) (e : Decl). is_same name q.name ≡ false) p) ds
  other_name name p [] other = tt
  other_name name p (d ∷ ds) other = ((λ _. other), other_name name p ds other)

  other_names : (name : List ℕ) (ps : List Package) → AllByRecursion (λ y. is_same name y ≡ false) (names_of ps)
      → AllDecls (Holds search (λ (q : Package) (e : Decl). is_same name q.name ≡ false)) ps
  other_names name [] none = tt
  other_names name (p ∷ ps) none = (other_name name p p.decls none.0, other_names name ps none.1)

  no_and : (a b : Bool) → a ≡ false → a && b ≡ false
  no_and true b e = absurd cc
  no_and false b e = refl

  apart : (r : Rival) (name : List ℕ) (others : List Rival) → r.owner.name ≡ name
      → AllByRecursion (λ (o : Rival). is_same name o.owner.name ≡ false) others
      → AllByRecursion (λ (o : Rival). is_same_component (name_of_rival r) (name_of_rival o) ≡ false) others
  apart r name [] own other = tt
  apart r name (o ∷ others) own other = (
    no_and (is_same r.owner.name o.owner.name) (is_same r.decl.class o.decl.class)
        (ap (λ (n : List ℕ). is_same n o.owner.name) own ∙ other.0),
    apart r name others own other.1,
  )

  both : (r : Rival) (rs others : List Rival)
      → AllByRecursion (λ (o : Rival). is_same_component (name_of_rival r) (name_of_rival o) ≡ false) rs
      → AllByRecursion (λ (o : Rival). is_same_component (name_of_rival r) (name_of_rival o) ≡ false) others
      → AllByRecursion (λ (o : Rival). is_same_component (name_of_rival r) (name_of_rival o) ≡ false) (rs ++ others)
  both r [] others a b = b
  both r (x ∷ rs) others a b = (a.0, both r rs others a.1 b)

  join : (name : List ℕ) (rs others : List Rival) → AllByRecursion (λ (r : Rival). r.owner.name ≡ name) rs → Distinct rs
      → AllByRecursion (λ (o : Rival). is_same name o.owner.name ≡ false) others → Distinct others
      → Distinct (rs ++ others)
  join name [] others own distinct other rest = rest
  join name (r ∷ rs) others own distinct other rest =
      (both r rs others distinct.0 (apart r name others own.0 other), join name rs others own.1 distinct.1 other rest)

  -- those of all packages are distinct
  across : (ps : List Package) → AreDistinct (names_of ps) → AllByRecursion IsInstalled ps
      → Distinct (rivals_in search ps)
  unfolding IsDistinct
  across [] distinct each = tt
  across (p ∷ ps) distinct each =
      join p.name (rivals_from search p 0 p.decls) (rivals_in search ps)
      (all_from search (λ (q : Package) (e : Decl). q.name ≡ p.name) p 0 p.decls (own_name p p.decls))
      (within p 0 p.decls each.0.classes)
      (all_rivals search (λ (q : Package) (e : Decl). is_same p.name q.name ≡ false) ps
      (other_names p.name ps distinct.0))
      (across ps distinct.1 each.1)

-- a hit is one of those
abbrev IsOneOf : Hit → List Hit → Type 0
IsOneOf h [] = ⊥
IsOneOf h (x ∷ xs) = (x ≡ h) ⊎ IsOneOf h xs

-- each candidate's hit is one of the hits
one_behind : (h : Hit) (hs : List Hit) (cs : List Candidate)
    → AllByRecursion (λ (c : Candidate). IsOneOf c.hit hs) cs
    → AllByRecursion (λ (c : Candidate). IsOneOf c.hit (h ∷ hs)) cs
one_behind h hs [] a = tt
one_behind h hs (c ∷ cs) a = (inr a.0, one_behind h hs cs a.1)

each_is_one : (cs : List Candidate) → AllByRecursion (λ (c : Candidate). IsOneOf c.hit (hits_of cs)) cs
each_is_one [] = tt
each_is_one (c ∷ cs) = (inl refl, one_behind c.hit (hits_of cs) cs (each_is_one cs))

-- the first in turn is one of them
first_is_one : (rules : Rules) (cs : List Candidate) (h : Hit) (others : List Hit)
    → hits_of (in_turn rules cs) ≡ h ∷ others → IsOneOf h (hits_of cs)
first_is_one rules cs h others e =
    by (in_turn rules cs) (all_in_turn (λ (c : Candidate). IsOneOf c.hit (hits_of cs)) rules cs (each_is_one cs)) e
  where
    by : (placed : List Candidate) → AllByRecursion (λ (c : Candidate). IsOneOf c.hit (hits_of cs)) placed
        → hits_of placed ≡ h ∷ others → IsOneOf h (hits_of cs)
    by [] a e = absurd cc
    by (c ∷ placed) a e = let same : c.hit ≡ h = cc in subst (λ (x : Hit). IsOneOf x (hits_of cs)) same a.0

-- what differs from each differs from each hit
differs_from : (c : Component) (rs : List Rival) (h : Hit) → AllByRecursion
    (λ (o : Rival). is_same_component c (name_of_rival o) ≡ false) rs
    → IsOneOf h (map hit_of_rival rs) → is_same_component c h.component ≡ false
differs_from c [] h others one = absurd one
differs_from c (r ∷ rs) h others (inl same) = ap (λ (x : Hit). is_same_component c x.component) (sym same) ∙ others.0
differs_from c (r ∷ rs) h others (inr rest) = differs_from c rs h others.1 rest

-- components are the same either way
turned : (a b : Component) → is_same_component a b ≡ is_same_component b a
turned a b =
    ap (λ t. t && is_same a.class b.class) (nat_list_eq_equiv.symm a.«package» b.«package»)
    ∙ ap (λ t. is_same b.«package» a.«package» && t) (nat_list_eq_equiv.symm a.class b.class)

itself : (c : Component) → is_same_component c c ≡ true
itself c = ap (λ t. t && is_same c.class c.class) (is_same_itself c.«package») ∙ is_same_itself c.class

module _ (board : Board) (caller : ℕ) (intent : Intent) (required : Option (List ℕ)) where
  abbrev asked : Question
  asked = record { caller = caller; kind = Service; intent = intent; required = required }

  -- the gate's verdict on a component that is found
  abbrev started_account : Rival → Account
  started_account r = record { to = Declared (name_of_rival r); standing = started board caller r.owner r.decl }

  -- the component is that one
  abbrev is_it : Option Component → Rival → Bool
  is_it first r = is_that first (name_of_rival r)

  none_else : (c : Component) (rs : List Rival) → AllByRecursion (λ (o : Rival). is_same_component c (name_of_rival o)
      ≡ false) rs
      → filter (is_it (Some c)) rs ≡ []
  none_else c [] others = refl
  none_else c (r ∷ rs) others =
      ap (λ b. cond b (r ∷ filter (is_it (Some c)) rs) (filter (is_it (Some c)) rs)) others.0 ∙ none_else c rs others.1

  -- what is known of a component that is found
  abbrev IsKnown : Rival → Type 0
  IsKnown r = declared board.packages Service (name_of_rival r) ≡ Some (r.owner.uid, r.decl)

  -- of those that are found one is a hit's component
  one_is : (rs : List Rival) (h : Hit) → Distinct rs → AllByRecursion IsKnown rs → IsOneOf h (map hit_of_rival rs)
      → map started_account (filter (is_it (Some h.component)) rs)
      ≡ started_component board caller h.component (declared board.packages Service h.component)
  one_is [] h distinct known one = absurd one
  one_is (r ∷ rs) h distinct known (inl same) =
      subst (λ (x : Hit). map started_account (filter (is_it (Some x.component)) (r ∷ rs))
      ≡ started_component board caller x.component (declared board.packages Service x.component)) same
      (ap (λ b. map started_account (cond b (r ∷ filter (is_it (Some (name_of_rival r))) rs)
      (filter (is_it (Some (name_of_rival r))) rs))) (itself (name_of_rival r))
      ∙ ap (λ l. started_account r ∷ map started_account l) (none_else (name_of_rival r) rs distinct.0)
      ∙ ap (started_component board caller (name_of_rival r)) (sym known.0))
  one_is (r ∷ rs) h distinct known (inr rest) =
      ap (λ b. map started_account (cond b (r ∷ filter (is_it (Some h.component)) rs)
      (filter (is_it (Some h.component)) rs)))
      (turned h.component (name_of_rival r) ∙ differs_from (name_of_rival r) rs h distinct.0 rest)
      ∙ one_is rs h distinct.1 known.1 rest

  -- what the package has of it
  abbrev rivals : List Rival
  rivals = rivals_in (search_of board asked) board.packages

  -- the first that is found
  first_is : (found : List Hit)
      → hits_of (in_turn board.rules (candidates (search_of board asked) board.packages)) ≡ found → AreInstalled board.packages
      → map started_account (filter (is_it (first_of found)) rivals) ≡ started_first board caller found
  first_is [] e installed = ap (map started_account) (none rivals)
    where
      none : (rs : List Rival) → filter (is_it None) rs ≡ []
      none [] = refl
      none (r ∷ rs) = none rs
  first_is (h ∷ others) e installed =
      one_is rivals h
      (across (search_of board asked) board.packages installed.names (recursion_from_All IsInstalled board.packages
      installed.each))
      (all_rivals (search_of board asked) (λ (p : Package) (d : Decl). declared board.packages Service (component_of p d)
      ≡ Some (p.uid, d)) board.packages (all_known board.packages Service installed))
      (subst (IsOneOf h) (as_hits (search_of board asked) board.packages)
      (first_is_one board.rules (candidates (search_of board asked) board.packages) h others e))

  -- what is decided if a package is named
  decided_in : (rs : List Rival) (name : List ℕ) → intent.«package» ≡ Some name
      → standing_at is_decided (map (met_account board asked None) rs)
      ≡ map started_account (filter (is_it (first_of (hits board.rules board.packages Service intent false))) rs)
  decided_in [] name e = refl
  decided_in (r ∷ rs) name e =
      filter-append (λ (a : Account). is_decided a.standing) (met_account board asked None r ∷ [])
      (map (met_account board asked None) rs)
      ∙ ap (λ l. standing_at is_decided (met_account board asked None r ∷ []) ++ l) (decided_in rs name e)
      ∙ ap (λ (limited : Option (List ℕ)). standing_at is_decided (record {
        to = Declared (name_of_rival r);
        standing = cond (is_none limited) (Refused rules.ImplicitService)
            (cond (not (is_it (first_of (hits board.rules board.packages Service intent false)) r)) Outranked
            (started board caller r.owner r.decl));
      } ∷ []) ++ others) e
      ∙ by (is_it (first_of (hits board.rules board.packages Service intent false)) r)
    where
      kept : List Rival
      kept = filter (is_it (first_of (hits board.rules board.packages Service intent false))) rs

      others : List Account
      others = map started_account kept

      by : (b : Bool) → standing_at is_decided (record {
        to = Declared (name_of_rival r);
        standing = cond (not b)
            Outranked (started board caller r.owner r.decl);
      } ∷ []) ++ others
          ≡ map started_account (cond b (r ∷ kept) kept)
      by true = ap (λ t. cond t (started_account r ∷ []) [] ++ others)
          (decided_rule (rule_of (verdict board.grants caller r.owner.uid r.decl.exported r.decl.permission)))
      by false = refl

  -- and if none is
  decided_nowhere : (rs : List Rival) → intent.«package» ≡ None
      → standing_at is_decided (map (met_account board asked None) rs) ≡ implicit_services (map hit_of_rival rs)
  decided_nowhere [] e = refl
  decided_nowhere (r ∷ rs) e =
      filter-append (λ (a : Account). is_decided a.standing) (met_account board asked None r ∷ [])
      (map (met_account board asked None) rs)
      ∙ ap (λ l. standing_at is_decided (met_account board asked None r ∷ []) ++ l) (decided_nowhere rs e)
      ∙ ap (λ (limited : Option (List ℕ)). standing_at is_decided (record {
        to = Declared (name_of_rival r);
        standing = cond (is_none limited) (Refused rules.ImplicitService)
            (cond (not (is_it (first_of (hits board.rules board.packages Service intent false)) r)) Outranked
            (started board caller r.owner r.decl));
      } ∷ []) ++ implicit_services (map hit_of_rival rs)) e

  said : intent.component ≡ None
      → standing_at is_decided (accounts board asked None) ≡ standing_at is_decided
      (map (met_account board asked None) rivals)
  said none =
      ap (standing_at is_decided) (append-nil (declared_accounts board asked None board.packages))
      ∙ of_found_in board asked is_decided decided_found board.packages
      ∙ ap (λ (component : Option Component). standing_at is_decided (map (met_account board asked component) rivals))
      none

  decided : (component : Option Component) (name : Option (List ℕ)) → intent.component ≡ component → intent.«package»
      ≡ name → AreInstalled board.packages
      → standing_at is_decided (accounts board asked None) ≡ started_service board asked component name
  decided (Some c) name names limits installed =
      ap (standing_at is_decided) (append-nil (declared_accounts board asked None board.packages))
      ∙ explicit_decided board asked c names (λ r. refl) installed
  decided None (Some name) names limits installed =
      said names ∙ decided_in rivals name limits
      ∙ first_is (hits board.rules board.packages Service intent false) refl installed
  decided None None names limits installed =
      said names ∙ decided_nowhere rivals limits ∙ ap implicit_services (sym (as_hits (search_of board asked) board.packages))

-- the law
pub services_are_started : ServicesAreStarted
services_are_started board q installed e =
    subst (λ (kind : Kind). standing_at is_decided (accounts board (of_kind q kind) None)
    ≡ started_service board (of_kind q kind) q.intent.component q.intent.«package») (sym e)
    (decided board q.caller q.intent q.required q.intent.component q.intent.«package» refl refl installed)

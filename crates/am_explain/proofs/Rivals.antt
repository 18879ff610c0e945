-- The components that an intent finds, with their packages: its hits, and the accounts that say more than that it finds
-- nothing there.
use Rattle.std.proofs.Common.{◌≡◌, ℕ, ◌+◌, ℤ, pos, Bool, true, false, not, ◌&&◌, cond, List, [], ◌∷◌, ◌++◌, map, Option, Some, None, refl, sym, ap, ◌∙◌}
use Rattle.std.specs.Prelude.{is_none}
use Rattle.std.specs.List.{AllByRecursion}
use Rattle.std.proofs.lemmas.List.{map-append}
use Rattle.std.proofs.lemmas.List.Elements.{filter-append}
use Rattle.am_types.specs.declared.intent.Component.{Component}
use Rattle.am_types.specs.declared.manifest.Decl.{Decl}
use Rattle.am_types.specs.declared.manifest.Kind.{Kind}
use Rattle.am_types.specs.declared.device.Package.{Package}
use Rattle.am_types.specs.declared.resolve.Candidate.{Candidate}
use Rattle.am_types.specs.declared.resolve.Finding.{Finding}
use Rattle.am_types.specs.declared.resolve.Hit.{Hit}
use Rattle.am_types.specs.declared.broadcast.Aim.TheVariants.{Declared}
use Rattle.am_model.specs.Boards.{Board}
use Rattle.am_model.specs.Candidates.{Search, candidate_at, candidate_of, candidates, candidates_from, enabled_candidate, finding_in, hits_of, is_in, is_kind, is_named, plain_finding}
use Rattle.am_model.specs.Accounts.{Question, accounts_from, component_of, declared_accounts, enabled, found, is_other_component, named, search_of, standing}
use Rattle.am_explain.specs.Laws.{standing_at}
use Rattle.am_types.specs.declared.account.Account.{Account}
use Rattle.am_types.specs.declared.account.Standing.{Standing}
use Rattle.am_types.specs.declared.account.Standing.TheVariants.{Disabled, Filters, OtherComponent, OtherPackage}
use Rattle.am_explain.proofs.Known.{AllDecls}

-- a component that is found, with its package
pub record Rival : Type 0 where
  pub owner : Package
  pub place : ℕ
  pub decl : Decl
  pub finding : Finding

-- as a candidate
abbrev pub candidate_of_rival : Rival → Candidate
candidate_of_rival r = record {
  hit = record {
    component = component_of r.owner r.decl;
    uid = r.owner.uid;
    place = r.place;
    priority = r.finding.priority;
  };
  finding = r.finding;
}

-- as a hit
abbrev pub hit_of_rival : Rival → Hit
hit_of_rival r = (candidate_of_rival r).hit

abbrev pub rival_at : Package → ℕ → Decl → Option Finding → List Rival
rival_at owner place decl None = []
rival_at owner place decl (Some finding) =
    record { owner = owner; place = place; decl = decl; finding = finding } ∷ []

-- the component, if the intent finds it
abbrev pub rival_of : Search → Package → ℕ → Decl → Option Component → List Rival
rival_of search owner place decl (Some component) =
    cond (is_named component owner.name decl.class) (rival_at owner place decl (Some (plain_finding (pos 0)))) []
rival_of search owner place decl None =
    cond (is_in search.intent.«package» owner)
    (rival_at owner place decl (finding_in search.rules search decl.filters)) []

-- those of some components of a package
abbrev pub rivals_from : Search → Package → ℕ → List Decl → List Rival
rivals_from search owner place [] = []
rivals_from search owner place (d ∷ ds) =
    cond (is_kind search.kind d.kind)
    (cond d.enabled (rival_of search owner place d search.intent.component) []
    ++ rivals_from search owner (place + 1) ds)
    (rivals_from search owner place ds)

-- those of packages
abbrev pub rivals_in : Search → List Package → List Rival
rivals_in search [] = []
rivals_in search (p ∷ ps) = rivals_from search p 0 p.decls ++ rivals_in search ps

module _ (search : Search) where
  -- the candidates are the components that are found
  as_candidate_at : (owner : Package) (place : ℕ) (d : Decl) (finding : Option Finding)
      → candidate_at owner place d finding ≡ map candidate_of_rival (rival_at owner place d finding)
  as_candidate_at owner place d None = refl
  as_candidate_at owner place d (Some finding) = refl

  when : (b : Bool) (cs : List Candidate) (rs : List Rival) → cs ≡ map candidate_of_rival rs
      → cond b cs [] ≡ map candidate_of_rival (cond b rs [])
  when true cs rs e = e
  when false cs rs e = refl

  as_candidate_of : (owner : Package) (place : ℕ) (d : Decl) (component : Option Component)
      → candidate_of search owner place d component
      ≡ map candidate_of_rival (rival_of search owner place d component)
  as_candidate_of owner place d (Some component) =
      when (is_named component owner.name d.class) _ (rival_at owner place d (Some (plain_finding (pos 0)))) refl
  as_candidate_of owner place d None =
      when (is_in search.intent.«package» owner) _ _ (as_candidate_at owner place d
      (finding_in search.rules search d.filters))

  as_candidates_from : (owner : Package) (place : ℕ) (ds : List Decl)
      → candidates_from search owner place ds ≡ map candidate_of_rival (rivals_from search owner place ds)
  as_candidates_from owner place [] = refl
  as_candidates_from owner place (d ∷ ds) =
      by (is_kind search.kind d.kind) (as_candidates_from owner (place + 1) ds) (as_candidates_from owner place ds)
    where
      rs : List Rival
      rs = cond d.enabled (rival_of search owner place d search.intent.component) []

      by : (b : Bool) → candidates_from search owner (place + 1) ds ≡ map candidate_of_rival
          (rivals_from search owner (place + 1) ds)
          → candidates_from search owner place ds ≡ map candidate_of_rival (rivals_from search owner place ds)
          → cond b (enabled_candidate search owner place d ++ candidates_from search owner (place + 1) ds)
          (candidates_from search owner place ds)
          ≡ map candidate_of_rival (cond b (rs ++ rivals_from search owner (place + 1) ds)
          (rivals_from search owner place ds))
      by true next other =
          ap (λ l. l ++ candidates_from search owner (place + 1) ds)
          (when d.enabled _ _ (as_candidate_of owner place d search.intent.component))
          ∙ ap (λ l. map candidate_of_rival rs ++ l) next
          ∙ sym (map-append candidate_of_rival rs (rivals_from search owner (place + 1) ds))
      by false next other = other

  pub as_candidates : (ps : List Package) → candidates search ps ≡ map candidate_of_rival (rivals_in search ps)
  as_candidates [] = refl
  as_candidates (p ∷ ps) =
      ap (λ l. l ++ candidates search ps) (as_candidates_from p 0 p.decls)
      ∙ ap (λ l. map candidate_of_rival (rivals_from search p 0 p.decls) ++ l) (as_candidates ps)
      ∙ sym (map-append candidate_of_rival (rivals_from search p 0 p.decls) (rivals_in search ps))

  -- and the hits, before they are put in order
  pub as_hits : (ps : List Package) → hits_of (candidates search ps) ≡ map hit_of_rival (rivals_in search ps)
  as_hits ps = ap hits_of (as_candidates ps) ∙ both (rivals_in search ps)
    where
      both : (rs : List Rival) → hits_of (map candidate_of_rival rs) ≡ map hit_of_rival rs
      both [] = refl
      both (r ∷ rs) = ap (λ l. hit_of_rival r ∷ l) (both rs)

-- the same question of a kind
abbrev pub of_kind : Question → Kind → Question
of_kind asked kind = record { caller = asked.caller; kind = kind; intent = asked.intent; required = asked.required }

-- the account of a component that is found: as of one that is named, or as of one whose filters pass
abbrev pub met : Board → Question → Option Component → Rival → Standing
met board asked (Some component) r = named board asked r.owner r.decl
met board asked None r = found board asked r.owner r.decl (Some r.finding)

-- its account
abbrev pub met_account : Board → Question → Option Component → Rival → Account
met_account board asked component r =
    record { to = Declared (component_of r.owner r.decl); standing = met board asked component r }

-- a test that only components that are found may pass
pub record IsOfFound (test : Standing → Bool) : Type 0 where
  pub component : test OtherComponent ≡ false
  pub «package» : test OtherPackage ≡ false
  pub disabled : test Disabled ≡ false
  pub filters : (reasons : List _) → test (Filters reasons) ≡ false

module _ (board : Board) (asked : Question) (test : Standing → Bool) (of_found : IsOfFound test) where
  -- the account of a component
  abbrev said : Package → Decl → Standing → Account
  said owner d s = record { to = Declared (component_of owner d); standing = s }

  -- the account of a component, with what the intent names held apart
  abbrev standing_with : Package → Decl → Option Component → Standing
  standing_with owner d component =
      cond (is_other_component component owner d) OtherComponent
      (cond (is_none component && not (is_in asked.intent.«package» owner)) OtherPackage
      (cond (not d.enabled) Disabled (enabled board asked owner d component)))

  failed : (owner : Package) (d : Decl) (s : Standing) → test s ≡ false → standing_at test (said owner d s ∷ []) ≡ []
  failed owner d s e = ap (λ b. cond b (said owner d s ∷ []) []) e

  one_named : (owner : Package) (place : ℕ) (d : Decl) (component : Component) (is on : Bool)
      → standing_at test (said owner d (cond (not is) OtherComponent
      (cond (not on) Disabled (named board asked owner d))) ∷ [])
      ≡ standing_at test (map (met_account board asked (Some component))
      (cond on (cond is (rival_at owner place d (Some (plain_finding (pos 0)))) []) []))
  one_named owner place d component true true = refl
  one_named owner place d component false true = failed owner d OtherComponent of_found.component
  one_named owner place d component true false = failed owner d Disabled of_found.disabled
  one_named owner place d component false false = failed owner d OtherComponent of_found.component

  one_found : (owner : Package) (place : ℕ) (d : Decl) (finding : Option Finding) (is on : Bool)
      → standing_at test (said owner d (cond (not is) OtherPackage
      (cond (not on) Disabled (found board asked owner d finding))) ∷ [])
      ≡ standing_at test (map (met_account board asked None) (cond on (cond is (rival_at owner place d finding) [])
      []))
  one_found owner place d (Some finding) true true = refl
  one_found owner place d None true true = failed owner d (found board asked owner d None) (of_found.filters _)
  one_found owner place d finding false true = failed owner d OtherPackage of_found.«package»
  one_found owner place d finding true false = failed owner d Disabled of_found.disabled
  one_found owner place d finding false false = failed owner d OtherPackage of_found.«package»

  one : (owner : Package) (place : ℕ) (d : Decl) (component : Option Component)
      → standing_at test (said owner d (standing_with owner d component) ∷ [])
      ≡ standing_at test (map (met_account board asked component) (cond d.enabled
      (rival_of (search_of board asked) owner place d component) []))
  one owner place d (Some component) = one_named owner place d component (is_named component owner.name d.class)
      d.enabled
  one owner place d None =
      one_found owner place d (finding_in board.rules (search_of board asked) d.filters)
      (is_in asked.intent.«package» owner) d.enabled

  -- the accounts of a package that pass the test are those of components that are found
  of_found_from : (owner : Package) (place : ℕ) (ds : List Decl)
      → standing_at test (accounts_from board asked owner ds)
      ≡ standing_at test (map (met_account board asked asked.intent.component)
      (rivals_from (search_of board asked) owner place ds))
  of_found_from owner place [] = refl
  of_found_from owner place (d ∷ ds) =
      by (is_kind asked.kind d.kind) (of_found_from owner (place + 1) ds) (of_found_from owner place ds)
    where
      rs : List Rival
      rs = cond d.enabled (rival_of (search_of board asked) owner place d asked.intent.component) []

      account : Account
      account = said owner d (standing board asked owner d)

      to : Rival → Account
      to = met_account board asked asked.intent.component

      by : (b : Bool)
          → standing_at test (accounts_from board asked owner ds) ≡ standing_at test
          (map to (rivals_from (search_of board asked) owner (place + 1) ds))
          → standing_at test (accounts_from board asked owner ds) ≡ standing_at test
          (map to (rivals_from (search_of board asked) owner place ds))
          → standing_at test (cond b (account ∷ accounts_from board asked owner ds)
          (accounts_from board asked owner ds))
          ≡ standing_at test (map to (cond b (rs ++ rivals_from (search_of board asked) owner (place + 1) ds)
          (rivals_from (search_of board asked) owner place ds)))
      by true next other =
          filter-append (λ (a : Account). test a.standing) (account ∷ []) (accounts_from board asked owner ds)
          ∙ ap (λ l. l ++ standing_at test (accounts_from board asked owner ds))
          (one owner place d asked.intent.component)
          ∙ ap (λ l. standing_at test (map to rs) ++ l) next
          ∙ sym (filter-append (λ (a : Account). test a.standing) (map to rs)
          (map to (rivals_from (search_of board asked) owner (place + 1) ds)))
          ∙ ap (standing_at test) (sym (map-append to rs (rivals_from (search_of board asked) owner (place + 1) ds)))
      by false next other = other

  -- and so are those of all packages
  pub of_found_in : (ps : List Package)
      → standing_at test (declared_accounts board asked None ps)
      ≡ standing_at test (map (met_account board asked asked.intent.component) (rivals_in (search_of board asked) ps))
  of_found_in [] = refl
  of_found_in (p ∷ ps) =
      let to = met_account board asked asked.intent.component in
      filter-append (λ (a : Account). test a.standing) (accounts_from board asked p p.decls)
      (declared_accounts board asked None ps)
      ∙ ap (λ l. l ++ standing_at test (declared_accounts board asked None ps)) (of_found_from p 0 p.decls)
      ∙ ap (λ l. standing_at test (map to (rivals_from (search_of board asked) p 0 p.decls)) ++ l) (of_found_in ps)
      ∙ sym (filter-append (λ (a : Account). test a.standing) (map to (rivals_from (search_of board asked) p 0 p.decls))
      (map to (rivals_in (search_of board asked) ps)))
      ∙ ap (standing_at test) (sym (map-append to (rivals_from (search_of board asked) p 0 p.decls)
      (rivals_in (search_of board asked) ps)))

-- what holds of each enabled component of the kind of the packages holds of each that is found
module _ (search : Search) (Q : Package → Decl → Type 0) where
  -- the test of a component
  abbrev pub Holds : Package → Decl → Type 0
  Holds p d = d.enabled && is_kind search.kind d.kind ≡ true → Q p d

  -- it holds of the component that is found
  abbrev pub HoldsOf : Rival → Type 0
  HoldsOf r = Q r.owner r.decl

  all_append : (rs others : List Rival) → AllByRecursion HoldsOf rs → AllByRecursion HoldsOf others
      → AllByRecursion HoldsOf (rs ++ others)
  all_append [] others a b = b
  all_append (r ∷ rs) others a b = (a.0, all_append rs others a.1 b)

  all_at : (p : Package) (place : ℕ) (d : Decl) (finding : Option Finding) → Q p d
      → AllByRecursion HoldsOf (rival_at p place d finding)
  all_at p place d None q = tt
  all_at p place d (Some finding) q = (q, tt)

  all_when : (b : Bool) (rs : List Rival) → AllByRecursion HoldsOf rs → AllByRecursion HoldsOf (cond b rs [])
  all_when true rs a = a
  all_when false rs a = tt

  all_of : (p : Package) (place : ℕ) (d : Decl) (component : Option Component) → Q p d
      → AllByRecursion HoldsOf (rival_of search p place d component)
  all_of p place d (Some component) q = all_when (is_named component p.name d.class) _
      (all_at p place d (Some (plain_finding (pos 0))) q)
  all_of p place d None q =
      all_when (is_in search.intent.«package» p) _ (all_at p place d
      (finding_in search.rules search d.filters) q)

  pub all_from : (p : Package) (place : ℕ) (ds : List Decl) → AllByRecursion (Holds p) ds
      → AllByRecursion HoldsOf (rivals_from search p place ds)
  all_from p place [] a = tt
  all_from p place (d ∷ ds) a =
      by (is_kind search.kind d.kind) d.enabled a.0 (all_from p (place + 1) ds a.1) (all_from p place ds a.1)
    where
      by : (kind on : Bool) → (on && kind ≡ true → Q p d)
          → AllByRecursion HoldsOf (rivals_from search p (place + 1) ds)
          → AllByRecursion HoldsOf (rivals_from search p place ds)
          → AllByRecursion HoldsOf (cond kind (cond on (rival_of search p place d search.intent.component) []
          ++ rivals_from search p (place + 1) ds) (rivals_from search p place ds))
      by true true holds next other = all_append _ _ (all_of p place d search.intent.component (holds refl)) next
      by true false holds next other = next
      by false on holds next other = other

  pub all_rivals : (ps : List Package) → AllDecls Holds ps → AllByRecursion HoldsOf (rivals_in search ps)
  all_rivals [] a = tt
  all_rivals (p ∷ ps) a = all_append _ _ (all_from p 0 p.decls a.0) (all_rivals ps a.1)
